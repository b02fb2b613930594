-- A segment in use to which a batch of records is appended.
use Rattle.std.proofs.Common.{◌≡◌, ◌≢◌, ◌⊎◌, inl, inr, ℕ, ◌+◌, ◌-◌, ◌<◌, ◌≤◌, List, [], ◌∷◌, ◌++◌, length, take, refl, sym, ap, subst, ◌∙◌, arith, append_assoc, length-append}
use Rattle.std.proofs.lemmas.Bool.{cases_eq}
use Rattle.std.proofs.lemmas.List.{take_at}
use Rattle.codes.specs.StoreVersion.{current}
use Rattle.codes.specs.declared.limits.TheConstants.{MAX_RECORDS}
use Rattle.ipc_laws.specs.StoreLaws.{all_records-push, all_within, are_records-join, batches_encoding-push, in_use_encodes, none_empty-push, other_end}
use Rattle.ipc_model.specs.declared.record.Record.{Record}
use Rattle.ipc_model.specs.store.Store.{AreRecords, IsClosed, IsInUse, IsMidAppend, EncodesBatches, EncodesSegment, batch_encoding, batches_encoding, closed_gate, open_gate, segment_header, with_batch}

-- one more batch
batch_more : (content : List ℕ) (records : List Record) (s : EncodesBatches content records) (batch : List Record)
    (rest : List ℕ) → AreRecords batch → 0 < length batch → length records + length batch ≤ MAX_RECORDS → IsClosed rest
    → EncodesBatches (batches_encoding 0 s.batches ++ (open_gate ∷ (batch_encoding (length records) batch ++ rest)))
    (records ++ batch)
batch_more content records s batch rest are some room closed =
    let encoding : List ℕ = batch_encoding (length records) batch in
    record {
      batches = s.batches ++ batch ∷ [];
      rest = rest;
      encoding = sym (append_assoc (batches_encoding 0 s.batches) (open_gate ∷ encoding) rest)
          ∙ ap (λ l. l ++ rest) (sym (batches_encoding-push 0 s.batches batch ∙ ap
          (λ k. batches_encoding 0 s.batches ++ (open_gate ∷ batch_encoding k batch))
          (omega (arith, ap length s.flat))));
      closed = closed;
      none_empty = none_empty-push s.batches batch s.none_empty some;
      flat = ap (λ l. l ++ batch) s.flat ∙ sym (all_records-push s.batches batch);
      canonical = are_records-join records batch s.canonical are;
      bounded = omega (arith, length-append records batch);
    }

-- a segment in use up to its last gate
before_gate : (e : ℕ) (old : List ℕ) (records : List Record) (used : IsInUse e old records)
    → take (length old - 1) old ≡ segment_header open_gate e ++ batches_encoding 0 used.encoded.batches
before_gate e old records used =
    let front : List ℕ = segment_header open_gate e ++ batches_encoding 0 used.encoded.batches in
    let is : old ≡ front ++ used.encoded.rest =
    used.encoding ∙ ap (λ l. segment_header open_gate e ++ l) used.encoded.encoding
    ∙ sym (append_assoc (segment_header open_gate e)
    (batches_encoding 0 used.encoded.batches) used.encoded.rest) in
    let begins : length old - 1 ≡ length front =
    omega (arith, ap length is, length-append front used.encoded.rest, used.ended) in
    (λ i. take (begins i) (is i)) ∙ take_at front used.encoded.rest (length front) refl

other_gate : (e : ℕ) (old new : List ℕ) (records : List Record) (used : IsInUse e old records) (beyond : List ℕ)
    → new ≡ take (length old - 1) old ++ beyond
    → new ≡ segment_header open_gate e ++ (batches_encoding 0 used.encoded.batches ++ beyond)
other_gate e old new records used beyond is =
    is ∙ ap (λ l. l ++ beyond) (before_gate e old records used)
    ∙ append_assoc (segment_header open_gate e) (batches_encoding 0 used.encoded.batches) beyond

closed_on : (rest tail : List ℕ) → length rest ≡ 1 → IsClosed rest → IsClosed (rest ++ tail)
closed_on [] tail one closed = absurd (omega arith)
closed_on (gate ∷ rest) tail one closed = closed

tail_encodes : (e : ℕ) (old new : List ℕ) (records : List Record) → IsInUse e old records → (tail : List ℕ)
    → new ≡ old ++ tail → EncodesSegment e new records
tail_encodes e old new records used tail is =
    let header = segment_header open_gate e in
    let front = batches_encoding 0 used.encoded.batches in
    record {
      version = current;
      content = front ++ (used.encoded.rest ++ tail);
      encoding =
          is ∙ ap (λ l. l ++ tail) (used.encoding ∙ ap (λ l. header ++ l) used.encoded.encoding)
          ∙ append_assoc header (front ++ used.encoded.rest) tail
          ∙ ap (λ l. header ++ l) (append_assoc front used.encoded.rest tail);
      encoded =
          other_end used.content records used.encoded (used.encoded.rest ++ tail)
          (closed_on used.encoded.rest tail used.ended used.encoded.closed);
      within = used.within;
      next = used.next;
    }

closed_encodes : (e : ℕ) (old new : List ℕ) (records : List Record) → IsInUse e old records
    → (gate : ℕ) (beyond : List ℕ) → gate ≢ open_gate → new ≡ take (length old - 1) old ++ (gate ∷ beyond)
    → EncodesSegment e new records
closed_encodes e old new records used gate beyond closed is = record {
  version = current;
  content = batches_encoding 0 used.encoded.batches ++ (gate ∷ beyond);
  encoding = other_gate e old new records used (gate ∷ beyond) is;
  encoded = other_end used.content records used.encoded (gate ∷ beyond) closed;
  within = used.within;
  next = used.next;
}

pub in_use_with : (e : ℕ) (old : List ℕ) (records batch : List Record) → IsInUse e old records → AreRecords batch
    → 0 < length batch → length records + length batch ≤ MAX_RECORDS
    → IsInUse e (with_batch old (batch_encoding (length records) batch)) (records ++ batch)
unfolding batch_more
in_use_with e old records batch used are some room =
    let encoding : List ℕ = batch_encoding (length records) batch in
    let beyond : List ℕ = open_gate ∷ (encoding ++ closed_gate ∷ []) in
    record {
      content = batches_encoding 0 used.encoded.batches ++ beyond;
      encoding = other_gate e old (with_batch old encoding) records used beyond refl;
      encoded = batch_more used.content records used.encoded batch (closed_gate ∷ []) are some room (omega arith);
      within = all_within (records ++ batch);
      next = tt;
      ended = refl;
    }

pub mid_encodes : (e : ℕ) (old new : List ℕ) (records batch : List Record) → IsInUse e old records → AreRecords batch
    → 0 < length batch → length records + length batch ≤ MAX_RECORDS
    → IsMidAppend old (batch_encoding (length records) batch) new
    → EncodesSegment e new records ⊎ EncodesSegment e new (records ++ batch)
mid_encodes e old new records batch used are some room mid =
    let encoding : List ℕ = batch_encoding (length records) batch in
    elim mid [
      | inl m ↦ inl (tail_encodes e old new records used m.0 m.1)
      | inr m ↦ elim (cases_eq m.0 open_gate) [
        | inl opened ↦ inr (in_use_encodes e new (records ++ batch) (subst (λ bytes. IsInUse e bytes (records ++ batch))
            (sym (m.1 ∙ ap (λ gate. take (length old - 1) old ++ (gate ∷ (encoding ++ closed_gate ∷ []))) opened))
            (in_use_with e old records batch used are some room)))
        | inr closed ↦ inl (closed_encodes e old new records used m.0 (encoding ++ closed_gate ∷ []) closed m.1)
      ]
    ]
