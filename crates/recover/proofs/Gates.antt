-- A gate follows a segment's batches at each moment of a server's writes.
use Rattle.std.proofs.Common.{◌≡◌, inl, inr, ℕ, ◌+◌, ◌<◌, ◌≤◌, List, [], ◌∷◌, ◌++◌, length, take, drop, refl, sym, ap, subst, ◌∙◌, arith, append_assoc, length-append}
use Rattle.std.specs.Prelude.{◌-◌}
use Rattle.std.proofs.lemmas.Bool.{cases_eq}
use Rattle.std.proofs.lemmas.List.{take_at}
use Rattle.codes.specs.StoreVersion.{current}
use Rattle.codes.specs.declared.store_version.StoreVersion.{StoreVersion}
use Rattle.ipc_model.specs.declared.record.Record.{Record}
use Rattle.ipc_model.specs.store.Store.{AreRecords, EncodesBatches, EncodesSegment, IsInUse, IsInUseOf, IsClosed, all_records, batch_encoding, batches_encoding, open_gate, closed_gate, segment_header, segment_header_of}
use Rattle.ipc_laws.specs.BatchLaws.{same_batches, are_records-front, are_records-back}
use Rattle.ipc_laws.specs.StoreLaws.{all_records-push, all_within, batches_encoding-push, none_empty-push, are_records-join}
use Rattle.ipc_model.specs.store.Recovery.{IsOpen}
use Rattle.journal.specs.Reading.{MAX_RECORDS}
use Rattle.recover.specs.Making.{empty_segment}
use Rattle.store_layout.specs.Gates.{HasLastGate}
use Rattle.recover.specs.Crashing.{AppendKeepsGate}

-- equal bytes that begin with the encodings of batches have equal rests
same_rest : (n : ℕ) (more more_too : List (List Record)) (x y : List ℕ) → IsClosed x → IsClosed y
    → AreRecords (all_records more) → AreRecords (all_records more_too)
    → n + length (all_records more) ≤ MAX_RECORDS → n + length (all_records more_too) ≤ MAX_RECORDS
    → batches_encoding n more ++ x ≡ batches_encoding n more_too ++ y → x ≡ y
same_rest n [] [] x y shut shut_too are are_too room room_too is = is
same_rest n [] (b ∷ more_too) x y shut shut_too are are_too room room_too is = absurd (subst IsClosed is shut refl)
same_rest n (a ∷ more) [] x y shut shut_too are are_too room room_too is =
    absurd (subst IsClosed (sym is) shut_too refl)
same_rest n (a ∷ more) (b ∷ more_too) x y shut shut_too are are_too room room_too is =
    let long : length (a ++ all_records more) ≡ length a + length (all_records more) =
    length-append a (all_records more) in
    let long_too : length (b ++ all_records more_too) ≡ length b + length (all_records more_too) =
    length-append b (all_records more_too) in
    let whole =
    sym (append_assoc (batch_encoding n a) (batches_encoding (n + length a) more) x) ∙ ap (λ l. drop 1 l) is
    ∙ append_assoc (batch_encoding n b) (batches_encoding (n + length b) more_too) y in
    let first =
    same_batches n a b (batches_encoding (n + length a) more ++ x) (batches_encoding (n + length b) more_too ++ y)
    (are_records-front a (all_records more) are) (are_records-front b (all_records more_too) are_too) (omega arith)
    (omega arith) whole in
    let counts : length a ≡ length b = ap length first.0 in
    let beyond : batches_encoding (n + length a) more ++ x ≡ batches_encoding (n + length a) more_too ++ y =
    first.1 ∙ ap (λ k. batches_encoding (n + k) more_too ++ y) (sym counts) in
    same_rest (n + length a) more more_too x y shut shut_too (are_records-back a (all_records more) are)
    (are_records-back b (all_records more_too) are_too) (omega arith) (omega arith) beyond

one_rest : (bytes : List ℕ) (r1 r2 : List Record) → (a : EncodesBatches bytes r1) → (b : EncodesBatches bytes r2)
    → a.rest ≡ b.rest
one_rest bytes r1 r2 a b =
    same_rest 0 a.batches b.batches a.rest b.rest a.closed b.closed (subst AreRecords a.flat a.canonical)
    (subst AreRecords b.flat b.canonical)
    (omega (arith, a.bounded, ap length a.flat)) (omega (arith, b.bounded, ap length b.flat))
    (sym a.encoding ∙ b.encoding)

-- a segment that encodes records, with at least a byte after its batches
pub has_gate : (epoch : ℕ) (segment : List ℕ) (records : List Record) → (known : EncodesSegment epoch segment records)
    → 0 < length known.encoded.rest → HasLastGate segment
has_gate epoch segment records known some other_epoch others other =
    let same : known.content ≡ other.content = ap (drop 16) (sym known.encoding ∙ other.encoding) in
    let moved : EncodesBatches other.content records = record {
      batches = known.encoded.batches;
      rest = known.encoded.rest;
      encoding = sym same ∙ known.encoded.encoding;
      closed = known.encoded.closed;
      none_empty = known.encoded.none_empty;
      flat = known.encoded.flat;
      canonical = known.encoded.canonical;
      bounded = known.encoded.bounded;
    } in
    subst (λ l. 0 < length l) (one_rest other.content records others moved other.encoded) some

-- a segment that isn't open encodes no records
pub shut_has_gate : (segment : List ℕ) → ¬ IsOpen 16 segment → HasLastGate segment
shut_has_gate segment shut epoch records known =
    absurd (shut (subst (IsOpen 16) (sym known.encoding)
    (omega (arith, length-append (segment_header_of known.version open_gate epoch) known.content), refl)))

-- a segment that was never in use

pub empty_has_gate : (epoch : ℕ) (segment : List ℕ) → segment ≡ empty_segment epoch → HasLastGate segment
empty_has_gate epoch segment is = has_gate epoch segment []
    (record {
      version = current;
      content = closed_gate ∷ [];
      encoding = is;
      encoded =
          record {
            batches = [];
            rest = closed_gate ∷ [];
            encoding = refl;
            closed = λ e. cc;
            none_empty = tt;
            flat = refl;
            canonical = tt;
            bounded = omega arith;
          };
      within = tt;
      next = tt;
    }) (omega arith)

-- a segment in use
pub in_use_has_gate : {v : StoreVersion} (epoch : ℕ) (segment : List ℕ) (records : List Record)
    → IsInUseOf v epoch segment records → HasLastGate segment
in_use_has_gate {v = v} epoch segment records used =
    has_gate epoch segment records
    (record {
      version = v;
      content = used.content;
      encoding = used.encoding;
      encoded = used.encoded;
      within = used.within;
      next = used.next;
    }) (omega (arith, used.ended))

-- a segment in use to which a batch is appended

-- the batches of a segment in use, with other bytes after them
other_after : (epoch : ℕ) (old new beyond : List ℕ) (records : List Record) → (used : IsInUse epoch old records)
    → new ≡ take (length old - 1) old ++ beyond
    → new ≡ segment_header open_gate epoch ++ (batches_encoding 0 used.encoded.batches ++ beyond)
other_after epoch old new beyond records used is =
    let header : List ℕ = segment_header open_gate epoch in
    let encoding : List ℕ = batches_encoding 0 used.encoded.batches in
    let whole : old ≡ (header ++ encoding) ++ used.encoded.rest =
    used.encoding ∙ ap (λ l. header ++ l) used.encoded.encoding
    ∙ sym (append_assoc header encoding used.encoded.rest) in
    let long : length old - 1 ≡ length (header ++ encoding) =
    omega (arith, used.ended, ap length whole, length-append (header ++ encoding) used.encoded.rest) in
    is ∙ (λ i. take (long i) (whole i) ++ beyond) ∙ ap
    (λ l. l ++ beyond) (take_at (header ++ encoding) used.encoded.rest (length (header ++ encoding)) refl)
    ∙ append_assoc header encoding beyond

closed_with_tail : (rest tail : List ℕ) → length rest ≡ 1 → IsClosed rest → IsClosed (rest ++ tail)
closed_with_tail [] tail one shut = absurd (omega (arith, one))
closed_with_tail (gate ∷ rest) tail one shut = shut

same_records : (epoch : ℕ) (old new beyond : List ℕ) (records : List Record) → (used : IsInUse epoch old records)
    → IsClosed beyond → 0 < length beyond
    → new ≡ segment_header open_gate epoch ++ (batches_encoding 0 used.encoded.batches ++ beyond) → HasLastGate new
same_records epoch old new beyond records used shut some is =
    let encoded = used.encoded in
    has_gate epoch new records
    (record {
      version = current;
      content = batches_encoding 0 encoded.batches ++ beyond;
      encoding = is;
      encoded = record {
        batches = encoded.batches;
        rest = beyond;
        encoding = refl;
        closed = shut;
        none_empty = encoded.none_empty;
        flat = encoded.flat;
        canonical = encoded.canonical;
        bounded = encoded.bounded;
      };
      within = used.within;
      next = used.next;
    }) some

more_records : (epoch : ℕ) (old new : List ℕ) (records batch : List Record) → (used : IsInUse epoch old records)
    → 0 < length batch → AreRecords batch → length records + length batch ≤ MAX_RECORDS
    → new ≡ segment_header open_gate epoch
    ++ (batches_encoding 0 used.encoded.batches
    ++ (open_gate ∷ (batch_encoding (length records) batch ++ closed_gate ∷ []))) → HasLastGate new
more_records epoch old new records batch used some are room is =
    let encoded = used.encoded in
    let encoding : List ℕ = batch_encoding (length records) batch in
    has_gate epoch new (records ++ batch)
    (record {
      version = current;
      content = batches_encoding 0 encoded.batches ++ (open_gate ∷ (encoding ++ closed_gate ∷ []));
      encoding = is;
      encoded = record {
        batches = encoded.batches ++ batch ∷ [];
        rest = closed_gate ∷ [];
        encoding = sym (append_assoc (batches_encoding 0 encoded.batches) (open_gate ∷ encoding) (closed_gate ∷ []))
            ∙ ap (λ l. l ++ closed_gate ∷ [])
            (sym (batches_encoding-push 0 encoded.batches batch ∙ ap
            (λ k. batches_encoding 0 encoded.batches ++ (open_gate ∷ batch_encoding k batch))
            (omega (arith, ap length encoded.flat))));
        closed = λ e. cc;
        none_empty = none_empty-push encoded.batches batch encoded.none_empty some;
        flat = ap (λ l. l ++ batch) encoded.flat ∙ sym (all_records-push encoded.batches batch);
        canonical = are_records-join records batch encoded.canonical are;
        bounded = omega (arith, room, length-append records batch);
      };
      within = all_within (records ++ batch);
      next = tt;
    }) (omega arith)

pub append_keeps_gate : AppendKeepsGate
append_keeps_gate epoch old new records batch used some are room mid =
    let header : List ℕ = segment_header open_gate epoch in
    let front : List ℕ = batches_encoding 0 used.encoded.batches in
    let encoding : List ℕ = batch_encoding (length records) batch in
    elim mid [
      | inl tail ↦ same_records epoch old new (used.encoded.rest ++ tail.0) records used
          (closed_with_tail used.encoded.rest tail.0 used.ended used.encoded.closed)
          (omega (arith, used.ended, length-append used.encoded.rest tail.0))
          (tail.1 ∙ ap (λ l. l ++ tail.0) (used.encoding ∙ ap (λ l. header ++ l) used.encoded.encoding)
          ∙ append_assoc header (front ++ used.encoded.rest) tail.0 ∙ ap
          (λ l. header ++ l) (append_assoc front used.encoded.rest tail.0))
      | inr gate ↦ elim (cases_eq gate.0 open_gate) [
        | inl opened ↦ more_records epoch old new records batch used some are room
            (other_after epoch old new (open_gate ∷ (encoding ++ closed_gate ∷ [])) records used
            (gate.1 ∙ ap (λ (g : ℕ). take (length old - 1) old ++ (g ∷ (encoding ++ closed_gate ∷ []))) opened))
        | inr shut ↦ same_records epoch old new (gate.0 ∷ (encoding ++ closed_gate ∷ [])) records used shut
            (omega arith) (other_after epoch old new (gate.0 ∷ (encoding ++ closed_gate ∷ [])) records used gate.1)
      ]
    ]
