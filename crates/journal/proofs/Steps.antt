-- A reader's step from one record of a segment to the next.
use Rattle.std.proofs.Common.{◌≡◌, inl, inr, ℕ, ◌+◌, ◌-◌, ◌^◌, ◌<◌, ◌≤◌, List, [], ◌∷◌, ◌++◌, length, drop, refl, sym, ap, ◌∙◌, subst, arith, append_assoc, length-append, length-drop}
use Rattle.std.specs.Prelude.{◌↔◌}
use Rattle.std.proofs.lemmas.List.{drop-drop}
use Rattle.codes.specs.declared.limits.TheConstants.{MAX_RECORDS}
use Rattle.words.specs.Words.{word, long_word}
use Rattle.words.specs.WordLaws.{length-word, length-long_word}
use Rattle.ipc_laws.specs.RecordEncodings.{record_once}
use Rattle.ipc_laws.specs.BatchLaws.{same_heads, batch_apart, records_are_short, length-record_encoding, are_records-front}
use Rattle.ipc_model.specs.declared.record.Record.{Record}
use Rattle.ipc_model.specs.encodings.Encodings.{record_encoding, records_encoding, IsRecord}
use Rattle.ipc_model.specs.store.Store.{batch_encoding, batches_encoding, all_records, open_gate, IsClosed, NoneEmpty, AreRecords}
use Rattle.journal.specs.declared.window.TheConstants.{LONGEST_STEP}
use Rattle.journal.specs.Reading.{Place, EncodesFrom, Leads, IsLast, IsNothing, IsInBatch, IsAfterBatches}
use Rattle.journal.specs.Windows.{WindowValue, IsOver, IsFull}
use Rattle.journal.proofs.Pieces.{IsFrontOf, whole_begins, front_after, front_begins, window_front}

-- the maximum length of a record in bytes
abbrev pub longest_record : ℕ
longest_record = 131084

-- a batch's head
abbrev pub head_encoding : ℕ → ℕ → List ℕ
head_encoding count size = open_gate ∷ (word count ++ long_word size)

length-head : (count size : ℕ) → length (head_encoding count size) ≡ 13
length-head count size =
    omega (arith, length-append (word count) (long_word size), length-word count, length-long_word size)

head_apart : (count size : ℕ) (content : List ℕ)
    → head_encoding count size ++ content ≡ open_gate ∷ (word count ++ (long_word size ++ content))
head_apart count size content = ap (λ (l : List ℕ). open_gate ∷ l) (append_assoc (word count) (long_word size) content)

-- the records after a batch's head, and the batches after them
pub record HasHead (n count size : ℕ) (content : List ℕ) (records : List Record) (tail : List ℕ) : Type 0 where
  pub batch : List Record
  pub batches : List (List Record)
  pub counted : length batch ≡ count
  pub sized : length (records_encoding n batch) ≡ size
  pub encoding : content ≡ records_encoding n batch ++ (batches_encoding (n + length batch) batches ++ tail)
  pub none_empty : NoneEmpty batches
  pub flat : records ≡ batch ++ all_records batches

-- an open gate begins a batch
head_of : (n count size : ℕ) (content tail : List ℕ) (batch records : List Record) (batches : List (List Record))
    → length batch ≡ 0 → count < 2 ^ 32 → size < 2 ^ 64 → n + length records ≤ MAX_RECORDS → AreRecords records
    → open_gate ∷ (word count ++ (long_word size ++ content)) ≡ records_encoding n batch
    ++ (batches_encoding (n + length batch) batches ++ tail) → IsClosed tail → NoneEmpty batches
    → records ≡ batch ++ all_records batches
    → HasHead n count size content records tail
head_of n count size content tail
    (first ∷ batch) records batches none count_fits size_fits room are encoding closed some flat = absurd (omega arith)
head_of n count size content tail [] records [] none count_fits size_fits room are encoding closed some flat =
    absurd (subst IsClosed (sym encoding) closed refl)
head_of n count size content tail [] records
    (first ∷ batches) none count_fits size_fits room are encoding closed some flat =
    let m : n + 0 ≡ n = omega arith in
    let more : List ℕ = batches_encoding (n + 0 + length first) batches in
    let rest : List ℕ = more ++ tail in
    let here : AreRecords first = are_records-front first (all_records batches) (subst AreRecords flat are) in
    let long : length records ≡ length first + length (all_records batches) =
    ap length flat ∙ length-append first (all_records batches) in
    let whole : word count ++ (long_word size ++ content) ≡ word (length first)
    ++ (long_word (length (records_encoding (n + 0) first)) ++ (records_encoding (n + 0) first ++ rest)) =
    ap (drop 1) encoding ∙ append_assoc (batch_encoding (n + 0) first) more tail ∙ batch_apart (n + 0) first rest in
    let heads =
    same_heads count (length first) size (length (records_encoding (n + 0) first)) content
    (records_encoding (n + 0) first ++ rest)
    count_fits (omega arith) size_fits (records_are_short (n + 0) first here (omega arith)) whole in
    record {
      batch = first;
      batches = batches;
      counted = sym heads.0;
      sized = sym (heads.1 ∙ ap (λ k. length (records_encoding k first)) m);
      encoding =
          heads.2 ∙ ap (λ k. records_encoding k first ++ (batches_encoding (k + length first) batches ++ tail)) m;
      none_empty = some.1;
      flat = flat;
    }

-- a batch's encoding after its gate, in terms of its head
batch_of_head : (n : ℕ) (batch : List Record) (rest : List ℕ)
    → open_gate ∷ (batch_encoding n batch ++ rest) ≡ head_encoding (length batch) (length (records_encoding n batch))
    ++ (records_encoding n batch ++ rest)
batch_of_head n batch rest =
    ap (λ (l : List ℕ). open_gate ∷ l) (batch_apart n batch rest)
    ∙ sym (head_apart (length batch) (length (records_encoding n batch)) (records_encoding n batch ++ rest))

-- The reader's place in a batch that it was in or has entered. The same records are encoded from there on.
pub record IsEntered (bytes front : List ℕ) (old : Place) (count size : ℕ) (content : List ℕ) : Type 0 where
  pub at : ℕ
  pub shown : IsFrontOf longest_record content (drop at bytes)
  pub moved : at + length content ≡ old.at + length front
  pub shorter : length content ≤ length front
  pub some : 0 < count
  pub same : (records : List Record) (end : ℕ)
      → EncodesFrom bytes old records end ↔ EncodesFrom bytes
      (record { at = at; number = old.number; left = count; size = size }) records end

in_same : (bytes front : List ℕ) (old : Place) (count size : ℕ) (content : List ℕ)
    → IsFrontOf LONGEST_STEP front (drop old.at bytes) → 0 < old.left → count ≡ old.left → size ≡ old.size
    → content ≡ front → IsEntered bytes front old count size content
in_same bytes front old count size content is some counted sized all =
    let place : record { at = old.at; number = old.number; left = count; size = size } ≡ old =
    λ i. record { at = old.at; number = old.number; left = counted i; size = sized i } in
    record {
      at = old.at;
      shown =
          subst (λ l. IsFrontOf longest_record l (drop old.at bytes)) (sym all)
          (record {
            shown = is.shown;
            enough = elim is.enough
                [ inl many ↦ inl (omega arith) | inr whole ↦ inr whole ];
          });
      moved = ap (λ (l : List ℕ). old.at + length l) all;
      shorter = omega (arith, ap length all);
      some = omega arith;
      same =
          λ records end. (
            λ encodes. subst (λ (p : Place). EncodesFrom bytes p records end) (sym place) encodes,
            λ encodes. subst (λ (p : Place). EncodesFrom bytes p records end) place encodes,
          );
    }

in_next : (bytes front : List ℕ) (old : Place) (count size : ℕ) (content : List ℕ)
    → IsFrontOf LONGEST_STEP front (drop old.at bytes) → old.left ≡ 0 → old.size ≡ 0 → 0 < count → count < 2 ^ 32
    → size < 2 ^ 64
    → front ≡ open_gate ∷ (word count ++ (long_word size ++ content)) → IsEntered bytes front old count size content
in_next bytes front old count size content is left empty some count_fits size_fits begins =
    let head : List ℕ = head_encoding count size in
    let n : ℕ = old.number in
    let thirteen : length head ≡ 13 = length-head count size in
    let parts : front ≡ head ++ content = begins ∙ sym (head_apart count size content) in
    let from : drop (length head) (drop old.at bytes) ≡ drop (old.at + 13) bytes =
    drop-drop (length head) old.at bytes ∙ ap (λ k. drop (old.at + k) bytes) thirteen in
    let whole : drop old.at bytes ≡ head ++ drop (old.at + 13) bytes =
    whole_begins LONGEST_STEP front (drop old.at bytes) head content is parts ∙ ap (λ l. head ++ l) from in
    record {
      at = old.at + 13;
      shown =
          subst (λ l. IsFrontOf longest_record content l) from
          (front_after LONGEST_STEP longest_record front (drop old.at bytes) head content is parts (omega arith));
      moved = omega (arith, ap length parts, length-append head content);
      shorter = omega (arith, ap length parts, length-append head content);
      some = some;
      same = λ records end. (
        λ encodes.
            let has =
            head_of n count size (drop (old.at + 13) bytes) encodes.tail encodes.batch records encodes.batches
            (encodes.counted ∙ left) count_fits size_fits encodes.bounded encodes.canonical
            (sym (head_apart count size (drop (old.at + 13) bytes)) ∙ sym whole ∙ encodes.encoding) encodes.closed
            encodes.none_empty encodes.flat in
            record {
              batch = has.batch;
              batches = has.batches;
              tail = encodes.tail;
              encoding = has.encoding;
              counted = has.counted;
              sized = has.sized;
              closed = encodes.closed;
              none_empty = has.none_empty;
              flat = has.flat;
              canonical = encodes.canonical;
              bounded = encodes.bounded;
              ended = encodes.ended;
            },
        λ encodes.
            let batch : List Record = encodes.batch in
            let more : List ℕ = batches_encoding (n + length batch) encodes.batches in
            record {
              batch = [];
              batches = batch ∷ encodes.batches;
              tail = encodes.tail;
              encoding = whole ∙ ap (λ l. head ++ l) encodes.encoding
                  ∙ (λ i. head_encoding (sym encodes.counted i) (sym encodes.sized i)
                  ++ (records_encoding n batch ++ (more ++ encodes.tail)))
                  ∙ sym (batch_of_head n batch (more ++ encodes.tail))
                  ∙ ap (λ (l : List ℕ). open_gate ∷ l) (sym (append_assoc (batch_encoding n batch) more encodes.tail))
                  ∙ ap (λ k. batches_encoding k (batch ∷ encodes.batches) ++ encodes.tail) (omega arith);
              counted = sym left;
              sized = sym empty;
              closed = encodes.closed;
              none_empty = (omega (arith, encodes.counted), encodes.none_empty);
              flat = encodes.flat;
              canonical = encodes.canonical;
              bounded = encodes.bounded;
              ended = encodes.ended;
            },
      );
    }

pub entered : (bytes front : List ℕ) (old : Place) (count size : ℕ) (content : List ℕ)
    → IsFrontOf LONGEST_STEP front (drop old.at bytes) → IsInBatch old.left old.size front count size content
    → IsEntered bytes front old count size content
entered bytes front old count size content is (inl within) =
    in_same bytes front old count size content is within.0 within.1 within.2 within.3
entered bytes front old count size content is (inr next) =
    in_next bytes front old count size content is next.0 next.1 next.2 next.3 next.4 next.5

-- the first of the remaining records of a batch
pub record HasNext (bytes : List ℕ) (place : Place) (records : List Record) (end : ℕ) : Type 0 where
  pub first : Record
  pub more : List Record
  pub are : records ≡ first ∷ more
  pub fits : IsRecord first
  pub beyond : List ℕ
  pub encoding : drop place.at bytes ≡ record_encoding place.number first ++ beyond
  pub long : length (record_encoding place.number first) ≤ place.size
  pub others : (at size : ℕ) → drop at bytes ≡ beyond → size + length (record_encoding place.number first) ≡ place.size
      → EncodesFrom bytes (record { at = at; number = place.number + 1; left = place.left - 1; size = size }) more end

next_of : (bytes : List ℕ) (place : Place) (records : List Record) (end : ℕ) (batch : List Record)
    (batches : List (List Record)) (tail : List ℕ) → 0 < place.left
    → drop place.at bytes ≡ records_encoding place.number batch
    ++ (batches_encoding (place.number + length batch) batches ++ tail) → length batch ≡ place.left
    → length (records_encoding place.number batch) ≡ place.size
    → IsClosed tail → NoneEmpty batches → records ≡ batch ++ all_records batches → AreRecords records
    → place.number + length records ≤ MAX_RECORDS → end + length tail ≡ length bytes → HasNext bytes place records end
next_of bytes place records end [] batches tail some encoding counted sized closed none_empty flat are room ended =
    absurd (omega arith)
next_of bytes place records end
    (first ∷ batch) batches tail some encoding counted sized closed none_empty flat are room ended =
    let n : ℕ = place.number in
    let rest : List ℕ = batches_encoding (n + length (first ∷ batch)) batches ++ tail in
    let fits : AreRecords (first ∷ (batch ++ all_records batches)) = subst AreRecords flat are in
    let long : length (records_encoding n (first ∷ batch))
    ≡ length (record_encoding n first) + length (records_encoding (n + 1) batch) = length-append
    (record_encoding n first) (records_encoding (n + 1) batch) in
    record {
      first = first;
      more = batch ++ all_records batches;
      are = flat;
      fits = fits.0;
      beyond = records_encoding (n + 1) batch ++ rest;
      encoding = encoding ∙ append_assoc (record_encoding n first) (records_encoding (n + 1) batch) rest;
      long = omega arith;
      others =
          λ (at size : ℕ) (beyond : drop at bytes ≡ records_encoding (n + 1) batch ++ rest)
          (left : size + length (record_encoding n first) ≡ place.size). record {
            batch = batch;
            batches = batches;
            tail = tail;
            encoding =
                beyond ∙ ap (λ k. records_encoding (n + 1) batch ++ (batches_encoding k batches ++ tail)) (omega arith);
            counted = omega arith;
            sized = omega arith;
            closed = closed;
            none_empty = none_empty;
            flat = refl;
            canonical = fits.1;
            bounded = omega (arith, ap length flat);
            ended = ended;
          };
    }

pub has_next : (bytes : List ℕ) (place : Place) (records : List Record) (end : ℕ) → 0 < place.left
    → EncodesFrom bytes place records end → HasNext bytes place records end
has_next bytes place records end some encodes =
    next_of bytes place records end encodes.batch encodes.batches encodes.tail some encodes.encoding encodes.counted
    encodes.sized encodes.closed encodes.none_empty encodes.flat encodes.canonical encodes.bounded encodes.ended

-- the remaining records of a batch, with one more before them
one_more : (bytes : List ℕ) (old new : Place) (entry : Record) (records more : List Record) (end : ℕ) → IsRecord entry
    → 0 < old.left → drop old.at bytes ≡ record_encoding old.number entry ++ drop new.at bytes
    → new.number ≡ old.number + 1 → new.left ≡ old.left - 1
    → new.size + length (record_encoding old.number entry) ≡ old.size → records ≡ entry ∷ more
    → EncodesFrom bytes new more end → EncodesFrom bytes old records end
one_more bytes old new entry records more end fits some encoding numbered left sized are encodes =
    let n : ℕ = old.number in
    let batch : List Record = encodes.batch in
    let rest : List ℕ = batches_encoding (n + 1 + length batch) encodes.batches ++ encodes.tail in
    let long : length (records_encoding n (entry ∷ batch))
    ≡ length (record_encoding n entry) + length (records_encoding (n + 1) batch) = length-append
    (record_encoding n entry) (records_encoding (n + 1) batch) in
    let same : length (records_encoding (n + 1) batch) ≡ new.size =
    ap (λ k. length (records_encoding k batch)) (sym numbered) ∙ encodes.sized in
    record {
      batch = entry ∷ batch;
      batches = encodes.batches;
      tail = encodes.tail;
      encoding =
          encoding ∙ ap (λ l. record_encoding n entry ++ l)
          (encodes.encoding ∙ ap (λ k. records_encoding k batch
          ++ (batches_encoding (k + length batch) encodes.batches ++ encodes.tail)) numbered)
          ∙ sym (append_assoc (record_encoding n entry) (records_encoding (n + 1) batch) rest)
          ∙ ap (λ k. records_encoding n (entry ∷ batch) ++ (batches_encoding k encodes.batches ++ encodes.tail))
          (omega arith);
      counted = omega (arith, encodes.counted);
      sized = omega arith;
      closed = encodes.closed;
      none_empty = encodes.none_empty;
      flat = are ∙ ap (λ (l : List Record). entry ∷ l) encodes.flat;
      canonical = subst AreRecords (sym are) (fits, encodes.canonical);
      bounded = omega (arith, encodes.bounded, ap length are);
      ended = encodes.ended;
    }

-- the record at the front is the first of the encoded records
first_is : (bytes : List ℕ) (old new : Place) (entry : Record) (records : List Record) (end : ℕ) → IsRecord entry
    → old.number < MAX_RECORDS → drop old.at bytes ≡ record_encoding old.number entry ++ drop new.at bytes
    → new.number ≡ old.number + 1 → new.left ≡ old.left - 1
    → new.size + length (record_encoding old.number entry) ≡ old.size → HasNext bytes old records end
    → (more : List Record) × (records ≡ entry ∷ more) × EncodesFrom bytes new more end
first_is bytes old new entry records end fits room encoding numbered left sized has =
    let n : ℕ = old.number in
    let once =
    record_once n n has.first entry has.beyond (drop new.at bytes) has.fits fits (omega arith) (omega arith)
    (sym has.encoding ∙ encoding) in
    let place : record { at = new.at; number = n + 1; left = old.left - 1; size = new.size } ≡ new =
    λ i. record { at = new.at; number = sym numbered i; left = sym left i; size = new.size } in (
      has.more,
      has.are ∙ ap (λ (e : Record). e ∷ has.more) once.1,
      subst (λ (p : Place). EncodesFrom bytes p has.more end) place
          (has.others new.at new.size (sym once.2)
          (ap (λ (e : Record). new.size + length (record_encoding n e)) once.1 ∙ sized)),
    )

leads_within : (bytes : List ℕ) (old new : Place) (entry : Record) → IsRecord entry → old.number < MAX_RECORDS
    → 0 < old.left → drop old.at bytes ≡ record_encoding old.number entry ++ drop new.at bytes
    → new.number ≡ old.number + 1 → new.left ≡ old.left - 1
    → new.size + length (record_encoding old.number entry) ≡ old.size → Leads bytes old entry new
leads_within bytes old new entry fits room some encoding numbered left sized = record {
  on = λ records end. (
    λ encodes. first_is bytes old new entry records end fits room encoding numbered left sized
        (has_next bytes old records end some encodes),
    λ given. one_more bytes old new entry records given.0 end fits some encoding numbered left sized given.1 given.2,
  );
}

-- the bytes in a full window at a reader's place
shown_at : (bytes front : List ℕ) (window : WindowValue) (old : Place) → IsOver bytes window → IsFull window
    → old.at ≡ window.at → front ≡ window.front → IsFrontOf LONGEST_STEP front (drop old.at bytes)
shown_at bytes front window old over full same shows =
    subst (λ l. IsFrontOf LONGEST_STEP l (drop old.at bytes)) (sym shows)
    (subst (λ k. IsFrontOf LONGEST_STEP window.front (drop k bytes)) (sym same)
    (window_front bytes window over full))

-- A record was read from a full window.
pub taken : (bytes front : List ℕ) (window : WindowValue) (old new : Place) (count size : ℕ) (content beyond : List ℕ)
    (entry : Record) → IsOver bytes window → IsFull window → old.at ≡ window.at → front ≡ window.front
    → IsInBatch old.left old.size front count size content → content ≡ record_encoding old.number entry ++ beyond
    → IsRecord entry → old.number < MAX_RECORDS → length content ≤ size + length beyond
    → new.at ≡ old.at + (length front - length beyond) → new.number ≡ old.number + 1 → new.left ≡ count - 1
    → new.size ≡ size - (length content - length beyond) → Leads bytes old entry new
taken bytes front window old new count size content beyond entry over full same shows batch encoding fits room within
    moved numbered left sized =
    let shown : IsFrontOf LONGEST_STEP front (drop old.at bytes) =
    shown_at bytes front window old over full same shows in
    let into = entered bytes front old count size content shown batch in
    let one : List ℕ = record_encoding old.number entry in
    let long : length content ≡ length one + length beyond = ap length encoding ∙ length-append one beyond in
    let ends : length front - length beyond + old.at ≡ into.at + length one = omega (arith, into.moved, into.shorter) in
    let from : drop (length one) (drop into.at bytes) ≡ drop new.at bytes =
    drop-drop (length one) into.at bytes ∙ ap (λ k. drop k bytes) (omega arith) in
    let whole : drop into.at bytes ≡ one ++ drop new.at bytes =
    whole_begins longest_record content (drop into.at bytes) one beyond into.shown encoding ∙ ap
    (λ l. one ++ l) from in
    let here : Place = record { at = into.at; number = old.number; left = count; size = size } in
    let on = leads_within bytes here new entry fits room into.some whole numbered left (omega arith) in
    record {
      on = λ records end. (
        λ encodes. (on.on records end).0 ((into.same records end).0 encodes),
        λ given. (into.same records end).1 ((on.on records end).1 given),
      );
    }

abbrev first_byte : List ℕ → ℕ
first_byte [] = 0
first_byte (x ∷ xs) = x

front_closed : (most : ℕ) (front whole : List ℕ) → IsFrontOf most front whole → 0 < most → IsClosed front
    → IsClosed whole
front_closed most [] whole is some closed =
    elim is.enough [ inl many ↦ absurd (omega arith) | inr all ↦ subst IsClosed all closed ]
front_closed most (gate ∷ front) [] is some closed = tt
front_closed most (gate ∷ front) (first ∷ whole) is some closed = λ opened. closed (ap first_byte is.shown ∙ opened)

whole_closed : (most : ℕ) (front whole : List ℕ) → IsFrontOf most front whole → IsClosed whole → IsClosed front
whole_closed most [] whole is closed = tt
whole_closed most (gate ∷ front) [] is closed = absurd (cc is.shown)
whole_closed most (gate ∷ front) (first ∷ whole) is closed = λ opened. closed (ap first_byte (sym is.shown) ∙ opened)

-- No open gate follows the last batch.
pub last : (bytes front : List ℕ) (window : WindowValue) (old : Place) → IsOver bytes window → IsFull window
    → old.at ≡ window.at → front ≡ window.front → old.number ≤ MAX_RECORDS → IsAfterBatches old.left old.size front
    → IsLast bytes old
last bytes front window old over full same shows room beyond =
    let whole : List ℕ = drop old.at bytes in
    let shown : IsFrontOf LONGEST_STEP front whole = shown_at bytes front window old over full same shows in
    record {
      batch = [];
      batches = [];
      tail = whole;
      encoding = refl;
      counted = sym beyond.0;
      sized = sym beyond.1;
      closed = front_closed LONGEST_STEP front whole shown (omega arith) beyond.2;
      none_empty = tt;
      flat = refl;
      canonical = tt;
      bounded = omega arith;
      ended = omega (arith, length-drop old.at bytes, over.inside);
    }

-- the bytes encoded after the last batch, or from the next batch's head on
no_step : (n : ℕ) (left size : ℕ) (front whole tail : List ℕ) (batch records : List Record)
    (batches : List (List Record)) → IsFrontOf LONGEST_STEP front whole
    → whole ≡ records_encoding n batch ++ (batches_encoding (n + length batch) batches ++ tail) → length batch ≡ left
    → length (records_encoding n batch) ≡ size → IsClosed tail → NoneEmpty batches
    → records ≡ batch ++ all_records batches → AreRecords records → n + length records ≤ MAX_RECORDS
    → ((count length_of : ℕ) (content : List ℕ) → IsInBatch left size front count length_of content → ⊥)
    → (IsAfterBatches left size front → ⊥) → ⊥
no_step n left size front whole tail
    (first ∷ batch) records batches is encoding counted sized closed some flat are room no_batch no_end =
    no_batch left size front (inl (omega arith, refl, refl, refl))
no_step n left size front whole tail [] records [] is encoding counted sized closed some flat are room no_batch no_end =
    no_end (sym counted, sym sized, whole_closed LONGEST_STEP front whole is (subst IsClosed (sym encoding) closed))
no_step n left size front whole tail [] records
    (first ∷ batches) is encoding counted sized closed some flat are room no_batch no_end =
    let more : List ℕ = batches_encoding (n + 0 + length first) batches in
    let rest : List ℕ = records_encoding (n + 0) first ++ (more ++ tail) in
    let here : AreRecords first = are_records-front first (all_records batches) (subst AreRecords flat are) in
    let long : length records ≡ length first + length (all_records batches) =
    ap length flat ∙ length-append first (all_records batches) in
    let head : List ℕ = head_encoding (length first) (length (records_encoding (n + 0) first)) in
    let whole_is : whole ≡ head ++ rest =
    encoding ∙ ap (λ (l : List ℕ). open_gate ∷ l) (append_assoc (batch_encoding (n + 0) first) more tail)
    ∙ batch_of_head (n + 0) first (more ++ tail) in
    let thirteen : length head ≡ 13 = length-head (length first) (length (records_encoding (n + 0) first)) in
    let begins : front ≡ head ++ drop (length head) front =
    front_begins LONGEST_STEP front whole head rest is whole_is (omega arith) in
    no_batch (length first) (length (records_encoding (n + 0) first)) (drop (length head) front)
    (inr (
      sym counted,
      sym sized,
      some.0,
      omega arith,
      records_are_short (n + 0) first here (omega arith),
      begins ∙ head_apart (length first) (length (records_encoding (n + 0) first)) (drop (length head) front),
    ))

pub no_batch_at : (bytes front : List ℕ) (window : WindowValue) (old : Place) → IsOver bytes window → IsFull window
    → old.at ≡ window.at → front ≡ window.front
    → ((count length_of : ℕ) (content : List ℕ) → IsInBatch old.left old.size front count length_of content → ⊥)
    → (IsAfterBatches old.left old.size front → ⊥) → IsNothing bytes old
no_batch_at bytes front window old over full same shows no_batch no_end records end encodes =
    let shown : IsFrontOf LONGEST_STEP front (drop old.at bytes) =
    shown_at bytes front window old over full same shows in
    no_step old.number old.left old.size front
    (drop old.at bytes) encodes.tail encodes.batch records encodes.batches shown encodes.encoding encodes.counted
    encodes.sized encodes.closed encodes.none_empty encodes.flat encodes.canonical encodes.bounded no_batch
    no_end

-- The batch contains no record with this number.
pub no_record_at : (bytes front : List ℕ) (window : WindowValue) (old : Place) (count size : ℕ) (content : List ℕ)
    → IsOver bytes window → IsFull window → old.at ≡ window.at → front ≡ window.front
    → IsInBatch old.left old.size front count size content
    → ((entry : Record) (rest : List ℕ) → IsRecord entry → old.number < MAX_RECORDS
    → length content ≤ size + length rest → content ≡ record_encoding old.number entry ++ rest → ⊥)
    → IsNothing bytes old
no_record_at bytes front window old count size content over full same shows batch none records end encodes =
    let shown : IsFrontOf LONGEST_STEP front (drop old.at bytes) =
    shown_at bytes front window old over full same shows in
    let into = entered bytes front old count size content shown batch in
    let here : Place = record { at = into.at; number = old.number; left = count; size = size } in
    let has = has_next bytes here records end into.some ((into.same records end).0 encodes) in
    let one : List ℕ = record_encoding old.number has.first in
    let short : length one ≤ longest_record =
    omega (arith, length-record_encoding old.number has.first, has.fits.frames.0, has.fits.frames.1) in
    let begins : content ≡ one ++ drop (length one) content =
    front_begins longest_record content (drop into.at bytes) one has.beyond into.shown has.encoding short in
    none has.first (drop (length one) content) has.fits (omega (arith, encodes.bounded, ap length has.are))
    (omega (arith, has.long, ap length begins, length-append one (drop (length one) content))) begins
