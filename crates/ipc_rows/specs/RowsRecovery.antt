-- Worked examples of what the four slots of a store encode, and of slots that encode nothing.
use Rattle.std.specs.Prelude.{◌≡◌, ◌⊎◌, ℕ, zero, suc, ◌+◌, ◌%◌, ◌^◌, ◌<◌, ◌≤◌, ◌==◌, List, [], ◌∷◌, ◌++◌, All, length, take, drop, slice_index, flat_map, true, Some, None, if◌then◌else◌, refl}
use Rattle.std.proofs.Common.{sym, ◌∙◌, ap, subst, inl, inr, arith, append_assoc, length-append, drop_at}
use Rattle.std.proofs.lemmas.List.{append-nil}
use Rattle.codes.specs.StoreVersion.{IsNoVersion, current}
use Rattle.codes.specs.declared.store_version.StoreVersion.{StoreVersion}
use Rattle.codes.specs.declared.store_version.StoreVersion.TheVariants.{One, Two}
use Rattle.ipc_model.specs.declared.port.PortState.{PortState}
use Rattle.ipc_model.specs.declared.call.Call.{Call}
use Rattle.ipc_model.specs.declared.plain_call.PlainCall.TheVariants as call
use Rattle.ipc_model.specs.declared.reply.Reply.{Reply}
use Rattle.ipc_model.specs.declared.plain_reply.PlainReply.TheVariants as reply
use Rattle.ipc_model.specs.declared.record.Record.{Record}
use Rattle.ipc_laws.specs.BatchLaws.{one_reading, are_records-front, batch_apart, length-batch, length-record_encoding, records_are_short, same_heads}
use Rattle.ipc_model.specs.calls.PlainStep.{number_of_call}
use Rattle.ipc_model.specs.declared.entry.Entry.{Entry}
use Rattle.std.specs.FinMap as finmap
use Rattle.std.specs.FinMap.{get-entries, len-entries}
use Rattle.std.specs.Ordering.{nat_cmp}
use Rattle.ipc_model.specs.encodings.Images.{image_encoding, image_encoding_of, names_encoding, entry_encoding, port_encoding, kept_encoding, space_encoding}
use Rattle.ipc_laws.specs.OpeningLaws.{opening_is_lawful, none_in_empty}
use Rattle.ipc_model.specs.store.Recovery.{Slots, HasLimits, KeepsWhatItMay, IsOpen, IsOfEpoch, HasHeader, HoldsImage, IsStored, Encodes, IsOtherVersion, image_header, segment_header_length}
use Rattle.ipc_laws.specs.RecoveryLaws.{one_epoch, same_version, image_header_is, image_is_open, segment_epoch, segment_is_open}
use Rattle.ipc_rows.specs.RowsStore.{first_allocation, first_segment, first_segment_of, segment-bytes, segment_of-bytes}
use Rattle.ipc_laws.specs.OpeningLaws.{opening-image}
use Rattle.ipc_laws.specs.MapLaws.{map_rules}
use Rattle.ipc_laws.specs.Encoding.{lawful_is_encodable}
use Rattle.ipc_laws.specs.ImageLaws.{Encodable, EncodableIpc, EncodableSpace, EncodableNames, EncodableNamed, EncodableLivePort, EncodablePort, EncodableMessage, image_once}
use Rattle.std.proofs.lemmas.List.Elements.{All-nil, All-cons}
use Rattle.ipc_rows.specs.RowRules.{rows}
use Rattle.ipc_rows.specs.RowStates.{answered, asked, keeps_none, rights_to}
use Rattle.ipc_model.specs.state.Ipc.{Names, new_port}
use Rattle.ipc_model.specs.state.State.{State, opening_state}
use Rattle.ipc_model.specs.store.Store.{EncodesBatches, EncodesSegment, batch_encoding, all_records, AreRecords, AreWithin, LeavesAnEpoch, IsClosed, open_gate, closed_gate, epoch_encoding, segment_header, segment_header_of, image_content_of, batches_encoding}
use Rattle.ipc_model.specs.encodings.Encodings.{IsRecord, call_encoding, reply_encoding, record_encoding, records_encoding}
use Rattle.words.specs.WordLaws.{length-word, same_long_word}
use Rattle.words.specs.Words.{word, long_word}
use Rattle.codes.specs.KernReturn.{number_of}
use Rattle.codes.specs.declared.limits.TheConstants.{MAX_RECORDS}
use Rattle.ipc_model.specs.encodings.PlainCalls as plain_calls
use Rattle.ipc_laws.specs.CanonicalRecords.{length-numbered}
use Rattle.ipc_laws.specs.RecordedSteps.{length-numbered_reply}
use Rattle.ipc_model.specs.declared.call.Call.TheVariants as which
use Rattle.ipc_model.specs.declared.plain_call.PlainCall.{PlainCall}
use Rattle.ipc_model.specs.declared.plain_reply.PlainReply.{PlainReply}
use Rattle.ipc_model.specs.declared.reply.NumberedReply.{NumberedReply}
use Rattle.ipc_model.specs.declared.reply.Reply.TheVariants as upper

abbrev pub four : List ℕ → List ℕ → List ℕ → List ℕ → Slots
four image0 image1 segment0 segment1 =
    record { image = λ n. if n == 0 then image0 else image1; segment = λ n. if n == 0 then segment0 else segment1 }

-- (a slot that is empty isn't open)
empty_closed : (header : ℕ) → 0 < header → IsOpen header [] → ⊥
empty_closed header some is_open = absurd (omega (arith, some, is_open.0))

no_header : (header number : ℕ) → 0 < header → HasHeader header number []
no_header header number some is_open = absurd (empty_closed header some is_open)

-- for each of the two numbers
each_number : (P : ℕ → Type 0) → P 0 → P 1 → (number : ℕ) → number < 2 → P number
each_number P first second zero small = first
each_number P first second (suc zero) small = second
each_number P first second (suc (suc n)) small = absurd (omega (arith, small))

-- The opening state's image has 28 bytes, and in version 1 it has 24.
pub opening-image_of_version_one : image_encoding_of One opening_state
    ≡ 1 ∷ 0 ∷ 0 ∷ 0 ∷ 0 ∷ 0 ∷ 0 ∷ 0 ∷ 1 ∷ 0 ∷ 0 ∷ 0 ∷ 1 ∷ 0 ∷ 0 ∷ 0 ∷ 0 ∷ 0 ∷ 0 ∷ 0 ∷ 0 ∷ 0 ∷ 0 ∷ 0 ∷ []
unfolding image_encoding_of
opening-image_of_version_one = simp map_rules

opening_length : (version : StoreVersion) → length (image_encoding_of version opening_state) ≤ 28
opening_length One = omega (arith, ap length opening-image_of_version_one)
opening_length Two = omega (arith, ap length opening-image)

-- a slot with that image, of this version and epoch
abbrev pub opening_slot_of : StoreVersion → ℕ → List ℕ
opening_slot_of version epoch = open_gate ∷ image_content_of version epoch (image_encoding_of version opening_state)

-- and as it is written
abbrev pub opening_slot : ℕ → List ℕ
opening_slot = opening_slot_of current

-- in 52 bytes, and in 48
pub opening_slot-length : (epoch : ℕ) → length (opening_slot epoch) ≡ 52
opening_slot-length epoch = omega (arith, ap length opening-image)

pub opening_slot-length_of_version_one : (epoch : ℕ) → length (opening_slot_of One epoch) ≡ 48
opening_slot-length_of_version_one epoch = omega (arith, ap length opening-image_of_version_one)

none_kept : (version : StoreVersion) → KeepsWhatItMay version opening_state
none_kept One = refl
none_kept Two = tt

pub opening_slot-holds : (version : StoreVersion) (epoch : ℕ)
    → HoldsImage epoch (opening_slot_of version epoch) opening_state
opening_slot-holds version epoch = record {
  version = version;
  rest = [];
  encoding = sym (append-nil (opening_slot_of version epoch));
  fits = omega (arith, opening_length version);
  lawful = opening_is_lawful.0;
  acyclic = opening_is_lawful.1;
  short = λ (serial : ℕ) (port : PortState) (there : _). absurd (none_in_empty serial port there);
  limits = λ (serial : ℕ) (port : PortState) (there : _). absurd (none_in_empty serial port there);
  kept = none_kept version;
}

-- what stands in it after the epoch
abbrev opening_rest : StoreVersion → List ℕ
opening_rest version =
    long_word (length (image_encoding_of version opening_state)) ++ image_encoding_of version opening_state

image_epoch : (version : StoreVersion) (number epoch : ℕ) → epoch < 2 ^ 64 → epoch % 2 ≡ number
    → IsOfEpoch number epoch (opening_slot_of version epoch)
image_epoch version number epoch fits is =
    record {
      version = version;
      rest = opening_rest version;
      encoding = refl;
      fits = fits;
      of_number = is;
    }

-- a segment of version 1 leaves an epoch for the store to go on in
leaves_an_epoch : (version : StoreVersion) (epoch : ℕ) → epoch + 1 < 2 ^ 64 → LeavesAnEpoch version epoch
leaves_an_epoch One epoch leaves = leaves
leaves_an_epoch Two epoch leaves = tt

-- the record of the first allocation, and the segment that encodes it

pub first_allocation-is : IsRecord first_allocation
unfolding plain_calls.call_encoding plain_calls.reply_encoding
first_allocation-is = record {
  space = omega arith;
  call = record { fits = omega arith; whole = tt; kept = refl };
  reply = record { fits = omega arith; of_one_call = refl; results = tt; recorded = refl };
  frames = (omega arith, omega arith);
}

pub first_segment-encodes : (version : StoreVersion)
    → EncodesSegment 0 (first_segment_of version) (first_allocation ∷ [])
first_segment-encodes version = record {
  version = version;
  content = drop 16 (first_segment_of version);
  encoding = refl;
  encoded = record {
    batches = (first_allocation ∷ []) ∷ [];
    rest = closed_gate ∷ [];
    encoding = ap (λ (l : List ℕ). drop 16 l) (sym (segment_of-bytes version));
    closed = λ (e : _). absurd (omega (arith, e));
    none_empty = (omega arith, tt);
    flat = refl;
    canonical = (first_allocation-is, tt);
    bounded = omega arith;
  };
  within = (tt, tt);
  next = leaves_an_epoch version 0 (omega arith);
}

segment_of_0 : (version : StoreVersion) (rest : List ℕ)
    → IsOfEpoch 0 0 (segment_header_of version open_gate 0 ++ rest)
segment_of_0 version rest =
    record { version = version; rest = rest; encoding = refl; fits = omega arith; of_number = refl }

-- An image 0 of epoch 0 and of the opening state, and a segment 0 that encodes records, of either version each: the
-- store encodes these records.
encodes_by_segment : (of_image of_segment : StoreVersion) (rest : List ℕ) (records : List Record)
    → EncodesSegment 0 (segment_header_of of_segment open_gate 0 ++ rest) records
    → Encodes (four (opening_slot_of of_image 0) [] (segment_header_of of_segment open_gate 0 ++ rest) []) opening_state
    records
encodes_by_segment of_image of_segment rest records encoded =
    let slots : Slots =
    four (opening_slot_of of_image 0) [] (segment_header_of of_segment open_gate 0 ++ rest) [] in
    record {
      headers =
          each_number (λ n. HasHeader image_header n (slots.image n)
          × HasHeader segment_header_length n (slots.segment n)) (
            (λ (_ : _). (0, image_epoch of_image 0 0 (omega arith) refl)),
            (λ (_ : _). (0, segment_of_0 of_segment rest)),
          )
          (no_header image_header 1 (omega arith), no_header segment_header_length 1 (omega arith));
      reading = inr (record {
        epoch = 0;
        fits = omega arith;
        image = opening_slot-holds of_image 0;
        latest =
            λ (number other : ℕ) (small : _). each_number
            (λ n. IsOpen image_header (slots.image n) → IsOfEpoch n other (slots.image n) → other ≤ 0)
            (λ (_ : _) (is : _). omega (
              arith,
              one_epoch 0 other (opening_rest of_image) is.rest (omega arith) is.fits is.encoding,
            ))
            (λ (is_open : _) (_ : _). absurd (empty_closed image_header (omega arith) is_open)) number small;
        first = records;
        next = [];
        segment = encoded;
        other = inl (empty_closed segment_header_length (omega arith), refl);
        joined = sym (append-nil records);
      });
    }

-- The store of a first allocation: image 0 of the opening state, and segment 0 with one batch. It encodes that record.
abbrev pub first_store_of : StoreVersion → StoreVersion → Slots
first_store_of of_image of_segment = four (opening_slot_of of_image 0) [] (first_segment_of of_segment) []

first_store_of-encodes : (of_image of_segment : StoreVersion)
    → Encodes (first_store_of of_image of_segment) opening_state (first_allocation ∷ [])
first_store_of-encodes of_image of_segment =
    encodes_by_segment of_image of_segment (drop 16 (first_segment_of of_segment)) (first_allocation ∷ [])
    (first_segment-encodes of_segment)

pub first_store-encodes : Encodes (first_store_of Two Two) opening_state (first_allocation ∷ [])
first_store-encodes = first_store_of-encodes Two Two

-- of version 1
pub old_store-encodes : Encodes (first_store_of One One) opening_state (first_allocation ∷ [])
old_store-encodes = first_store_of-encodes One One

-- each slot is read by its own version
pub old_image-encodes : Encodes (first_store_of One Two) opening_state (first_allocation ∷ [])
old_image-encodes = first_store_of-encodes One Two

pub old_log-encodes : Encodes (first_store_of Two One) opening_state (first_allocation ∷ [])
old_log-encodes = first_store_of-encodes Two One

-- The image of epoch 5 alongside that of epoch 4, and segments 4 and 5 without batches: only image 5 counts.
abbrev pub empty_segment : ℕ → List ℕ
empty_segment epoch = segment_header open_gate epoch ++ (closed_gate ∷ [])

pub empty_segment-encodes : (epoch : ℕ) → EncodesSegment epoch (empty_segment epoch) []
empty_segment-encodes epoch = record {
  version = current;
  content = closed_gate ∷ [];
  encoding = refl;
  encoded =
      record {
        batches = [];
        rest = closed_gate ∷ [];
        encoding = refl;
        closed = λ (e : _). absurd (omega (arith, e));
        none_empty = tt;
        flat = refl;
        canonical = tt;
        bounded = omega arith;
      };
  within = tt;
  next = tt;
}

abbrev pub two_images : Slots
two_images = four (opening_slot 4) (opening_slot 5) (empty_segment 4) (empty_segment 5)

segment_of : (number epoch : ℕ) → epoch < 2 ^ 64 → epoch % 2 ≡ number → IsOfEpoch number epoch (empty_segment epoch)
segment_of number epoch fits is =
    record { version = current; rest = closed_gate ∷ []; encoding = refl; fits = fits; of_number = is }

pub two_images-spell : Encodes two_images opening_state []
two_images-spell = record {
  headers =
      each_number (λ n. HasHeader image_header n (two_images.image n)
      × HasHeader segment_header_length n (two_images.segment n))
      ((λ (_ : _). (4, image_epoch current 0 4 (omega arith) refl)), (λ (_ : _). (4, segment_of 0 4 (omega arith) refl)))
      ((λ (_ : _). (5, image_epoch current 1 5 (omega arith) refl)), (λ (_ : _). (5, segment_of 1 5 (omega arith) refl)));
  reading = inr (record {
    epoch = 5;
    fits = omega arith;
    image = opening_slot-holds current 5;
    latest =
        λ (number other : ℕ) (small : _). each_number
        (λ n. IsOpen image_header (two_images.image n) → IsOfEpoch n other (two_images.image n) → other ≤ 5)
        (λ (_ : _) (is : _). omega (
          arith,
          one_epoch 4 other (opening_rest current)
              is.rest (omega arith) is.fits is.encoding,
        ))
        (λ (_ : _) (is : _). omega (
          arith,
          one_epoch 5 other (opening_rest current)
              is.rest (omega arith) is.fits is.encoding,
        )) number small;
    first = [];
    next = [];
    segment = empty_segment-encodes 5;
    other = inr (inl (4, refl, segment_of 0 4 (omega arith) refl, refl));
    joined = refl;
  });
}

-- The store of the first allocation, with one byte changed or one slot truncated.

abbrev pub with_segment : List ℕ → Slots
with_segment segment = four (opening_slot 0) [] segment []

abbrev pub with_image : List ℕ → Slots
with_image image = four image [] first_segment []

-- the batch's gate closed: no record
pub closed_batch-encodes : Encodes
    (with_segment (segment_header open_gate 0 ++ (0 ∷ drop 17 first_segment))) opening_state []
closed_batch-encodes = encodes_by_segment Two Two (0 ∷ drop 17 first_segment) [] (record {
  version = Two;
  content = 0 ∷ drop 17 first_segment;
  encoding = refl;
  encoded =
      record {
        batches = [];
        rest = 0 ∷ drop 17 first_segment;
        encoding = refl;
        closed = λ (e : _). absurd (omega (arith, e));
        none_empty = tt;
        flat = refl;
        canonical = tt;
        bounded = omega arith;
      };
  within = tt;
  next = tt;
})

-- truncated after the header: no record
pub cut_to_16-encodes : Encodes (with_segment (take 16 first_segment)) opening_state []
cut_to_16-encodes = encodes_by_segment Two Two [] [] (record {
  version = Two;
  content = [];
  encoding = refl;
  encoded =
      record {
        batches = [];
        rest = [];
        encoding = refl;
        closed = tt;
        none_empty = tt;
        flat = refl;
        canonical = tt;
        bounded = omega arith;
      };
  within = tt;
  next = tt;
})

-- truncated after the batch, so that the closed gate is missing: the record all the same
pub cut_to_69-encodes : Encodes (with_segment (take 69 first_segment)) opening_state (first_allocation ∷ [])
unfolding batch_encoding record_encoding plain_calls.call_encoding plain_calls.reply_encoding
cut_to_69-encodes = encodes_by_segment Two Two (take 53 (drop 16 first_segment)) (first_allocation ∷ []) (record {
  version = Two;
  content = take 53 (drop 16 first_segment);
  encoding = refl;
  encoded = record {
    batches = (first_allocation ∷ []) ∷ [];
    rest = [];
    encoding = ap (λ (l : List ℕ). take 53 (drop 16 l)) (sym segment-bytes);
    closed = tt;
    none_empty = (omega arith, tt);
    flat = refl;
    canonical = (first_allocation-is, tt);
    bounded = omega arith;
  };
  within = (tt, tt);
  next = tt;
})

-- Slots that encode nothing.

-- no image is open: then the segment can't have an open batch
no_image_damaged : (image : List ℕ) → (IsOpen image_header image → ⊥) → (base : State) (records : List Record)
    → Encodes (with_image image) base records → ⊥
no_image_damaged image closed base records encoded = elim encoded.reading as (λ _. ⊥) [
  | inl new ↦ ((new.0.unused 0 0 (omega arith) (omega arith, refl) (segment_of_0 current (drop 16 first_segment))).1) refl
  | inr stored ↦ each_number (λ n. IsOpen image_header ((with_image image).image n) → ⊥) closed
      (empty_closed image_header (omega arith)) (stored.epoch % 2) (omega arith)
      (image_is_open stored.epoch ((with_image image).image (stored.epoch % 2)) base stored.image)
]

pub gate_of_image-damaged : (base : State) (records : List Record)
    → Encodes (with_image (0 ∷ drop 1 (opening_slot 0))) base records → ⊥
gate_of_image-damaged =
    no_image_damaged (0 ∷ drop 1 (opening_slot 0))
    (λ (is_open : _). absurd (omega (arith, ap (λ (l : List ℕ). slice_index l 0) is_open.1)))

-- a version that there isn't
no_version : (number : ℕ) → 2 < number → IsNoVersion number
no_version number beyond One = λ (is : _). absurd (omega (arith, beyond, is))
no_version number beyond Two = λ (is : _). absurd (omega (arith, beyond, is))

pub version_of_image-other : IsOtherVersion (with_image (open_gate ∷ 9 ∷ drop 2 (opening_slot 0)))
version_of_image-other = (0, omega arith, inl ((omega arith, refl), no_version 9 (omega arith)))

pub version_of_segment-other : IsOtherVersion (with_segment (open_gate ∷ 3 ∷ drop 2 first_segment))
version_of_segment-other = (0, omega arith, inr ((omega arith, refl), no_version 3 (omega arith)))

-- a byte of the six that are zero
pub zeros_of_image-damaged : (base : State) (records : List Record)
    → Encodes (with_image (open_gate ∷ 2 ∷ 1 ∷ drop 3 (opening_slot 0))) base records → ⊥
zeros_of_image-damaged base records encoded =
    let header = (encoded.headers 0 (omega arith)).0 (omega arith, refl) in
    absurd (omega (arith, ap (λ (l : List ℕ). slice_index l 2) header.1.encoding))

-- an odd epoch in image 0
pub odd_epoch-damaged : (base : State) (records : List Record) → Encodes (with_image (opening_slot 1)) base records → ⊥
odd_epoch-damaged base records encoded =
    let header = (encoded.headers 0 (omega arith)).0 (omega arith, refl) in
    absurd (omega (
      arith,
      one_epoch 1 header.0
          (opening_rest current) header.1.rest
          (omega arith) header.1.fits header.1.encoding,
      header.1.of_number,
    ))

-- image 0 of epoch 2 over segment 0 of epoch 0
pub later_image-damaged : (base : State) (records : List Record) → Encodes (with_image (opening_slot 2)) base records
    → ⊥
later_image-damaged base records encoded = elim encoded.reading as (λ _. ⊥) [
  | inl new ↦ new.0.no_image 0 (omega arith) (omega arith, refl)
  | inr stored ↦
      let later : 2 ≤ stored.epoch =
      stored.latest 0 2 (omega arith) (omega arith, refl) (image_epoch current 0 2 (omega arith) refl) in
      let at_zero : (n : ℕ) → n < 2 → EncodesSegment stored.epoch ((with_image (opening_slot 2)).segment n) stored.first
      → ⊥ =
      each_number (λ n. EncodesSegment stored.epoch ((with_image (opening_slot 2)).segment n) stored.first → ⊥)
      (λ (s : _). absurd (omega (
        arith,
        later,
        segment_epoch 0 stored.epoch 0 first_segment stored.first s stored.fits
            (segment_of_0 current (drop 16 first_segment)),
      )))
      (λ (s : _). empty_closed segment_header_length (omega arith) (segment_is_open stored.epoch [] stored.first s)) in
      at_zero (stored.epoch % 2) (omega arith) stored.segment
]

-- a segment that encodes no records leaves nothing, if an image is open
no_segment_damaged : (segment : List ℕ)
    → ((epoch : ℕ) (records : List Record) → epoch < 2 ^ 64 → EncodesSegment epoch segment records → ⊥)
    → (base : State) (records : List Record) → Encodes (with_segment segment) base records → ⊥
no_segment_damaged segment none base records encoded = elim encoded.reading as (λ _. ⊥) [
  | inl new ↦ new.0.no_image 0 (omega arith) (omega arith, refl)
  | inr stored ↦ each_number (λ n. EncodesSegment stored.epoch ((with_segment segment).segment n) stored.first → ⊥)
      (none stored.epoch stored.first stored.fits)
      (λ (s : _). empty_closed segment_header_length (omega arith) (segment_is_open stored.epoch [] stored.first s))
      (stored.epoch % 2) (omega arith) stored.segment
]

pub cut_to_15-damaged : (base : State) (records : List Record)
    → Encodes (with_segment (take 15 first_segment)) base records → ⊥
cut_to_15-damaged =
    no_segment_damaged (take 15 first_segment)
    (λ (epoch : ℕ) (records : List Record) (_ : _) (s : _). absurd
    (omega (arith, (segment_is_open epoch (take 15 first_segment) records s).0)))

-- A whole batch comes after an open gate.

-- how many records a batch's bytes say it has, how many bytes these have, and that these bytes are there
record Batch (bytes : List ℕ) : Type 0 where
  batch : List Record
  rest : List ℕ
  encoding : bytes ≡ batch_encoding 0 batch ++ rest
  canonical : AreRecords batch
  few : length batch ≤ MAX_RECORDS
  later : List (List Record)
  left : List ℕ
  beyond : rest ≡ batches_encoding (0 + length batch) later ++ left
  closed : IsClosed left

of_batches : (bytes : List ℕ) (batches : List (List Record)) (rest : List ℕ)
    → open_gate ∷ bytes ≡ batches_encoding 0 batches ++ rest → IsClosed rest → AreRecords (all_records batches)
    → length (all_records batches) ≤ MAX_RECORDS → Batch bytes
of_batches bytes [] rest encoding closed canonical few = absurd (subst IsClosed (sym encoding) closed refl)
of_batches bytes (batch ∷ batches) rest encoding closed canonical few = record {
  batch = batch;
  rest = batches_encoding (0 + length batch) batches ++ rest;
  encoding =
      ap (λ (l : List ℕ). drop 1 l) encoding
      ∙ append_assoc (batch_encoding 0 batch) (batches_encoding (0 + length batch) batches) rest;
  canonical = are_records-front batch (all_records batches) canonical;
  few = omega (arith, few, length-append batch (all_records batches));
  later = batches;
  left = rest;
  beyond = refl;
  closed = closed;
}

first_batch : (bytes : List ℕ) (records : List Record) → EncodesBatches (open_gate ∷ bytes) records → Batch bytes
first_batch bytes records encoded =
    of_batches bytes encoded.batches encoded.rest encoded.encoding encoded.closed
    (subst AreRecords encoded.flat encoded.canonical) (omega (arith, encoded.bounded, ap length encoded.flat))

-- as many bytes as the count and the size say
batch_long : (bytes : List ℕ) (b : Batch bytes) → 12 + length (records_encoding 0 b.batch) ≤ length bytes
batch_long bytes b = omega (arith, ap length b.encoding, length-batch 0 b.batch b.rest)

-- the count and size at the front of the bytes
batch_counts : (bytes tail : List ℕ) (b : Batch bytes) (count size : ℕ) → bytes ≡ word count ++ (long_word size ++ tail)
    → count < 2 ^ 32 → size < 2 ^ 64 → (length b.batch ≡ count) × (length (records_encoding 0 b.batch) ≡ size)
batch_counts bytes tail b count size is fits fits_too =
    let heads =
    same_heads (length b.batch) count (length (records_encoding 0 b.batch)) size
    (records_encoding 0 b.batch ++ b.rest) tail (omega (arith, b.few)) fits
    (records_are_short 0 b.batch b.canonical b.few) fits_too
    (sym (batch_apart 0 b.batch b.rest) ∙ sym b.encoding ∙ is) in
    (heads.0, heads.1)

header_16 : (version : StoreVersion) (epoch of_header : ℕ) (records : List Record) (rest : List ℕ)
    → (s : EncodesSegment epoch (segment_header_of version open_gate of_header ++ rest) records) → s.content ≡ rest
header_16 version epoch of_header records rest s = sym (ap (λ (l : List ℕ). drop 16 l) s.encoding)

-- an open gate with nothing after it doesn't begin batches
lone_gate : (n : ℕ) (batches : List (List Record)) (rest : List ℕ) → IsClosed rest
    → open_gate ∷ [] ≡ batches_encoding n batches ++ rest → ⊥
lone_gate n [] rest closed is = absurd (subst IsClosed (sym is) closed refl)
lone_gate n (batch ∷ batches) rest closed is =
    absurd (omega (
      arith,
      ap length is,
      length-append (batch_encoding n batch) (batches_encoding (n + length batch) batches),
      length-append (batch_encoding n batch ++ batches_encoding (n + length batch) batches) rest,
      length-batch n batch [],
      length-append (batch_encoding n batch) [],
    ))

-- a segment without a whole batch after its open gate encodes nothing
no_batch_damaged : (bytes : List ℕ) → (Batch bytes → ⊥) → (base : State) (records : List Record)
    → Encodes (with_segment (segment_header open_gate 0 ++ (open_gate ∷ bytes))) base records → ⊥
no_batch_damaged bytes none =
    no_segment_damaged (segment_header open_gate 0 ++ (open_gate ∷ bytes))
    (λ (epoch : ℕ) (records : List Record) (fits : _) (s : _).
    none (first_batch bytes records
    (subst (λ (l : List ℕ). EncodesBatches l records)
    (header_16 current epoch 0 records (open_gate ∷ bytes) s) s.encoded)))

pub cut_to_17-damaged : (base : State) (records : List Record)
    → Encodes (with_segment (take 17 first_segment)) base records → ⊥
cut_to_17-damaged = no_batch_damaged [] (λ (b : _). absurd (omega (arith, batch_long [] b)))

pub cut_to_68-damaged : (base : State) (records : List Record)
    → Encodes (with_segment (take 68 first_segment)) base records → ⊥
cut_to_68-damaged = no_batch_damaged (take 51 (drop 17 first_segment)) (λ (b : _).
    let counts =
    batch_counts (take 51 (drop 17 first_segment)) (take 39 (drop 29 first_segment)) b 1 40 refl (omega arith)
    (omega arith) in
    absurd (omega (arith, batch_long (take 51 (drop 17 first_segment)) b, counts.1)))

plain_call_long : (c : PlainCall) → 4 ≤ length (plain_calls.call_encoding c)
unfolding plain_calls.call_encoding
plain_call_long c =
    omega (arith, length-append (word (number_of_call c)) (plain_calls.arguments_encoding c), length-word (number_of_call c))

call_long : (c : Call) → 4 ≤ length (call_encoding c)
call_long (which.Plain c) = plain_call_long c
call_long (which.Numbered numbered) = omega (arith, length-numbered numbered)
call_long which.Unnumberable = omega arith

plain_reply_long : (r : PlainReply) → 4 ≤ length (plain_calls.reply_encoding r)
unfolding plain_calls.reply_encoding
plain_reply_long (reply.Refused number code) =
    omega (arith, length-append (word number) (word (number_of code)), length-word number)
plain_reply_long (reply.Done number) = omega (arith, length-append (word number) (word 0 ++ []), length-word number)
plain_reply_long r = omega arith

reply_long : (r : Reply) → 4 ≤ length (reply_encoding r)
reply_long (upper.Plain r) = plain_reply_long r
reply_long (upper.Numbered kept) = omega (arith, length-numbered_reply kept)
reply_long (upper.Repeated kept) = omega (arith, length-numbered_reply kept)

-- a batch that says that it has two records, and has one
two_are_longer : (batch : List Record) → length batch ≡ 2 → 56 ≤ length (records_encoding 0 batch)
two_are_longer [] is = absurd (omega (arith, is))
two_are_longer (a ∷ []) is = absurd (omega (arith, is))
two_are_longer (a ∷ b ∷ []) is =
    omega (
      arith,
      length-append (record_encoding 0 a) (records_encoding 1 (b ∷ [])),
      length-append (record_encoding 1 b) (records_encoding 2 []),
      length-record_encoding 0 a,
      length-record_encoding 1 b,
      call_long a.call,
      call_long b.call,
      reply_long a.reply,
      reply_long b.reply,
    )
two_are_longer (a ∷ b ∷ c ∷ more) is = absurd (omega (arith, is))

pub count_of_batch-damaged : (base : State) (records : List Record)
    → Encodes (with_segment (take 17 first_segment ++ (2 ∷ drop 18 first_segment))) base records → ⊥
count_of_batch-damaged = no_batch_damaged (2 ∷ drop 18 first_segment) (λ (b : _).
    let counts =
    batch_counts (2 ∷ drop 18 first_segment) (drop 29 first_segment) b 2 40 refl (omega arith) (omega arith) in
    absurd (omega (arith, two_are_longer b.batch counts.0, counts.1)))

-- an open gate after the batch, and nothing after that
pub open_end-damaged : (base : State) (records : List Record)
    → Encodes (with_segment (take 69 first_segment ++ (open_gate ∷ []))) base records → ⊥
open_end-damaged = no_batch_damaged (take 52 (drop 17 first_segment) ++ (open_gate ∷ [])) (λ (b : _).
    let bytes : List ℕ = take 52 (drop 17 first_segment) ++ (open_gate ∷ []) in
    let counts =
    batch_counts bytes (take 40 (drop 29 first_segment) ++ (open_gate ∷ [])) b 1 40 refl (omega arith)
    (omega arith) in
    let left : b.rest ≡ open_gate ∷ [] =
    sym (drop_at (batch_encoding 0 b.batch) b.rest 52
    (omega (arith, length-batch 0 b.batch [], length-append (batch_encoding 0 b.batch) [], counts.1)))
    ∙ sym (ap (λ (l : List ℕ). drop 52 l) b.encoding) in
    lone_gate (0 + length b.batch) b.later b.left b.closed (sym left ∙ b.beyond))

-- What version 1 didn't have, and version 2 has.

version_is : (version : StoreVersion) (epoch of_header : ℕ) (records : List Record) (rest : List ℕ)
    → (s : EncodesSegment epoch (segment_header_of version open_gate of_header ++ rest) records) → s.version ≡ version
version_is version epoch of_header records rest s =
    same_version s.version version (sym (ap (λ (l : List ℕ). slice_index l 1) s.encoding))

-- a record that sets a queue's limit to 17
abbrev pub wide_limit : Record
wide_limit = record { space = 1; call = asked (call.SetQlimit 0x100 17); reply = answered (reply.Done 10) }

wide_limit-is : IsRecord wide_limit
unfolding plain_calls.call_encoding plain_calls.reply_encoding
wide_limit-is = record {
  space = omega arith;
  call = record { fits = (omega arith, omega arith); whole = tt; kept = refl };
  reply = record { fits = omega arith; of_one_call = refl; results = refl; recorded = refl };
  frames = (omega arith, omega arith);
}

abbrev pub wide_limit_batches : List ℕ
wide_limit_batches = batches_encoding 0 ((wide_limit ∷ []) ∷ []) ++ (closed_gate ∷ [])

wide_limit_batches-encode : EncodesBatches wide_limit_batches (wide_limit ∷ [])
wide_limit_batches-encode = record {
  batches = (wide_limit ∷ []) ∷ [];
  rest = closed_gate ∷ [];
  encoding = refl;
  closed = λ (e : _). absurd (omega (arith, e));
  none_empty = (omega arith, tt);
  flat = refl;
  canonical = (wide_limit-is, tt);
  bounded = omega arith;
}

pub wide_limit-encodes : Encodes (with_segment (segment_header open_gate 0 ++ wide_limit_batches)) opening_state
    (wide_limit ∷ [])
wide_limit-encodes = encodes_by_segment Two Two wide_limit_batches (wide_limit ∷ []) (record {
  version = Two;
  content = wide_limit_batches;
  encoding = refl;
  encoded = wide_limit_batches-encode;
  within = (tt, tt);
  next = tt;
})

pub old_wide_limit-damaged : (base : State) (records : List Record)
    → Encodes (with_segment (segment_header_of One open_gate 0 ++ wide_limit_batches)) base records → ⊥
old_wide_limit-damaged =
    no_segment_damaged (segment_header_of One open_gate 0 ++ wide_limit_batches)
    (λ (epoch : ℕ) (records : List Record) (_ : _) (s : _).
    let same : records ≡ wide_limit ∷ [] =
    one_reading wide_limit_batches records (wide_limit ∷ [])
    (subst (λ (l : List ℕ). EncodesBatches l records) (header_16 One epoch 0 records wide_limit_batches s) s.encoded)
    wide_limit_batches-encode in
    let within : AreWithin One (wide_limit ∷ []) =
    subst (λ (version : StoreVersion). AreWithin version (wide_limit ∷ []))
    (version_is One epoch 0 records wide_limit_batches s)
    (subst (λ (r : List Record). AreWithin s.version r) same s.within) in
    absurd (omega (arith, within.0)))

-- the last epoch, without a batch: after a segment of version 1 there has to be another
abbrev pub last_epoch : ℕ
last_epoch = 0xffffffffffffffff

pub last_epoch-encodes : EncodesSegment last_epoch (empty_segment last_epoch) []
last_epoch-encodes = empty_segment-encodes last_epoch

pub old_last_epoch-damaged : (records : List Record)
    → EncodesSegment last_epoch (segment_header_of One open_gate last_epoch ++ (closed_gate ∷ [])) records → ⊥
old_last_epoch-damaged records s =
    let leaves : LeavesAnEpoch One last_epoch =
    subst (λ (version : StoreVersion). LeavesAnEpoch version last_epoch)
    (version_is One last_epoch last_epoch records (closed_gate ∷ []) s) s.next in
    absurd (omega (arith, leaves))

-- an image of a port whose queue may hold 17 messages
abbrev pub wide_port : State
wide_port = keeps_none (record {
  spaces = finmap.insert finmap.empty 1 (finmap.insert finmap.empty 0x100 (rights_to 1 true 0));
  ports = finmap.insert finmap.empty 1 (record new_port { limit = 17 });
  next = 2;
})

abbrev wide_port_names : Names
wide_port_names = finmap.insert finmap.empty 0x100 (rights_to 1 true 0)

wide_port-spaces : finmap.entries wide_port.ipc.spaces ≡ (1, wide_port_names) ∷ []
wide_port-spaces = simp rows

wide_port-names : finmap.entries wide_port_names ≡ (0x100, rights_to 1 true 0) ∷ []
wide_port-names = simp rows

wide_port-ports : finmap.entries wide_port.ipc.ports ≡ (1, record new_port { limit = 17 }) ∷ []
wide_port-ports = simp rows

wide_port-there : finmap.get wide_port.ipc.ports 1 ≡ Some (record new_port { limit = 17 })
wide_port-there = simp rows

wide_port_names-encodable : EncodableNames wide_port_names
wide_port_names-encodable = record {
  few = omega (arith, len-entries wide_port_names, ap length wide_port-names);
  entries =
      subst (All EncodableNamed) (sym wide_port-names)
      (All-cons EncodableNamed (0x100, rights_to 1 true 0) [] (omega arith, (omega arith, omega arith, tt))
      (All-nil EncodableNamed));
}

wide_limit_port-encodable : EncodablePort (record new_port { limit = 17 })
wide_limit_port-encodable = record {
  limit = omega arith;
  sequence_number = omega arith;
  make_send_count = omega arith;
  set = tt;
  no_senders_target = tt;
  port_destroyed_target = tt;
  few_messages = omega arith;
  messages = All-nil EncodableMessage;
}

wide_ipc-encodable : EncodableIpc wide_port.ipc
wide_ipc-encodable = record {
  next = omega arith;
  few_spaces = omega (arith, len-entries wide_port.ipc.spaces, ap length wide_port-spaces);
  spaces =
      subst (All EncodableSpace) (sym wide_port-spaces)
      (All-cons EncodableSpace (1, wide_port_names) [] (omega arith, wide_port_names-encodable)
      (All-nil EncodableSpace));
  few_ports = omega (arith, len-entries wide_port.ipc.ports, ap length wide_port-ports);
  ports =
      subst (All EncodableLivePort) (sym wide_port-ports)
      (All-cons EncodableLivePort (1, record new_port { limit = 17 }) [] (omega arith, wide_limit_port-encodable)
      (All-nil EncodableLivePort));
}

wide_port-encodable : Encodable wide_port
wide_port-encodable = record {
  ipc = wide_ipc-encodable;
  kept = λ (space : ℕ) (kept : NumberedReply) (at : _). absurd (none_in_empty space kept at);
}

pub wide_port-damaged : (epoch : ℕ) (base : State)
    → HoldsImage epoch (open_gate ∷ image_content_of One epoch (image_encoding_of One wide_port)) base → ⊥
wide_port-damaged epoch base holds =
    let v = holds.version in
    let is_one : v ≡ One =
    same_version v One (sym (ap (λ (l : List ℕ). slice_index l 1) holds.encoding)) in
    let encodings : image_encoding_of One wide_port ≡ image_encoding_of v base ++ holds.rest =
    ap (λ (l : List ℕ). drop 24 l) holds.encoding in
    let same : wide_port ≡ base =
    (image_once One wide_port base [] holds.rest wide_port-encodable
    (lawful_is_encodable base holds.lawful holds.short) refl
    (subst (λ u. KeepsWhatItMay u base) is_one holds.kept)
    (append-nil (image_encoding_of One wide_port)
    ∙ subst (λ u. image_encoding_of One wide_port ≡ image_encoding_of u base ++ holds.rest) is_one encodings)).0 in
    let limits : HasLimits One wide_port =
    subst (HasLimits One) (sym same) (subst (λ u. HasLimits u base) is_one holds.limits) in
    absurd (omega (arith, limits 1 (record new_port { limit = 17 }) wide_port-there))

-- Image 5 is the latest, but segment 1 is of epoch 3.
abbrev pub old_segment : Slots
old_segment = four (opening_slot 4) (opening_slot 5) (empty_segment 4) (empty_segment 3)

-- an image of epoch 5 is open, so the store's epoch is 5
epoch_5 : (slots : Slots) (base : State) (records : List Record) (stored : IsStored slots base records)
    → slots.image 1 ≡ opening_slot 5 → ((other : ℕ) → other < 2 ^ 64 → IsOfEpoch 0 other (slots.image 0) → other ≤ 4)
    → stored.epoch ≡ 5
epoch_5 slots base records stored is_five no_later =
    let later : 5 ≤ stored.epoch =
    stored.latest 1 5 (omega arith) (subst (IsOpen image_header) (sym is_five) (omega arith, refl))
    (subst (IsOfEpoch 1 5) (sym is_five) (image_epoch current 1 5 (omega arith) refl)) in
    let bound : (n : ℕ) → n < 2 → stored.epoch % 2 ≡ n → HoldsImage stored.epoch (slots.image n) base
    → stored.epoch ≤ 5 =
    each_number (λ n. stored.epoch % 2 ≡ n → HoldsImage stored.epoch (slots.image n) base → stored.epoch ≤ 5)
    (λ (even : _) (holds : _). omega (
      arith,
      no_later stored.epoch stored.fits
          (subst (λ (k : ℕ). IsOfEpoch k stored.epoch (slots.image 0)) even
          (image_header_is stored.epoch (slots.image 0) base stored.fits holds)),
    ))
    (λ (odd : _) (holds : _). omega (
      arith,
      one_epoch 5 stored.epoch
          (opening_rest current)
          (image_header_is stored.epoch (slots.image 1) base stored.fits holds).rest (omega arith) stored.fits
          (sym is_five ∙ (image_header_is stored.epoch (slots.image 1) base stored.fits holds).encoding),
    )) in
    omega (arith, later, bound (stored.epoch % 2) (omega arith) refl stored.image)

four_at_most : (other : ℕ) → other < 2 ^ 64 → IsOfEpoch 0 other (opening_slot 4) → other ≤ 4
four_at_most other fits is =
    omega (
      arith,
      one_epoch 4 other
          (opening_rest current) is.rest
          (omega arith) is.fits is.encoding,
    )

pub old_segment-damaged : (base : State) (records : List Record) → Encodes old_segment base records → ⊥
old_segment-damaged base records encoded = elim encoded.reading as (λ _. ⊥) [
  | inl new ↦ new.0.no_image 0 (omega arith) (omega arith, refl)
  | inr stored ↦
      let is_five : stored.epoch ≡ 5 = epoch_5 old_segment base records stored refl four_at_most in
      let encodes_five : EncodesSegment stored.epoch (empty_segment 3) stored.first =
      subst (λ (e : ℕ). EncodesSegment stored.epoch (old_segment.segment (e % 2)) stored.first) is_five
      stored.segment in
      absurd (omega (
        arith,
        is_five,
        segment_epoch 1 stored.epoch 3 (empty_segment 3) stored.first encodes_five stored.fits
            (segment_of 1 3 (omega arith) refl),
      ))
]

-- Image 5 is the latest, and it is corrupted: it says that it has 20 bytes, which no image has.
abbrev pub corrupted_slot : List ℕ
corrupted_slot = open_gate ∷ (epoch_encoding 5 ++ (long_word 20 ++ take 20 (image_encoding opening_state)))

abbrev pub corrupted_image : Slots
corrupted_image = four (opening_slot 4) corrupted_slot (empty_segment 4) (empty_segment 5)

-- every image of a lawful state has more
image_long : (version : StoreVersion) (state : State) → 24 ≤ length (image_encoding_of version state)
    ⊎ (finmap.get state.ipc.spaces 1 ≡ None)
unfolding image_encoding_of
image_long version state =
    elim (finmap.entries state.ipc.spaces)
    as (λ (es : List (ℕ × Names)). finmap.entries state.ipc.spaces ≡ es
    → (24 ≤ length (image_encoding_of version state)) ⊎ (finmap.get state.ipc.spaces 1 ≡ None)) [
      | [] ↦ λ (is : _). inr (get-entries state.ipc.spaces 1 ∙ ap (finmap.find nat_cmp 1) is)
      | e ∷ es ↦ λ (is : _).
          let spaces : List ℕ = flat_map (space_encoding version state.kept) (finmap.entries state.ipc.spaces) in
          let ports : List ℕ =
          flat_map (λ (p : ℕ × PortState). long_word p.0 ++ port_encoding p.1) (finmap.entries state.ipc.ports) in
          let names : List ℕ = flat_map (λ (n : ℕ × Entry). word n.0 ++ entry_encoding n.1) (finmap.entries e.1) in
          let others : List ℕ = flat_map (space_encoding version state.kept) es in
          inl (omega (
            arith,
            length-append (long_word state.ipc.next)
                (word (finmap.len state.ipc.spaces) ++ (spaces ++ (word (finmap.len state.ipc.ports) ++ ports))),
            length-append (word (finmap.len state.ipc.spaces)) (spaces ++ (word (finmap.len state.ipc.ports) ++ ports)),
            length-append spaces (word (finmap.len state.ipc.ports) ++ ports),
            length-append (word (finmap.len state.ipc.ports)) ports,
            ap (λ (l : List (ℕ × Names)). length (flat_map (space_encoding version state.kept) l)) is,
            length-append (space_encoding version state.kept e) others,
            length-append (word e.0) (kept_encoding version (finmap.get state.kept e.0) ++ names_encoding e.1),
            length-append (kept_encoding version (finmap.get state.kept e.0)) (names_encoding e.1),
            length-append (word (finmap.len e.1)) names,
          ))
    ] refl

corrupted_holds_none : (epoch : ℕ) (base : State) → HoldsImage epoch corrupted_slot base → ⊥
corrupted_holds_none epoch base holds =
    let encoding : List ℕ = image_encoding_of holds.version base in
    let says : length encoding ≡ 20 =
    same_long_word (length encoding) 20 (encoding ++ holds.rest) (take 20 (image_encoding opening_state)) holds.fits
    (omega arith) (sym (ap (λ (l : List ℕ). drop 16 l) holds.encoding)) in
    elim (image_long holds.version base) as (λ _. ⊥) [
      | inl long ↦ absurd (omega (arith, says, long))
      | inr none ↦ cc (sym none ∙ holds.lawful.ipc.first_space.1)
    ]

pub corrupted_image-damaged : (base : State) (records : List Record) → Encodes corrupted_image base records → ⊥
corrupted_image-damaged base records encoded = elim encoded.reading as (λ _. ⊥) [
  | inl new ↦ new.0.no_image 0 (omega arith) (omega arith, refl)
  | inr stored ↦
      let later : 5 ≤ stored.epoch =
      stored.latest 1 5 (omega arith) (omega arith, refl)
      (record {
        version = current;
        rest = long_word 20 ++ take 20 (image_encoding opening_state);
        encoding = refl;
        fits = omega arith;
        of_number = refl;
      }) in
      let holds_none : (n : ℕ) → n < 2 → stored.epoch % 2 ≡ n → HoldsImage stored.epoch (corrupted_image.image n) base
      → ⊥ =
      each_number (λ n. stored.epoch % 2 ≡ n → HoldsImage stored.epoch (corrupted_image.image n) base → ⊥)
      (λ (even : _) (holds : _). absurd
      (omega (
        arith,
        later,
        four_at_most stored.epoch stored.fits
            (subst (λ (k : ℕ). IsOfEpoch k stored.epoch (opening_slot 4)) even
            (image_header_is stored.epoch (opening_slot 4) base stored.fits holds)),
      )))
      (λ (odd : _) (holds : _). corrupted_holds_none stored.epoch base holds) in
      holds_none (stored.epoch % 2) (omega arith) refl stored.image
]
