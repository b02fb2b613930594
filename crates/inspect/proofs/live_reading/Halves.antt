-- The state that copies of the slots represent if they were made while the store was in one half of an epoch.
use Rattle.std.specs.Prelude.{◌≡◌, ℕ, ◌+◌, ◌∷◌, Bool, true, false, List, [], ◌++◌, length}
use Rattle.std.proofs.Common.{refl, sym, ap, subst, ◌∙◌, arith, append_assoc}
use Rattle.std.proofs.lemmas.List.{append-nil}
use Rattle.codes.specs.StoreVersion.{current}
use Rattle.disk.specs.Slots.{slot_of}
use Rattle.disk.specs.declared.slot.Slot.{Slot}
use Rattle.ipc_laws.specs.StoreLaws.{all_within}
use Rattle.ipc_model.specs.declared.record.Record.{Record}
use Rattle.ipc_model.specs.store.Recovery.{HoldsImage}
use Rattle.ipc_model.specs.store.Store.{IsClosed, EncodesSegment, all_records, batch_encoding, batches_encoding, image_content_of, open_gate, segment_header}
use Rattle.ipc_model.specs.encodings.Images.{image_encoding_of}
use Rattle.slot_steps.specs.Steps.{image_slot, segment_slot}
use Rattle.store_layout.specs.Standing.{IsPassedSegment}
use Rattle.inspect.specs.still_disk.Live.{IsCopy}
use Rattle.inspect.proofs.live_reading.Growing.{copy_ends}
use Rattle.inspect.specs.live_reading.Moments.{Appends, HoldsBatches, Moment, OtherSegment, front}
use Rattle.inspect.proofs.live_reading.Times.{half, more_appended, nothing_appended}

batches_joined : (n : ℕ) (xs ys : List (List Record)) → (rest : List ℕ)
    × (batches_encoding n (xs ++ ys) ≡ batches_encoding n xs ++ rest)
batches_joined n [] ys = (batches_encoding n ys, refl)
batches_joined n (batch ∷ xs) ys =
    let beyond = batches_joined (n + length batch) xs ys in (
      beyond.0,
      ap (λ l. open_gate ∷ (batch_encoding n batch ++ l)) beyond.1
          ∙ ap (λ l. open_gate ∷ l) (sym
          (append_assoc (batch_encoding n batch) (batches_encoding (n + length batch) xs) beyond.0)),
    )

-- the front of a segment grows with its batches
front_grows : (epoch : ℕ) (xs ys : List (List Record)) → (rest : List ℕ)
    × (front epoch (xs ++ ys) ≡ front epoch xs ++ rest)
front_grows epoch xs ys =
    let beyond = batches_joined 0 xs ys in (
      beyond.0,
      ap (λ l. segment_header open_gate epoch ++ l) beyond.1
          ∙ sym (append_assoc (segment_header open_gate epoch) (batches_encoding 0 xs) beyond.0),
    )

-- bytes that begin with the front of a segment, followed by no open gate, encode the segment's records
encodes_front : (epoch : ℕ) (slot copy : List ℕ) (batches : List (List Record)) (rest : List ℕ)
    → HoldsBatches epoch slot batches → copy ≡ front epoch batches ++ rest → IsClosed rest
    → EncodesSegment epoch copy (all_records batches)
encodes_front epoch slot copy batches rest held encoding shut = record {
  version = current;
  content = batches_encoding 0 batches ++ rest;
  encoding = encoding ∙ append_assoc (segment_header open_gate epoch) (batches_encoding 0 batches) rest;
  encoded = record {
    batches = batches;
    rest = rest;
    encoding = refl;
    closed = shut;
    none_empty = held.none_empty;
    flat = refl;
    canonical = held.canonical;
    bounded = held.bounded;
  };
  within = all_within (all_records batches);
  next = tt;
}

-- the next segment of a store that has rotated
pub next_segment : (h : Bool) (epoch : ℕ) (slot : List ℕ) (next : List (List Record)) → h ≡ true
    → OtherSegment h epoch slot next → HoldsBatches (epoch + 1) slot next
next_segment true epoch slot next is other = other
next_segment false epoch slot next is other = let none : 0 ≡ 1 = ap half is in absurd (omega (arith, none))

pub passed_segment : (h : Bool) (epoch : ℕ) (slot : List ℕ) (next : List (List Record)) → h ≡ false
    → OtherSegment h epoch slot next → IsPassedSegment epoch slot
passed_segment false epoch slot next is other = other.0
passed_segment true epoch slot next is other = let none : 1 ≡ 0 = ap half is in absurd (omega (arith, none))

-- The copies are made from one moment on, while batches are appended and nothing else changes.
module _ (start : Moment) where
  e : ℕ
  e = start.epoch

  abbrev at_slot : Slot → Moment → List ℕ
  at_slot slot m = slot_of m.slots slot

  -- the copy of the epoch's own image is that image, whatever is copied after it
  pub image_copied : (begun ended : Moment) (copy : List ℕ) → Appends start begun
      → IsCopy Appends (at_slot (image_slot start.epoch)) begun ended copy → HoldsImage start.epoch copy start.base
  image_copied begun ended copy since is =
      let slot = slot_of start.slots (image_slot start.epoch) in
      let same : (m : Moment) → Appends begun m → at_slot (image_slot start.epoch) m ≡ slot =
      λ m later. (more_appended start begun m since later).image in
      let ends =
      copy_ends Appends nothing_appended more_appended (at_slot (image_slot start.epoch)) (λ m. slot) begun
      (λ m later. ([], same m later ∙ sym (append-nil slot), tt))
      (λ a b later more. ([], sym (append-nil slot))) ended copy is in
      let v = start.image.version in
      record {
        version = v;
        rest = start.image.rest ++ ends.rest;
        encoding =
            ends.encoding ∙ ap (λ l. l ++ ends.rest) start.image.encoding
            ∙ append_assoc (open_gate ∷ image_content_of v start.epoch (image_encoding_of v start.base)) start.image.rest
            ends.rest;
        fits = start.image.fits;
        lawful = start.image.lawful;
        acyclic = start.image.acyclic;
        short = start.image.short;
        limits = start.image.limits;
        kept = start.image.kept;
      }

  -- A segment in use: its copy encodes the records that the segment encoded at some moment.
  pub record EncodedAt (begun ended : Moment) (epoch : ℕ) (copy : List ℕ)
      (batches : Moment → List (List Record)) : Type 0 where
    pub at : Moment
    pub since : Appends begun at
    pub until : Appends at ended
    pub encodes : EncodesSegment epoch copy (all_records (batches at))

  segment_copied : (begun ended : Moment) (slot : Slot) (epoch : ℕ) (batches : Moment → List (List Record))
      (copy : List ℕ)
      → ((m : Moment) → Appends begun m → HoldsBatches epoch (at_slot slot m) (batches m))
      → ((a b : Moment) → Appends a b → (more : List (List Record)) × (batches b ≡ batches a ++ more))
      → IsCopy Appends (at_slot slot) begun ended copy → EncodedAt begun ended epoch copy batches
  segment_copied begun ended slot epoch batches copy held grows is =
      let ends = copy_ends Appends nothing_appended more_appended (at_slot slot) (λ m. front epoch (batches m)) begun
      (λ m later. let h = held m later in (h.beyond, h.encoding, h.closed))
      (λ a b later more. let grown = grows a b more in let beyond = front_grows epoch (batches a) grown.0 in
      (beyond.0, ap (front epoch) grown.1 ∙ beyond.1)) ended copy is in
      record {
        at = ends.at;
        since = ends.since;
        until = ends.until;
        encodes = encodes_front epoch (at_slot slot ends.at) copy (batches ends.at) ends.rest
            (held ends.at ends.since) ends.encoding ends.shut;
      }

  pub own_segment_copied : (begun ended : Moment) (copy : List ℕ) → Appends start begun
      → IsCopy Appends (at_slot (segment_slot start.epoch)) begun ended copy
      → EncodedAt begun ended start.epoch copy (λ m. m.first)
  own_segment_copied begun ended copy since is =
      segment_copied begun ended (segment_slot start.epoch) start.epoch (λ m. m.first) copy
      (λ m later. subst (λ k. HoldsBatches k (slot_of m.slots (segment_slot k)) m.first)
      (more_appended start begun m since later).epoch m.segment)
      (λ a b more. (more.first_more, more.first)) is

  pub next_segment_copied : (begun ended : Moment) (copy : List ℕ) → start.has_turned ≡ true → Appends start begun
      → IsCopy Appends (at_slot (segment_slot (start.epoch + 1))) begun ended copy
      → EncodedAt begun ended (start.epoch + 1) copy (λ m. m.next)
  next_segment_copied begun ended copy turned since is =
      segment_copied begun ended (segment_slot (start.epoch + 1)) (start.epoch + 1) (λ m. m.next) copy
      (λ m later. let all = more_appended start begun m since later in
      subst (λ k. HoldsBatches (k + 1) (slot_of m.slots (segment_slot (k + 1))) m.next) all.epoch
      (next_segment m.has_turned m.epoch (slot_of m.slots (segment_slot (m.epoch + 1))) m.next
      (all.half ∙ turned) m.other_segment))
      (λ a b more. (more.next_more, more.next)) is
