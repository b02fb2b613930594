-- An image's encoding after the place of its header, then the whole image.
use Rattle.std.proofs.Common.{◌≡◌, ℕ, ◌<◌, ◌≤◌, List, [], ◌∷◌, ◌++◌, length, take, drop, replicate, sym, ap, ◌∙◌, arith, append_assoc, length-append, length-drop, length-take}
use Rattle.std.proofs.lemmas.List.{append-nil, drop_at}
use Rattle.disk.specs.declared.slot.Slot.{Slot}
use Rattle.disk.specs.Slots.{Slots, slot_of, with_slot, written_at}
use Rattle.ipc_model.specs.store.Store.{IsClosed, epoch_encoding, image_content, open_gate}
use Rattle.words.specs.Words.{long_word}
use Rattle.checkpoint.specs.Images.{HoldsAfter, open_image}
use Rattle.slot_steps.proofs.Gates.{after_first}
use Rattle.slot_steps.proofs.Lengths.{closed_cut, closed_written, cut_length, own_of}
use Rattle.disk.proofs.Moments.{with_twice}

-- a slot that was truncated to the length of a header, with a closed gate
pub cut_to_header : (slot : Slot) (old new : Slots) → 24 ≤ length (slot_of old slot) → IsClosed (slot_of old slot)
    → new ≡ with_slot old slot (take 24 (slot_of old slot)) → HoldsAfter (slot_of new slot) []
cut_to_header slot old new long shut is =
    let front : List ℕ = take 24 (slot_of old slot) in
    record {
      head = front;
      long = cut_length (slot_of old slot) 24 long;
      shut = closed_cut (slot_of old slot) shut;
      whole = own_of slot old new front is ∙ sym (append-nil front);
    }

-- a slot that was extended to the length of a header by zeros after a closed gate
pub extended_to_header : (slot : Slot) (old new : Slots) → 0 < length (slot_of old slot)
    → length (slot_of old slot) ≤ 24 → IsClosed (slot_of old slot)
    → new ≡ with_slot old slot (written_at (slot_of old slot) 1 (replicate 23 0)) → HoldsAfter (slot_of new slot) []
extended_to_header slot old new some short shut is =
    let before : List ℕ = slot_of old slot in
    let bytes : List ℕ = written_at before 1 (replicate 23 0) in
    let size : length bytes ≡ 24 =
    omega (
      arith,
      length-append (take 1 before ++ replicate 23 0) (drop 24 before),
      length-append (take 1 before) (replicate 23 0),
      length-take 1 before,
      length-drop 24 before,
    ) in
    record {
      head = bytes;
      long = size;
      shut = closed_written before (replicate 23 0) some shut;
      whole = own_of slot old new bytes is ∙ sym (append-nil bytes);
    }

-- the bytes after the first one once the header is written
after_header : (bytes encoding header : List ℕ) → (holds : HoldsAfter bytes encoding)
    → drop 1 (take 1 bytes ++ (header ++ drop 24 bytes)) ≡ header ++ encoding
after_header bytes encoding header holds =
    let some : 0 < length bytes = omega (arith, holds.long, ap length holds.whole, length-append holds.head encoding) in
    after_first bytes (header ++ drop 24 bytes) some
    ∙ ap (λ (l : List ℕ). header ++ l)
    (ap (λ (l : List ℕ). drop 24 l) holds.whole ∙ drop_at holds.head encoding 24 holds.long)

-- an image's content is its header and its encoding
content_is : (epoch : ℕ) (encoding : List ℕ)
    → (epoch_encoding epoch ++ long_word (length encoding)) ++ encoding ≡ image_content epoch encoding
content_is epoch encoding = append_assoc (epoch_encoding epoch) (long_word (length encoding)) encoding

pub header_written : (slot : Slot) (old new : Slots) (epoch : ℕ) (encoding : List ℕ)
    → HoldsAfter (slot_of old slot) encoding
    → new ≡ with_slot old slot (take 1 (slot_of old slot)
    ++ ((epoch_encoding epoch ++ long_word (length encoding)) ++ drop 24 (slot_of old slot)))
    → drop 1 (slot_of new slot) ≡ image_content epoch encoding
header_written slot old new epoch encoding holds is =
    let header : List ℕ = epoch_encoding epoch ++ long_word (length encoding) in
    ap (λ (l : List ℕ). drop 1 l) (own_of slot old new
    (take 1 (slot_of old slot) ++ (header ++ drop 24 (slot_of old slot))) is)
    ∙ after_header (slot_of old slot) encoding header holds ∙ content_is epoch encoding

pub gate_written : (slot : Slot) (old mid new : Slots) (epoch : ℕ) (encoding bytes : List ℕ)
    → mid ≡ with_slot old slot bytes → drop 1 (slot_of mid slot) ≡ image_content epoch encoding
    → new ≡ with_slot mid slot (open_gate ∷ drop 1 (slot_of mid slot))
    → new ≡ with_slot old slot (open_image epoch encoding)
gate_written slot old mid new epoch encoding bytes before beyond is =
    is ∙ (λ i. with_slot (before i) slot (open_gate ∷ beyond i))
    ∙ with_twice slot old bytes (open_gate ∷ image_content epoch encoding)

-- more of the encoding was appended
pub held_more : (slot : Slot) (old new : Slots) (encoding more whole : List ℕ) → HoldsAfter (slot_of old slot) encoding
    → new ≡ with_slot old slot (slot_of old slot ++ more) → encoding ++ more ≡ whole
    → HoldsAfter (slot_of new slot) whole
held_more slot old new encoding more whole holds is joined = record {
  head = holds.head;
  long = holds.long;
  shut = holds.shut;
  whole =
      own_of slot old new (slot_of old slot ++ more) is ∙ ap (λ (l : List ℕ). l ++ more) holds.whole
      ∙ append_assoc holds.head encoding more ∙ ap (λ (l : List ℕ). holds.head ++ l) joined;
}

pub others_more : (slot : Slot) (first old new : Slots) (bytes : List ℕ) → old ≡ with_slot first slot (slot_of old slot)
    → new ≡ with_slot old slot bytes → new ≡ with_slot first slot (slot_of new slot)
others_more slot first old new bytes before is =
    is ∙ ap (λ (s : Slots). with_slot s slot bytes) before ∙ with_twice slot first (slot_of old slot) bytes ∙ ap
    (λ (l : List ℕ). with_slot first slot l) (sym (own_of slot old new bytes is))
