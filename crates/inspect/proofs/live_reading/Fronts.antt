-- Facts about a slot that its front determines.
use Rattle.std.specs.Prelude.{◌≡◌, ℕ, ◌+◌, ◌-◌, ◌%◌, ◌≤◌, List, ◌++◌, length, take, drop}
use Rattle.std.proofs.Common.{sym, ap, inl, inr, ◌∙◌, arith, append_assoc, length-take, take-append-drop}
use Rattle.std.proofs.Math.Seq.{take-append-add}
use Rattle.std.proofs.lemmas.List.{take-take}
use Rattle.ipc_model.specs.store.Recovery.{IsOfEpoch, IsOpen, image_header, segment_header_length}
use Rattle.ipc_model.specs.store.Store.{open_gate, segment_header_of}
use Rattle.store_layout.specs.Standing.{IsPassedImage, IsPassedSegment}

open_alike : (header : ℕ) (x y : List ℕ) → 1 ≤ header → take header x ≡ take header y → IsOpen header x
    → IsOpen header y
open_alike header x y some same is_open = (
  omega (arith, length-take header x, length-take header y, ap length same, is_open.0),
  sym (take-take 1 header y some) ∙ ap (take 1) (sym same) ∙ take-take 1 header x some ∙ is_open.1,
)

epoch_alike : (header number epoch : ℕ) (x y : List ℕ) → 16 ≤ header → take header x ≡ take header y
    → IsOfEpoch number epoch x → IsOfEpoch number epoch y
epoch_alike header number epoch x y whole same is =
    let apart : header ≡ 16 + (header - 16) = omega (arith, whole) in
    let begins : List ℕ = segment_header_of is.version open_gate epoch in
    let front : take header x ≡ begins ++ take (header - 16) is.rest =
    ap (take header) is.encoding ∙ ap (λ k. take k (begins ++ is.rest)) apart
    ∙ take-append-add begins is.rest (header - 16) in
    record {
      version = is.version;
      rest = take (header - 16) is.rest ++ drop header y;
      encoding =
          sym (take-append-drop header y) ∙ ap (λ l. l ++ drop header y) (sym same ∙ front)
          ∙ append_assoc begins (take (header - 16) is.rest) (drop header y);
      fits = is.fits;
      of_number = is.of_number;
    }

-- slots with the same front are open with the same epoch, or both not open
pub open_image_alike : (x y : List ℕ) → take 24 x ≡ take 24 y → IsOpen image_header x → IsOpen image_header y
open_image_alike x y = open_alike 24 x y (omega arith)

pub open_segment_alike : (x y : List ℕ) → take 16 x ≡ take 16 y → IsOpen segment_header_length x
    → IsOpen segment_header_length y
open_segment_alike x y = open_alike 16 x y (omega arith)

pub image_epoch_alike : (number epoch : ℕ) (x y : List ℕ) → take 24 x ≡ take 24 y → IsOfEpoch number epoch x
    → IsOfEpoch number epoch y
image_epoch_alike number epoch x y = epoch_alike 24 number epoch x y (omega arith)

pub segment_epoch_alike : (number epoch : ℕ) (x y : List ℕ) → take 16 x ≡ take 16 y → IsOfEpoch number epoch x
    → IsOfEpoch number epoch y
segment_epoch_alike number epoch x y = epoch_alike 16 number epoch x y (omega arith)

-- slots with the same front are both ignored, or neither is
pub passed_image_alike : (epoch : ℕ) (x y : List ℕ) → take 24 x ≡ take 24 y → IsPassedImage epoch x
    → IsPassedImage epoch y
passed_image_alike epoch x y same (inl shut) = inl (λ is_open. shut (open_image_alike y x (sym same) is_open))
passed_image_alike epoch x y same (inr before) =
    inr (before.0, before.1, image_epoch_alike ((epoch + 1) % 2) before.0 x y same before.2)

pub passed_segment_alike : (epoch : ℕ) (x y : List ℕ) → take 16 x ≡ take 16 y → IsPassedSegment epoch x
    → IsPassedSegment epoch y
passed_segment_alike epoch x y same (inl shut) = inl (λ is_open. shut (open_segment_alike y x (sym same) is_open))
passed_segment_alike epoch x y same (inr before) =
    inr (before.0, before.1, segment_epoch_alike (before.0 % 2) before.0 x y same before.2)
