-- Slots that no other process writes have the same contents at all moments.
use Rattle.std.proofs.Common.{◌≡◌, ℕ, ◌≤◌, List, ◌++◌, length, take, drop, refl, sym, ap, subst, ◌∙◌, append_assoc, take-append-drop, length-append, length-take}
use Rattle.std.proofs.lemmas.List.{append-nil, drop-drop, drop_all, drop_min}
use Rattle.std.specs.Prelude.{IfOk, Result, Ok, Err}
use Rattle.disk.specs.Slots.{Slots}
use Rattle.inspect.specs.still_disk.Still.{still_slots}
use Rattle.inspect.specs.declared.still_disk.fault.CopyFault.{CopyFault}
use Rattle.inspect.specs.declared.still_disk.still.StillDisk.{StillDisk}
use Rattle.inspect.specs.still_disk.Live.{Agree, Copied, FrontsRead, HasChanged, IsCopy, IsReading, SlotsCopied, Tried, fronts_of, nothing_yet, one_piece_more}

-- the bytes read of a slot are its front
abbrev IsFront : List ℕ → List ℕ → Type 0
IsFront bytes slot = bytes ++ drop (length bytes) slot ≡ slot

front_on : (slot bytes : List ℕ) (n : ℕ) → IsFront bytes slot
    → IsFront (bytes ++ take n (drop (length bytes) slot)) slot
front_on slot bytes n front =
    let rest : List ℕ = drop (length bytes) slot in
    let left : drop (length (bytes ++ take n rest)) slot ≡ drop n rest =
    ap (λ k. drop k slot) (length-append bytes (take n rest))
    ∙ sym (drop-drop (length (take n rest)) (length bytes) slot) ∙ ap (λ k. drop k rest) (length-take n rest)
    ∙ drop_min n rest in
    ap (λ l. (bytes ++ take n rest) ++ l) left ∙ append_assoc bytes (take n rest) (drop n rest) ∙ ap
    (λ l. bytes ++ l) (take-append-drop n rest) ∙ front

module _ {Moment : Type 0} (Later : Moment → Moment → Type 0) (slots : Moment → Slots)
    (same : (a b : Moment) → Later a b → slots b ≡ slots a) where
  copied_front : (slot : Slots → List ℕ) (begun last : Moment) (copy : List ℕ)
      → Copied Later (λ m. slot (slots m)) begun last copy → (slots last ≡ slots begun)
      × IsFront copy (slot (slots begun))
  copied_front slot begun _ _ nothing_yet = (refl, refl)
  copied_front slot begun _ _ (one_piece_more {last} {copy} now count longer copied later is) =
      let before = copied_front slot begun last copy copied in
      let here : slots now ≡ slots begun = same last now later ∙ before.0 in (
        here,
        subst (λ l. IsFront l (slot (slots begun)))
            (sym (is ∙ ap (λ (s : Slots). copy ++ take count (drop (length copy) (slot s))) here))
            (front_on (slot (slots begun)) copy count before.1),
      )

  copy_same : (slot : Slots → List ℕ) (begun ended : Moment) (copy : List ℕ)
      → IsCopy Later (λ m. slot (slots m)) begun ended copy → (slots ended ≡ slots begun)
      × (copy ≡ slot (slots begun))
  copy_same slot begun ended copy is =
      let known = copied_front slot begun is.last copy is.copied in
      let here : slots ended ≡ slots begun = same is.last ended is.later ∙ known.0 in (
        here,
        sym (append-nil copy) ∙ ap
            (λ l. copy ++ l) (sym (drop_all (length copy) (slot (slots begun))
            (subst (λ (s : Slots). length (slot s) ≤ length copy) here is.whole))) ∙ known.1,
      )

  fronts_same : (begun ended : Moment) (fronts : Slots) → FrontsRead Later slots begun ended fronts
      → (slots ended ≡ slots begun) × (fronts ≡ fronts_of (slots begun))
  fronts_same begun ended fronts read =
      let first : slots read.first ≡ slots begun = same begun read.first read.to_first in
      let second : slots read.second ≡ slots begun = same read.first read.second read.to_second ∙ first in
      let third : slots read.third ≡ slots begun = same read.second read.third read.to_third ∙ second in
      let last : slots ended ≡ slots begun = same read.third ended read.to_last ∙ third in (
        last,
        λ i. record {
          image0 = (read.image0 ∙ ap (λ (s : Slots). take 24 s.image0) first) i;
          image1 = (read.image1 ∙ ap (λ (s : Slots). take 24 s.image1) second) i;
          segment0 = (read.segment0 ∙ ap (λ (s : Slots). take 16 s.segment0) third) i;
          segment1 = (read.segment1 ∙ ap (λ (s : Slots). take 16 s.segment1) last) i;
        },
      )

  copies_same : (begun ended : Moment) (copies : Slots) → SlotsCopied Later slots begun ended copies
      → (slots ended ≡ slots begun) × (copies ≡ slots begun)
  copies_same begun ended copies copied =
      let image0 = copy_same (λ s. s.image0) begun copied.first copies.image0 copied.image0 in
      let image1 = copy_same (λ s. s.image1) copied.first copied.second copies.image1 copied.image1 in
      let segment0 = copy_same (λ s. s.segment0) copied.second copied.third copies.segment0 copied.segment0 in
      let segment1 = copy_same (λ s. s.segment1) copied.third ended copies.segment1 copied.segment1 in
      let second : slots copied.second ≡ slots begun = image1.0 ∙ image0.0 in
      let third : slots copied.third ≡ slots begun = segment0.0 ∙ second in (
        segment1.0 ∙ third,
        λ i. record {
          image0 = image0.1 i;
          image1 = (image1.1 ∙ ap (λ (s : Slots). s.image1) image0.0) i;
          segment0 = (segment0.1 ∙ ap (λ (s : Slots). s.segment0) second) i;
          segment1 = (segment1.1 ∙ ap (λ (s : Slots). s.segment1) third) i;
        },
      )

  tried_same : (begun ended : Moment) (fronts copies again : Slots)
      → Tried Later slots begun ended fronts copies again → (copies ≡ slots begun) × Agree fronts copies again
  tried_same begun ended fronts copies again tried =
      let before = fronts_same begun tried.start fronts tried.before in
      let copied = copies_same tried.start tried.stop copies tried.copied in
      let after = fronts_same tried.stop ended again tried.after in
      let whole : copies ≡ slots begun = copied.1 ∙ before.0 in
      (whole, (after.1 ∙ ap fronts_of (copied.0 ∙ before.0) ∙ sym before.1, ap fronts_of whole ∙ sym before.1))

  -- the copies are the contents of the slots
  pub reading_same : (begun ended : Moment) (copies : Slots) → IsReading Later slots begun ended copies
      → copies ≡ slots begun
  reading_same begun ended copies reading = (tried_same begun ended reading.0 copies reading.1 reading.2).0

  -- nothing changes
  pub never_changes : (begun ended : Moment) → HasChanged Later slots begun ended → ⊥
  never_changes begun ended changed = changed.4 (tried_same begun ended changed.0 changed.1 changed.2 changed.3).1

  -- the copy of one of several attempts
  pub copy_is : (result : Result StillDisk CopyFault) (old new : Moment)
      → IfOk result (λ copy. (begun : Moment) × Later old begun × IsReading Later slots begun new (still_slots copy))
      → IfOk result (λ copy. still_slots copy ≡ slots old)
  copy_is (Ok copy) old new (begun, later, reading) =
      reading_same begun new (still_slots copy) reading ∙ same old begun later
  copy_is (Err fault) old new none = tt

  pub never_busy : (old : Moment) → ((begun ended : Moment) × Later old begun × HasChanged Later slots begun ended) → ⊥
  never_busy old (begun, ended, later, changed) = never_changes begun ended changed
