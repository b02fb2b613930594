-- Reads of slots that another process may write meanwhile.
use Rattle.std.specs.Prelude.{◌≡◌, ℕ, ◌≤◌, List, [], ◌++◌, length, take, drop}
use Rattle.disk.specs.Slots.{Slots}

-- A slot has some contents at each moment of an order.
module _ {Moment : Type 0} (Later : Moment → Moment → Type 0) (slot : Moment → List ℕ) where
  -- A copy that was begun at one moment, and whose last piece was read at another. Each piece followed the earlier ones
  -- in the slot when it was read.
  pub data Copied (begun : Moment) : Moment → List ℕ → Type 0 where
    nothing_yet : Copied begun begun []
    one_piece_more : {last : Moment} {copy : List ℕ} (now : Moment) (count : ℕ) (longer : List ℕ)
        → Copied begun last copy → Later last now
        → longer ≡ copy ++ take count (drop (length copy) (slot now)) → Copied begun now longer

  -- A copy is complete once nothing follows it.
  pub record IsCopy (begun ended : Moment) (copy : List ℕ) : Type 0 where
    pub last : Moment
    pub copied : Copied begun last copy
    pub later : Later last ended
    pub whole : length (slot ended) ≤ length copy

-- the fronts of slots: the lengths of their headers, or the whole slots if they are shorter
abbrev pub fronts_of : Slots → Slots
fronts_of slots = record {
  image0 = take 24 slots.image0;
  image1 = take 24 slots.image1;
  segment0 = take 16 slots.segment0;
  segment1 = take 16 slots.segment1;
}

-- the fronts are the same again, and are those of the copies
abbrev pub Agree : Slots → Slots → Slots → Type 0
Agree fronts copies again = (again ≡ fronts) × (fronts_of copies ≡ fronts)

module _ {Moment : Type 0} (Later : Moment → Moment → Type 0) (slots : Moment → Slots) where
  -- the fronts were read one after another
  pub record FrontsRead (begun ended : Moment) (fronts : Slots) : Type 0 where
    pub first : Moment
    pub second : Moment
    pub third : Moment
    pub to_first : Later begun first
    pub to_second : Later first second
    pub to_third : Later second third
    pub to_last : Later third ended
    pub image0 : fronts.image0 ≡ take 24 (slots first).image0
    pub image1 : fronts.image1 ≡ take 24 (slots second).image1
    pub segment0 : fronts.segment0 ≡ take 16 (slots third).segment0
    pub segment1 : fronts.segment1 ≡ take 16 (slots ended).segment1

  -- the slots were copied one after another
  pub record SlotsCopied (begun ended : Moment) (copies : Slots) : Type 0 where
    pub first : Moment
    pub second : Moment
    pub third : Moment
    pub image0 : IsCopy Later (λ m. (slots m).image0) begun first copies.image0
    pub image1 : IsCopy Later (λ m. (slots m).image1) first second copies.image1
    pub segment0 : IsCopy Later (λ m. (slots m).segment0) second third copies.segment0
    pub segment1 : IsCopy Later (λ m. (slots m).segment1) third ended copies.segment1

  -- the fronts were read, then the slots were copied, then the fronts were read again
  pub record Tried (begun ended : Moment) (fronts copies again : Slots) : Type 0 where
    pub start : Moment
    pub stop : Moment
    pub before : FrontsRead begun start fronts
    pub copied : SlotsCopied start stop copies
    pub after : FrontsRead stop ended again

  -- copies between two reads of the fronts that agree with them
  abbrev pub IsReading : Moment → Moment → Slots → Type 0
  IsReading begun ended copies =
      (fronts again : Slots) × Tried begun ended fronts copies again × Agree fronts copies again

  -- copies between two reads of the fronts that don't agree with them
  abbrev pub HasChanged : Moment → Moment → Type 0
  HasChanged begun ended =
      (fronts copies again : Slots) × Tried begun ended fronts copies again × (Agree fronts copies again → ⊥)
