-- Reads of a slot.
use Rattle.std.proofs.Common.{◌≡◌, ℕ, List, ◌++◌, length, take, drop, ap, ◌∙◌, arith, length-take, length-drop}
use Rattle.std.specs.Prelude.{◌-◌, min}
use Rattle.std.proofs.lemmas.List.{take_at}

-- the bytes that a read from an offset on returned
pub came : (slot old piece : List ℕ) (at n : ℕ) → n ≡ min (length old) (length slot - at)
    → piece ≡ take n (drop at slot) ++ drop n old → take n piece ≡ take n (drop at slot)
came slot old piece at n count is =
    let long : length (take n (drop at slot)) ≡ n =
    omega (arith, length-take n (drop at slot), length-drop at slot, count) in
    ap (take n) is ∙ take_at (take n (drop at slot)) (drop n old) n long
