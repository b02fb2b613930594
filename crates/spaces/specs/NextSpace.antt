-- A walk over the spaces. Each step takes the least number from a given one on.
use Rattle.std.proofs.Common.{◌≡◌, ℕ, ◌+◌, ◌^◌, ◌<◌, ◌≤◌, true, false, Option, None, Some, MatchOption, is_some, option_and_then, refl, ◌∙◌, ap, arith}
use Rattle.std.specs.FinMap.{get}
use Rattle.spaces.specs.Burying.{less_or_not}
use Rattle.spaces.specs.Slots.{SpaceMap, SpaceSlots, is}
use Rattle.tracked_map.specs.Slots.{picked, get_picked}

-- the least number of 32 bits from a given one on that belongs to a space
abbrev pub IsNextSpace : SpaceMap → ℕ → Option ℕ → Type 0
IsNextSpace spaces from found =
    MatchOption found ((number : ℕ) → from ≤ number → number < 2 ^ 32 → get spaces number ≡ None)
    (λ next. (from ≤ next) × (is_some (get spaces next) ≡ true)
    × ((number : ℕ) → from ≤ number → number < next → get spaces number ≡ None))

-- no space has a number from `from` up to `at`
abbrev pub ArePassed : SpaceMap → ℕ → ℕ → Type 0
ArePassed spaces from at = (number : ℕ) → from ≤ number → number < at → get spaces number ≡ None

module _ (slots : SpaceSlots) (from at : ℕ) (passed : ArePassed (picked is slots) from at) where
  -- numbers without slots are skipped
  pub passed_on : (next : ℕ) → ((number : ℕ) → at ≤ number → number < next → get slots number ≡ None)
      → ArePassed (picked is slots) from next
  passed_on next none = λ number le below. less_or_not number at (get (picked is slots) number ≡ None)
      (λ less. passed number le less)
      (λ more. get_picked is slots number ∙ ap (option_and_then is) (none number more below))

  -- a slot without a space is skipped
  pub passed_slot : is_some (option_and_then is (get slots at)) ≡ false → ArePassed (picked is slots) from (at + 1)
  passed_slot gone = λ number le below. less_or_not number at (get (picked is slots) number ≡ None)
      (λ less. passed number le less)
      (λ more. ap (get (picked is slots)) (omega (arith, more, below)) ∙ get_picked is slots at
      ∙ nothing (option_and_then is (get slots at)) gone)
    where
      nothing : {X : Type 0} (o : Option X) → is_some o ≡ false → o ≡ None
      nothing None none = refl
      nothing (Some x) none = absurd (cc none)
