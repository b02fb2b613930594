-- Places by the number that each place has.
use Rattle.std.specs.Prelude.{◌≡◌, ℕ, ◌+◌, ◌*◌, ◌^◌, ◌<◌, ◌≤◌, Bool, true, false, Option, None, Some, MatchOption, is_some, refl}
use Rattle.std.specs.Coded.{Coded, code_by, coded_ℕ}
use Rattle.std.specs.Ordering.{nat_cmp}
use Rattle.std.specs.FinMap as map

-- a set of numbers
abbrev pub Numbers : Type 0
Numbers = map.FinMap {K = ℕ} nat_cmp (Unit {0})

abbrev pub coded_unit : Coded (Unit {0})
coded_unit = code_by ℕ coded_ℕ (λ _. 0) (λ _. tt) (λ _. refl)

-- a number and a place as one key; the places of one number are consecutive and ascend
abbrev pub key : ℕ → ℕ → ℕ
key number place = number * 2 ^ 64 + place

-- true if the place has the number
abbrev pub stands_at : Numbers → ℕ → ℕ → Bool
stands_at places number place = is_some (map.get places (key number place))

abbrev pub with_place : Numbers → Option ℕ → ℕ → Numbers
with_place places None place = places
with_place places (Some number) place = map.insert places (key number place) tt

abbrev pub without_place : Numbers → Option ℕ → ℕ → Numbers
without_place places None place = places
without_place places (Some number) place = map.remove places (key number place)

-- the index after a place changed its number
abbrev pub moved : Numbers → ℕ → Option ℕ → Option ℕ → Numbers
moved places place former number = with_place (without_place places former place) number place

-- the first place from a given one on that has the number
abbrev pub IsNext : Numbers → ℕ → ℕ → Option ℕ → Type 0
IsNext places number from found =
    MatchOption found ((place : ℕ) → from ≤ place → place < 2 ^ 64 → stands_at places number place ≡ false)
    (λ first. (from ≤ first) × (first < 2 ^ 64) × (stands_at places number first ≡ true)
    × ((place : ℕ) → from ≤ place → place < first → stands_at places number place ≡ false))
