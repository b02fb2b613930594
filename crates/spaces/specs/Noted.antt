-- The places of the names that changed.
use Rattle.std.proofs.Common.{◌≡◌, ℕ, ◌^◌, ◌<◌, ◌/◌, ◌%◌, Bool, true, false, cond, ◌&&◌, ◌||◌, List, [], ◌∷◌, ◌++◌, Option, None, Some, option_and_then, option_map, refl, sym, ◌∙◌, ap}
use Rattle.std.specs.Ordering.{nat_cmp, eq_by_cmp}
use Rattle.std.specs.FinMap.{get}
use Rattle.ipc_laws.specs.MapSums.{key_is}
use Rattle.ipc_model.specs.declared.entry.Entry.{Entry}
use Rattle.ipc_model.specs.state.Ipc.{Names}
use Rattle.spaces.specs.Laws.{get_names_changed}
use Rattle.spaces.specs.Looking.{entry_in, place, place_same}
use Rattle.spaces.specs.Slots.{SpaceMap, names_changed}
use Rattle.tracked_map.specs.Touched.{is_touched, touched_append}

-- the entry of the name at a place
abbrev pub entry_at_place : SpaceMap → ℕ → Option Entry
entry_at_place spaces number = entry_in spaces (number / 2 ^ 32) (number % 2 ^ 32)

-- each name whose place isn't in the list has the same entry as before
abbrev pub AreNoted : SpaceMap → SpaceMap → List ℕ → Type 0
AreNoted before current places =
    (number : ℕ) → is_touched number places ≡ false → entry_at_place current number ≡ entry_at_place before number

or_false : (a b : Bool) → (a || (b || false)) ≡ false → (a ≡ false) × (b ≡ false)
or_false true b e = absurd (cc e)
or_false false true e = absurd (cc e)
or_false false false e = (refl, refl)

-- nothing has changed
pub none_noted : (before current : SpaceMap) (places : List ℕ) → current ≡ before → AreNoted before current places
none_noted before current places same number off = ap (λ (s : SpaceMap). entry_at_place s number) same

-- spaces with the same entries
pub alike_noted : (before current after : SpaceMap) (places : List ℕ)
    → ((space name : ℕ) → entry_in current space name ≡ entry_in after space name) → AreNoted before current places
    → AreNoted before after places
alike_noted before current after places alike are number off =
    sym (alike (number / 2 ^ 32) (number % 2 ^ 32)) ∙ are number off

-- the former spaces are replaced by equal ones
pub before_noted : (before other current : SpaceMap) (places : List ℕ) → other ≡ before → AreNoted before current places
    → AreNoted other current places
before_noted before other current places same are number off =
    are number off ∙ ap (λ (s : SpaceMap). entry_at_place s number) (sym same)

-- one name of a space has changed
pub one_noted : (before current after : SpaceMap) (places then : List ℕ) (space name : ℕ) (change : Names → Names)
    (o : Option Entry) → name < 2 ^ 32
    → ((names : Names) (n : ℕ) → get (change names) n ≡ cond (eq_by_cmp nat_cmp n name) o (get names n))
    → after ≡ names_changed current space change → then ≡ places ++ place space name ∷ []
    → AreNoted before current places → AreNoted before after then
one_noted before current after places then space name change o small changed is noted are number off =
    ap (λ (s : SpaceMap). entry_at_place s number) is
    ∙ ap (option_and_then (λ (names : Names). get names (number % 2 ^ 32)))
    (get_names_changed current space change (number / 2 ^ 32) (get current space) refl)
    ∙ go (eq_by_cmp nat_cmp (number / 2 ^ 32) space) refl
    ∙ are number parts.0
  where
    parts : (is_touched number places ≡ false) × (eq_by_cmp nat_cmp number (place space name) ≡ false)
    parts =
        or_false (is_touched number places) (eq_by_cmp nat_cmp number (place space name))
        (sym (ap (is_touched number) noted ∙ touched_append number places (place space name ∷ [])) ∙ off)

    apart : eq_by_cmp nat_cmp (number / 2 ^ 32) space ≡ true → eq_by_cmp nat_cmp (number % 2 ^ 32) name ≡ false
    apart first =
        sym (ap (λ (b : Bool). b && eq_by_cmp nat_cmp (number % 2 ^ 32) name) first)
        ∙ sym (place_same number space name small) ∙ parts.1

    there : (m : Option Names) → eq_by_cmp nat_cmp (number / 2 ^ 32) space ≡ true
        → option_and_then (λ (names : Names). get names (number % 2 ^ 32)) (option_map change m) ≡ option_and_then
        (λ (names : Names). get names (number % 2 ^ 32)) m
    there None first = refl
    there (Some names) first =
        changed names (number % 2 ^ 32) ∙ ap (λ (b : Bool). cond b o (get names (number % 2 ^ 32))) (apart first)

    go : (b : Bool) → eq_by_cmp nat_cmp (number / 2 ^ 32) space ≡ b
        → option_and_then (λ (names : Names). get names (number % 2 ^ 32))
        (cond b (option_map change (get current space)) (get current (number / 2 ^ 32)))
        ≡ entry_at_place current number
    go true same =
        there (get current space) same ∙ ap
        (λ (k : ℕ). option_and_then (λ (names : Names). get names (number % 2 ^ 32)) (get current k))
        (sym (key_is (number / 2 ^ 32) space same))
    go false _ = refl
