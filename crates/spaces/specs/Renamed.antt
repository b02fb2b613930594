-- The entry of one name of a space, moved to another name.
use Rattle.std.proofs.Common.{◌≡◌, ℕ, ◌-◌, ◌<◌, ◌≤◌, Bool, true, false, cond, Option, None, Some, is_some, option_and_then, refl, sym, ◌∙◌, ap, subst, arith}
use Rattle.std.specs.Cmp.{nat_cmp_total}
use Rattle.std.specs.Ordering.{nat_cmp, eq_by_cmp}
use Rattle.std.specs.FinMap.{empty, get, insert, remove, len, get-remove, len-remove, same_map, nat_cmp-IsAntisymmetric}
use Rattle.codes.specs.declared.limits.TheConstants.{MAX_NAMES}
use Rattle.ipc_laws.specs.ListLaws.{some_same}
use Rattle.ipc_laws.specs.MapLaws.{get-here}
use Rattle.ipc_laws.specs.MapSums.{insert-insert, insert-same, key_is}
use Rattle.ipc_model.specs.declared.entry.Entry.{Entry}
use Rattle.ipc_model.specs.state.Ipc.{Names}
use Rattle.port_space.specs.Renaming.{under_other_name}
use Rattle.spaces.specs.Laws.{changed_absent, changed_there}
use Rattle.spaces.specs.Looking.{entry_in}
use Rattle.spaces.specs.Reading.{names_of}
use Rattle.spaces.specs.Slots.{SpaceMap, names_changed}

-- A name is removed, and its entry is put under another name.
pub renamed : (spaces : SpaceMap) (space from to : ℕ) (entry : Entry) → entry_in spaces space from ≡ Some entry
    → names_changed (names_changed spaces space (λ names. remove names from)) space (λ names. insert names to entry)
    ≡ names_changed spaces space (λ names. under_other_name names from to)
renamed spaces space from to entry stands = go (get spaces space) refl
  where
    go : (o : Option Names) → get spaces space ≡ o
        → names_changed (names_changed spaces space (λ names. remove names from)) space (λ names. insert names to entry)
        ≡ names_changed spaces space (λ names. under_other_name names from to)
    go None at = absurd (cc (sym stands ∙ ap (option_and_then (λ (n : Names). get n from)) at))
    go (Some names) at =
        let here : get names from ≡ Some entry = sym (ap (option_and_then (λ (n : Names). get n from)) at) ∙ stands in
        let other : Names = insert (remove names from) to entry in
        ap (λ (s : SpaceMap). names_changed s space (λ names. insert names to entry))
        (changed_there spaces space (λ names. remove names from) names at)
        ∙ changed_there (insert spaces space (remove names from)) space
        (λ names. insert names to entry) (remove names from) (get-here spaces space (remove names from))
        ∙ insert-insert spaces space (remove names from) other
        ∙ sym (changed_there spaces space (λ names. under_other_name names from to) names at ∙ ap
        (λ (o : Option Entry). insert spaces space
        (elim o as (λ _. Names) [ None ↦ names | Some e ↦ insert (remove names from) to e ])) here)

pub not_renamed : (spaces : SpaceMap) (space from to : ℕ) → entry_in spaces space from ≡ None
    → spaces ≡ names_changed spaces space (λ names. under_other_name names from to)
not_renamed spaces space from to nothing = go (get spaces space) refl
  where
    go : (o : Option Names) → get spaces space ≡ o
        → spaces ≡ names_changed spaces space (λ names. under_other_name names from to)
    go None at = sym (changed_absent spaces space (λ names. under_other_name names from to) at)
    go (Some names) at =
        let here : get names from ≡ None = sym (ap (option_and_then (λ (n : Names). get n from)) at) ∙ nothing in
        sym (changed_there spaces space (λ names. under_other_name names from to) names at ∙ ap
        (λ (o : Option Entry). insert spaces space
        (elim o as (λ _. Names) [ None ↦ names | Some e ↦ insert (remove names from) to e ])) here
        ∙ insert-same spaces space names at)

-- Removing a name that isn't in use changes nothing.
nothing_removed : (names : Names) (name : ℕ) → get names name ≡ None → remove names name ≡ names
nothing_removed names name none =
    same_map nat_cmp_total nat_cmp-IsAntisymmetric _ _
    (λ q. get-remove nat_cmp_total names name q ∙ go q (eq_by_cmp nat_cmp q name) refl)
  where
    go : (q : ℕ) (b : Bool) → eq_by_cmp nat_cmp q name ≡ b → cond b None (get names q) ≡ get names q
    go q true same = sym (ap (get names) (key_is q name same) ∙ none)
    go q false _ = refl

pub none_removed : (spaces : SpaceMap) (space name : ℕ) → entry_in spaces space name ≡ None
    → names_changed spaces space (λ names. remove names name) ≡ spaces
none_removed spaces space name nothing = go (get spaces space) refl
  where
    go : (o : Option Names) → get spaces space ≡ o → names_changed spaces space (λ names. remove names name) ≡ spaces
    go None at = changed_absent spaces space (λ names. remove names name) at
    go (Some names) at =
        let here : get names name ≡ None = sym (ap (option_and_then (λ (n : Names). get n name)) at) ∙ nothing in
        changed_there spaces space (λ names. remove names name) names at
        ∙ ap (insert spaces space) (nothing_removed names name here) ∙ insert-same spaces space names at

-- If a name is removed, there is room for another one.
pub room_left : (spaces : SpaceMap) (space from : ℕ) (entry : Entry) (names : Names)
    → entry_in spaces space from ≡ Some entry
    → get (names_changed spaces space (λ ns. remove ns from)) space ≡ Some names
    → len (names_of spaces space) ≤ MAX_NAMES → len names < MAX_NAMES
room_left spaces space from entry names stood there few = go (get spaces space) refl
  where
    go : (o : Option Names) → get spaces space ≡ o → len names < MAX_NAMES
    go None at = absurd (cc (sym stood ∙ ap (option_and_then (λ (n : Names). get n from)) at))
    go (Some former) at =
        let same : names ≡ remove former from =
        some_same names (remove former from)
        (sym there ∙ ap (λ (s : SpaceMap). get s space)
        (changed_there spaces space (λ ns. remove ns from) former at)
        ∙ get-here spaces space (remove former from)) in
        let had : get former from ≡ Some entry = sym (ap (option_and_then (λ (n : Names). get n from)) at) ∙ stood in
        let less : len (remove former from) ≡ len former - 1 =
        len-remove nat_cmp_total former from ∙ ap
        (λ (e : Option Entry). cond (is_some e) (len former - 1) (len former)) had in
        let many : len (names_of spaces space) ≡ len former =
        ap (λ (o : Option Names). len (elim o as (λ _. Names) [ None ↦ empty | Some n ↦ n ])) at in
        let fewer : len (remove former from) < MAX_NAMES = omega (arith, less, many, few) in
        subst (λ (n : Names). len n < MAX_NAMES) (sym same) fewer
