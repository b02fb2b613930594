-- Places: a space and a name as one number.
use Rattle.std.proofs.Common.{◌≡◌, ℕ, ◌+◌, ◌*◌, ◌^◌, ◌<◌, ◌/◌, ◌%◌, Bool, true, false, cond, ◌&&◌, Option, None, Some, option_map, option_and_then, refl, sym, ◌∙◌, ap, arith}
use Rattle.std.specs.Prelude.{if◌then◌else◌}
use Rattle.std.specs.Ordering.{nat_cmp, eq_by_cmp}
use Rattle.std.specs.FinMap.{get}
use Rattle.ipc_laws.specs.MapSums.{key_is, same_key}
use Rattle.ipc_model.specs.declared.entry.Entry.{Entry}
use Rattle.ipc_model.specs.declared.entry.Entry.TheVariants.{Port, SendOnce, Set, Dead}
use Rattle.ipc_model.specs.state.Ipc.{Names}
use Rattle.spaces.specs.Laws.{get_names_changed}
use Rattle.spaces.specs.Slots.{SpaceMap, SpaceSlot, SpaceSlots, is, names_changed, stood_at}
use Rattle.tracked_map.specs.Slots.{get_picked, picked}

-- the entry of a name in a space
abbrev pub entry_in : SpaceMap → ℕ → ℕ → Option Entry
entry_in spaces space name = option_and_then (λ names. get names name) (get spaces space)

-- the entry of a name, from the slots of the spaces
pub stood_is : (slots : SpaceSlots) (space name : ℕ) → stood_at slots space name ≡ entry_in (picked is slots) space name
stood_is slots space name =
    go (get slots space) ∙ sym (ap (option_and_then (λ (names : Names). get names name)) (get_picked is slots space))
  where
    go : (o : Option SpaceSlot) → option_and_then
        (λ (slot : SpaceSlot). option_and_then (λ (names : Names). get names name) slot.current) o ≡ option_and_then
        (λ (names : Names). get names name) (option_and_then is o)
    go None = refl
    go (Some slot) = refl

-- the port of an entry's right
abbrev pub port_named : Entry → Option ℕ
port_named (Port rights) = Some rights.port
port_named (SendOnce port target) = Some port
port_named Set = None
port_named (Dead references) = None

-- the port of an entry's right, if the entry doesn't hold the receive right
abbrev pub port_shared : Entry → Option ℕ
port_shared (Port rights) = if rights.receive then None else Some rights.port
port_shared (SendOnce port target) = Some port
port_shared Set = None
port_shared (Dead references) = None

-- the place of a name in a space
abbrev pub place : ℕ → ℕ → ℕ
place space name = space * 2 ^ 32 + name

-- the value that a function gives for the entry at a place
abbrev pub at_place : (Entry → Option ℕ) → SpaceMap → ℕ → Option ℕ
at_place look spaces number = option_and_then look (entry_in spaces (number / 2 ^ 32) (number % 2 ^ 32))

pub parts : (q : ℕ) → (q ≡ (q / 2 ^ 32) * 2 ^ 32 + q % 2 ^ 32) × (q % 2 ^ 32 < 2 ^ 32)
parts q = (omega arith, omega arith)

pub parts_of : (space name : ℕ) → name < 2 ^ 32 → ((place space name) / 2 ^ 32 ≡ space)
    × ((place space name) % 2 ^ 32 ≡ name)
parts_of space name small = (omega (arith, small), omega (arith, small))

pub place_same : (q space name : ℕ) → name < 2 ^ 32
    → eq_by_cmp nat_cmp q (place space name)
    ≡ (eq_by_cmp nat_cmp (q / 2 ^ 32) space && eq_by_cmp nat_cmp (q % 2 ^ 32) name)
place_same q space name small =
    go (eq_by_cmp nat_cmp q (place space name)) refl (eq_by_cmp nat_cmp (q / 2 ^ 32) space) refl
    (eq_by_cmp nat_cmp (q % 2 ^ 32) name) refl
  where
    apart : eq_by_cmp nat_cmp (q / 2 ^ 32) space ≡ true → eq_by_cmp nat_cmp (q % 2 ^ 32) name ≡ true
        → q ≡ place space name
    apart first second =
        let p = parts q in let s = key_is (q / 2 ^ 32) space first in let n = key_is (q % 2 ^ 32) name second in
        omega (arith, p.0, s, n)

    whole_first : q ≡ place space name → q / 2 ^ 32 ≡ space
    whole_first e = ap (λ (k : ℕ). k / 2 ^ 32) e ∙ (parts_of space name small).0

    whole_second : q ≡ place space name → q % 2 ^ 32 ≡ name
    whole_second e = ap (λ (k : ℕ). k % 2 ^ 32) e ∙ (parts_of space name small).1

    go : (k : Bool) → eq_by_cmp nat_cmp q (place space name) ≡ k → (a : Bool) → eq_by_cmp nat_cmp (q / 2 ^ 32) space ≡ a
        → (b : Bool) → eq_by_cmp nat_cmp (q % 2 ^ 32) name ≡ b → k ≡ (a && b)
    go true whole true first true second = refl
    go false whole true first true second =
        absurd (cc (sym whole ∙ ap (λ (k : ℕ). eq_by_cmp nat_cmp k (place space name)) (apart first second)
        ∙ same_key (place space name)))
    go true whole false first b second =
        absurd (cc (sym first ∙ ap (λ (k : ℕ). eq_by_cmp nat_cmp k space) (whole_first (key_is _ _ whole))
        ∙ same_key space))
    go true whole true first false second =
        absurd (cc (sym second ∙ ap (λ (k : ℕ). eq_by_cmp nat_cmp k name) (whole_second (key_is _ _ whole))
        ∙ same_key name))
    go false whole false first b second = refl
    go false whole true first false second = refl

-- the entry at one place changed
pub place_changed : (look : Entry → Option ℕ) (spaces : SpaceMap) (space name : ℕ) (names : Names)
    (change : Names → Names) (o : Option Entry) → name < 2 ^ 32 → get spaces space ≡ Some names
    → ((n : ℕ) → get (change names) n ≡ cond (eq_by_cmp nat_cmp n name) o (get names n))
    → (q : ℕ) → at_place look (names_changed spaces space change) q
    ≡ cond (eq_by_cmp nat_cmp q (place space name)) (option_and_then look o) (at_place look spaces q)
place_changed look spaces space name names change o small there changed q =
    ap (λ (n : Option Names). option_and_then look (option_and_then (λ names. get names (q % 2 ^ 32)) n))
    (get_names_changed spaces space change (q / 2 ^ 32) (get spaces space) refl ∙ ap
    (λ (n : Option Names). cond (eq_by_cmp nat_cmp (q / 2 ^ 32) space) (option_map change n)
    (get spaces (q / 2 ^ 32))) there)
    ∙ go (eq_by_cmp nat_cmp (q / 2 ^ 32) space) refl
    ∙ ap (λ (b : Bool). cond b (option_and_then look o) (at_place look spaces q)) (sym (place_same q space name small))
  where
    inner : (b : Bool) → option_and_then look (cond b o (get names (q % 2 ^ 32)))
        ≡ cond b (option_and_then look o) (option_and_then look (get names (q % 2 ^ 32)))
    inner true = refl
    inner false = refl

    go : (a : Bool) → eq_by_cmp nat_cmp (q / 2 ^ 32) space ≡ a
        → option_and_then look (option_and_then
        (λ names. get names (q % 2 ^ 32)) (cond a (Some (change names)) (get spaces (q / 2 ^ 32))))
        ≡ cond (a && eq_by_cmp nat_cmp (q % 2 ^ 32) name) (option_and_then look o) (at_place look spaces q)
    go true same =
        ap (option_and_then look) (changed (q % 2 ^ 32)) ∙ inner (eq_by_cmp nat_cmp (q % 2 ^ 32) name)
        ∙ ap (cond (eq_by_cmp nat_cmp (q % 2 ^ 32) name) (option_and_then look o))
        (sym (ap (λ (n : Option Names). option_and_then look (option_and_then (λ names. get names (q % 2 ^ 32)) n))
        (ap (get spaces) (key_is (q / 2 ^ 32) space same) ∙ there)))
    go false _ = refl
