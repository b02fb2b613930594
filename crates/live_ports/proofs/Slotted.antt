-- The effect of a change of one slot on the ports before and now.
use Rattle.std.proofs.Common.{OnOk, IfSome, ◌<◌, ◌≤◌, ◌-◌, ◌^◌, ◌≡◌, ℕ, cond, true, false, Bool, List, [], ◌∷◌, ◌++◌, length, Option, None, Some, option_map, OnErr, Result, Ok, Err, refl, sym, ◌∙◌, ap, subst, arith}
use Rattle.std.specs.Prelude.{option_and_then}
use Rattle.std.specs.Cmp.{nat_cmp_total}
use Rattle.std.specs.Ordering.{nat_cmp, eq_by_cmp}
use Rattle.std.specs.FinMap.{empty, get, insert, remove, get-empty, get-insert, get-remove, same_map, nat_cmp-IsAntisymmetric}
use Rattle.ipc_model.specs.declared.port.PortState.{PortState}
use Rattle.ipc_laws.specs.MapSums.{key_is}
use Rattle.tracked_map.specs.Slots.{picked, get_picked, picked_put}
use Rattle.live_ports.specs.Changed.{changed, messages_in}
use Rattle.live_ports.specs.PortSlot.{PortSlot}
use Rattle.live_ports.specs.Seen.{Ports}
use Rattle.live_ports.specs.SeenLaws.{get_changed}
use Rattle.live_ports.specs.Tables.{Slots, before_of, current_of, former_ports, present_ports, slot_changed, present_changed, buried, committed_slot, rolled_back_slot, AreMarked}
use Rattle.live_ports.specs.Touched.{IsSettling, touched_more, touched_none, touched_put}

same : (m n : Ports) → ((q : ℕ) → get m q ≡ get n q) → m ≡ n
same m n alike = same_map nat_cmp_total nat_cmp-IsAntisymmetric m n alike

-- the value of a serial
pub present_at : (slots : Slots) (k : ℕ) (found : Option PortSlot) → found ≡ get slots k
    → option_and_then current_of found ≡ get (present_ports slots) k
present_at slots k found is = ap (option_and_then current_of) is ∙ sym (get_picked current_of slots k)

pub settles_committed : IsSettling before_of current_of current_of committed_slot
settles_committed = record { was = λ _. refl; is = λ _. refl; seen = λ _. refl }

pub settles_rolled_back : IsSettling before_of current_of before_of rolled_back_slot
settles_rolled_back = record { was = λ _. refl; is = λ _. refl; seen = λ _. refl }

pub none_left : (slots : Slots) (rest : List ℕ) → length rest ≡ 0 → AreMarked slots rest → AreMarked slots []
none_left slots [] none still = still
none_left slots (k ∷ rest) none still = absurd (omega (arith, none))

pub get_slot : (slots : Slots) (k : ℕ) (f : PortSlot → PortSlot) (q : ℕ)
    → get (slot_changed slots k f) q ≡ cond (eq_by_cmp nat_cmp q k) (option_map f (get slots k)) (get slots q)
get_slot slots k f q = by (get slots k) refl
  where
    at : (b : Bool) → eq_by_cmp nat_cmp q k ≡ b → get slots k ≡ None → get slots q ≡ cond b None (get slots q)
    at true is none = ap (get slots) (key_is q k is) ∙ none
    at false is none = refl

    by : (o : Option PortSlot) → get slots k ≡ o
        → get (elim o as (λ _. Slots) [ None ↦ slots | Some slot ↦ insert slots k (f slot) ]) q
        ≡ cond (eq_by_cmp nat_cmp q k) (option_map f o) (get slots q)
    by None is = at (eq_by_cmp nat_cmp q k) refl is
    by (Some slot) is = get-insert nat_cmp_total slots k (f slot) q

-- the value that `look` gives after a slot is changed
look_changed : (look : PortSlot → Option PortState) (f : PortSlot → PortSlot) (g : Option PortState → Option PortState)
    → g None ≡ None → ((slot : PortSlot) → look (f slot) ≡ g (look slot)) → (slots : Slots) (k q : ℕ)
    → get (picked look (slot_changed slots k f)) q
    ≡ cond (eq_by_cmp nat_cmp q k) (g (get (picked look slots) k)) (get (picked look slots) q)
look_changed look f g nothing sees slots k q =
    get_picked look (slot_changed slots k f) q ∙ ap (option_and_then look) (get_slot slots k f q)
    ∙ at (eq_by_cmp nat_cmp q k)
    ∙ sym (λ i. cond (eq_by_cmp nat_cmp q k) (g (get_picked look slots k i)) (get_picked look slots q i))
  where
    here : (o : Option PortSlot) → option_and_then look (option_map f o) ≡ g (option_and_then look o)
    here None = sym nothing
    here (Some slot) = sees slot

    at : (b : Bool) → option_and_then look (cond b (option_map f (get slots k)) (get slots q))
        ≡ cond b (g (option_and_then look (get slots k))) (option_and_then look (get slots q))
    at true = here (get slots k)
    at false = refl

pub present_as : (slots next : Slots) (k : ℕ) (g : PortState → PortState)
    → next ≡ slot_changed slots k (present_changed g) → present_ports next ≡ changed (present_ports slots) k g
present_as slots next k g at =
    ap present_ports at ∙ same _ _
    (λ q. look_changed current_of (present_changed g) (option_map g) refl (λ _. refl) slots k q
    ∙ sym (get_changed (present_ports slots) k g q))

pub present_buried : (slots next : Slots) (k : ℕ) → next ≡ slot_changed slots k buried
    → present_ports next ≡ remove (present_ports slots) k
present_buried slots next k at =
    ap present_ports at ∙ same _ _
    (λ q. look_changed current_of buried (λ _. None) refl (λ _. refl) slots k q
    ∙ sym (get-remove nat_cmp_total (present_ports slots) k q))

pub former_same : (slots next : Slots) (k : ℕ) (f : PortSlot → PortSlot)
    → ((slot : PortSlot) → (f slot).before ≡ slot.before) → next ≡ slot_changed slots k f
    → former_ports next ≡ former_ports slots
former_same slots next k f stays at =
    ap former_ports at ∙ same _ _ (λ q. look_changed before_of f (λ o. o) refl stays slots k q
    ∙ by q (eq_by_cmp nat_cmp q k) refl)
  where
    by : (q : ℕ) (b : Bool) → eq_by_cmp nat_cmp q k ≡ b
        → cond b (get (former_ports slots) k) (get (former_ports slots) q) ≡ get (former_ports slots) q
    by q true is = ap (get (former_ports slots)) (sym (key_is q k is))
    by q false is = refl

pub marked_changed : (slots next : Slots) (touched more : List ℕ) (k : ℕ) (f : PortSlot → PortSlot)
    → next ≡ slot_changed slots k f → more ≡ touched ++ k ∷ [] → AreMarked slots touched → AreMarked next more
marked_changed slots next touched more k f at noted still =
    subst (AreMarked next) (sym noted)
    (subst (λ (m : Slots). AreMarked m (touched ++ k ∷ [])) (sym at) (by (get slots k)))
  where
    by : (o : Option PortSlot) → AreMarked
        (elim o as (λ _. Slots) [ None ↦ slots | Some slot ↦ insert slots k (f slot) ]) (touched ++ k ∷ [])
    by None = touched_more before_of current_of slots touched k still
    by (Some slot) = touched_put before_of current_of slots touched k (f slot) still

pub marked_noted : (slots next : Slots) (touched more : List ℕ) (k : ℕ) → next ≡ slots → more ≡ touched ++ k ∷ []
    → AreMarked slots touched → AreMarked next more
marked_noted slots next touched more k at noted still =
    subst (AreMarked next) (sym noted)
    (subst (λ (m : Slots). AreMarked m (touched ++ k ∷ [])) (sym at)
    (touched_more before_of current_of slots touched k still))

-- a port is added
pub present_born : (slots next : Slots) (k : ℕ) (port : PortState)
    → next ≡ insert slots k (record { before = None; current = Some port })
    → present_ports next ≡ insert (present_ports slots) k port
present_born slots next k port at =
    ap present_ports at ∙ picked_put current_of slots k (record { before = None; current = Some port })

pub former_born : (slots next : Slots) (k : ℕ) (port : PortState)
    → next ≡ insert slots k (record { before = None; current = Some port }) → get (former_ports slots) k ≡ None
    → former_ports next ≡ former_ports slots
former_born slots next k port at unborn =
    ap former_ports at ∙ picked_put before_of slots k (record { before = None; current = Some port }) ∙ same _ _
    (λ q. get-remove nat_cmp_total (former_ports slots) k q ∙ by q (eq_by_cmp nat_cmp q k) refl)
  where
    by : (q : ℕ) (b : Bool) → eq_by_cmp nat_cmp q k ≡ b
        → cond b None (get (former_ports slots) q) ≡ get (former_ports slots) q
    by q true is = sym (ap (get (former_ports slots)) (key_is q k is) ∙ unborn)
    by q false is = refl

pub marked_born : (slots next : Slots) (touched more : List ℕ) (k : ℕ) (slot : PortSlot) → next ≡ insert slots k slot
    → more ≡ touched ++ k ∷ [] → AreMarked slots touched → AreMarked next more
marked_born slots next touched more k slot at noted still =
    subst (AreMarked next) (sym noted)
    (subst (λ (m : Slots). AreMarked m (touched ++ k ∷ [])) (sym at)
    (touched_put before_of current_of slots touched k slot still))

pub either : {A B C D E : Type 0} (result : Result A B) → OnOk result C → OnErr result D → (C → E) → (D → E) → E
either (Ok x) done undone f g = f done
either (Err e) done undone f g = g undone

pub nothing_there : (look : PortSlot → Option PortState) (slots : Slots) → slots ≡ empty → picked look slots ≡ empty
nothing_there look slots none =
    same _ _ (λ q. get_picked look slots q ∙ ap (λ (m : Slots). option_and_then look (get m q)) none
    ∙ ap (option_and_then look) (get-empty nat_cmp q) ∙ sym (get-empty nat_cmp q))

pub nothing_marked : (slots : Slots) (touched : List ℕ) → slots ≡ empty → AreMarked slots touched
nothing_marked slots touched none =
    touched_none before_of current_of slots touched (λ q. ap (λ (m : Slots). get m q) none ∙ get-empty nat_cmp q)

pub pushed_ok : {A B C D : Type 0} (result : Result A B) → OnOk result C → (C → D) → OnOk result D
pushed_ok (Ok x) done f = f done
pushed_ok (Err e) done f = tt

pub pushed_room : {A B : Type 0} (result : Result A B) (slots : Slots) (k : ℕ)
    → OnOk result (IfSome (option_and_then current_of (get slots k)) (λ port. length port.messages < 2 ^ 32 - 1))
    → OnOk result (IfSome (get (present_ports slots) k) (λ port. length port.messages < 2 ^ 32 - 1))
pushed_room result slots k room =
    pushed_ok result room (λ r. subst
    (λ (o : Option PortState). IfSome o (λ port. length port.messages < 2 ^ 32 - 1))
    (sym (get_picked current_of slots k)) r)

-- a port that isn't live has no messages
pub nothing_at : (o : Option PortState) (index : ℕ) → o ≡ None → length (messages_in o) ≤ index
nothing_at o index none = omega (arith, ap (λ (p : Option PortState). length (messages_in p)) none)
