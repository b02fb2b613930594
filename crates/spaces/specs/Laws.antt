-- The spaces after a slot has changed.
use Rattle.std.proofs.Common.{◌≡◌, ℕ, zero, suc, ◌<◌, ◌+◌, ◌-◌, Bool, true, false, cond, List, [], ◌∷◌, ◌++◌, Option, None, Some, is_some, option_map, option_and_then, refl, sym, ◌∙◌, ap, subst, arith}
use Rattle.std.specs.Cmp.{nat_cmp_total}
use Rattle.std.specs.Ordering.{nat_cmp, eq_by_cmp}
use Rattle.std.specs.FinMap.{empty_of_len, get, insert, remove, empty, len, get-empty, get-insert, get-remove, len-insert, len-remove, same_map, nat_cmp-IsAntisymmetric}
use Rattle.ipc_laws.specs.MapSums.{key_is}
use Rattle.ipc_model.specs.state.Ipc.{Names}
use Rattle.tracked_map.specs.Slots.{picked, get_picked}
use Rattle.tracked_map.specs.Touched.{AreTouched, all_alike, exchanged, none_touched, put_touched, one_touched, last_is_touched}
use Rattle.spaces.specs.Slots.{SpaceSlot, SpaceSlots, SpaceMap, TrackedSpaces, was, is, rolled_back_slot, slot_changed, slot_opened, names_changed}

alike : (m n : SpaceMap) → ((q : ℕ) → get m q ≡ get n q) → m ≡ n
alike m n each = same_map nat_cmp_total nat_cmp-IsAntisymmetric m n each

get_changed : (slots : SpaceSlots) (key : ℕ) (change : SpaceSlot → SpaceSlot) (q : ℕ) (o : Option SpaceSlot)
    → get slots key ≡ o → get (slot_changed slots key change) q
    ≡ cond (eq_by_cmp nat_cmp q key) (option_map change o) (get slots q)
get_changed slots key change q None at =
    ap (λ (o : Option SpaceSlot). get
    (elim o as (λ _. SpaceSlots) [ None ↦ slots | Some slot ↦ insert slots key (change slot) ]) q) at
    ∙ go (eq_by_cmp nat_cmp q key) refl
  where
    go : (b : Bool) → eq_by_cmp nat_cmp q key ≡ b → get slots q ≡ cond b None (get slots q)
    go true same = ap (get slots) (key_is q key same) ∙ at
    go false _ = refl
get_changed slots key change q (Some slot) at =
    ap (λ (o : Option SpaceSlot). get
    (elim o as (λ _. SpaceSlots) [ None ↦ slots | Some slot ↦ insert slots key (change slot) ]) q) at
    ∙ get-insert nat_cmp_total slots key (change slot) q

pub get_names_changed : (spaces : SpaceMap) (space : ℕ) (change : Names → Names) (q : ℕ) (o : Option Names)
    → get spaces space ≡ o → get (names_changed spaces space change) q
    ≡ cond (eq_by_cmp nat_cmp q space) (option_map change o) (get spaces q)
get_names_changed spaces space change q None at =
    ap (λ (o : Option Names). get (elim o as (λ _. SpaceMap)
    [ None ↦ spaces | Some names ↦ insert spaces space (change names) ]) q) at ∙ go (eq_by_cmp nat_cmp q space) refl
  where
    go : (b : Bool) → eq_by_cmp nat_cmp q space ≡ b → get spaces q ≡ cond b None (get spaces q)
    go true same = ap (get spaces) (key_is q space same) ∙ at
    go false _ = refl
get_names_changed spaces space change q (Some names) at =
    ap (λ (o : Option Names). get (elim o as (λ _. SpaceMap)
    [ None ↦ spaces | Some names ↦ insert spaces space (change names) ]) q) at
    ∙ get-insert nat_cmp_total spaces space (change names) q

-- the spaces after the names of one have changed, if it exists, and if it doesn't
pub changed_there : (spaces : SpaceMap) (space : ℕ) (change : Names → Names) (names : Names)
    → get spaces space ≡ Some names → names_changed spaces space change ≡ insert spaces space (change names)
changed_there spaces space change names at =
    ap (λ (o : Option Names). elim o as (λ _. SpaceMap) [ None ↦ spaces | Some n ↦ insert spaces space (change n) ]) at

pub changed_absent : (spaces : SpaceMap) (space : ℕ) (change : Names → Names) → get spaces space ≡ None
    → names_changed spaces space change ≡ spaces
changed_absent spaces space change at =
    ap (λ (o : Option Names). elim o as (λ _. SpaceMap) [ None ↦ spaces | Some n ↦ insert spaces space (change n) ]) at

module _ (slots : SpaceSlots) (key : ℕ) (change : SpaceSlot → SpaceSlot) (look : SpaceSlot → Option Names) where
  -- a change that doesn't affect the value of `look`
  pub looks_same : ((s : SpaceSlot) → look (change s) ≡ look s)
      → picked look (slot_changed slots key change) ≡ picked look slots
  looks_same unseen =
      alike _ _ (λ q. get_picked look (slot_changed slots key change) q
      ∙ ap (option_and_then look) (get_changed slots key change q (get slots key) refl)
      ∙ go q (eq_by_cmp nat_cmp q key) refl ∙ sym (get_picked look slots q))
    where
      one : (o : Option SpaceSlot) → option_and_then look (option_map change o) ≡ option_and_then look o
      one None = refl
      one (Some s) = unseen s

      go : (q : ℕ) (b : Bool) → eq_by_cmp nat_cmp q key ≡ b
          → option_and_then look (cond b (option_map change (get slots key)) (get slots q))
          ≡ option_and_then look (get slots q)
      go q true same =
          one (get slots key) ∙ ap (λ (k : ℕ). option_and_then look (get slots k)) (sym (key_is q key same))
      go q false _ = refl

  -- a change of the names that affects the value of `look`
  pub looks_changed : (names : Names → Names) → ((s : SpaceSlot) → look (change s) ≡ option_map names (look s))
      → picked look (slot_changed slots key change) ≡ names_changed (picked look slots) key names
  looks_changed names seen = alike _ _ (λ q.
      get_picked look (slot_changed slots key change) q
      ∙ ap (option_and_then look) (get_changed slots key change q (get slots key) refl)
      ∙ go q (eq_by_cmp nat_cmp q key) refl
      ∙ sym (get_names_changed (picked look slots) key names q (get (picked look slots) key) refl ∙ ap
      (λ (o : Option Names). cond (eq_by_cmp nat_cmp q key) (option_map names o) (get (picked look slots) q))
      (get_picked look slots key)
      ∙ ap (cond (eq_by_cmp nat_cmp q key) (option_map names (option_and_then look (get slots key))))
      (get_picked look slots q)))
    where
      one : (o : Option SpaceSlot) → option_and_then look (option_map change o)
          ≡ option_map names (option_and_then look o)
      one None = refl
      one (Some s) = seen s

      go : (q : ℕ) (b : Bool) → eq_by_cmp nat_cmp q key ≡ b
          → option_and_then look (cond b (option_map change (get slots key)) (get slots q))
          ≡ cond b (option_map names (option_and_then look (get slots key))) (option_and_then look (get slots q))
      go q true _ = one (get slots key)
      go q false _ = refl

  -- a change after which `look` gives None
  pub looks_gone : ((s : SpaceSlot) → look (change s) ≡ None)
      → picked look (slot_changed slots key change) ≡ remove (picked look slots) key
  looks_gone gone = alike _ _ (λ q.
      get_picked look (slot_changed slots key change) q
      ∙ ap (option_and_then look) (get_changed slots key change q (get slots key) refl)
      ∙ go q (eq_by_cmp nat_cmp q key) refl
      ∙ sym (get-remove nat_cmp_total (picked look slots) key q
      ∙ ap (cond (eq_by_cmp nat_cmp q key) None) (get_picked look slots q)))
    where
      one : (o : Option SpaceSlot) → option_and_then look (option_map change o) ≡ None
      one None = refl
      one (Some s) = gone s

      go : (q : ℕ) (b : Bool) → eq_by_cmp nat_cmp q key ≡ b
          → option_and_then look (cond b (option_map change (get slots key)) (get slots q))
          ≡ cond b None (option_and_then look (get slots q))
      go q true _ = one (get slots key)
      go q false _ = refl

-- only the touched slots have changed
pub changed_touched : (slots : SpaceSlots) (touched longer : List ℕ) (key : ℕ) (change : SpaceSlot → SpaceSlot)
    → longer ≡ touched ++ key ∷ [] → AreTouched was is slots touched
    → AreTouched was is (slot_changed slots key change) longer
changed_touched slots touched longer key change more are =
    subst (AreTouched was is (slot_changed slots key change)) (sym more) (go (get slots key))
  where
    whole : AreTouched was is slots (touched ++ key ∷ [])
    whole = one_touched was is slots touched key are

    go : (o : Option SpaceSlot) → AreTouched was is
        (elim o as (λ _. SpaceSlots) [ None ↦ slots | Some slot ↦ insert slots key (change slot) ])
        (touched ++ key ∷ [])
    go None = whole
    go (Some slot) =
        put_touched was is slots (touched ++ key ∷ []) key (change slot) (last_is_touched was is touched key) whole

pub opened_touched : (slots : SpaceSlots) (touched longer : List ℕ) (key : ℕ) → longer ≡ touched ++ key ∷ []
    → AreTouched was is slots touched → AreTouched was is (slot_opened slots key) longer
opened_touched slots touched longer key more are =
    subst (AreTouched was is (slot_opened slots key)) (sym more) (go (get slots key))
  where
    whole : AreTouched was is slots (touched ++ key ∷ [])
    whole = one_touched was is slots touched key are

    go : (o : Option SpaceSlot) → AreTouched was is
        (elim o as (λ _. SpaceSlots) [
          | None ↦ insert slots key (record { before = None; current = Some empty })
          | Some slot ↦ insert slots key (record slot { current = Some empty })
        ]) (touched ++ key ∷ [])
    go None = put_touched was is slots (touched ++ key ∷ []) key _ (last_is_touched was is touched key) whole
    go (Some slot) = put_touched was is slots (touched ++ key ∷ []) key _ (last_is_touched was is touched key) whole

-- a space is added
pub opened_is : (slots : SpaceSlots) (key : ℕ) → picked is (slot_opened slots key) ≡ insert (picked is slots) key empty
opened_is slots key = alike _ _ (λ q.
    get_picked is (slot_opened slots key) q ∙ ap (option_and_then is) (go q (get slots key) refl)
    ∙ one q (eq_by_cmp nat_cmp q key)
    ∙ sym (get-insert nat_cmp_total (picked is slots) key empty q
    ∙ ap (cond (eq_by_cmp nat_cmp q key) (Some empty)) (get_picked is slots q)))
  where
    there : Option SpaceSlot → SpaceSlot
    there None = record { before = None; current = Some empty }
    there (Some slot) = record slot { current = Some empty }

    go : (q : ℕ) (o : Option SpaceSlot) → get slots key ≡ o
        → get (elim o as (λ _. SpaceSlots) [
          | None ↦ insert slots key (record { before = None; current = Some empty })
          | Some slot ↦
              insert slots key (record slot { current = Some empty })
        ]) q
        ≡ cond (eq_by_cmp nat_cmp q key) (Some (there (get slots key))) (get slots q)
    go q None at =
        get-insert nat_cmp_total slots key _ q ∙ ap
        (λ (o : Option SpaceSlot). cond (eq_by_cmp nat_cmp q key) (Some (there o)) (get slots q)) (sym at)
    go q (Some slot) at =
        get-insert nat_cmp_total slots key _ q ∙ ap
        (λ (o : Option SpaceSlot). cond (eq_by_cmp nat_cmp q key) (Some (there o)) (get slots q)) (sym at)

    now : (o : Option SpaceSlot) → is (there o) ≡ Some empty
    now None = refl
    now (Some slot) = refl

    one : (q : ℕ) (b : Bool) → option_and_then is (cond b (Some (there (get slots key))) (get slots q))
        ≡ cond b (Some empty) (option_and_then is (get slots q))
    one q true = now (get slots key)
    one q false = refl

pub opened_was : (slots : SpaceSlots) (key : ℕ) → picked was (slot_opened slots key) ≡ picked was slots
opened_was slots key =
    alike _ _ (λ q. get_picked was (slot_opened slots key) q ∙ go q (get slots key) refl ∙ sym (get_picked was slots q))
  where
    step : (q : ℕ) (b : Bool) (slot : SpaceSlot) → eq_by_cmp nat_cmp q key ≡ b
        → was slot ≡ option_and_then was (get slots key)
        → option_and_then was (cond b (Some slot) (get slots q)) ≡ option_and_then was (get slots q)
    step q true slot same former = former ∙ ap (λ (k : ℕ). option_and_then was (get slots k)) (sym (key_is q key same))
    step q false slot _ former = refl

    go : (q : ℕ) (o : Option SpaceSlot) → get slots key ≡ o
        → option_and_then was (get (elim o as (λ _. SpaceSlots) [
          | None ↦ insert slots key (record { before = None; current = Some empty })
          | Some slot ↦
              insert slots key (record slot { current = Some empty })
        ]) q) ≡ option_and_then was (get slots q)
    go q None at =
        ap (option_and_then was) (get-insert nat_cmp_total slots key _ q)
        ∙ step q (eq_by_cmp nat_cmp q key) _ refl (sym (ap (option_and_then was) at))
    go q (Some slot) at =
        ap (option_and_then was) (get-insert nat_cmp_total slots key _ q)
        ∙ step q (eq_by_cmp nat_cmp q key) _ refl (sym (ap (option_and_then was) at))

-- the number of spaces is the same
pub as_many : (spaces : SpaceMap) (space : ℕ) (change : Names → Names)
    → len (names_changed spaces space change) ≡ len spaces
as_many spaces space change = go (get spaces space) refl
  where
    go : (o : Option Names) → get spaces space ≡ o
        → len (elim o as (λ _. SpaceMap) [ None ↦ spaces | Some names ↦ insert spaces space (change names) ])
        ≡ len spaces
    go None at = refl
    go (Some names) at =
        len-insert nat_cmp_total spaces space (change names) ∙ ap
        (λ (o : Option Names). cond (is_some o) (len spaces) (len spaces + 1)) at

-- the same spaces exist after the names of one have changed
pub same_numbers : (spaces : SpaceMap) (space : ℕ) (change : Names → Names) (q : ℕ)
    → is_some (get (names_changed spaces space change) q) ≡ is_some (get spaces q)
same_numbers spaces space change q =
    ap is_some (get_names_changed spaces space change q (get spaces space) refl) ∙ go (eq_by_cmp nat_cmp q space) refl
  where
    mapped : (o : Option Names) → is_some (option_map change o) ≡ is_some o
    mapped None = refl
    mapped (Some names) = refl

    go : (b : Bool) → eq_by_cmp nat_cmp q space ≡ b
        → is_some (cond b (option_map change (get spaces space)) (get spaces q)) ≡ is_some (get spaces q)
    go true same = mapped (get spaces space) ∙ ap (λ (k : ℕ). is_some (get spaces k)) (sym (key_is q space same))
    go false _ = refl

pub both : (a b c d : SpaceMap) → a ≡ c → b ≡ d
    → ◌≡◌ {A = TrackedSpaces} (record { before = a; current = b }) (record { before = c; current = d })
both a b c d first second =
    ap (λ (m : SpaceMap). record { before = m; current = b }) first ∙ ap
    (λ (m : SpaceMap). record { before = c; current = m }) second

-- No slot has changes to commit or roll back.
pub record Rest (slots : SpaceSlots) (touched : List ℕ) (spaces : SpaceMap) : Type 0 where
  pub touched_none : AreTouched was is slots touched
  pub seen_was : picked was slots ≡ spaces
  pub seen_is : picked is slots ≡ spaces

pub committed_rest : (slots : SpaceSlots) (touched : List ℕ) (spaces : SpaceMap) → touched ≡ []
    → AreTouched was is slots [] → picked is slots ≡ spaces → Rest slots touched spaces
committed_rest slots touched spaces none are seen = record {
  touched_none = subst (AreTouched was is slots) (sym none) are;
  seen_was = all_alike was is slots are ∙ seen;
  seen_is = seen;
}

pub rolled_back_rest : (slots : SpaceSlots) (touched : List ℕ) (spaces : SpaceMap) → touched ≡ []
    → AreTouched is was slots [] → picked was slots ≡ spaces → Rest slots touched spaces
rolled_back_rest slots touched spaces none are seen = record {
  touched_none = subst (AreTouched was is slots) (sym none) (exchanged is was slots [] are);
  seen_was = seen;
  seen_is = all_alike is was slots are ∙ seen;
}

pub new_rest : (slots : SpaceSlots) (touched : List ℕ) → touched ≡ [] → slots ≡ empty → Rest slots touched empty
new_rest slots touched none new =
    committed_rest slots touched empty none
    (subst (λ (s : SpaceSlots). AreTouched was is s []) (sym new) (none_touched was is))
    (ap (picked is) new ∙ nothing)
  where
    nothing : picked is empty ≡ empty
    nothing =
        alike _ _ (λ q. get_picked is empty q ∙ ap (option_and_then is) (get-empty nat_cmp q)
        ∙ sym (get-empty nat_cmp q))

-- a slot is rolled back, whether it is touched or not
pub rolled_back_touched : (slots : SpaceSlots) (touched : List ℕ) (key : ℕ) → AreTouched was is slots touched
    → AreTouched was is (slot_changed slots key rolled_back_slot) touched
rolled_back_touched slots touched key are q slot at off =
    go (eq_by_cmp nat_cmp q key) refl (sym (get_changed slots key rolled_back_slot q (get slots key) refl) ∙ at)
  where
    there : (o : Option SpaceSlot) → get slots q ≡ o → option_map rolled_back_slot o ≡ Some slot → (was slot ≡ is slot)
        × (is_some (is slot) ≡ true)
    there None _ none = absurd (cc none)
    there (Some s) found same =
        let both = are q s found off in
        let given : rolled_back_slot s ≡ slot = cc same in (
          ap was (sym given) ∙ ap is given,
          ap (λ (x : SpaceSlot). is_some (is x)) (sym given) ∙ ap is_some both.0 ∙ both.1,
        )

    go : (b : Bool) → eq_by_cmp nat_cmp q key ≡ b
        → cond b (option_map rolled_back_slot (get slots key)) (get slots q) ≡ Some slot → (was slot ≡ is slot)
        × (is_some (is slot) ≡ true)
    go true same found =
        there (get slots q) refl (ap (λ (k : ℕ). option_map rolled_back_slot (get slots k)) (key_is q key same) ∙ found)
    go false _ found = are q slot found off

-- the slot of a space, from the spaces
pub slot_is : (slots : SpaceSlots) (key : ℕ) (slot : SpaceSlot) (o : Option Names) → get (picked is slots) key ≡ o
    → get slots key ≡ Some slot → slot.current ≡ o
slot_is slots key slot o seen at = sym (ap (option_and_then is) at) ∙ sym (get_picked is slots key) ∙ seen

-- removing a space that doesn't exist changes nothing
pub none_gone : (spaces : SpaceMap) (space : ℕ) → is_some (get spaces space) ≡ false → spaces ≡ remove spaces space
none_gone spaces space none =
    alike _ _ (λ q. go q (eq_by_cmp nat_cmp q space) refl ∙ sym (get-remove nat_cmp_total spaces space q))
  where
    gone : (o : Option Names) → is_some o ≡ false → o ≡ None
    gone None e = refl
    gone (Some names) e = absurd (cc e)

    go : (q : ℕ) (b : Bool) → eq_by_cmp nat_cmp q space ≡ b → get spaces q ≡ cond b None (get spaces q)
    go q true same = ap (get spaces) (key_is q space same) ∙ gone (get spaces space) none
    go q false _ = refl

-- if a space exists, the count of spaces isn't 0
pub some_counted : (spaces : SpaceMap) (space : ℕ) → is_some (get spaces space) ≡ true → 0 < len spaces
some_counted spaces space some = elim (len spaces) as (λ (n : ℕ). len spaces ≡ n → 0 < n) [
  | zero ↦ λ (none : _). absurd (cc
      (sym some ∙ ap is_some (ap (λ (m : SpaceMap). get m space) (empty_of_len spaces none) ∙ get-empty nat_cmp space)))
  | suc n ↦ λ (_ : _). omega arith
] refl

pub one_less : (spaces : SpaceMap) (space : ℕ) → is_some (get spaces space) ≡ true
    → len (remove spaces space) ≡ len spaces - 1
one_less spaces space some =
    len-remove nat_cmp_total spaces space ∙ ap (λ (b : Bool). cond b (len spaces - 1) (len spaces)) some
