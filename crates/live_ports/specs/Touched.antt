-- Tables of slots with their values before and now, and the keys that were touched.
use Rattle.std.proofs.Common.{◌≡◌, ℕ, cond, true, false, Bool, ◌||◌, List, [], ◌∷◌, ◌++◌, Option, None, Some, is_some, refl, sym, ◌∙◌, ap, subst}
use Rattle.std.specs.Cmp.{nat_cmp_total}
use Rattle.std.specs.Ordering.{nat_cmp, eq_by_cmp}
use Rattle.std.specs.FinMap.{FinMap, get, insert, remove, get-insert, get-remove, same_map, nat_cmp-IsAntisymmetric}
use Rattle.std.specs.Prelude.{option_and_then}
use Rattle.ipc_laws.specs.ListLaws.{some_same}
use Rattle.ipc_laws.specs.MapSums.{key_is}
use Rattle.tracked_map.specs.Slots.{picked, get_picked, picked_alike}

abbrev pub is_listed : ℕ → List ℕ → Bool
is_listed key [] = false
is_listed key (k ∷ ks) = eq_by_cmp nat_cmp key k || is_listed key ks

pub listed_append : (key : ℕ) (ks ls : List ℕ) → is_listed key (ks ++ ls) ≡ (is_listed key ks || is_listed key ls)
listed_append key [] ls = refl
listed_append key (k ∷ ks) ls =
    elim (eq_by_cmp nat_cmp key k)
    as (λ (b : Bool). (b || is_listed key (ks ++ ls)) ≡ ((b || is_listed key ks) || is_listed key ls))
    [ true ↦ refl | false ↦ listed_append key ks ls ]

or_false : (a b : Bool) → (a || b) ≡ false → (a ≡ false) × (b ≡ false)
or_false true b e = absurd (cc e)
or_false false b e = (refl, e)

both_false : (a b : Bool) → a ≡ false → b ≡ false → (a || (b || false)) ≡ false
both_false true b p q = absurd (cc p)
both_false false true p q = absurd (cc q)
both_false false false p q = refl

-- a key that isn't in a list with one more key isn't in the list, and isn't that key
pub not_listed : (key last : ℕ) (ks : List ℕ) → is_listed key (ks ++ last ∷ []) ≡ false → (is_listed key ks ≡ false)
    × (eq_by_cmp nat_cmp key last ≡ false)
not_listed key last ks none =
    let parts =
    or_false (is_listed key ks) (eq_by_cmp nat_cmp key last || false)
    (sym (listed_append key ks (last ∷ [])) ∙ none) in
    (parts.0, (or_false (eq_by_cmp nat_cmp key last) false parts.1).0)

pub listed_not : (key last : ℕ) (ks : List ℕ) → is_listed key ks ≡ false → eq_by_cmp nat_cmp key last ≡ false
    → is_listed key (ks ++ last ∷ []) ≡ false
listed_not key last ks none other =
    listed_append key ks (last ∷ []) ∙ both_false (is_listed key ks) (eq_by_cmp nat_cmp key last) none other

same : {X : Type 0} (m n : FinMap {K = ℕ} nat_cmp X) → ((q : ℕ) → get m q ≡ get n q) → m ≡ n
same m n alike = same_map nat_cmp_total nat_cmp-IsAntisymmetric m n alike

get_settled : {Y : Type 0} (slots : FinMap {K = ℕ} nat_cmp Y) (key q : ℕ) (value : Y) (b : Bool)
    → eq_by_cmp nat_cmp q key ≡ b → get (insert slots key value) q ≡ cond b (Some value) (get slots q)
get_settled slots key q value b is =
    get-insert nat_cmp_total slots key value q ∙ ap (λ (c : Bool). cond c (Some value) (get slots q)) is

get_gone : {Y : Type 0} (slots : FinMap {K = ℕ} nat_cmp Y) (key q : ℕ) (b : Bool) → eq_by_cmp nat_cmp q key ≡ b
    → get (remove slots key) q ≡ cond b None (get slots q)
get_gone slots key q b is = get-remove nat_cmp_total slots key q ∙ ap (λ (c : Bool). cond c None (get slots q)) is

gone_or : {X : Type 0} (o p : Option X) → is_some o ≡ false → p ≡ o → None ≡ p
gone_or None p none is = sym is
gone_or (Some x) p none is = absurd (cc none)

module _ {X Y : Type 0} where
  -- an untouched slot: it has a value, which is the same as before
  abbrev pub IsStill : (Y → Option X) → (Y → Option X) → Y → Type 0
  IsStill before current slot = (before slot ≡ current slot) × (is_some (current slot) ≡ true)

  -- each slot whose key isn't in the list is untouched
  abbrev pub AreTouched : (Y → Option X) → (Y → Option X) → FinMap {K = ℕ} nat_cmp Y → List ℕ → Type 0
  AreTouched before current slots touched =
      (key : ℕ) (slot : Y) → get slots key ≡ Some slot → is_listed key touched ≡ false → IsStill before current slot

  -- the slots after one is settled, or removed if `look` gives None
  abbrev pub drained : (Y → Option X) → (Y → Y) → FinMap {K = ℕ} nat_cmp Y → ℕ → FinMap {K = ℕ} nat_cmp Y
  drained look settle slots key = elim (get slots key) as (λ _. FinMap {K = ℕ} nat_cmp Y) [
    | None ↦ slots
    | Some slot ↦ cond (is_some (look slot)) (insert slots key (settle slot)) (remove slots key)
  ]

  -- settling a slot makes both its values what `look` gives
  pub record IsSettling (before current look : Y → Option X) (settle : Y → Y) : Type 0 where
    pub was : (slot : Y) → before (settle slot) ≡ look slot
    pub is : (slot : Y) → current (settle slot) ≡ look slot
    pub seen : (slot : Y) → look (settle slot) ≡ look slot

  -- one more key is touched
  pub touched_more : (before current : Y → Option X) (slots : FinMap {K = ℕ} nat_cmp Y) (touched : List ℕ) (key : ℕ)
      → AreTouched before current slots touched → AreTouched before current slots (touched ++ key ∷ [])
  touched_more before current slots touched key still =
      λ q slot is none. still q slot is (not_listed q key touched none).0

  -- a slot is set under a touched key
  pub touched_put : (before current : Y → Option X) (slots : FinMap {K = ℕ} nat_cmp Y) (touched : List ℕ) (key : ℕ)
      (value : Y) → AreTouched before current slots touched
      → AreTouched before current (insert slots key value) (touched ++ key ∷ [])
  touched_put before current slots touched key value still = λ q slot is none.
      let apart = not_listed q key touched none in
      still q slot (sym (get-insert nat_cmp_total slots key value q ∙ ap
      (λ (b : Bool). cond b (Some value) (get slots q)) apart.1) ∙ is) apart.0

  -- there are no slots, and nothing is touched
  pub touched_none : (before current : Y → Option X) (slots : FinMap {K = ℕ} nat_cmp Y) (touched : List ℕ)
      → ((q : ℕ) → get slots q ≡ None) → AreTouched before current slots touched
  touched_none before current slots touched none = λ q slot is _. absurd (cc (sym is ∙ none q))

  -- if nothing is touched, the values before and now are the same
  pub untouched_alike : (before current : Y → Option X) (slots : FinMap {K = ℕ} nat_cmp Y)
      → AreTouched before current slots [] → picked before slots ≡ picked current slots
  untouched_alike before current slots still =
      picked_alike before current slots (λ key slot is. (still key slot is refl).0)

  pub record IsDrained (before current look : Y → Option X) (slots next : FinMap {K = ℕ} nat_cmp Y)
      (rest : List ℕ) : Type 0 where
    pub seen : picked look next ≡ picked look slots
    pub touched : AreTouched before current next rest

  -- the last touched key is settled
  pub is_drained : (before current look : Y → Option X) (settle : Y → Y) (slots next : FinMap {K = ℕ} nat_cmp Y)
      (touched rest : List ℕ) (key : ℕ) → IsSettling before current look settle → next ≡ drained look settle slots key
      → touched ≡ rest ++ key ∷ []
      → AreTouched before current slots touched → IsDrained before current look slots next rest
  is_drained before current look settle slots next touched rest key settles at last still =
      subst (λ (m : FinMap {K = ℕ} nat_cmp Y). IsDrained before current look slots m rest) (sym at)
      (by_slot (get slots key) refl)
    where
      left : (q : ℕ) (slot : Y) → get slots q ≡ Some slot → eq_by_cmp nat_cmp q key ≡ false → is_listed q rest ≡ false
          → IsStill before current slot
      left q slot is other none = still q slot is (ap (is_listed q) last ∙ listed_not q key rest none other)

      by_look : (slot : Y) → get slots key ≡ Some slot → (b : Bool) → is_some (look slot) ≡ b
          → IsDrained before current look slots (cond b (insert slots key (settle slot)) (remove slots key)) rest
      by_look slot here true some = record {
        seen =
            same _ _ (λ q. get_picked look (insert slots key (settle slot)) q ∙ seen_at q (eq_by_cmp nat_cmp q key) refl
            ∙ sym (get_picked look slots q));
        touched = λ q found is none. at_key q found none (eq_by_cmp nat_cmp q key) refl is;
      }
        where
          seen_at : (q : ℕ) (b : Bool) → eq_by_cmp nat_cmp q key ≡ b
              → option_and_then look (get (insert slots key (settle slot)) q) ≡ option_and_then look (get slots q)
          seen_at q true is =
              ap (option_and_then look) (get_settled slots key q (settle slot) true is) ∙ settles.seen slot
              ∙ sym (ap (option_and_then look) (ap (get slots) (key_is q key is) ∙ here))
          seen_at q false is = ap (option_and_then look) (get_settled slots key q (settle slot) false is)

          at_key : (q : ℕ) (found : Y) → is_listed q rest ≡ false → (b : Bool) → eq_by_cmp nat_cmp q key ≡ b
              → get (insert slots key (settle slot)) q ≡ Some found → IsStill before current found
          at_key q found none true same is =
              subst (IsStill before current)
              (some_same (settle slot) found (sym (get_settled slots key q (settle slot) true same) ∙ is))
              (settles.was slot ∙ sym (settles.is slot), ap is_some (settles.is slot) ∙ some)
          at_key q found none false same is =
              left q found (sym (get_settled slots key q (settle slot) false same) ∙ is) same none
      by_look slot here false gone = record {
        seen =
            same _ _ (λ q. get_picked look (remove slots key) q ∙ seen_at q (eq_by_cmp nat_cmp q key) refl
            ∙ sym (get_picked look slots q));
        touched = λ q found is none. at_key q found none (eq_by_cmp nat_cmp q key) refl is;
      }
        where
          seen_at : (q : ℕ) (b : Bool) → eq_by_cmp nat_cmp q key ≡ b
              → option_and_then look (get (remove slots key) q) ≡ option_and_then look (get slots q)
          seen_at q true is =
              ap (option_and_then look) (get_gone slots key q true is)
              ∙ gone_or (look slot) (option_and_then look (get slots q)) gone
              (ap (option_and_then look) (ap (get slots) (key_is q key is) ∙ here))
          seen_at q false is = ap (option_and_then look) (get_gone slots key q false is)

          at_key : (q : ℕ) (found : Y) → is_listed q rest ≡ false → (b : Bool) → eq_by_cmp nat_cmp q key ≡ b
              → get (remove slots key) q ≡ Some found → IsStill before current found
          at_key q found none true same is = absurd (cc (sym (get_gone slots key q true same) ∙ is))
          at_key q found none false same is = left q found (sym (get_gone slots key q false same) ∙ is) same none

      by_slot : (o : Option Y) → get slots key ≡ o
          → IsDrained before current look slots
          (elim o as (λ _. FinMap {K = ℕ} nat_cmp Y) [
            | None ↦ slots
            | Some slot ↦ cond (is_some (look slot)) (insert slots key (settle slot))
                (remove slots key)
          ]) rest
      by_slot None nothing = record {
        seen = refl;
        touched = λ q slot is none. left q slot is (elsewhere q slot is (eq_by_cmp nat_cmp q key) refl) none;
      }
        where
          elsewhere : (q : ℕ) (slot : Y) → get slots q ≡ Some slot → (b : Bool) → eq_by_cmp nat_cmp q key ≡ b
              → eq_by_cmp nat_cmp q key ≡ false
          elsewhere q slot is true same = absurd (cc (sym is ∙ ap (get slots) (key_is q key same) ∙ nothing))
          elsewhere q slot is false same = same
      by_slot (Some slot) here = by_look slot here (is_some (look slot)) refl
