-- An index of places by the number that a function gives for each.
use Rattle.std.proofs.Common.{◌≡◌, ℕ, ◌^◌, ◌<◌, ◌==◌, Bool, true, false, cond, ◌&&◌, Option, None, Some, is_some, refl, sym, ◌∙◌, ap, arith}
use Rattle.std.proofs.lemmas.Bool.{eqb-true, eq-eqb}
use Rattle.std.specs.Cmp.{nat_cmp_total}
use Rattle.std.specs.Ordering.{nat_cmp, eq_by_cmp}
use Rattle.std.specs.FinMap.{empty, get, get-empty, get-insert, get-remove}
use Rattle.ipc_model.specs.state.Ipc.{is_number}
use Rattle.ipc_laws.specs.MapSums.{key_is, same_key}
use Rattle.port_indexes.specs.Places.{Numbers, key, stands_at, with_place, without_place, moved}

-- the index has each place below 2 ^ 64 under the number that the function gives for it, and nothing else
abbrev pub IsIndexed : (ℕ → Option ℕ) → Numbers → Type 0
IsIndexed look places =
    (number place : ℕ) → place < 2 ^ 64 → stands_at places number place ≡ is_number (look place) number

same_keys : (s n t m : ℕ) → n < 2 ^ 64 → m < 2 ^ 64
    → eq_by_cmp nat_cmp (key s n) (key t m) ≡ (eq_by_cmp nat_cmp s t && eq_by_cmp nat_cmp n m)
same_keys s n t m small other =
    go (eq_by_cmp nat_cmp (key s n) (key t m)) refl (eq_by_cmp nat_cmp s t) refl (eq_by_cmp nat_cmp n m) refl
  where
    both : key s n ≡ key t m → (s ≡ t) × (n ≡ m)
    both e = (omega (arith, e, small, other), omega (arith, e, small, other))

    go : (k : Bool) → eq_by_cmp nat_cmp (key s n) (key t m) ≡ k → (a : Bool) → eq_by_cmp nat_cmp s t ≡ a → (b : Bool)
        → eq_by_cmp nat_cmp n m ≡ b → k ≡ (a && b)
    go true whole true first true second = refl
    go false whole true first true second =
        absurd (cc (sym whole ∙ ap (λ (q : ℕ). eq_by_cmp nat_cmp q (key t m))
        (ap (λ (x : ℕ). key x n) (key_is s t first) ∙ ap (key t) (key_is n m second)) ∙ same_key (key t m)))
    go true whole false first b second =
        absurd (cc (sym first ∙ ap (λ (q : ℕ). eq_by_cmp nat_cmp q t) (both (key_is _ _ whole)).0 ∙ same_key t))
    go true whole true first false second =
        absurd (cc (sym second ∙ ap (λ (q : ℕ). eq_by_cmp nat_cmp q m) (both (key_is _ _ whole)).1 ∙ same_key m))
    go false whole false first b second = refl
    go false whole true first false second = refl

number_same : (o s : ℕ) → is_number (Some o) s ≡ eq_by_cmp nat_cmp s o
number_same o s = go (o == s) refl (eq_by_cmp nat_cmp s o) refl
  where
    go : (a : Bool) → (o == s) ≡ a → (b : Bool) → eq_by_cmp nat_cmp s o ≡ b → a ≡ b
    go true first true second = refl
    go false first false second = refl
    go true first false second =
        absurd (cc (sym second ∙ ap (λ (q : ℕ). eq_by_cmp nat_cmp q o) (sym (eqb-true o s first)) ∙ same_key o))
    go false first true second = absurd (cc (sym first ∙ eq-eqb o s (sym (key_is s o second))))

stands_with : (places : Numbers) (number : Option ℕ) (place s n : ℕ) → place < 2 ^ 64 → n < 2 ^ 64
    → stands_at (with_place places number place) s n
    ≡ cond (is_number number s && eq_by_cmp nat_cmp n place) true (stands_at places s n)
stands_with places None place s n small other = refl
stands_with places (Some t) place s n small other =
    ap is_some (get-insert nat_cmp_total places (key t place) tt (key s n))
    ∙ ap (λ (b : Bool). is_some (cond b (Some tt) (get places (key s n))))
    (same_keys s n t place other small ∙ ap (λ (b : Bool). b && eq_by_cmp nat_cmp n place) (sym (number_same t s)))
    ∙ cond_some (is_number (Some t) s && eq_by_cmp nat_cmp n place) (get places (key s n))
  where
    cond_some : (b : Bool) (o : Option (Unit {0})) → is_some (cond b (Some tt) o) ≡ cond b true (is_some o)
    cond_some true o = refl
    cond_some false o = refl

stands_without : (places : Numbers) (number : Option ℕ) (place s n : ℕ) → place < 2 ^ 64 → n < 2 ^ 64
    → stands_at (without_place places number place) s n
    ≡ cond (is_number number s && eq_by_cmp nat_cmp n place) false (stands_at places s n)
stands_without places None place s n small other = refl
stands_without places (Some t) place s n small other =
    ap is_some (get-remove nat_cmp_total places (key t place) (key s n))
    ∙ ap (λ (b : Bool). is_some (cond b None (get places (key s n))))
    (same_keys s n t place other small ∙ ap (λ (b : Bool). b && eq_by_cmp nat_cmp n place) (sym (number_same t s)))
    ∙ cond_none (is_number (Some t) s && eq_by_cmp nat_cmp n place) (get places (key s n))
  where
    cond_none : (b : Bool) (o : Option (Unit {0})) → is_some (cond b None o) ≡ cond b false (is_some o)
    cond_none true o = refl
    cond_none false o = refl

-- one place changed
pub place_moved : (look after : ℕ → Option ℕ) (places : Numbers) (place : ℕ) (number : Option ℕ) → place < 2 ^ 64
    → ((q : ℕ) → after q ≡ cond (eq_by_cmp nat_cmp q place) number (look q)) → IsIndexed look places
    → IsIndexed after (moved places place (look place) number)
place_moved look after places place is small changed indexed s n other =
    stands_with (without_place places was place) is place s n small other
    ∙ ap (cond (is_number is s && eq_by_cmp nat_cmp n place) true)
    (stands_without places was place s n small other
    ∙ ap (cond (is_number was s && eq_by_cmp nat_cmp n place) false) (indexed s n other))
    ∙ go (eq_by_cmp nat_cmp n place) refl
    ∙ sym (ap (λ (p : Option ℕ). is_number p s) (changed n))
  where
    was : Option ℕ
    was = look place

    here : (a b : Bool) → cond (b && true) true (cond (a && true) false a) ≡ b
    here true true = refl
    here true false = refl
    here false true = refl
    here false false = refl

    there : (a b c : Bool) → cond (b && false) true (cond (a && false) false c) ≡ c
    there true true c = refl
    there true false c = refl
    there false true c = refl
    there false false c = refl

    go : (b : Bool) → eq_by_cmp nat_cmp n place ≡ b
        → cond (is_number is s && b) true (cond (is_number was s && b) false (is_number (look n) s))
        ≡ is_number (cond b is (look n)) s
    go true same =
        ap (λ (q : ℕ). cond (is_number is s && true) true (cond (is_number was s && true) false (is_number (look q) s)))
        (key_is n place same) ∙ here (is_number was s) (is_number is s)
    go false same = there (is_number was s) (is_number is s) (is_number (look n) s)

-- no place has a number
pub nothing_indexed : (look : ℕ → Option ℕ) (places : Numbers) → ((q : ℕ) → look q ≡ None) → places ≡ empty
    → IsIndexed look places
nothing_indexed look places nothing none number place small =
    ap (λ (p : Numbers). stands_at p number place) none ∙ ap is_some (get-empty nat_cmp (key number place))
    ∙ sym (ap (λ (o : Option ℕ). is_number o number) (nothing place))

-- two functions give the same number for each place
pub alike_indexed : (look other : ℕ → Option ℕ) (places : Numbers) → ((q : ℕ) → q < 2 ^ 64 → look q ≡ other q)
    → IsIndexed look places → IsIndexed other places
alike_indexed look other places alike indexed number place small =
    indexed number place small ∙ ap (λ (o : Option ℕ). is_number o number) (alike place small)
