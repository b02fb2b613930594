-- What a finite map from numbers has under a key after a change.
use Rattle.std.specs.Prelude.{◌≡◌, ◌≢◌, ℕ, Bool, true, false, cond, List, [], ◌∷◌, map, length, None, Some, option_map, refl}
use Rattle.std.proofs.Common.{sym, ◌∙◌, ap, arith}
use Rattle.std.specs.Ordering.{nat_cmp, eq_by_cmp}
use Rattle.std.specs.Cmp.{nat_cmp_total}
use Rattle.std.specs.FinMap as finmap
use Rattle.std.specs.FinMap.{FinMap, find, get-entries, get-insert, get-remove, len-entries, len-empty, gets, put, entries-insert}
use Rattle.ipc_model.specs.effects.Effects.{map_values}
use Rattle.ipc_laws.specs.MapSums.{key_is, same_key, entries-map_values}

other_key : {A : Type 0} (b : Bool) (x y : A) → (b ≡ true → ⊥) → cond b x y ≡ y
other_key true x y apart = absurd (apart refl)
other_key false x y apart = refl

module _ {X : Type 0} where
  pub get-here : (m : FinMap nat_cmp X) (k : ℕ) (v : X) → finmap.get (finmap.insert m k v) k ≡ Some v
  get-here m k v = get-insert nat_cmp_total m k v k ∙ ap (λ (b : Bool). cond b (Some v) (finmap.get m k)) (same_key k)

  pub get-there : (m : FinMap nat_cmp X) (k : ℕ) (v : X) (q : ℕ) → q ≢ k
      → finmap.get (finmap.insert m k v) q ≡ finmap.get m q
  get-there m k v q apart =
      get-insert nat_cmp_total m k v q ∙ other_key (eq_by_cmp nat_cmp q k) (Some v) (finmap.get m q)
      (λ (e : _). apart (key_is q k e))

  pub get-gone : (m : FinMap nat_cmp X) (k : ℕ) → finmap.get (finmap.remove m k) k ≡ None
  get-gone m k = get-remove nat_cmp_total m k k ∙ ap (λ (b : Bool). cond b None (finmap.get m k)) (same_key k)

  pub get-left : (m : FinMap nat_cmp X) (k q : ℕ) → q ≢ k → finmap.get (finmap.remove m k) q ≡ finmap.get m q
  get-left m k q apart =
      get-remove nat_cmp_total m k q ∙ other_key (eq_by_cmp nat_cmp q k) None (finmap.get m q)
      (λ (e : _). apart (key_is q k e))

  find-mapped : (g : X → X) (q : ℕ) (es : List (ℕ × X))
      → find nat_cmp q (map (λ e. (e.0, g e.1)) es) ≡ option_map g (find nat_cmp q es)
  find-mapped g q [] = refl
  find-mapped g q (e ∷ es) =
      elim (eq_by_cmp nat_cmp q e.0)
      as (λ (b : Bool). cond b (Some (g e.1)) (find nat_cmp q (map (λ e. (e.0, g e.1)) es))
      ≡ option_map g (cond b (Some e.1) (find nat_cmp q es))) [
        | true ↦ refl
        | false ↦ find-mapped g q es
      ]

  pub get-map_values : (g : X → X) (m : FinMap nat_cmp X) (q : ℕ)
      → finmap.get (map_values g m) q ≡ option_map g (finmap.get m q)
  get-map_values g m q =
      get-entries (map_values g m) q ∙ ap (find nat_cmp q) (entries-map_values g m) ∙ find-mapped g q (finmap.entries m)
      ∙ ap (option_map g) (sym (get-entries m q))

  length-mapped : (g : X → X) (es : List (ℕ × X)) → length {A = ℕ × X} (map (λ e. (e.0, g e.1)) es) ≡ length es
  length-mapped g [] = refl
  length-mapped g (e ∷ es) = omega (arith, length-mapped g es)

  pub len-map_values : (g : X → X) (m : FinMap nat_cmp X) → finmap.len (map_values g m) ≡ finmap.len m
  len-map_values g m =
      len-entries (map_values g m) ∙ ap length (entries-map_values g m) ∙ length-mapped g (finmap.entries m)
      ∙ sym (len-entries m)

no_length : {A : Type 0} (es : List A) → length es ≡ 0 → es ≡ []
no_length [] e = refl
no_length (x ∷ es) e = absurd (omega (arith, e))

pub entries_none : {X : Type 0} → finmap.entries (finmap.empty {X = X} {R = nat_cmp}) ≡ []
entries_none {X} =
    no_length (finmap.entries (finmap.empty {X = X} {R = nat_cmp}))
    (sym (len-entries finmap.empty) ∙ len-empty nat_cmp X)

pub entries_put : {X : Type 0} (m : FinMap nat_cmp X) (k : ℕ) (v : X)
    → finmap.entries (finmap.insert m k v) ≡ put nat_cmp k v (finmap.entries m)
entries_put m k v = entries-insert nat_cmp_total m k v

-- how what a map holds is computed
pub ruleset map_rules = (gets, get-map_values, entries-map_values, entries_none, entries_put)
