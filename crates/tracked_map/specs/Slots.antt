-- Slots whose values change independently. Each holds its value at the last commit or rollback, and the current one.
use Rattle.std.proofs.Common.{◌≡◌, ℕ, cond, true, false, Bool, List, [], ◌∷◌, map, Option, None, Some, option_and_then, refl, sym, ◌∙◌, ap}
use Rattle.std.specs.Cmp.{nat_cmp_total}
use Rattle.std.specs.Ordering.{nat_cmp, eq_by_cmp}
use Rattle.std.specs.FinMap.{FinMap, find, empty, entries, get, insert, get-entries, get-empty, get-insert, get-remove, same_map, nat_cmp-IsAntisymmetric}
use Rattle.tracked_map.specs.Tracked.{put, over}

module _ {X : Type 0} where
  get_put : (m : FinMap {K = ℕ} nat_cmp X) (key : ℕ) (o : Option X) (q : ℕ)
      → get (put m key o) q ≡ cond (eq_by_cmp nat_cmp q key) o (get m q)
  get_put m key None q = get-remove nat_cmp_total m key q
  get_put m key (Some value) q = get-insert nat_cmp_total m key value q

  same : (m n : FinMap {K = ℕ} nat_cmp X) → ((q : ℕ) → get m q ≡ get n q) → m ≡ n
  same m n alike = same_map nat_cmp_total nat_cmp-IsAntisymmetric m n alike

module _ {X Y : Type 0} where
  abbrev pick : (Y → Option X) → List (ℕ × Y) → List (ℕ × Option X)
  pick f es = map (λ e. (e.0, f e.1)) es

  -- the map of the values that a function gives for the slots
  unfoldable pub picked : (Y → Option X) → FinMap {K = ℕ} nat_cmp Y → FinMap {K = ℕ} nat_cmp X
  picked f slots = over empty (pick f (entries slots))

  then_cond : (f : Y → Option X) (b : Bool) (y : Y) (o : Option Y)
      → option_and_then f (cond b (Some y) o) ≡ cond b (f y) (option_and_then f o)
  then_cond f true y o = refl
  then_cond f false y o = refl

  get_pick : (f : Y → Option X) (es : List (ℕ × Y)) (q : ℕ)
      → get (over empty (pick f es)) q ≡ option_and_then f (find nat_cmp q es)
  unfolding over
  get_pick f [] q = get-empty nat_cmp q
  get_pick f (e ∷ es) q =
      get_put (over empty (pick f es)) e.0 (f e.1) q ∙ ap (cond (eq_by_cmp nat_cmp q e.0) (f e.1)) (get_pick f es q)
      ∙ sym (then_cond f (eq_by_cmp nat_cmp q e.0) e.1 (find nat_cmp q es))

  pub get_picked : (f : Y → Option X) (slots : FinMap {K = ℕ} nat_cmp Y) (q : ℕ)
      → get (picked f slots) q ≡ option_and_then f (get slots q)
  unfolding picked
  get_picked f slots q = get_pick f (entries slots) q ∙ ap (option_and_then f) (sym (get-entries slots q))

  -- the map after a slot is set
  pub picked_put : (f : Y → Option X) (slots : FinMap {K = ℕ} nat_cmp Y) (key : ℕ) (slot : Y)
      → picked f (insert slots key slot) ≡ put (picked f slots) key (f slot)
  picked_put f slots key slot = same _ _ (λ q.
      get_picked f (insert slots key slot) q ∙ ap (option_and_then f) (get-insert nat_cmp_total slots key slot q)
      ∙ then_cond f (eq_by_cmp nat_cmp q key) slot (get slots q)
      ∙ sym (get_put (picked f slots) key (f slot) q
      ∙ ap (cond (eq_by_cmp nat_cmp q key) (f slot)) (get_picked f slots q)))

  -- functions that agree on each slot give the same map
  pub picked_alike : (f g : Y → Option X) (slots : FinMap {K = ℕ} nat_cmp Y)
      → ((key : ℕ) (slot : Y) → get slots key ≡ Some slot → f slot ≡ g slot) → picked f slots ≡ picked g slots
  picked_alike f g slots alike =
      same _ _ (λ q. get_picked f slots q ∙ there q (get slots q) refl ∙ sym (get_picked g slots q))
    where
      there : (q : ℕ) (o : Option Y) → get slots q ≡ o → option_and_then f o ≡ option_and_then g o
      there q None is = refl
      there q (Some slot) is = alike q slot is
