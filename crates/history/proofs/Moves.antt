-- Each step of a mark's cell keeps what passes know of it.
use Rattle.std.proofs.Common.{◌≡◌, ◌≢◌, ℕ, zero, suc, ◌≤◌, List, [], ◌∷◌, set, true, false, true≢false, refl, sym, ap, ◌∙◌, subst, ⊎_elim, arith}
use Rattle.std.specs.Prelude.{slice_index}
use mathlib.Core.Option.{some, some-ne-none, some-injective}
use lib.ListN.{get_elem?}
use Rattle.crossbeam_utils.specs.Register.{Turns, Forks, Merges}
use Rattle.atomic_table.proofs.Lists.{at_set, at_snoc, set_again}
use Rattle.history.specs.declared.mark.View.{View}
use Rattle.history.specs.Marks.{Compared, Counted, IsKept, alongside, counting, knowing}

-- what the rule says of one view
abbrev Fits : ℕ → ℕ → ℕ → View → Type 0
Fits seat stored by v = (v.counts ≡ true → (by ≡ seat) × (v.stored ≡ stored)) × (v.known ≤ stored)

fits_set : (seat now : ℕ) (views : List View) (by : ℕ) (w : View)
    → ((j : ℕ) (u : View) → j ≢ by → get_elem? views j ≡ some u → Fits seat now j u) → Fits seat now by w
    → (j : ℕ) (u : View) → get_elem? (set views by w) j ≡ some u → Fits seat now j u
fits_set seat now views by w others mine j u e =
    ⊎_elim
    (λ (x : (j ≡ by) × (w ≡ u)). subst (λ (y : ℕ × View). Fits seat now y.0 y.1) (λ i. (sym x.0 i, x.1 i)) mine)
    (λ (x : (j ≢ by) × (get_elem? views j ≡ some u)). others j u x.0 x.1)
    (at_set views by j w u e)

off : false ≡ true → ⊥
off e = true≢false (sym e)

pub begins : (words : List ℕ) → IsKept words (counting 0 ∷ [])
begins words = (0, 0, one)
  where
    one : (by : ℕ) (v : View) → get_elem? (counting 0 ∷ []) by ≡ some v → Fits 0 0 by v
    one zero v e = subst (Fits 0 0 0) (some-injective _ _ e) ((λ _. (refl, refl)), omega arith)
    one (suc by) v e = absurd (some-ne-none v (sym e))

counts : (by stored : ℕ) (new : List ℕ) → stored ≤ slice_index new 0
    → Turns IsKept by (counting stored) (λ _. new) Counted
counts by stored new more words views h at =
    let n : ℕ = slice_index new 0 in
    let mine = (h.2 by (counting stored) at).0 refl in
    let w : View = counting n in (
      w,
      (
        h.0,
        n,
        fits_set h.0 n views by w
            (λ j u apart e. (
              (λ k. absurd (apart (((h.2 j u e).0 k).0 ∙ sym mine.0))),
              omega (arith, (h.2 j u e).1, mine.1, more),
            )) ((λ _. (mine.0, refl)), omega arith),
      ),
      refl,
    )

pub compares : (by : ℕ) (v : View) → v.counts ≡ true → Turns IsKept by v (λ x. x) Compared
compares by v is words views h at =
    let mine = h.2 by v at in
    let known = mine.0 is in
    let w : View = counting v.stored in (
      w,
      (h.0, h.1, fits_set h.0 h.1 views by w (λ j u apart e. h.2 j u e) ((λ _. known), omega arith)),
      (refl, omega (arith, mine.1, known.1)),
    )

-- a pass that is no counting one, and knows of no more than is stored, may come
forks : (by : ℕ) (v : View) (known : ℕ) → ((stored : ℕ) (seat : ℕ) → Fits seat stored by v → known ≤ stored)
    → Forks IsKept by v v (knowing known)
forks by v known less words views h at = (
  h.0,
  h.1,
  λ j u e. ⊎_elim
      (λ was. h.2 j u (subst (λ l. get_elem? l j ≡ some u) (set_again views by v at) was))
      (λ (same : knowing known ≡ u). subst (Fits h.0 h.1 j) same
      ((λ k. absurd (off k)), less h.1 h.0 (h.2 by v at)))
      (at_snoc (set views by v) (knowing known) u j e),
)

pub takes_in : (by : ℕ) (v : View) (other : ℕ) (u : View)
    → Merges IsKept by v other u (alongside v u) (knowing 0)
takes_in by v other u words views h at apart there =
    let w : View = alongside v u in
    let mine = h.2 by v at in
    let theirs =
    ⊎_elim (λ (t : (other ≡ by) × (w ≡ u)). absurd (apart t.0))
    (λ (t : (other ≢ by) × (get_elem? views other ≡ some u)). h.2 other u t.1) (at_set views by other w u there) in (
      h.0,
      h.1,
      fits_set h.0 h.1 (set views by w) other (knowing 0)
          (λ j x _ e. fits_set h.0 h.1 views by w (λ i y _ e'. h.2 i y e') (mine.0, theirs.1) j x e)
          ((λ k. absurd (off k)), omega arith),
    )

-- the moves, at a view that is known

pub counts_as : (by : ℕ) (v : View) (stored : ℕ) (new : List ℕ) → v ≡ counting stored → stored ≤ slice_index new 0
    → Turns IsKept by v (λ _. new) Counted
counts_as by v stored new is more =
    subst (λ (u : View). Turns IsKept by u (λ _. new) Counted) (sym is) (counts by stored new more)

pub hands_out_as : (by : ℕ) (v : View) (stored : ℕ) → v ≡ counting stored → Forks IsKept by v v (knowing v.stored)
hands_out_as by v stored is =
    forks by v v.stored
    (λ now seat fits. omega (arith, (fits.0 (ap (λ (u : View). u.counts) is)).1))

pub copies_as : (by : ℕ) (v : View) → Forks IsKept by v v (knowing v.known)
copies_as by v = forks by v v.known (λ now seat fits. fits.1)
