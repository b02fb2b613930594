-- The rows as a finite map: the value of each number is its row's.
use Rattle.std.proofs.Common.{◌≡◌, ◌<◌, ◌≤◌, ℕ, zero, suc, ◌+◌, Bool, true, false, cond, List, [], ◌∷◌, ◌++◌, length, Option, None, Some, refl, sym, ◌∙◌, ap, arith, ◌⊎◌, inl, inr, slice_index_or, slice_set}
use Rattle.std.proofs.lemmas.Bool.{cases_eq, cases_lt}
use Rattle.std.proofs.lemmas.List.{get_or_past, get_or-set_same, get_or-set_other}
use Rattle.std.specs.Cmp.{nat_cmp_total, eq_by_cmp_equiv}
use Rattle.std.specs.Ordering.{nat_cmp, eq_by_cmp, is_eq}
use Rattle.std.specs.declared.cmp.Ordering.{Ordering}
use Rattle.std.specs.declared.cmp.Ordering.TheVariants.{Less, Equal, Greater}
use Rattle.std.specs.FinMap.{FinMap, get, insert, remove, get-empty, get-insert, get-remove, same_map, nat_cmp-IsAntisymmetric}
use Rattle.number_table.specs.Rows.{rows_from}

same_key : (k : ℕ) → eq_by_cmp nat_cmp k k ≡ true
same_key k = (eq_by_cmp_equiv nat_cmp_total).refl k

tied_equal : (r : Ordering) → is_eq r ≡ true → r ≡ Equal
tied_equal Less e = absurd (cc e)
tied_equal Equal e = refl
tied_equal Greater e = absurd (cc e)

other_key : (q k : ℕ) → (q ≡ k → ⊥) → (b : Bool) → eq_by_cmp nat_cmp q k ≡ b → b ≡ false
other_key q k apart true e = absurd (apart (nat_cmp-IsAntisymmetric q k (tied_equal (nat_cmp q k) e)))
other_key q k apart false e = refl

module _ {X : Type 0} where
  -- one more row, before the others
  with_row : (m : FinMap {K = ℕ} nat_cmp X) (k q : ℕ) (x : X) → (q ≡ k → ⊥) → get (insert m k x) q ≡ get m q
  with_row m k q x apart =
      get-insert nat_cmp_total m k x q ∙ ap
      (λ (b : Bool). cond b (Some x) (get m q)) (other_key q k apart (eq_by_cmp nat_cmp q k) refl)

  -- numbers below the first have no row
  none_below : (rows : List (Option X)) (first q : ℕ) → q < first → get (rows_from first rows) q ≡ None
  none_below [] first q below = get-empty nat_cmp q
  none_below (None ∷ rows) first q below = none_below rows (first + 1) q (omega (arith, below))
  none_below (Some x ∷ rows) first q below =
      with_row (rows_from (first + 1) rows) first q x (λ same. absurd (omega (arith, below, same)))
      ∙ none_below rows (first + 1) q (omega (arith, below))

  row_at : (rows : List (Option X)) (first k : ℕ) → get (rows_from first rows) (first + k) ≡ slice_index_or rows k None
  row_at [] first k = get-empty nat_cmp (first + k)
  row_at (None ∷ rows) first zero = none_below rows (first + 1) (first + 0) (omega arith)
  row_at (None ∷ rows) first (suc k) = ap (get (rows_from (first + 1) rows)) (omega arith) ∙ row_at rows (first + 1) k
  row_at (Some x ∷ rows) first zero =
      get-insert nat_cmp_total (rows_from (first + 1) rows) first x (first + 0) ∙ ap
      (λ (b : Bool). cond b (Some x) (get (rows_from (first + 1) rows) (first + 0)))
      (ap (λ (n : ℕ). eq_by_cmp nat_cmp n first) (omega arith) ∙ same_key first)
  row_at (Some x ∷ rows) first (suc k) =
      with_row (rows_from (first + 1) rows) first (first + suc k) x (λ same. absurd (omega (arith, same)))
      ∙ ap (get (rows_from (first + 1) rows)) (omega arith) ∙ row_at rows (first + 1) k

  -- the value of each number is its row's
  pub found : (rows : List (Option X)) (number : ℕ) → get (rows_from 0 rows) number ≡ slice_index_or rows number None
  found rows number = ap (get (rows_from 0 rows)) (omega arith) ∙ row_at rows 0 number

  pub none_past : (rows : List (Option X)) (number : ℕ) → length rows ≤ number → get (rows_from 0 rows) number ≡ None
  none_past rows number past = found rows number ∙ get_or_past rows number None past

  -- a row's value is the number's in the finite map
  pub got : (rows : List (Option X)) (number : ℕ) (m : FinMap {K = ℕ} nat_cmp X) (value : Option X)
      → value ≡ slice_index_or rows number None → rows_from 0 rows ≡ m → value ≡ get m number
  got rows number m value is view = is ∙ sym (found rows number) ∙ ap (λ n. get n number) view

  pub got_none : (rows seen : List (Option X)) (number : ℕ) (m : FinMap {K = ℕ} nat_cmp X) → seen ≡ rows
      → length seen ≤ number → rows_from 0 rows ≡ m → None ≡ get m number
  got_none rows seen number m same past view =
      sym (none_past seen number past) ∙ ap (λ l. get (rows_from 0 l) number) same ∙ ap (λ n. get n number) view

  -- rows without values
  pub none_before : (rows : List (Option X)) (from at : ℕ) (m : FinMap {K = ℕ} nat_cmp X)
      → ((number : ℕ) → from ≤ number → number < at → slice_index_or rows number None ≡ None) → rows_from 0 rows ≡ m
      → (number : ℕ) → from ≤ number → number < at → get m number ≡ None
  none_before rows from at m passed view number le below =
      sym (got rows number m None (sym (passed number le below)) view)

  pub none_from : (rows seen : List (Option X)) (from at : ℕ) (m : FinMap {K = ℕ} nat_cmp X)
      → ((number : ℕ) → from ≤ number → number < at → slice_index_or rows number None ≡ None) → seen ≡ rows
      → length seen ≤ at → rows_from 0 rows ≡ m → (number : ℕ) → from ≤ number → get m number ≡ None
  none_from rows seen from at m passed same past view number le = elim (cases_lt number at) [
    | inl below ↦ none_before rows from at m passed view number le below
    | inr more ↦ sym (got_none rows seen number m same (omega (arith, past, more)) view)
  ]

  -- a row is replaced
  row_set : (rows : List (Option X)) (at : ℕ) (row : Option X) → at < length rows → (q : ℕ)
      → slice_index_or (slice_set rows at row) q None ≡ cond (eq_by_cmp nat_cmp q at) row (slice_index_or rows q None)
  row_set rows at row low q = elim (cases_eq q at) [
    | inl same ↦ ap (λ (n : ℕ). slice_index_or (slice_set rows at row) n None) same
        ∙ get_or-set_same rows at row None low
        ∙ sym (ap (λ (b : Bool). cond b row (slice_index_or rows q None))
        (ap (λ (n : ℕ). eq_by_cmp nat_cmp n at) same ∙ same_key at))
    | inr apart ↦ get_or-set_other rows at q row None apart
        ∙ sym (ap (λ (b : Bool). cond b row (slice_index_or rows q None))
        (other_key q at apart (eq_by_cmp nat_cmp q at) refl))
  ]

  pub inserted : (rows : List (Option X)) (at : ℕ) (x : X) → at < length rows
      → rows_from 0 (slice_set rows at (Some x)) ≡ insert (rows_from 0 rows) at x
  inserted rows at x low = same_map nat_cmp_total nat_cmp-IsAntisymmetric _ _ (λ (q : ℕ).
      found (slice_set rows at (Some x)) q ∙ row_set rows at (Some x) low q
      ∙ ap (cond (eq_by_cmp nat_cmp q at) (Some x)) (sym (found rows q))
      ∙ sym (get-insert nat_cmp_total (rows_from 0 rows) at x q))

  pub removed : (rows : List (Option X)) (at : ℕ) → at < length rows
      → rows_from 0 (slice_set rows at None) ≡ remove (rows_from 0 rows) at
  removed rows at low = same_map nat_cmp_total nat_cmp-IsAntisymmetric _ _ (λ (q : ℕ).
      found (slice_set rows at None) q ∙ row_set rows at None low q
      ∙ ap (cond (eq_by_cmp nat_cmp q at) None) (sym (found rows q))
      ∙ sym (get-remove nat_cmp_total (rows_from 0 rows) at q))

  -- removing a number without a row changes nothing
  pub removed_past : (rows : List (Option X)) (at : ℕ) → length rows ≤ at
      → rows_from 0 rows ≡ remove (rows_from 0 rows) at
  removed_past rows at past = same_map nat_cmp_total nat_cmp-IsAntisymmetric _ _ (λ (q : ℕ).
      go q (cases_eq q at) ∙ sym (get-remove nat_cmp_total (rows_from 0 rows) at q))
    where
      go : (q : ℕ) → ((q ≡ at) ⊎ (q ≡ at → ⊥))
          → get (rows_from 0 rows) q ≡ cond (eq_by_cmp nat_cmp q at) None (get (rows_from 0 rows) q)
      go q (inl same) = ap (get (rows_from 0 rows)) same ∙ none_past rows at past
          ∙ sym (ap (λ (b : Bool). cond b None (get (rows_from 0 rows) q))
          (ap (λ (n : ℕ). eq_by_cmp nat_cmp n at) same ∙ same_key at))
      go q (inr apart) =
          sym (ap (λ (b : Bool). cond b None (get (rows_from 0 rows) q))
          (other_key q at apart (eq_by_cmp nat_cmp q at) refl))

  -- a row without a value is appended
  pub grown : (rows : List (Option X)) (first : ℕ) → rows_from first (rows ++ None ∷ []) ≡ rows_from first rows
  grown [] first = refl
  grown (None ∷ rows) first = grown rows (first + 1)
  grown (Some x ∷ rows) first = ap (λ (m : FinMap {K = ℕ} nat_cmp X). insert m first x) (grown rows (first + 1))
