-- Entries in their cells: which numbers determine them, and which list stands before each.
use Rattle.std.proofs.Common.{◌≡◌, ℕ, zero, suc, ◌+◌, ◌≤◌, Some, List, [], ◌∷◌, ◌++◌, length, take, drop, slice_get, refl, ap, sym, ◌∙◌, arith, append_assoc}
use Rattle.std.proofs.lemmas.List.{append-nil, take_all, take_more_same, take-append-drop, drop_all}
use Rattle.std.proofs.lemmas.Option.{get_or_from_slice_get, slice_get_within}
use Rattle.std.specs.Coded.{coded_list}
use base.Stored.{Gv, gnil, gnum, gcons}
use Rattle.history.specs.declared.entry.Entry.{Entry}
use Rattle.history.specs.contracts.entry.Entry as entry
use Rattle.history.specs.Entries.{numbers_of_tree, numbers_of, PlacedValue, place_after, placed_from, placed, Begins}

-- no tree's numbers are a prefix of another tree's
same_tree : (a b : Gv) (xs ys : List ℕ) → numbers_of_tree a ++ xs ≡ numbers_of_tree b ++ ys → (a ≡ b) × (xs ≡ ys)
unfolding numbers_of_tree
same_tree gnil gnil xs ys e = (refl, cc e)
same_tree gnil (gnum n) xs ys e = absurd (cc e)
same_tree gnil (gcons c d) xs ys e = absurd (cc e)
same_tree (gnum n) gnil xs ys e = absurd (cc e)
same_tree (gnum n) (gnum m) xs ys e = (cc e, cc e)
same_tree (gnum n) (gcons c d) xs ys e = absurd (cc e)
same_tree (gcons a b) gnil xs ys e = absurd (cc e)
same_tree (gcons a b) (gnum n) xs ys e = absurd (cc e)
same_tree (gcons a b) (gcons c d) xs ys e =
    let beyond : (numbers_of_tree a ++ numbers_of_tree b) ++ xs ≡ (numbers_of_tree c ++ numbers_of_tree d) ++ ys =
    cc e in
    let left = same_tree a c (numbers_of_tree b ++ xs) (numbers_of_tree d ++ ys)
    (sym (append_assoc (numbers_of_tree a) (numbers_of_tree b) xs) ∙ beyond
    ∙ append_assoc (numbers_of_tree c) (numbers_of_tree d) ys) in
    let right = same_tree b d xs ys left.1 in
    (cc (left.0, right.0), right.1)

pub same_numbers : (xs ys : List Entry) → numbers_of xs ≡ numbers_of ys → xs ≡ ys
unfolding numbers_of
same_numbers xs ys e =
    let c = coded_list entry.the_row.coded in
    c.inj xs ys (same_tree (c.code xs) (c.code ys) [] []
    (append-nil (numbers_of_tree (c.code xs)) ∙ e ∙ sym (append-nil (numbers_of_tree (c.code ys))))).0

placed_from-append : (before entries : List Entry) (e : Entry)
    → placed_from before (entries ++ e ∷ []) ≡ placed_from before entries ++ place_after (before ++ entries) e ∷ []
placed_from-append before [] e = ap (λ all. place_after all e ∷ []) (sym (append-nil before))
placed_from-append before (x ∷ entries) e =
    ap (λ rest. place_after before x ∷ rest) (placed_from-append (before ++ x ∷ []) entries e
    ∙ ap (λ all. placed_from (before ++ x ∷ []) entries ++ place_after all e ∷ [])
    (append_assoc before (x ∷ []) entries))

-- one more entry lies after all entries before it
pub placed-append : (entries : List Entry) (e : Entry)
    → placed (entries ++ e ∷ []) ≡ placed entries ++ place_after entries e ∷ []
placed-append entries e = placed_from-append [] entries e

pub length-placed_from : (before entries : List Entry) → length (placed_from before entries) ≡ length entries
length-placed_from before [] = refl
length-placed_from before (e ∷ entries) = ap suc (length-placed_from (before ++ e ∷ []) entries)

-- what lies in a cell is the entry at its place, with the numbers of those before it
pub placed_from_at : (before entries : List Entry) (i : ℕ) (p : PlacedValue)
    → slice_get (placed_from before entries) i ≡ Some p
    → (slice_get entries i ≡ Some p.entry) × (p.before ≡ numbers_of (before ++ take i entries))
placed_from_at before [] i p at = absurd (cc at)
placed_from_at before (e ∷ entries) zero p at = (
  cc at,
  let here : place_after before e ≡ p = cc at in sym (ap (λ (v : PlacedValue). v.before) here)
      ∙ ap numbers_of (sym (append-nil before)),
)
placed_from_at before (e ∷ entries) (suc i) p at =
    let rest = placed_from_at (before ++ e ∷ []) entries i p at in
    (rest.0, rest.1 ∙ ap numbers_of (append_assoc before (e ∷ []) (take i entries)))

-- if the last of the first entries lies in the same cell as one of the others, they are a prefix of the others
pub begins_at : (xs ys : List Entry) (i : ℕ) (p q : PlacedValue) → length xs ≡ i + 1 → slice_get (placed xs) i ≡ Some p
    → slice_get (placed ys) i ≡ Some q → p ≡ q → Begins xs ys
begins_at xs ys i p q long mine theirs same =
    let here = placed_from_at [] xs i p mine in
    let there = placed_from_at [] ys i q theirs in
    let before : take i xs ≡ take i ys =
    same_numbers _ _ (sym here.1 ∙ ap (λ (v : PlacedValue). v.before) same ∙ there.1) in
    let d : Entry = p.entry in
    let one = get_or_from_slice_get xs i p.entry d here.0 in
    let other = get_or_from_slice_get ys i q.entry d there.0 in
    let more =
    take_more_same xs ys i d (omega arith) (slice_get_within ys i q.entry there.0) before
    (one ∙ ap (λ (v : PlacedValue). v.entry) same ∙ sym other) in
    ap (λ n. take n ys) long ∙ sym more ∙ take_all (i + 1) xs (omega arith)

placed_from-take : (before entries : List Entry) (n : ℕ)
    → placed_from before (take n entries) ≡ take n (placed_from before entries)
placed_from-take before entries zero = refl
placed_from-take before [] (suc n) = refl
placed_from-take before (e ∷ entries) (suc n) =
    ap (λ rest. place_after before e ∷ rest) (placed_from-take (before ++ e ∷ []) entries n)

pub placed-take : (entries : List Entry) (n : ℕ) → placed (take n entries) ≡ take n (placed entries)
placed-take entries n = placed_from-take [] entries n

pub begins_itself : (xs : List Entry) → Begins xs xs
begins_itself xs = take_all (length xs) xs (omega arith)

-- what goes on from a list is that list, and what it has more
pub begins_split : (xs ys : List Entry) → Begins xs ys → ys ≡ xs ++ drop (length xs) ys
begins_split xs ys begins = sym (take-append-drop (length xs) ys) ∙ ap (λ l. l ++ drop (length xs) ys) begins

-- a list that isn't longer has nothing more
pub nothing_more : (xs ys : List Entry) → length ys ≤ length xs → xs ≡ xs ++ drop (length xs) ys
nothing_more xs ys less = sym (append-nil xs) ∙ ap (λ l. xs ++ l) (sym (drop_all (length xs) ys less))
