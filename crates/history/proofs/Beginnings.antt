-- Lists of entries of which one is a prefix of the other.
use Rattle.std.proofs.Common.{◌≡◌, ℕ, zero, suc, refl, ◌≤◌, List, [], ◌∷◌, ◌++◌, length, take, drop, take-append-drop, length-append, ap, sym, ◌∙◌, ◌⊎◌, inl, inr, arith}
use Rattle.std.proofs.Math.Seq.{take-length}
use Rattle.std.proofs.lemmas.Bool.{cases_lt}
use Rattle.std.proofs.lemmas.List.{append-nil, length-drop, length-map, length-take, map-append, take-take, take_at}
use Rattle.history.specs.declared.entry.Entry.{Entry}
use Rattle.history.specs.Entries.{Begins, records_of}

pub begins_more : (xs ys : List Entry) → Begins xs (xs ++ ys)
begins_more xs ys = take_at xs ys (length xs) (omega arith)

pub begins_length : (xs ys : List Entry) → Begins xs ys → length xs ≤ length ys
begins_length xs ys begins = omega (arith, ap length begins, length-take (length xs) ys)

pub begins_trans : (xs ys zs : List Entry) → Begins xs ys → Begins ys zs → Begins xs zs
begins_trans xs ys zs first second =
    sym (take-take (length xs) (length ys) zs (begins_length xs ys first)) ∙ (ap (take (length xs)) second ∙ first)

-- a prefix of a list with one more item, of the list's own length, is that list
pub begins_same : (xs ys : List Entry) (e : Entry) → Begins xs (ys ++ e ∷ []) → length ys ≡ length xs → ys ≡ xs
begins_same xs ys e begins long = sym (take_at ys (e ∷ []) (length xs) long) ∙ begins

pub begins_itself : (xs : List Entry) → Begins xs xs
begins_itself xs = take-length xs

-- a list is any prefix of it, and then the rest
pub begins_rest : (xs ys : List Entry) → Begins xs ys → ys ≡ xs ++ drop (length xs) ys
begins_rest xs ys begins =
    sym (take-append-drop (length xs) ys) ∙ ap (λ (l : List Entry). l ++ drop (length xs) ys) begins

-- and so are its records
pub begins_records : (xs ys : List Entry) → Begins xs ys
    → records_of ys ≡ records_of xs ++ records_of (drop (length xs) ys)
begins_records xs ys begins =
    ap records_of (begins_rest xs ys begins) ∙ map-append (λ (e : Entry). e.«record») xs (drop (length xs) ys)

pub begins_records_length : (xs ys : List Entry) → Begins xs ys → length (records_of xs) ≤ length (records_of ys)
begins_records_length xs ys begins =
    omega (
      arith,
      begins_length xs ys begins,
      length-map xs (λ (e : Entry). e.«record»),
      length-map ys (λ (e : Entry). e.«record»),
    )

-- a prefix of a list that is as long as the list is that list
pub begins_whole : (xs ys : List Entry) → Begins xs ys → length ys ≡ length xs → ys ≡ xs
begins_whole xs ys begins same = sym (take-length ys) ∙ ap (λ (n : ℕ). take n ys) same ∙ begins

none_left : (n : ℕ) (xs : List Entry) → length xs ≤ n → drop n xs ≡ []
none_left zero [] less = refl
none_left (suc n) [] less = refl
none_left zero (x ∷ xs) less = absurd (omega (arith, less))
none_left (suc n) (x ∷ xs) less = none_left n xs (omega (arith, less))

-- what caught up with another list is what it was, or that other list
pub begins_caught : (old other new : List Entry) → new ≡ old ++ drop (length old) other → Begins other new → (new ≡ old)
    ⊎ (new ≡ other)
begins_caught old other new is begins = elim (cases_lt (length old) (length other)) [
  | inl longer ↦ inr (begins_whole other new begins
      (omega (
        arith,
        ap length is,
        length-append old (drop (length old) other),
        length-drop (length old) other,
        longer,
      )))
  | inr shorter ↦ inl (is ∙ ap (λ (l : List Entry). old ++ l) (none_left (length old) other (omega (arith, shorter)))
      ∙ append-nil old)
]
