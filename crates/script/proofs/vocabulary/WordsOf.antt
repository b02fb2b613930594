-- The words of a line, one after another.
use Rattle.std.proofs.Common.{◌≡◌, ℕ, zero, suc, ◌+◌, ◌-◌, ◌<◌, ◌≤◌, Bool, true, false, ◌&&◌, ◌==◌, List, [], ◌∷◌, ◌++◌, length, take, drop, cond, refl, sym, ap, ◌∙◌, arith, one-add, append_assoc}
use Rattle.std.specs.Prelude.{Result, Ok, Err, OnOk, ⊤}
use Rattle.std.specs.List.{prefix_len}
use Rattle.std.proofs.Math.Seq.{take-append_seam}
use Rattle.std.proofs.lemmas.Bool.{and_parts}
use Rattle.std.proofs.lemmas.Bool.Decides.{nat_tests}
use Rattle.std.proofs.lemmas.Grind.{flat_map-append}
use Rattle.std.proofs.lemmas.List.{append-nil}
use Rattle.script.specs.vocabulary.Spaced.{is_space, is_word_byte, begins_word, in_front, words_of, word_end, column_of, spaced, line_of}

-- a byte that isn't a space and doesn't begin a comment is a byte of a word
word_byte : (c : ℕ) → is_space c ≡ false → (c == 35) ≡ false → is_word_byte c ≡ true
word_byte c visible plain = grind (arith, nat_tests)

-- a byte of a word is neither a space nor begins a comment
grind_visible : (c : ℕ) → is_word_byte c ≡ true → (is_space c ≡ false) × ((c == 35) ≡ false)
grind_visible c is = (grind (arith, nat_tests), grind (arith, nat_tests))

pub after_spaces : (s : List ℕ) → words_of (drop (prefix_len is_space s) s) ≡ words_of s
unfolding words_of
after_spaces [] = refl
after_spaces (c ∷ cs) =
    elim (is_space c) as (λ (b : Bool). is_space c ≡ b
    → words_of (drop (cond b (1 + prefix_len is_space cs) 0) (c ∷ cs)) ≡ words_of (c ∷ cs)) [
      | true ↦ λ (is : _). rw one-add (rw is (after_spaces cs))
      | false ↦ λ (is : _). refl
    ] refl

-- there is no word if none begins after the spaces
pub no_word : (s : List ℕ) → prefix_len is_word_byte (drop (prefix_len is_space s) s) ≡ 0 → words_of s ≡ []
unfolding words_of
no_word [] none = refl
no_word (c ∷ cs) none =
    elim (is_space c) as (λ (b : Bool). is_space c ≡ b
    → prefix_len is_word_byte (drop (cond b (1 + prefix_len is_space cs) 0) (c ∷ cs)) ≡ 0
    → cond b (words_of cs) (cond (c == 35) []
    (cond (begins_word cs) (in_front c (words_of cs)) ((c ∷ []) ∷ words_of cs))) ≡ []) [
      | true ↦ λ (is : _) (left : _). no_word cs (rw one-add at left)
      | false ↦ λ (is : _) (left : _). elim (c == 35)
          as (λ (b : Bool). (c == 35) ≡ b
          → cond b [] (cond (begins_word cs) (in_front c (words_of cs)) ((c ∷ []) ∷ words_of cs)) ≡ []) [
            | true ↦ λ (_ : _). refl
            | false ↦ λ (plain : _). absurd (omega (arith, rw (word_byte c is plain) at left))
          ] refl
    ] refl none

-- a byte of a word begins a word
pub word_front : (c : ℕ) (cs : List ℕ) → is_word_byte c ≡ true
    → words_of (c ∷ cs) ≡ (c ∷ take (prefix_len is_word_byte cs) cs) ∷ words_of (drop (prefix_len is_word_byte cs) cs)
unfolding words_of
word_front c [] is = let visible = grind_visible c is in rw (visible.0, visible.1) refl
word_front c (d ∷ ds) is =
    let visible = grind_visible c is in
    elim (is_word_byte d) as (λ (b : Bool). is_word_byte d ≡ b
    → cond (is_space c) (words_of (d ∷ ds))
    (cond (c == 35) [] (cond b (in_front c (words_of (d ∷ ds))) ((c ∷ []) ∷ words_of (d ∷ ds))))
    ≡ (c ∷ take (cond b (1 + prefix_len is_word_byte ds) 0) (d ∷ ds)) ∷ words_of
    (drop (cond b (1 + prefix_len is_word_byte ds) 0) (d ∷ ds))) [
      | true ↦ λ (more : _). rw (visible.0, visible.1) (rw one-add (ap (in_front c) (word_front d ds more)))
      | false ↦ λ (_ : _). rw (visible.0, visible.1) refl
    ] refl

-- all bytes are bytes of words
abbrev pub are_word_bytes : List ℕ → Bool
are_word_bytes [] = true
are_word_bytes (c ∷ cs) = is_word_byte c && are_word_bytes cs

abbrev pub is_word : List ℕ → Bool
is_word [] = false
is_word (c ∷ cs) = is_word_byte c && are_word_bytes cs

abbrev pub are_words : List (List ℕ) → Bool
are_words [] = true
are_words (w ∷ ws) = is_word w && are_words ws

-- a word ends before the first byte that can't be in a word
whole_word : (cs rest : List ℕ) → are_word_bytes cs ≡ true → begins_word rest ≡ false
    → prefix_len is_word_byte (cs ++ rest) ≡ length cs
whole_word [] [] are ends = refl
whole_word [] (d ∷ rest) are ends = ap (λ (b : Bool). cond b (1 + prefix_len is_word_byte rest) 0) ends
whole_word (c ∷ cs) rest are ends =
    let parts = and_parts (is_word_byte c) (are_word_bytes cs) are in
    ap (λ (b : Bool). cond b (1 + prefix_len is_word_byte (cs ++ rest)) 0) parts.0
    ∙ one-add (prefix_len is_word_byte (cs ++ rest)) ∙ ap (λ (n : ℕ). suc n) (whole_word cs rest parts.1 ends)

take_front : (xs ys : List ℕ) (n : ℕ) → n ≡ length xs → take n (xs ++ ys) ≡ xs
take_front xs ys n is = ap (λ (k : ℕ). take k (xs ++ ys)) is ∙ take-append_seam xs ys

drop_seam : (xs ys : List ℕ) → drop (length xs) (xs ++ ys) ≡ ys
drop_seam [] ys = refl
drop_seam (x ∷ xs) ys = drop_seam xs ys

drop_front : (xs ys : List ℕ) (n : ℕ) → n ≡ length xs → drop n (xs ++ ys) ≡ ys
drop_front xs ys n is = ap (λ (k : ℕ). drop k (xs ++ ys)) is ∙ drop_seam xs ys

one_word : (w rest : List ℕ) → is_word w ≡ true → begins_word rest ≡ false → words_of (w ++ rest) ≡ w ∷ words_of rest
one_word [] rest is ends = absurd (cc)
one_word (c ∷ cs) rest is ends =
    let parts = and_parts (is_word_byte c) (are_word_bytes cs) is in
    let whole = whole_word cs rest parts.1 ends in
    word_front c (cs ++ rest) parts.0 ∙ ap
    (λ (l : List ℕ). (c ∷ l) ∷ words_of (drop (prefix_len is_word_byte (cs ++ rest)) (cs ++ rest)))
    (take_front cs rest _ whole)
    ∙ ap (λ (l : List ℕ). (c ∷ cs) ∷ words_of l) (drop_front cs rest _ whole)

spaced_ends : (ws : List (List ℕ)) → begins_word (spaced ws) ≡ false
unfolding spaced
spaced_ends [] = refl
spaced_ends (w ∷ ws) = refl

pub spaced_again : (ws : List (List ℕ)) → are_words ws ≡ true → words_of (spaced ws) ≡ ws
unfolding spaced words_of
spaced_again [] are = refl
spaced_again (w ∷ ws) are =
    let parts = and_parts (is_word w) (are_words ws) are in
    one_word w (spaced ws) parts.0 (spaced_ends ws) ∙ ap (λ (l : List (List ℕ)). w ∷ l) (spaced_again ws parts.1)

-- the words of a line built from words are these words
pub line_again : (ws : List (List ℕ)) → are_words ws ≡ true → words_of (line_of ws) ≡ ws
unfolding words_of
line_again [] are = refl
line_again (w ∷ ws) are =
    let parts = and_parts (is_word w) (are_words ws) are in
    one_word w (spaced ws) parts.0 (spaced_ends ws) ∙ ap (λ (l : List (List ℕ)). w ∷ l) (spaced_again ws parts.1)

-- words appended after words
pub spaced_more : (old : List ℕ) (a b : List (List ℕ)) → (old ++ spaced a) ++ spaced b ≡ old ++ spaced (a ++ b)
unfolding spaced
spaced_more old a b =
    append_assoc old (spaced a) (spaced b) ∙ ap
    (λ (l : List ℕ). old ++ l) (sym (flat_map-append (λ (word : List ℕ). 32 ∷ word) a b))

pub spaced_one : (old word : List ℕ) → (old ++ 32 ∷ []) ++ word ≡ old ++ spaced (word ∷ [])
unfolding spaced
spaced_one old word = append_assoc old (32 ∷ []) word ∙ ap (λ (l : List ℕ). old ++ (32 ∷ l)) (sym (append-nil word))

pub spaced_none : (old : List ℕ) → old ++ spaced [] ≡ old
unfolding spaced
spaced_none old = append-nil old

-- the first word of a text
first_part : (t : List ℕ) (n : ℕ) → n ≡ prefix_len is_word_byte t → (n ≡ 0 → ⊥)
    → words_of t ≡ take n t ∷ words_of (drop n t)
first_part [] n is some = absurd (some is)
first_part (c ∷ cs) n is some =
    elim (is_word_byte c) as (λ (b : Bool). is_word_byte c ≡ b → n ≡ cond b (1 + prefix_len is_word_byte cs) 0
    → words_of (c ∷ cs) ≡ take n (c ∷ cs) ∷ words_of (drop n (c ∷ cs))) [
      | true ↦ λ (one : _) (count : _). let e : n ≡ suc (prefix_len is_word_byte cs) = omega (arith, count) in
          rw e (word_front c cs one)
      | false ↦ λ (_ : _) (count : _). absurd (some count)
    ] refl is

pub first_word : (s t : List ℕ) (n : ℕ) → t ≡ drop (prefix_len is_space s) s → n ≡ prefix_len is_word_byte t
    → (n ≡ 0 → ⊥)
    → words_of s ≡ take n t ∷ words_of (drop n t)
first_word s t n is count some = sym (after_spaces s) ∙ ap words_of (sym is) ∙ first_part t n count some

pub ruleset spaced_laws = (spaced_more, spaced_none)

-- bytes appended in two steps, and in three, of which only the last can fail
pub pushed_two : {E : Type 0} (r : Result ⊤ E) (old first second : List ℕ) (a b : List (List ℕ))
    → first ≡ old ++ spaced a → OnOk r (second ≡ first ++ spaced b)
    → OnOk r (second ≡ old ++ spaced (a ++ b))
pushed_two (Ok done) old first second a b one two = two ∙ ap (λ (l : List ℕ). l ++ spaced b) one ∙ spaced_more old a b
pushed_two (Err e) old first second a b one two = tt

pub pushed_three : {E : Type 0} (r : Result ⊤ E) (old first second third : List ℕ) (a b c : List (List ℕ))
    → first ≡ old ++ spaced a → second ≡ first ++ spaced b
    → OnOk r (third ≡ second ++ spaced c) → OnOk r (third ≡ old ++ spaced ((a ++ b) ++ c))
pushed_three r old first second third a b c one two three =
    pushed_two r old second third (a ++ b) c (two ∙ ap (λ (l : List ℕ). l ++ spaced b) one ∙ spaced_more old a b) three

-- no words remain
pub rest_none : (line old : List ℕ) (rest all : List (List ℕ)) → rest ≡ [] → line ++ spaced rest ≡ old ++ spaced all
    → line ≡ old ++ spaced all
rest_none line old rest all none is =
    sym (spaced_none line) ∙ ap (λ (l : List (List ℕ)). line ++ spaced l) (sym none) ∙ is

in_front_fits : (c : ℕ) (ws : List (List ℕ)) (n : ℕ) → length ws ≤ n → length (in_front c ws) ≤ suc n
in_front_fits c [] n fit = omega arith
in_front_fits c (w ∷ ws) n fit = omega (arith, fit)

-- a line has no more words than bytes
pub words_fit : (s : List ℕ) → length (words_of s) ≤ length s
unfolding words_of
words_fit [] = omega arith
words_fit (c ∷ cs) =
    elim (is_space c) as (λ (b : Bool). length
    (cond b (words_of cs) (cond (c == 35) []
    (cond (begins_word cs) (in_front c (words_of cs)) ((c ∷ []) ∷ words_of cs)))) ≤ suc (length cs)) [
      | true ↦ omega (arith, words_fit cs)
      | false ↦ elim (c == 35) as (λ (b : Bool). length
          (cond b [] (cond (begins_word cs) (in_front c (words_of cs)) ((c ∷ []) ∷ words_of cs))) ≤ suc (length cs)) [
            | true ↦ omega arith
            | false ↦ elim (begins_word cs)
                as (λ (b : Bool). length (cond b (in_front c (words_of cs)) ((c ∷ []) ∷ words_of cs)) ≤ suc
                (length cs)) [
                  | true ↦ in_front_fits c (words_of cs) (length cs) (words_fit cs)
                  | false ↦ omega (arith, words_fit cs)
                ]
          ]
    ]

-- one more word is skipped
pub column_next : (column left : ℕ) (rest : List ℕ) → 0 < left
    → (column + word_end rest) + column_of (left - 1) (drop (word_end rest) rest) ≡ column + column_of left rest
unfolding column_of
column_next column zero rest some = absurd (omega arith)
column_next column (suc n) rest some = let e : suc n - 1 ≡ n = omega arith in rw e (omega arith)

pub column_end : (column : ℕ) (rest : List ℕ) (left : ℕ) → left ≡ 0
    → column + prefix_len is_space rest ≡ column + column_of left rest
unfolding column_of
column_end column rest left none = rw none refl
