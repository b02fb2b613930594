-- Words are read as the values for which they were printed.
use Rattle.std.proofs.Common.{◌≡◌, ℕ, ◌^◌, ◌<◌, ◌≤◌, Bool, true, false, ◌==◌, List, [], ◌∷◌, ◌++◌, cond, refl, sym, ap, ◌∙◌, arith, Option, Some, None, Ok}
use Rattle.std.specs.Prelude.{nat_lt}
use Rattle.std.specs.Str.{bytes_eq}
use Rattle.std.proofs.lemmas.Bool.{eqb-true}
use Rattle.std.proofs.lemmas.Bool.Decides.{nat_tests}
use Rattle.std.proofs.lemmas.Slice.Eq.{bytes_eq-Decides}
use Rattle.words.specs.Words.{AreBytes}
use Rattle.script.specs.declared.vocabulary.kind.Kind.{Kind}
use Rattle.script.specs.declared.vocabulary.kind.Kind.TheVariants as kind
use Rattle.script.specs.vocabulary.Kinds.{value_word, read_word, begins_with_letter}
use Rattle.script.specs.printing.Bytes.{bytes_word, optional_bytes}
use Rattle.script.specs.printing.Messages.{optional_words, flag_words}
use Rattle.script.specs.Bytes.{bytes_at, optional_bytes_at}
use Rattle.script.specs.Items.{numbers_at}
use Rattle.script.specs.declared.fault.Expected.{Expected}
use Rattle.script.specs.declared.fault.Expected.TheVariants.{Number, Label, Bytes}
use Rattle.script.specs.Reading.{Reading, ◌>>=◌, wanted, number_at, value_at, if_below, bounded_at, label_at, labelled_at, optional_at, flag_at}
use Rattle.script.proofs.ValuesAgain.{word_again, bytes_again}

-- the word of a number is read as the number
abbrev pub IsNumber : Kind → Type 0
IsNumber kind.Absent = ⊥
IsNumber k = Unit {0}

pub number_again : (k : Kind) (n : ℕ) (ws : List (List ℕ)) → IsNumber k → n < 2 ^ 32
    → number_at k (value_word k n ∷ ws) ≡ Some (n, ws)
unfolding number_at
number_again kind.Absent n ws number fits = absurd number
number_again k n ws number fits =
    ap (λ (o : Option ℕ). elim o as (λ _. Option (ℕ × List (List ℕ))) [ None ↦ None | Some m ↦ Some (m, ws) ])
    (word_again k n fits)

pub value_again : (k : Kind) (n : ℕ) (ws : List (List ℕ)) → IsNumber k → n < 2 ^ 32
    → value_at k (value_word k n ∷ ws) ≡ Ok (n, ws)
unfolding value_at
value_again k n ws number fits = ap (wanted Number (value_word k n ∷ ws)) (number_again k n ws number fits)

pub bounded_again : (e : Expected) (k : Kind) (bound n : ℕ) (ws : List (List ℕ)) → IsNumber k → n < bound
    → bound ≤ 2 ^ 32
    → bounded_at e k bound (value_word k n ∷ ws) ≡ Ok (n, ws)
unfolding bounded_at
bounded_again e k bound n ws number small fits =
    let less : nat_lt n bound ≡ true = grind (arith, nat_tests) in
    ap (λ (o : Option (ℕ × List (List ℕ))). wanted e (value_word k n ∷ ws) (if_below bound o))
    (number_again k n ws number (omega arith))
    ∙ ap (λ (b : Bool). wanted e (value_word k n ∷ ws) (cond b (Some (n, ws)) None)) less

pub same_bytes : (bytes : List ℕ) → bytes_eq bytes bytes ≡ true
same_bytes bytes = (bytes_eq-Decides bytes bytes).1 refl

pub label_again : (label : List ℕ) (ws : List (List ℕ)) → label_at label (label ∷ ws) ≡ Some ws
unfolding label_at
label_again label ws = ap (λ (b : Bool). cond b (Some ws) None) (same_bytes label)

pub other_label : (label word : List ℕ) (ws : List (List ℕ)) → bytes_eq word label ≡ false
    → label_at label (word ∷ ws) ≡ None
unfolding label_at
other_label label word ws other = ap (λ (b : Bool). cond b (Some ws) None) other

pub labelled_again : (label : List ℕ) (k : Kind) (n : ℕ) (ws : List (List ℕ)) → IsNumber k → n < 2 ^ 32
    → labelled_at label k (label ∷ value_word k n ∷ ws) ≡ Ok (n, ws)
unfolding labelled_at
labelled_again label k n ws number fits =
    ap (λ (o : Option (List (List ℕ))). wanted Label
    (label ∷ value_word k n ∷ ws) o >>= λ (rest : List (List ℕ)). value_at k rest)
    (label_again label (value_word k n ∷ ws)) ∙ value_again k n ws number fits

pub optional_again : (label : List ℕ) (k : Kind) (n : ℕ) (ws : List (List ℕ)) → IsNumber k → n < 2 ^ 32
    → label_at label ws ≡ None
    → optional_at label k (optional_words label k n ++ ws) ≡ Ok (n, ws)
unfolding optional_at optional_words
optional_again label k n ws number fits none =
    elim (n == 0) as (λ (b : Bool). (n == 0) ≡ b
    → elim (label_at label (cond b [] (label ∷ value_word k n ∷ []) ++ ws)) as (λ _. Reading (ℕ × List (List ℕ)))
    [ None ↦ Ok (0, cond b [] (label ∷ value_word k n ∷ []) ++ ws) | Some rest ↦ value_at k rest ] ≡ Ok (n, ws)) [
      | true ↦ λ (is : _). rw none (ap (λ (m : ℕ). Ok (m, ws)) (sym (eqb-true n 0 is)))
      | false ↦ λ (_ : _). rw (label_again label (value_word k n ∷ ws)) (value_again k n ws number fits)
    ] refl

pub flag_again : (label : List ℕ) (b : Bool) (ws : List (List ℕ)) → label_at label ws ≡ None
    → flag_at label (flag_words label b ++ ws) ≡ (b, ws)
unfolding flag_at flag_words
flag_again label true ws none = rw (label_again label ws, flag_at) refl
flag_again label false ws none = rw (none, flag_at) refl

-- another label is skipped
pub past_optional : (label other : List ℕ) (k : Kind) (n : ℕ) (ws : List (List ℕ)) → bytes_eq other label ≡ false
    → label_at label ws ≡ None
    → label_at label (optional_words other k n ++ ws) ≡ None
unfolding optional_words
past_optional label other k n ws apart none =
    elim (n == 0) as (λ (b : Bool). label_at label (cond b [] (other ∷ value_word k n ∷ []) ++ ws) ≡ None) [
      | true ↦ none
      | false ↦ other_label label other (value_word k n ∷ ws) apart
    ]

pub past_flag : (label other : List ℕ) (b : Bool) (ws : List (List ℕ)) → bytes_eq other label ≡ false
    → label_at label ws ≡ None
    → label_at label (flag_words other b ++ ws) ≡ None
unfolding flag_words
past_flag label other true ws apart none = other_label label other ws apart
past_flag label other false ws apart none = none

pub past_bytes : (label other bytes : List ℕ) (ws : List (List ℕ)) → bytes_eq other label ≡ false
    → label_at label ws ≡ None
    → label_at label (optional_bytes other bytes ++ ws) ≡ None
unfolding optional_bytes
past_bytes label other [] ws apart none = none
past_bytes label other (b ∷ bytes) ws apart none = other_label label other (bytes_word (b ∷ bytes) ∷ ws) apart

pub bytes_at_again : (bytes : List ℕ) (ws : List (List ℕ)) → AreBytes bytes
    → bytes_at (bytes_word bytes ∷ ws) ≡ Ok (bytes, ws)
unfolding bytes_at
bytes_at_again bytes ws fits =
    ap (λ (o : Option (List ℕ)). wanted Bytes (bytes_word bytes ∷ ws) o >>= λ (found : List ℕ). Ok (found, ws))
    (bytes_again bytes fits)

pub optional_bytes_again : (label bytes : List ℕ) (ws : List (List ℕ)) → AreBytes bytes → label_at label ws ≡ None
    → optional_bytes_at label (optional_bytes label bytes ++ ws) ≡ Ok (bytes, ws)
unfolding optional_bytes_at optional_bytes
optional_bytes_again label [] ws fits none = rw (none, optional_bytes_at) refl
optional_bytes_again label (b ∷ bytes) ws fits none =
    rw (label_again label (bytes_word (b ∷ bytes) ∷ ws), optional_bytes_at) (bytes_at_again (b ∷ bytes) ws fits)

-- the first word, if there is one, is neither a label that begins with a letter nor a number
abbrev pub NoLabel : List (List ℕ) → Type 0
NoLabel ws =
    ((label : List ℕ) → begins_with_letter label ≡ true → label_at label ws ≡ None) × (numbers_at ws ≡ ([], ws))

pub no_label_end : NoLabel []
unfolding label_at numbers_at
no_label_end = (λ (label : List ℕ) (letter : begins_with_letter label ≡ true). refl, refl)

sign_apart : (c : ℕ) (cs : List ℕ) (ws : List (List ℕ)) → c < 97 → (label : List ℕ) → begins_with_letter label ≡ true
    → label_at label ((c ∷ cs) ∷ ws) ≡ None
sign_apart c cs ws sign [] letter = other_label [] (c ∷ cs) ws refl
sign_apart c cs ws sign (d ∷ ds) letter = other_label (d ∷ ds) (c ∷ cs) ws (grind (arith, nat_tests))

-- a word that isn't a number ends a list of numbers
pub numbers_end : (word : List ℕ) (ws : List (List ℕ)) → read_word kind.Hexadecimal word ≡ None
    → numbers_at (word ∷ ws) ≡ ([], word ∷ ws)
unfolding numbers_at
numbers_end word ws none =
    ap (λ (o : Option ℕ). elim o as (λ _. List ℕ × List (List ℕ))
    [ None ↦ ([], word ∷ ws) | Some n ↦ (n ∷ (numbers_at ws).0, (numbers_at ws).1) ]) none

pub no_label_sign : (c : ℕ) (cs : List ℕ) (ws : List (List ℕ)) → c < 97 → read_word kind.Hexadecimal (c ∷ cs) ≡ None
    → NoLabel ((c ∷ cs) ∷ ws)
no_label_sign c cs ws sign none = (sign_apart c cs ws sign, numbers_end (c ∷ cs) ws none)

pub no_number_sign : (read_word kind.Hexadecimal (33 ∷ []) ≡ None) × (read_word kind.Hexadecimal (61 ∷ []) ≡ None)
unfolding read_word
no_number_sign = (refl, refl)
