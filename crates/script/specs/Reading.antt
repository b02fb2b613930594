-- Reading words: the value and the words left, or what was expected and at which words.
use Rattle.std.specs.Prelude.{◌≡◌, ℕ, Bool, true, false, nat_lt, List, [], ◌∷◌, length, Option, None, Some, Result, Ok, Err, if◌then◌else◌}
use Rattle.std.specs.Str.{bytes_eq}
use Rattle.script.specs.declared.vocabulary.kind.Kind.{Kind}
use Rattle.script.specs.declared.vocabulary.kind.Kind.TheVariants as kind
use Rattle.script.specs.vocabulary.Kinds.{read_word}
use Rattle.script.specs.declared.fault.Expected.{Expected}
use Rattle.script.specs.declared.fault.Expected.TheVariants.{Number, Label, End}
use Rattle.script.specs.declared.fault.Fault.{Fault}
use Rattle.script.specs.declared.fault.Fault.TheVariants as fault
use Rattle.script.specs.declared.fault.Stop.{Stop}

-- a value, or the place where reading stopped
abbrev pub Reading : Type 0 → Type 0
Reading X = Result X Stop

infixl 10 ◌>>=◌
abbrev pub ◌>>=◌ : {A B E : Type 0} → Result A E → (A → Result B E) → Result B E
(Err e) >>= f = Err e
(Ok x) >>= f = f x

-- something else was expected at these words
abbrev pub stop_at : Expected → List (List ℕ) → Stop
stop_at expected words = record { left = length words; expected = expected }

abbrev pub stop : {X : Type 0} → Expected → List (List ℕ) → Reading X
stop expected words = Err (stop_at expected words)

-- the value, or the fault that it was expected
abbrev pub wanted : {X : Type 0} → Expected → List (List ℕ) → Option X → Reading X
wanted expected words None = stop expected words
wanted expected words (Some x) = Ok x

-- A fault is out of memory, or that of reading.
abbrev pub Fails : {Y : Type 0} → Fault → Reading Y → Type 0
Fails fault.NoMemory read = Unit {0}
Fails (fault.Unreadable place) read = read ≡ Err place

-- The returned value, in terms of `view`, is the one that was read, unless out of memory.
abbrev pub Gives : {X Y : Type 0} → (X → Y) → Result X Fault → Reading Y → Type 0
Gives view (Ok x) read = read ≡ Ok (view x)
Gives view (Err e) read = Fails e read

-- the number at the front, if there is one
unfoldable pub number_at : Kind → List (List ℕ) → Option (ℕ × List (List ℕ))
number_at kind.Absent words = Some (0, words)
number_at k [] = None
number_at k (word ∷ words) = elim (read_word k word) [ None ↦ None | Some n ↦ Some (n, words) ]

-- the number at the front
unfoldable pub value_at : Kind → List (List ℕ) → Reading (ℕ × List (List ℕ))
value_at k words = wanted Number words (number_at k words)

abbrev pub if_below : ℕ → Option (ℕ × List (List ℕ)) → Option (ℕ × List (List ℕ))
if_below bound None = None
if_below bound (Some n) = if nat_lt n.0 bound then Some n else None

-- the number at the front, below a bound
unfoldable pub bounded_at : Expected → Kind → ℕ → List (List ℕ) → Reading (ℕ × List (List ℕ))
bounded_at expected k bound words = wanted expected words (if_below bound (number_at k words))

-- the words after a label, if it is the first word
unfoldable pub label_at : List ℕ → List (List ℕ) → Option (List (List ℕ))
label_at label [] = None
label_at label (word ∷ words) = if bytes_eq word label then Some words else None

-- the number after its label
unfoldable pub labelled_at : List ℕ → Kind → List (List ℕ) → Reading (ℕ × List (List ℕ))
labelled_at label k words = wanted Label words (label_at label words) >>= λ rest. value_at k rest

-- the same, or 0 if the label is missing
unfoldable pub optional_at : List ℕ → Kind → List (List ℕ) → Reading (ℕ × List (List ℕ))
optional_at label k words = elim (label_at label words) [ None ↦ Ok (0, words) | Some rest ↦ value_at k rest ]

-- true if this word is the first, and the words after it
unfoldable pub flag_at : List ℕ → List (List ℕ) → Bool × List (List ℕ)
flag_at label words = elim (label_at label words) [ None ↦ (false, words) | Some rest ↦ (true, rest) ]

-- the value, if no words are left
unfoldable pub last : {X : Type 0} → X × List (List ℕ) → Reading X
last (x, []) = Ok x
last (x, word ∷ words) = stop End (word ∷ words)
