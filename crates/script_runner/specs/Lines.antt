-- The words of a line, and the meaning of a line by its first word.
use Rattle.std.specs.Prelude.{◌≡◌, ℕ, Bool, not, ◌==◌, nat_le, List, [], ◌∷◌, ◌++◌, take, drop, codes}
use Rattle.std.specs.List.{prefix_len}
use Rattle.script_runner.specs.declared.directive.Directive.{Directive}
use Rattle.script_runner.specs.declared.directive.Directive.TheVariants as directive

-- the number of bytes before a '#', and these bytes
abbrev pub encoding_length : List ℕ → ℕ
encoding_length line = prefix_len (λ c. not (c == 35)) line

abbrev pub before_comment : List ℕ → List ℕ
before_comment line = take (encoding_length line) line

-- a space, a tab, or any other byte that isn't above the space
abbrev pub is_space : ℕ → Bool
is_space c = nat_le c 32

abbrev pub after_spaces : List ℕ → List ℕ
after_spaces line = drop (prefix_len is_space line) line

-- the length of the word with which a text begins
abbrev pub word_length : List ℕ → ℕ
word_length text = prefix_len (λ c. not (is_space c)) text

-- the first word, which is empty if there is none, and the text after it
abbrev pub first_word : List ℕ → List ℕ
first_word line = take (word_length (after_spaces line)) (after_spaces line)

abbrev pub after_first : List ℕ → List ℕ
after_first line = drop (word_length (after_spaces line)) (after_spaces line)

-- The directive of a line is that of its first word, and its parts follow that word. Any line may count as a call: the
-- reader of calls refuses a line that isn't one.
abbrev pub IsDirective : Directive → List ℕ → Type 0
IsDirective directive.Nothing line = first_word line ≡ []
IsDirective directive.Straight line = first_word line ≡ codes "straight"
IsDirective directive.Connect line = first_word line ≡ codes "connect"
IsDirective (directive.Slot length) line =
    (first_word line ≡ codes "slot") × (first_word (after_first line) ≡ codes "segment0")
IsDirective (directive.Frame sent wanted) line =
    (first_word line ≡ codes "frame") × (after_first line ≡ sent.now ++ 61 ∷ wanted.now)
IsDirective (directive.Repeat times asked) line =
    (first_word line ≡ codes "repeat") × (after_first (after_first line) ≡ asked.now)
IsDirective directive.Call line = Unit {0}
