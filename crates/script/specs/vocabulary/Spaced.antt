-- The words of a line.
use Rattle.std.specs.Prelude.{ℕ, zero, suc, ◌+◌, Bool, false, ◌==◌, nat_le, nat_lt, not, ◌&&◌, List, [], ◌∷◌, ◌++◌, drop, flat_map, if◌then◌else◌}
use Rattle.std.specs.List.{prefix_len}

-- a byte between words: a space, a tab, or any other byte that isn't above the space
abbrev pub is_space : ℕ → Bool
is_space c = nat_le c 32

-- a byte of a word: any other byte but '#', with which a comment begins
abbrev pub is_word_byte : ℕ → Bool
is_word_byte c = nat_lt 32 c && not (c == 35)

abbrev pub begins_word : List ℕ → Bool
begins_word [] = false
begins_word (c ∷ cs) = is_word_byte c

abbrev pub in_front : ℕ → List (List ℕ) → List (List ℕ)
in_front c [] = (c ∷ []) ∷ []
in_front c (w ∷ ws) = (c ∷ w) ∷ ws

-- the words of a line: the longest runs of bytes between spaces, up to a comment
unfoldable pub words_of : List ℕ → List (List ℕ)
words_of [] = []
words_of (c ∷ cs) =
    if is_space c then words_of cs
    else if c == 35 then []
    else if begins_word cs then in_front c (words_of cs) else (c ∷ []) ∷ words_of cs

-- the length of the first word with the spaces before it
abbrev pub word_end : List ℕ → ℕ
word_end line = prefix_len is_space line + prefix_len is_word_byte (drop (prefix_len is_space line) line)

-- the offset of what follows the first words of a line, and the spaces after them
unfoldable pub column_of : ℕ → List ℕ → ℕ
column_of zero line = prefix_len is_space line
column_of (suc n) line = word_end line + column_of n (drop (word_end line) line)

-- words after something else, each after a space
unfoldable pub spaced : List (List ℕ) → List ℕ
spaced words = flat_map (λ word. 32 ∷ word) words

-- words as a line
abbrev pub line_of : List (List ℕ) → List ℕ
line_of [] = []
line_of (word ∷ words) = word ++ spaced words
