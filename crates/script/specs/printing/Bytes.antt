-- The words of bytes.
use Rattle.std.specs.Prelude.{ℕ, List, [], ◌∷◌, codes}
use Rattle.hex.specs.Hex.{encode_lower}

-- two hexadecimal digits for each byte, or `none`
unfoldable pub bytes_word : List ℕ → List ℕ
bytes_word [] = codes "none"
bytes_word (b ∷ bytes) = encode_lower (b ∷ bytes)

-- a label and bytes, if there are any
unfoldable pub optional_bytes : List ℕ → List ℕ → List (List ℕ)
optional_bytes label [] = []
optional_bytes label (b ∷ bytes) = label ∷ bytes_word (b ∷ bytes) ∷ []
