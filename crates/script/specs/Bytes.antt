-- Reading bytes.
use Rattle.std.specs.Prelude.{ℕ, List, [], ◌∷◌, Option, None, Some, Ok, codes, if◌then◌else◌}
use Rattle.std.specs.Result.{result_ok}
use Rattle.std.specs.Str.{bytes_eq}
use Rattle.hex.specs.Hex.{decode_of}
use Rattle.script.specs.declared.fault.Expected.TheVariants as expected
use Rattle.script.specs.Reading.{Reading, ◌>>=◌, stop, wanted, label_at}

abbrev pub read_bytes : List ℕ → Option (List ℕ)
read_bytes word = if bytes_eq word (codes "none") then Some [] else result_ok (decode_of word)

unfoldable pub bytes_at : List (List ℕ) → Reading (List ℕ × List (List ℕ))
bytes_at [] = stop expected.Bytes []
bytes_at (word ∷ words) = wanted expected.Bytes (word ∷ words) (read_bytes word) >>= λ bytes. Ok (bytes, words)

-- the bytes after their label, or none if the label is missing
unfoldable pub optional_bytes_at : List ℕ → List (List ℕ) → Reading (List ℕ × List (List ℕ))
optional_bytes_at label words = elim (label_at label words) [ None ↦ Ok ([], words) | Some rest ↦ bytes_at rest ]
