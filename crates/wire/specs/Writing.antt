-- The effect of a failed write.
use Rattle.std.specs.Prelude.{◌≡◌, ℕ, List, ◌++◌, Option}
use Rattle.std.specs.Io.KnownBytes.{Appends}

-- if the contents are known before and after, a prefix of these bytes was appended
abbrev pub AppendsPart : Option (List ℕ) → Option (List ℕ) → List ℕ → Type 0
AppendsPart old new bytes = (sent rest : List ℕ) × (bytes ≡ sent ++ rest) × Appends old new sent
