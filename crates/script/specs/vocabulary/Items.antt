-- Definitions that writers and readers of items share.
use Rattle.std.specs.Prelude.{ℕ, ◌+◌, ◌*◌, ◌%◌, ◌==◌, List, [], ◌∷◌, if◌then◌else◌}

-- the zeros that pad n bytes of an item to a multiple of four
abbrev pub zeros : ℕ → List ℕ
zeros n = if n % 4 == 0 then [] else if n % 4 == 1 then 0 ∷ 0 ∷ 0 ∷ [] else if n % 4 == 2 then 0 ∷ 0 ∷ [] else 0 ∷ []

-- the word of a short inline descriptor
abbrev pub descriptor : ℕ → ℕ → ℕ → ℕ
descriptor type_name bits number = type_name + bits * 0x100 + number * 0x1_0000 + 0x1000_0000
