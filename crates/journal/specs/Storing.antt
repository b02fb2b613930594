-- The contents of a slot after a crash, while bytes are stored after its gate.
use Rattle.std.specs.Prelude.{◌≡◌, ◌⊎◌, ℕ, ◌-◌, List, ◌∷◌, ◌++◌, length, take}

-- The slot as it was, with any bytes after it; or the slot with any byte in place of its last one, the gate, and the
-- stored bytes after it.
abbrev pub IsMidStore : List ℕ → List ℕ → List ℕ → Type 0
IsMidStore encoding old new =
    ((tail : List ℕ) × (new ≡ old ++ tail)) ⊎ ((gate : ℕ) × (new ≡ take (length old - 1) old ++ (gate ∷ encoding)))
