-- The options of mach_msg. Each is one bit and has a name.
use Rattle.std.specs.Prelude.{ℕ, List, [], ◌∷◌, codes, None, Some}
use Rattle.bitflags.specs.Sets.{Row, next_name}
use Rattle.codes.specs.declared.message_options.MessageOptions.{MessageOptions}

-- the word with a set of options
abbrev pub bits_of : MessageOptions → ℕ
bits_of options = options.0

abbrev pub option_rows : List Row
option_rows = (codes "send", 0x1) ∷ (codes "receive", 0x2) ∷ (codes "send_timeout", 0x10)
    ∷ (codes "receive_timeout", 0x100) ∷ (codes "large", 0x800) ∷ []

-- the name of the first option that is set, or the empty string if none is
abbrev pub first_name : ℕ → List ℕ
first_name bits = elim (next_name 32 option_rows bits bits) [ None ↦ [] | Some p ↦ p.0.0 ]
