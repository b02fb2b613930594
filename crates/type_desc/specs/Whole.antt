-- The invariant of an item.
use Rattle.std.specs.Prelude.{◌≡◌, ℕ, ◌*◌, ◌^◌, ◌<◌, Bool, true, false, List, length}
use Rattle.ipc_model.specs.messages.Items.{is_port_type, padded}

-- The fields fit the descriptor, a port has 32 bits, and the data has the length that the fields give.
pub record IsWhole (type_name bits number : ℕ) (is_long : Bool) (content : List ℕ) : Type 0 where
  pub short : is_long ≡ false → (type_name < 2 ^ 8) × (bits < 2 ^ 8) × (number < 2 ^ 12)
  pub ports : is_port_type type_name ≡ true → bits ≡ 32
  pub long : length content ≡ padded (number * bits)
