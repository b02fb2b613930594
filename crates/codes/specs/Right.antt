-- The numbers of the rights, and their bits in the type of a name.
use Rattle.std.specs.Prelude.{ℕ, ◌+◌, ◌^◌}
use Rattle.codes.specs.declared.right.Right.{Right}
use Rattle.codes.specs.declared.right.Right.TheVariants.{Send, Receive, SendOnce, PortSet, DeadName}

abbrev pub number_of : Right → ℕ
number_of Send = 0
number_of Receive = 1
number_of SendOnce = 2
number_of PortSet = 3
number_of DeadName = 4

-- the bit of a right in the type of a name
abbrev pub type_bit : Right → ℕ
type_bit right = 2 ^ (16 + number_of right)
