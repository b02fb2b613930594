-- The ports that have names after rights have arrived.
use Rattle.std.specs.Prelude.{ℕ, Bool, false, List, [], ◌∷◌}
use Rattle.ipc_model.specs.declared.message.CarriedRight.{CarriedRight}
use Rattle.ipc_model.specs.declared.message.PortInMessage.{PortInMessage}
use Rattle.ipc_model.specs.declared.message.RightKind.{RightKind}
use Rattle.ipc_model.specs.declared.message.RightKind.TheVariants as kind
use Rattle.ipc_model.specs.state.Circular.{is_port}
use Rattle.ipc_model.specs.rights.CopyOut.{named_with}

-- the ports that have names after these rights have arrived, given those that had names before
abbrev pub named_after : List ℕ → List CarriedRight → List ℕ
named_after named [] = named
named_after named (right ∷ rights) = named_after (named_with named right.kind right.port) rights

-- a right that gives this port a name: a send or receive right to it
abbrev pub names_port : ℕ → RightKind → PortInMessage → Bool
names_port serial kind.SendOnce port = false
names_port serial kind.Send port = is_port port serial
names_port serial kind.Receive port = is_port port serial
