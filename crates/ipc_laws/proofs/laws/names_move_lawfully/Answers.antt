use Rattle.ipc_laws.specs.NameChanges.{names_move_lawfully}
use Rattle.ipc_laws.proofs.laws.names_move_lawfully.Goals as goal

pub returns : goal.returns
returns c = names_move_lawfully
