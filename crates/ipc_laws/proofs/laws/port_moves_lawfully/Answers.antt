use Rattle.ipc_laws.specs.PortChanges.{port_moves_lawfully}
use Rattle.ipc_laws.proofs.laws.port_moves_lawfully.Goals as goal

pub returns : goal.returns
returns c = port_moves_lawfully
