use Rattle.ipc_laws.specs.OnceLaws.{kept_changes_nothing}
use Rattle.ipc_laws.proofs.laws.kept_changes_nothing.Goals as goal

pub returns : goal.returns
returns c = kept_changes_nothing
