use Rattle.ipc_laws.specs.LawfulLaws.{lawful_is_at_rest}
use Rattle.ipc_laws.proofs.laws.lawful_is_at_rest.Goals as goal

pub returns : goal.returns
returns c = lawful_is_at_rest
