use Rattle.ipc_laws.specs.Encoding.{lawful_is_encodable}
use Rattle.ipc_laws.proofs.laws.lawful_is_encodable.Goals as goal

pub returns : goal.returns
returns c = lawful_is_encodable
