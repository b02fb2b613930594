use Rattle.ipc_laws.specs.CanonicalLaws.{sent_as_canonical}
use Rattle.ipc_laws.proofs.laws.messages_are_sent_as_canonical.Goals as goal

pub returns : goal.returns
returns c = sent_as_canonical
