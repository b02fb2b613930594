use Rattle.ports.specs.Passed.{messages_at, lives_in}
use Rattle.ipc_state.proofs.Taking.{is_oldest}
use Rattle.ipc_state.proofs.carried.oldest_in.Goals as goal

pub returns : goal.returns
returns c =
    is_oldest (lives_in c.args.ports.now.current.ports)
    (messages_at c.args.ports.now.current.ports c.args.serial) c.message_as_sent.result c.message_as_sent.ensures
