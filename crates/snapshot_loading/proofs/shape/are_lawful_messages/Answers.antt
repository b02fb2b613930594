use Rattle.std.proofs.Common.{arith}
use Rattle.ipc_model.specs.state.Lawful.{LawfulMessage}
use Rattle.snapshot_loading.specs.AllLaws.{all_looked, one_looked}
use Rattle.snapshot_loading.proofs.shape.are_lawful_messages.Goals as goal

pub loop-message-preserved : goal.loop-message-preserved
loop-message-preserved c =
    one_looked LawfulMessage c.args.messages.now c.loop-message.message-index c.message-item.result
    (omega (arith, c.loop-message-test.true)) c.loop-message.invariant c.message-item.is
    (c.in_ok-is_lawful_message.ensures.0 c.if-not-branch.false)

pub returns : goal.returns
returns c =
    all_looked LawfulMessage c.args.messages.now c.loop-message.message-index
    (omega (arith, c.loop-message-test.false)) c.loop-message.invariant
