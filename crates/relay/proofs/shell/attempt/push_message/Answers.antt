use Rattle.std.proofs.Common.{◌++◌}
use Rattle.words.specs.Words.{word}
use Rattle.relay.proofs.shell.Joins.{joined, on_ok_if}
use Rattle.relay.proofs.shell.attempt.push_message.Goals as goal

pub returns : goal.returns
returns c =
    on_ok_if c.extend_from_slice.result _ _ _
    (joined c.args.out.now.items (word c.args.call.0 ++ word c.args.call.1)
    (word c.args.receipt.0 ++ word c.args.receipt.1)
    (word c.args.timeout) c.args.message.now _ _ _ _ c.in_ok-push_two.ensures c.in_ok-push_two-2.ensures
    c.in_ok-push_word.ensures.ok)
    c.extend_from_slice.ensures.items
