use Rattle.std.proofs.Common.{◌<◌, length, arith}
use Rattle.std.proofs.lemmas.Grind.{common_steps}
use Rattle.calls.proofs.PlainReplies.{odd_members}
use Rattle.calls.proofs.reply_rows.read_members.Goals as goal

pub returns-clause-none : goal.returns-clause-none
returns-clause-none c = λ members is.
    let left : 0 < length c.loop-name.rest.now = grind (arith, common_steps) in
    odd_members c.args.bytes.now c.loop-name.rest.now c.loop-name.members.items members c.loop-name.invariant.is left
    c.in_default.ensures.none is
