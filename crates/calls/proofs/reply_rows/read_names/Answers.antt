use Rattle.std.proofs.Common.{◌<◌, length, arith}
use Rattle.std.proofs.lemmas.Grind.{common_steps}
use Rattle.calls.proofs.PlainReplies.{odd_names}
use Rattle.calls.proofs.reply_rows.read_names.Goals as goal

pub returns-clause-none : goal.returns-clause-none
returns-clause-none c = λ names is.
    let left : 0 < length c.loop-named.rest.now = grind (arith, common_steps) in
    odd_names c.args.bytes.now c.loop-named.rest.now c.loop-named.names.items names c.loop-named.invariant.is left
    c.in_default.ensures.none is
