use Rattle.std.proofs.Common.{arith, ◌∙◌}
use Rattle.ipc_model.specs.messages.Kept.{used_bits, canonical_message}
use Rattle.calls.proofs.Masks.{kept_more, masked_all}
use Rattle.calls.proofs.canonical_message.clear_ignored.Goals as goal

pub loop-i-preserved : goal.loop-i-preserved
loop-i-preserved c =
    kept_more used_bits c.args.message.now c.loop-i.message c.loop-i.i 0 c.loop-i.invariant
    (omega (arith, c.loop-i-test.true, c.min-i-end.ensures)) (omega (arith, c.loop-i-test.true, c.min-i-end.ensures))

pub returns : goal.returns
unfolding canonical_message
returns c =
    c.loop-i.invariant ∙ masked_all used_bits c.args.message.now c.loop-i.i
    (omega (arith, c.loop-i-test.false, c.min-i-end.ensures))
