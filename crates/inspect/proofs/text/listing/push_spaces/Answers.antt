use Rattle.std.proofs.Common.{ap, arith}
use Rattle.inspect.specs.text.Rows.{space_rows}
use Rattle.inspect.proofs.text.Lines.{one_added}
use Rattle.inspect.proofs.text.listing.push_spaces.Goals as goal

pub loop-space-preserved : goal.loop-space-preserved
loop-space-preserved c =
    one_added space_rows _ c.args.spaces.now c.loop-space.space-index _ c.loop-space.out.items _
    c.push_space.new.out.items (omega arith) c.loop-space.invariant
    (ap space_rows c.space-item.is) c.in_ok-push_space.ensures
