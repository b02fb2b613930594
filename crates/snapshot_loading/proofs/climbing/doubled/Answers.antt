use Rattle.std.proofs.Common.{◌∙◌, ap}
use Rattle.std.specs.FinMap.{get}
use Rattle.snapshot_loading.specs.Climbing.{twice, with_hop}
use Rattle.snapshot_loading.specs.HopLaws.{none_below, one_more, twice_only}
use Rattle.snapshot_loading.proofs.climbing.doubled.Goals as goal

pub loop-serial-init : goal.loop-serial-init
loop-serial-init c = none_below (twice (get c.args.up.now)) c.new-farther.result c.new-farther.ensures

pub loop-serial-preserved : goal.loop-serial-preserved
loop-serial-preserved c =
    one_more c.args.state.now.current (twice (get c.args.up.now))
    (twice_only c.args.state.now.current (get c.args.up.now) c.requires) c.loop-serial.farther c.add_hop.new.up
    c.loop-serial.at c.in-Some.serial c.in-Some.ensures.next
    (c.in_ok-add_hop.ensures ∙ ap (with_hop c.loop-serial.farther c.in-Some.serial) c.hop_twice.ensures)
    c.loop-serial.invariant
