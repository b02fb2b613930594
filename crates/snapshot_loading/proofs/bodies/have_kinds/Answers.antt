use Rattle.std.proofs.Common.{◌+◌, drop, map, ap, arith}
use Rattle.snapshot_loading.specs.Bodies.{carried_kind}
use Rattle.snapshot_loading.specs.KindLaws.{kinds_step, read_cons}
use Rattle.type_desc.specs.Values.{item_value}
use Rattle.snapshot_loading.proofs.bodies.have_kinds.Goals as goal

pub loop-item-preserved : goal.loop-item-preserved
loop-item-preserved c =
    let items = c.args.items.now in
    let index = c.loop-item.item-index in
    kinds_step (map item_value (drop index items)) (map item_value (drop (index + 1) items))
    (item_value c.item-item.result) (map carried_kind c.loop-item.rest.now) (map carried_kind c.in-Some.beyond.now)
    (ap (map item_value) (read_cons items index c.item-item.result
    (omega (arith, c.loop-item-test.true)) c.item-item.is)) c.in-Some.ensures c.loop-item.invariant
