use Rattle.std.proofs.Common.{Bool, None, cond, sym, ◌∙◌, ap}
use Rattle.ipc_model.specs.state.Circular.{carrier_of}
use Rattle.snapshot_loading.specs.Climbing.{up_of, with_hop}
use Rattle.snapshot_loading.specs.HopLaws.{none_below, one_more, up_only}
use Rattle.snapshot_loading.proofs.climbing.hops.Goals as goal

pub loop-serial-init : goal.loop-serial-init
loop-serial-init c = none_below (up_of c.args.state.now.current) c.new-up.result c.new-up.ensures

pub loop-serial-preserved : goal.loop-serial-preserved
loop-serial-preserved c =
    let state = c.args.state.now.current in
    let serial = c.in-Some.serial in
    one_more state (up_of state) (up_only state) c.loop-serial.up c.add_hop.new.up c.loop-serial.at serial
    c.in-Some.ensures.next
    (c.in_ok-add_hop.ensures ∙ ap (with_hop c.loop-serial.up serial)
    (c.carrier.ensures ∙ sym (ap (λ (b : Bool). cond b (carrier_of state serial) None) c.in-Some.ensures.next.1)))
    c.loop-serial.invariant
