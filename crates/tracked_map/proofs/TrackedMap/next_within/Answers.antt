use Rattle.std.proofs.Common.{ap, arith}
use Rattle.tracked_map.specs.Tracked.{Tracked}
use Rattle.tracked_map.proofs.Laws.{goes_off, goes_on, goes_to, goes_before, goes_out}
use Rattle.tracked_map.proofs.TrackedMap.next_within.Goals as goal

pub loop-key-init : goal.loop-key-init
loop-key-init g c =
    goes_off c.args.self.now.current c.self.inside.slots c.args.from c.range_from-rest.result
    (ap (λ (t : Tracked _). t.current) c.self.view_is) c.range_from-rest.ensures.rest

pub loop-key-preserved : goal.loop-key-preserved
loop-key-preserved g c =
    goes_on c.args.self.now.current c.args.from c.in-Some.key.now c.in-Some.slot.now c.loop-key.rest c.next.new.self
    c.in-Some.ensures.steps c.in_default-slot.not-Some c.loop-key.invariant

pub returns-in-Some-slot : goal.returns-in-Some-slot
returns-in-Some-slot g c =
    let found =
    goes_to c.args.self.now.current c.args.from c.in-Some.key.now c.in-Some.slot.now c.in-Some-slot.value
    c.loop-key.rest c.next.new.self c.in-Some.ensures.steps c.in-Some-slot.is c.loop-key.invariant in
    (found.0, omega (arith, c.if-last-key.false), found.1, found.2)

pub returns-then-last-key : goal.returns-then-last-key
returns-then-last-key g c = λ key le within.
    goes_before c.args.self.now.current c.args.from c.in-Some.key.now c.in-Some.slot.now c.loop-key.rest c.next.new.self
    c.in-Some.ensures.steps c.loop-key.invariant key le (omega (arith, within, c.if-last-key.true))

pub returns : goal.returns
returns g c =
    λ key le within. goes_out c.args.self.now.current c.args.from key c.loop-key.rest c.in_default.ensures.steps.0
    c.loop-key.invariant le
