use Rattle.slot_steps.proofs.Following.{follows_as, follows_still}
use Rattle.slot_steps.proofs.Gates.{same_gate, torn_gate}
use Rattle.disk.specs.Slots.{slot_of, TornWrite}
use Rattle.slot_steps.specs.Steps.{HasSomeGate}
use Rattle.slot_steps.proofs.steps.write_gate.Goals as goal

pub returns-clause-any_moment : goal.returns-clause-any_moment
returns-clause-any_moment g c = λ honest.
    let slot = c.args.slot in
    let old = g.D.Disk.view c.args.disk.now in
    let written = g.D.Disk.view c.write_at.new.self in
    follows_still slot old written (g.D.Disk.view c.sync.new.self) HasSomeGate same_gate
    (follows_as slot old written (TornWrite 0 1) HasSomeGate (c.write_at.ensures.time honest)
    (λ d after left torn. torn_gate (slot_of d slot) after torn))
    (c.sync.ensures.time honest)
