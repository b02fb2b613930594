use Rattle.std.proofs.Common.{◌≡◌, ◌∷◌, ◌++◌, [], List, length, take, sym, ap, subst, ◌∙◌, arith}
use Rattle.std.proofs.lemmas.List.{take_more}
use Rattle.system.specs.Core.{RunsThrough}
use Rattle.system.specs.Counting.{counted_event, counted_events}
use Rattle.system.specs.declared.event.Event.{Event}
use Rattle.system.specs.declared.event.Outcome.{Outcome}
use Rattle.system.proofs.Counting.{counted_push}
use Rattle.system.proofs.Lists.{take_end}
use Rattle.system.proofs.Runs.{through_push}
use Rattle.system.proofs.system.System.run.Goals as goal

pub loop-event-preserved : goal.loop-event-preserved
loop-event-preserved g c = (
  λ base w stands.
      let before : List Event = take c.loop-event.event-index c.args.events.now in
      let through = c.loop-event.invariant.0 base w stands in
      let events =
      take_more c.args.events.now c.loop-event.event-index c.event-item.result (omega arith) ∙ ap
      (λ (e : Event). before ++ e ∷ []) (sym c.event-item.is) in
      subst (λ (l : List Event). RunsThrough g.D.Disk.honest g.D.Disk.view base w l c.push_reserved.new.self.items
      c.args.self.now c.step.new.self) (sym events)
      (subst (λ (l : List Outcome). RunsThrough g.D.Disk.honest g.D.Disk.view base w
      (before ++ c.event-item.result ∷ []) l c.args.self.now c.step.new.self) (sym c.push_reserved.ensures.items)
      (through_push g.D.Disk.honest g.D.Disk.view base w before c.loop-event.outcomes.items c.args.self.now
      c.loop-event.self c.step.new.self c.event-item.result c.step.result through
      (c.step.ensures.steps base through.end through.stands) c.step.ensures.number)),
  omega (arith, c.push_reserved.ensures.len, c.loop-event.invariant.1),
  omega (arith, c.push_reserved.ensures.capacity, c.loop-event.invariant.2),
  subst (λ (l : List Outcome). g.D.Disk.failed_calls c.step.new.self.store.disk
      ≡ counted_events l (g.D.Disk.failed_calls c.args.self.now.store.disk)) (sym c.push_reserved.ensures.items)
      (c.step.ensures.failures ∙ ap (counted_event c.step.result) c.loop-event.invariant.3
      ∙ sym (counted_push c.loop-event.outcomes.items c.step.result
      (g.D.Disk.failed_calls c.args.self.now.store.disk))),
)

pub returns-clause-runs : goal.returns-clause-runs
returns-clause-runs g c = λ base w stands.
    let events : List Event = c.args.events.now in
    let last : c.loop-event.event-index ≡ length events =
    omega (arith, c.loop-event-test.false, c.loop-event.auto.event-index-end) in
    subst (λ (l : List Event). RunsThrough g.D.Disk.honest g.D.Disk.view base w l c.loop-event.outcomes.items
    c.args.self.now c.loop-event.self) (ap (λ n. take n events) last ∙ take_end events)
    (c.loop-event.invariant.0 base w stands)
