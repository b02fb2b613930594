use Rattle.std.specs.Prelude.{ℕ, if◌then◌else◌}
use Rattle.std.proofs.Common.{ap, refl, ◌∙◌}
use Rattle.ipc_model.specs.calls.Step.{succeeded}
use Rattle.server.proofs.Keeping.{kept_held, no_time, since_held}
use Rattle.server.proofs.alone.Alone.make.Goals as goal

pub returns-then-self-clause-fails : goal.returns-then-self-clause-fails
returns-then-self-clause-fails g c =
    rw (← c.self.view_is) (record {
      failed = c.if-self.true;
      confined = refl;
      device = λ well. absurd (cc (well, c.if-self.true));
      failed_before = λ _. (refl, refl);
      passes = λ _. no_time g.D.Disk.view c.self.inside.system.store.disk c.self.inside.system.store.disk _ refl;
    })

pub returns-in-Ok-clause-answers : goal.returns-in-Ok-clause-answers
returns-in-Ok-clause-answers g c =
    let attached =
    ap (λ (n : ℕ). if succeeded c.in-Ok.reply then n else c.self.inside.space)
    c.attached_by-attached.ensures in
    let after = c.space_after-self-inside.result in
    rw (← c.self.view_is) (record {
      stored = (c.in-Ok.ensures.answers, c.space_after-self-inside.ensures ∙ attached, refl, c.if-self.false);
      unrecorded = λ none.
          let same = c.in-Ok.ensures.unrecorded none in
          λ i. record {
            kernel = same.0 i;
            store = same.1 i;
            space = after;
            confined = c.self.inside.confined;
            failed = c.self.inside.failed;
          };
      counted = c.in-Ok.ensures.counted;
      passes = λ honest. c.make_call.ensures.passes honest ((c.self.invariant c.if-self.false).1 honest);
      held =
          λ honest. kept_held g.D.Disk.view c.make_call.new.system.store c.make_call.new.system.core.kernel
          (c.in-Ok.ensures.kept honest ((c.self.invariant c.if-self.false).1 honest));
    })

pub returns-in-Ok-clause-any_moment : goal.returns-in-Ok-clause-any_moment
returns-in-Ok-clause-any_moment g c = λ honest _.
    let old = g.D.Disk.view c.self.inside.system.store.disk in
    let made = c.make_call in
    let kept = (c.self.invariant c.if-self.false).1 honest in
    rw (← c.self.view_is) (since_held old
    (g.D.Disk.view made.new.system.store.disk) c.self.inside.system.core.kernel made.new.system.core.kernel
    c.self.inside.space c.args.call
    (kept_held g.D.Disk.view c.self.inside.system.store c.self.inside.system.core.kernel kept)
    (made.ensures.passes honest kept))

pub returns-in-Ok-clause-stored : goal.returns-in-Ok-clause-stored
returns-in-Ok-clause-stored g c = λ honest.
    kept_held g.D.Disk.view c.make_call.new.system.store c.make_call.new.system.core.kernel
    (c.in-Ok.ensures.kept honest ((c.self.invariant c.if-self.false).1 honest))

pub returns-clause-any_moment : goal.returns-clause-any_moment
returns-clause-any_moment g c = λ honest _.
    let old = g.D.Disk.view c.self.inside.system.store.disk in
    let made = c.make_call in
    let kept = (c.self.invariant c.if-self.false).1 honest in
    rw (← c.self.view_is) (since_held old
    (g.D.Disk.view made.new.system.store.disk) c.self.inside.system.core.kernel made.new.system.core.kernel
    c.self.inside.space c.args.call
    (kept_held g.D.Disk.view c.self.inside.system.store c.self.inside.system.core.kernel kept)
    (made.ensures.passes honest kept))

pub invariant_of-self : goal.invariant_of-self
invariant_of-self g c =
    λ _. (c.in-Ok.ensures.rests, λ honest. c.in-Ok.ensures.kept honest ((c.self.invariant c.if-self.false).1 honest))
