use Rattle.std.proofs.Common.{rules, ◌≡◌, inr, subst}
use Rattle.std.specs.Prelude.{IfNone, None}
use Rattle.inspect.specs.still_disk.Live.{HasChanged}
use Rattle.inspect.proofs.still_disk.copying.copy_by.Goals as goal

pub returns-in-Some-clause-later : goal.returns-in-Some-clause-later
returns-in-Some-clause-later g c =
    λ honest. g.S.LiveSlots.joins _ _ _ (c.loop.invariant.later honest) (c.in_ok-copy.ensures.later honest)

pub loop-preserved : goal.loop-preserved
loop-preserved g c =
    let none : c.in_ok-copy.field-0 ≡ None = search rules in
    record {
      later = λ honest. g.S.LiveSlots.joins _ _ _ (c.loop.invariant.later honest) (c.in_ok-copy.ensures.later honest);
      changed =
          λ honest. inr (
            g.S.LiveSlots.now c.loop.live,
            g.S.LiveSlots.now c.try_copy.new.live,
            c.loop.invariant.later honest,
            subst (λ o. IfNone o (HasChanged g.S.LiveSlots.later g.S.LiveSlots.slots
                (g.S.LiveSlots.now c.loop.live) (g.S.LiveSlots.now c.try_copy.new.live))) none
                (c.in_ok-copy.ensures.changed honest),
          );
      quiet = search rules;
    }
