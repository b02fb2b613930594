use Rattle.std.proofs.Common.{rules, ◌≡◌, inl, inr, refl, subst, sym}
use Rattle.store_fault.specs.declared.fault.StoreFault.TheVariants.{NoMemory}
use Rattle.system.specs.Calling.{IsResting}
use Rattle.system.specs.GoingOn.{IsStanding}
use Rattle.server.proofs.Keeping.{is_of_device, is_wanted, kept_held, no_time}
use Rattle.server.proofs.Crashing.{left_within}
use Rattle.server.specs.Keeping.{IsHeld}
use Rattle.codes.specs.declared.limits.TheConstants.{CHECKPOINT_RECORDS}
use Rattle.server.proofs.alone.AloneCaller.rest.Goals as goal

pub returns-then-self-clause-breaks : goal.returns-then-self-clause-breaks
returns-then-self-clause-breaks g c =
    rw (← c.self.view_is) (record {
      failed = c.if-self.true;
      device = λ well. absurd (cc (well, c.if-self.true));
      kernel = refl;
      space = refl;
      failed_before = λ _. (refl, refl);
      passes = λ _. no_time g.D.Disk.view c.self.inside.system.store.disk c.self.inside.system.store.disk _ refl;
    })

pub returns-in-Ok-clause-rests : goal.returns-in-Ok-clause-rests
returns-in-Ok-clause-rests g c =
    let new = c.go_on.new.self in
    let standing = (c.self.invariant c.if-self.false).1 in
    rw (← c.self.view_is) (record {
      same =
          λ i. record {
            kernel = c.go_on.ensures.kernel i;
            store = new.store;
            space = c.self.inside.space;
            confined = c.self.inside.confined;
            failed = c.self.inside.failed;
          };
      goes = inl c.in-Ok.ensures.goes;
      passes = λ honest. c.go_on.ensures.passes honest (standing honest);
      held =
          λ honest. kept_held g.D.Disk.view new.store new.core.kernel (c.in-Ok.ensures.kept honest (standing honest));
    })

pub returns-in-Ok-clause-any_moment : goal.returns-in-Ok-clause-any_moment
returns-in-Ok-clause-any_moment g c = λ honest _.
    let system = c.self.inside.system in
    let standing = (c.self.invariant c.if-self.false).1 honest in
    let held = kept_held g.D.Disk.view system.store system.core.kernel standing in
    rw (← c.self.view_is) (left_within (g.D.Disk.view system.store.disk)
    (g.D.Disk.view c.go_on.new.self.store.disk) system.core.kernel _ held (c.go_on.ensures.passes honest standing)
    (λ _ stands. stands))

-- if memory ran out, nothing changed

pub returns-then-eq-clause-rests : goal.returns-then-eq-clause-rests
returns-then-eq-clause-rests g c =
    let old = c.self.inside.system in
    let new = c.go_on.new.self in
    let standing = (c.self.invariant c.if-self.false).1 in
    let short : c.in-Err.broken ≡ NoMemory = search rules in
    let wanted =
    is_wanted CHECKPOINT_RECORDS c.self.inside.system c.go_on.new.self c.in-Err.broken short c.in-Err.ensures.faults
    in
    rw (← c.self.view_is) (record {
      same =
          λ i. record {
            kernel = c.go_on.ensures.kernel i;
            store = new.store;
            space = c.self.inside.space;
            confined = c.self.inside.confined;
            failed = c.self.inside.failed;
          };
      goes =
          inr (
            wanted.0,
            λ i. record {
              kernel = (wanted.1 i).core.kernel;
              store = (wanted.1 i).store;
              space = c.self.inside.space;
              confined = c.self.inside.confined;
              failed = c.self.inside.failed;
            },
          );
      passes = λ honest. c.go_on.ensures.passes honest (standing honest);
      held =
          λ honest. subst (λ s. IsHeld (g.D.Disk.view s.store.disk) s.core.kernel) (sym wanted.1)
          (kept_held g.D.Disk.view old.store old.core.kernel (standing honest));
    })

pub returns-then-eq-clause-any_moment : goal.returns-then-eq-clause-any_moment
returns-then-eq-clause-any_moment g c = λ honest _.
    let system = c.self.inside.system in
    let standing = (c.self.invariant c.if-self.false).1 honest in
    let held = kept_held g.D.Disk.view system.store system.core.kernel standing in
    rw (← c.self.view_is) (left_within (g.D.Disk.view system.store.disk)
    (g.D.Disk.view c.go_on.new.self.store.disk) system.core.kernel _ held (c.go_on.ensures.passes honest standing)
    (λ _ stands. stands))

pub invariant_of-self-then-eq : goal.invariant_of-self-then-eq
invariant_of-self-then-eq g c = λ _.
    let short : c.in-Err.broken ≡ NoMemory = search rules in
    let wanted =
    is_wanted CHECKPOINT_RECORDS c.self.inside.system c.go_on.new.self c.in-Err.broken short c.in-Err.ensures.faults
    in (
      subst IsResting (sym wanted.1) (c.self.invariant c.if-self.false).0,
      λ honest. subst (λ s. IsStanding g.D.Disk.view s.store s.core.kernel) (sym wanted.1)
          ((c.self.invariant c.if-self.false).1 honest),
    )

pub returns-else-eq-clause-breaks : goal.returns-else-eq-clause-breaks
returns-else-eq-clause-breaks g c =
    let standing = (c.self.invariant c.if-self.false).1 in
    let other : c.in-Err.broken ≡ NoMemory → ⊥ = search rules in
    rw (← c.self.view_is) (record {
      failed = refl;
      device =
          λ _. is_of_device CHECKPOINT_RECORDS c.self.inside.system c.go_on.new.self c.in-Err.broken other
          c.in-Err.ensures.faults;
      kernel = c.go_on.ensures.kernel;
      space = refl;
      failed_before = λ was. absurd (cc (was, c.if-self.false));
      passes = λ honest. c.go_on.ensures.passes honest (standing honest);
    })

pub returns-else-eq-clause-any_moment : goal.returns-else-eq-clause-any_moment
returns-else-eq-clause-any_moment g c = λ honest _.
    let system = c.self.inside.system in
    let standing = (c.self.invariant c.if-self.false).1 honest in
    let held = kept_held g.D.Disk.view system.store system.core.kernel standing in
    rw (← c.self.view_is) (left_within (g.D.Disk.view system.store.disk)
    (g.D.Disk.view c.go_on.new.self.store.disk) system.core.kernel _ held (c.go_on.ensures.passes honest standing)
    (λ _ stands. stands))

pub invariant_of-self : goal.invariant_of-self
invariant_of-self g c =
    λ _. (c.in-Ok.ensures.rests, λ honest. c.in-Ok.ensures.kept honest ((c.self.invariant c.if-self.false).1 honest))
