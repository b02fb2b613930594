use Rattle.std.proofs.Common.{◌≤◌, ◌<◌, ◌^◌, ap, sym, subst, ◌∙◌}
use Rattle.store_half.specs.epoch_log.Logs.{EpochLogValue, log_after}
use Rattle.ipc_model.specs.state.State.{State}
use Rattle.ipc_model.specs.calls.Step.{Step}
use Rattle.std.specs.Prelude.{is_none}
use Rattle.system.specs.Halves.{KernelValue}
use Rattle.system.proofs.Making.{no_fewer, log_is_after}
use Rattle.waiting.specs.Places.{names}
use Rattle.waiting.specs.Waiting.{Wakes}
use Rattle.system.proofs.kernel_half.KernelHalf.submit_with_room.Goals as goal

pub invariant_of-self : goal.invariant_of-self
invariant_of-self g c =
    let inv = c.self.invariant in
    let same = sym (rw c.in-Err.is at c.apply_with_witness-witness.ensures.err).1 in (
      subst (λ (r : EpochLogValue). c.self.inside.handed ≤ r.made) same inv.0,
      subst (λ (r : EpochLogValue). r.made < 2 ^ 64) same inv.1,
      inv.2,
      inv.3,
    )

pub returns-in-Err-clause-err : goal.returns-in-Err-clause-err
returns-in-Err-clause-err g c =
    let err = rw c.in-Err.is at c.apply_with_witness-witness.ensures.err in (
      (λ i. record {
        kernel = err.0 i;
        epoch = c.self.inside.epoch;
        older = c.self.inside.older.batch;
        log = err.1 i;
        handed = c.self.inside.handed;
        is_out = is_none c.self.inside.spare;
        is_cut = c.self.inside.is_cut;
      })
          ∙ c.self.view_is,
      err.2,
    )

pub invariant_of-self-2 : goal.invariant_of-self-2
invariant_of-self-2 g c =
    let inv = c.self.invariant in
    let recorded = rw c.in-Ok.is at c.apply_with_witness-witness.ensures.recorded in (
      no_fewer c.self.inside.log c.apply_with_witness-witness.new.log c.args.space c.args.call.now c.in-Ok.reply
          (λ is. (recorded is).0.0) (λ is. ((rw c.in-Ok.is at c.apply_with_witness-witness.ensures.unrecorded) is).0)
          c.self.inside.handed inv.0,
      c.made-seen.ensures.within,
      inv.2,
      inv.3,
    )

pub returns-clause-learned : goal.returns-clause-learned
returns-clause-learned g c = λ is. ((rw c.in-Ok.is at c.apply_with_witness-witness.ensures.recorded) is).1

pub returns-clause-unlearned : goal.returns-clause-unlearned
returns-clause-unlearned g c = λ is. ((rw c.in-Ok.is at c.apply_with_witness-witness.ensures.unrecorded) is).1

pub returns-clause-given : goal.returns-clause-given
returns-clause-given g c =
    let old = c.self.view_is in
    let recorded = rw c.in-Ok.is at c.apply_with_witness-witness.ensures.recorded in
    record {
      step =
          subst (λ (s : State). Step s c.args.space c.args.call.now c.in-Ok.reply
          c.apply_with_witness-witness.new.kernel) (ap (λ (k : KernelValue). k.kernel) old)
          (rw c.in-Ok.is at c.apply_with_witness-witness.ensures.step);
      log =
          log_is_after c.self.inside.log c.apply_with_witness-witness.new.log c.args.space c.args.call.now c.in-Ok.reply
          (λ is. (recorded is).0.0)
          (λ is. ((rw c.in-Ok.is at c.apply_with_witness-witness.ensures.unrecorded) is).0) ∙ ap
          (λ (k : KernelValue). log_after k.log c.args.space c.args.call.now c.in-Ok.reply) old;
      seen = c.made-seen.ensures.made;
      room = λ _. c.requires.0;
      fits = c.call_in_range.ensures;
      kept = λ is. (recorded is).0.1;
      rest =
          ap (λ (k : KernelValue). record k
          { kernel = c.apply_with_witness-witness.new.kernel; log = c.apply_with_witness-witness.new.log }) old;
    }

pub returns-clause-wakes : goal.returns-clause-wakes
returns-clause-wakes g c =
    let a = c.apply_with_witness-witness in
    subst (λ (k : KernelValue). Wakes k.kernel.ipc a.new.kernel.ipc (names a.new.places)) c.self.view_is
    (rw c.in-Ok.is at a.ensures.wakes)
