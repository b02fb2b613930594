use Rattle.std.proofs.Common.{◌≡◌, Err, inl, inr, ap, ◌∙◌, sym, subst}
use Rattle.std.proofs.lemmas.Result.{err_from_is_err_and}
use Rattle.disk.specs.Slots.{slot_of}
use Rattle.ipc_model.specs.state.State.{State}
use Rattle.journal.specs.Readers.{place_of}
use Rattle.journal.specs.Reading.{Place, Leads, IsLast, IsNothing}
use Rattle.journal.specs.Windows.{IsOver}
use Rattle.recover.specs.Replayed.{ReplaysFrom}
use Rattle.disk.proofs.Moments.{unchanged_then}
use Rattle.recover.proofs.Streams.{IsLeft, all_replayed, left_on, none_left, unread}
use Rattle.recover.proofs.Surveys.{some_is}
use Rattle.recover.proofs.Faults.{counts_ok, counts_other, counts_read, none_in_error}
use Rattle.recover.proofs.reading.replay_all.Goals as goal

-- nothing is encoded from here on
pub returns-in_err-now-clause-damaged : goal.returns-in_err-now-clause-damaged
returns-in_err-now-clause-damaged g c = λ honest reported.
    let inv = c.loop-now.invariant in
    let p = err_from_is_err_and c.from_residual.result c.from_residual.ensures.1 in
    let segment = slot_of (g.D.Disk.view c.args.disk.now).seen c.args.slot in
    let same : slot_of (g.D.Disk.view c.loop-now.disk).seen c.loop-now.reader.window.slot ≡ segment =
    λ i. slot_of (inv.seen honest i) (inv.slot i) in
    unread c.args.version segment (place_of c.args.reader.now) (place_of c.loop-now.reader) c.args.kernel c.loop-now.state
    (inv.left honest)
    (subst (λ l. IsNothing l (place_of c.loop-now.reader)) same
    (c.next-next.ensures.damaged honest (cc (p.1, p.2, reported, c.in_err-now.ensures.err))))

-- all records were replayed
pub returns-in_default-clause-state : goal.returns-in_default-clause-state
returns-in_default-clause-state g c = λ honest.
    let inv = c.loop-now.invariant in
    let first = place_of c.args.reader.now in
    let here = place_of c.next-next.new.self in
    let segment = slot_of (g.D.Disk.view c.args.disk.now).seen c.args.slot in
    let same : slot_of (g.D.Disk.view c.loop-now.disk).seen c.loop-now.reader.window.slot ≡ segment =
    λ i. slot_of (inv.seen honest i) (inv.slot i) in
    let last = rw c.in_default.is at (rw c.in_ok-now.ensures.ok.1 at c.next-next.ensures.last honest) in
    let stays = rw c.in_default.is at (rw c.in_ok-now.ensures.ok.1 at c.next-next.ensures.stays) in
    let left =
    subst (λ (at : Place). IsLeft c.args.version segment first at c.args.kernel c.loop-now.state) (sym stays) (inv.left honest) in
    subst (λ (s : State). ReplaysFrom c.args.version segment first c.args.kernel s here.number here.at) (sym c.in_ok-now.ensures.ok.0)
    (all_replayed c.args.version segment first here c.args.kernel c.loop-now.state left (subst (λ l. IsLast l here) same last))

-- the record isn't a step
pub returns-in_err-state-clause-damaged : goal.returns-in_err-state-clause-damaged
returns-in_err-state-clause-damaged g c = λ honest reported.
    let inv = c.loop-now.invariant in
    let p = err_from_is_err_and c.from_residual-in_err-state.result c.from_residual-in_err-state.ensures.1 in
    let first = place_of c.args.reader.now in
    let segment = slot_of (g.D.Disk.view c.args.disk.now).seen c.args.slot in
    let same : slot_of (g.D.Disk.view c.loop-now.disk).seen c.loop-now.reader.window.slot ≡ segment =
    λ i. slot_of (inv.seen honest i) (inv.slot i) in
    let left =
    subst (λ (s : State). IsLeft c.args.version segment first (place_of c.loop-now.reader) c.args.kernel s)
    (sym c.in_ok-now.ensures.ok.0) (inv.left honest) in
    let leads =
    some_is _ c.in_ok-now.next c.in-Some.entry c.in-Some.is
    (rw c.in_ok-now.ensures.ok.1 at c.next-next.ensures.leads honest) in
    none_left c.args.version segment first (place_of c.loop-now.reader)
    (place_of c.next-next.new.self) c.in-Some.entry c.args.kernel c.in_ok-now.now left
    (subst (λ l. Leads l (place_of c.loop-now.reader) c.in-Some.entry (place_of c.next-next.new.self)) same leads)
    (c.in_err-state.ensures.damaged (cc (p.1, p.2, reported)))

pub loop-now-preserved : goal.loop-now-preserved
loop-now-preserved g c =
    let inv = c.loop-now.invariant in
    let first = place_of c.args.reader.now in
    let segment = slot_of (g.D.Disk.view c.args.disk.now).seen c.args.slot in
    record {
      left = λ honest.
          let same : slot_of (g.D.Disk.view c.loop-now.disk).seen c.loop-now.reader.window.slot ≡ segment =
          λ i. slot_of (inv.seen honest i) (inv.slot i) in
          let left =
          subst (λ (s : State). IsLeft c.args.version segment first (place_of c.loop-now.reader) c.args.kernel s)
          (sym c.in_ok-now.ensures.ok.0) (inv.left honest) in
          let leads =
          some_is _ c.in_ok-now.next c.in-Some.entry c.in-Some.is
          (rw c.in_ok-now.ensures.ok.1 at c.next-next.ensures.leads honest) in
          let counted =
          some_is _ c.in_ok-now.next c.in-Some.entry c.in-Some.is
          (rw c.in_ok-now.ensures.ok.1 at c.next-next.ensures.counted) in
          left_on c.args.version segment first (place_of c.loop-now.reader)
          (place_of c.next-next.new.self) c.in-Some.entry c.args.kernel c.in_ok-now.now c.in_ok-state.state left
          (subst (λ l. Leads l (place_of c.loop-now.reader) c.in-Some.entry (place_of c.next-next.new.self)) same leads)
          counted.0 c.in_ok-state.ensures.within c.in_ok-state.ensures.step c.in_ok-state.ensures.only;
      over = λ honest.
          let same : slot_of (g.D.Disk.view c.loop-now.disk).seen c.loop-now.reader.window.slot ≡ segment =
          λ i. slot_of (inv.seen honest i) (inv.slot i) in
          subst (λ l. IsOver l c.next-next.new.self.window) same
          (rw c.in_ok-now.ensures.ok.1 at c.next-next.ensures.over honest);
      slot = c.next-next.ensures.slot ∙ inv.slot;
      seen = λ honest. c.next-next.ensures.seen honest ∙ inv.seen honest;
      time =
          λ honest. unchanged_then (g.D.Disk.view c.args.disk.now) (g.D.Disk.view c.loop-now.disk)
          (g.D.Disk.view c.next-next.new.disk) (inv.time honest) (c.next-next.ensures.time honest);
      quiet = (rw c.in_ok-now.ensures.ok.1 at c.next-next.ensures.quiet) ∙ inv.quiet;
    }

pub returns-in_default-clause-reads_only : goal.returns-in_default-clause-reads_only
returns-in_default-clause-reads_only g c = λ honest. record {
  seen = c.next-next.ensures.seen honest ∙ c.loop-now.invariant.seen honest;
  time = unchanged_then _ _ _ (c.loop-now.invariant.time honest) (c.next-next.ensures.time honest);
}

pub returns-in_default-clause-failures : goal.returns-in_default-clause-failures
returns-in_default-clause-failures g c =
    counts_ok _ _ _ ((rw c.in_ok-now.ensures.ok.1 at c.next-next.ensures.quiet) ∙ c.loop-now.invariant.quiet)

pub returns-in_err-now-clause-reads_only : goal.returns-in_err-now-clause-reads_only
returns-in_err-now-clause-reads_only g c = λ honest. record {
  seen = c.next-next.ensures.seen honest ∙ c.loop-now.invariant.seen honest;
  time = unchanged_then _ _ _ (c.loop-now.invariant.time honest) (c.next-next.ensures.time honest);
}

pub returns-in_err-now-clause-failures : goal.returns-in_err-now-clause-failures
returns-in_err-now-clause-failures g c =
    let p = err_from_is_err_and c.from_residual.result c.from_residual.ensures.1 in
    counts_read _ _ _ c.next-next.result _ c.from_residual.result c.loop-now.invariant.quiet c.in_err-now.ensures.err
    (p.1 ∙ ap Err p.2) c.next-next.ensures.still c.next-next.ensures.device

pub returns-in_err-now-clause-state : goal.returns-in_err-now-clause-state
returns-in_err-now-clause-state g c =
    λ honest. let p = err_from_is_err_and c.from_residual.result c.from_residual.ensures.1 in
    none_in_error _ c.from_residual.result _ p.1

pub returns-in_err-state-clause-reads_only : goal.returns-in_err-state-clause-reads_only
returns-in_err-state-clause-reads_only g c = λ honest. record {
  seen = c.next-next.ensures.seen honest ∙ c.loop-now.invariant.seen honest;
  time = unchanged_then _ _ _ (c.loop-now.invariant.time honest) (c.next-next.ensures.time honest);
}

pub returns-in_err-state-clause-failures : goal.returns-in_err-state-clause-failures
returns-in_err-state-clause-failures g c =
    let p = err_from_is_err_and c.from_residual-in_err-state.result c.from_residual-in_err-state.ensures.1 in
    counts_other _ _ c.from_residual-in_err-state.result _ (p.1 ∙ ap Err p.2)
    (λ reported. elim c.in_err-state.ensures.faults [
      | inl damaged ↦ cc (damaged, reported)
      | inr memory ↦ cc (memory, reported)
    ])
    ((rw c.in_ok-now.ensures.ok.1 at c.next-next.ensures.quiet) ∙ c.loop-now.invariant.quiet)

pub returns-in_err-state-clause-state : goal.returns-in_err-state-clause-state
returns-in_err-state-clause-state g c =
    λ honest. let p = err_from_is_err_and c.from_residual-in_err-state.result c.from_residual-in_err-state.ensures.1 in
    none_in_error _ c.from_residual-in_err-state.result _ p.1
