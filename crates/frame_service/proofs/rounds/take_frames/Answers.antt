use Rattle.std.proofs.Common.{Err, ap, ◌∙◌, arith}
use Rattle.std.proofs.lemmas.Result.{err_from_is_err_and}
use Rattle.frame_service.proofs.Acting.{none_taken}
use Rattle.frame_service.proofs.Turns.{one_known, took_all, took_one, took_some, took_stops}
use Rattle.frame_service.proofs.rounds.take_frames.Goals as goal

pub loop-init : goal.loop-init
loop-init g c = record {
  room = c.requires.capacity;
  counted = c.requires.none.1;
  taking =
      λ input known. none_taken g.A.Asker.answer g.A.Asker.makes g.A.Asker.lacks g.A.Asker.acknowledges g.A.Asker.fails
      g.A.Asker.looks c.args.asker.now c.args.all_pending.now.items input _ c.requires.none.0 known;
}

pub returns-in_err-pending-clause-took : goal.returns-in_err-pending-clause-took
returns-in_err-pending-clause-took g c = one_known _ _ (λ input known.
    let p = err_from_is_err_and c.from_residual.result c.from_residual.ensures.1 in
    took_stops g.A.Asker.answer g.A.Asker.makes g.A.Asker.lacks g.A.Asker.acknowledges g.A.Asker.fails
    g.A.Asker.looks c.args.asker.now
    c.loop.asker _ c.loop.all_pending.items input _ _ c.loop.counter _ c.from_residual.result
    (c.loop.invariant.taking input known) c.in_err-pending.ensures (p.1 ∙ ap Err p.2))

pub returns-in_default-clause-took : goal.returns-in_default-clause-took
returns-in_default-clause-took g c = one_known _ _ (λ input known.
    took_all g.A.Asker.answer g.A.Asker.makes g.A.Asker.lacks g.A.Asker.acknowledges g.A.Asker.fails
    g.A.Asker.looks c.args.asker.now
    c.loop.asker _ c.loop.all_pending.items input _ _ c.loop.counter (c.loop.invariant.taking input known)
    (rw c.in_default.is at c.in_ok-pending.ensures))

pub returns-then-waits-clause-took : goal.returns-then-waits-clause-took
returns-then-waits-clause-took g c = one_known _ _ (λ input known.
    took_some g.A.Asker.answer g.A.Asker.makes g.A.Asker.lacks g.A.Asker.acknowledges g.A.Asker.fails
    g.A.Asker.looks c.args.asker.now _ _ input _ _
    (took_one g.A.Asker.answer g.A.Asker.makes g.A.Asker.lacks g.A.Asker.acknowledges g.A.Asker.fails
    g.A.Asker.looks c.args.asker.now
    c.loop.asker _ c.loop.all_pending.items c.push_back_reserved.new.self.items c.in-Some.pending input _ _
    c.loop.counter (c.loop.invariant.taking input known) (rw c.in-Some.is at c.in_ok-pending.ensures)
    c.push_back_reserved.ensures.items)
    (omega arith))

pub returns-then-not-holds_frame-clause-took : goal.returns-then-not-holds_frame-clause-took
returns-then-not-holds_frame-clause-took g c = one_known _ _ (λ input known.
    took_some g.A.Asker.answer g.A.Asker.makes g.A.Asker.lacks g.A.Asker.acknowledges g.A.Asker.fails
    g.A.Asker.looks c.args.asker.now _ _ input _ _
    (took_one g.A.Asker.answer g.A.Asker.makes g.A.Asker.lacks g.A.Asker.acknowledges g.A.Asker.fails
    g.A.Asker.looks c.args.asker.now
    c.loop.asker _ c.loop.all_pending.items c.push_back_reserved.new.self.items c.in-Some.pending input _ _
    c.loop.counter (c.loop.invariant.taking input known) (rw c.in-Some.is at c.in_ok-pending.ensures)
    c.push_back_reserved.ensures.items)
    (omega arith))

pub loop-preserved : goal.loop-preserved
loop-preserved g c = record {
  room = omega (arith, c.loop.invariant.room, c.push_back_reserved.ensures.capacity);
  counted = omega (arith, c.loop.invariant.counted, c.push_back_reserved.ensures.len);
  taking = λ input known.
      took_one g.A.Asker.answer g.A.Asker.makes g.A.Asker.lacks g.A.Asker.acknowledges g.A.Asker.fails
      g.A.Asker.looks
      c.args.asker.now c.loop.asker _ c.loop.all_pending.items c.push_back_reserved.new.self.items c.in-Some.pending
      input _ _ c.loop.counter (c.loop.invariant.taking input known) (rw c.in-Some.is at c.in_ok-pending.ensures)
      c.push_back_reserved.ensures.items;
}

pub returns-clause-took : goal.returns-clause-took
returns-clause-took g c = one_known _ _ (λ input known.
    took_some g.A.Asker.answer g.A.Asker.makes g.A.Asker.lacks g.A.Asker.acknowledges g.A.Asker.fails
    g.A.Asker.looks c.args.asker.now
    c.loop.asker c.loop.all_pending.items input _ c.loop.counter (c.loop.invariant.taking input known)
    (omega (arith, c.loop-test.false)))
