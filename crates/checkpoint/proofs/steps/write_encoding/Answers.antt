use Rattle.std.proofs.Common.{◌+◌, ◌∙◌}
use Rattle.slot_steps.proofs.Following.{closed_then}
use Rattle.checkpoint.specs.Images.{first_pieces}
use Rattle.checkpoint.proofs.Whole.{held_more, others_more}
use Rattle.checkpoint.proofs.steps.write_encoding.Goals as goal

pub loop-piece-preserved : goal.loop-piece-preserved
loop-piece-preserved g c =
    let slot = c.args.slot in
    let first = g.D.Disk.view c.args.disk.now in
    let old = g.D.Disk.view c.loop-piece.disk in
    let new = g.D.Disk.view c.push_piece.new.disk in
    record {
      held =
          λ honest. held_more slot old.seen new.seen (first_pieces c.loop-piece.piece c.args.encoding.now) _
          (first_pieces (c.loop-piece.piece + 1) c.args.encoding.now) (c.loop-piece.invariant.held honest)
          (c.in_ok-push_piece.ensures.written honest) c.piece_at.ensures;
      others =
          λ honest. others_more slot first.seen old.seen new.seen _ (c.loop-piece.invariant.others honest)
          (c.in_ok-push_piece.ensures.written honest);
      shut = λ honest shut. c.in_ok-push_piece.ensures.shut honest (c.loop-piece.invariant.shut honest shut);
      passed =
          λ honest shut. closed_then slot first old new (c.loop-piece.invariant.passed honest shut)
          (c.push_piece.ensures.any_moment honest (c.loop-piece.invariant.shut honest shut));
      quiet = c.in_ok-push_piece.ensures.failures.ok ∙ c.loop-piece.invariant.quiet;
    }

pub returns-in_err-push_piece-clause-any_moment : goal.returns-in_err-push_piece-clause-any_moment
returns-in_err-push_piece-clause-any_moment g c = λ honest shut.
    closed_then c.args.slot (g.D.Disk.view c.args.disk.now) (g.D.Disk.view c.loop-piece.disk)
    (g.D.Disk.view c.push_piece.new.disk) (c.loop-piece.invariant.passed honest shut)
    (c.push_piece.ensures.any_moment honest (c.loop-piece.invariant.shut honest shut))
