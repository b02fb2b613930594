use Rattle.std.proofs.Common.{ap, ◌∙◌}
use Rattle.system.proofs.Calls.{match_false, match_true}
use Rattle.system.proofs.Going.{finish_breaks, finished_moves, finished_rests, hands_finished, kernel_same, leaves_then, moves_none, moves_then, passes_after, piece_breaks, piece_or_none, piece_working, rests_same, standing_after}
use Rattle.system.proofs.system.System.go_on_pieces.Goals as goal

pub returns-in_err-write_piece-clause-passes : goal.returns-in_err-write_piece-clause-passes
returns-in_err-write_piece-clause-passes g c =
    let old = c.args.self.now in
    let new = c.write_piece.new.self in
    passes_after g.D.Disk.honest g.D.Disk.view old.store new.store old.core.kernel
    (λ mid. (piece_breaks g.D.Disk.honest g.D.Disk.view old.store new.store _ c.requires.unfailed
    c.in_err-write_piece.ensures.faults).1 mid old.core.kernel)

pub returns-then-branch-clause-kept : goal.returns-then-branch-clause-kept
returns-then-branch-clause-kept g c =
    let old = c.args.self.now in
    let new = c.write_piece.new.self in
    standing_after g.D.Disk.honest g.D.Disk.view old new
    (kernel_same g.D.Disk.honest g.D.Disk.view old new c.in_ok-write_piece.ensures.rest)
    (λ mid. piece_or_none g.D.Disk.honest g.D.Disk.view _ old.store new.store c.in_ok-write_piece.ensures.done
    mid old.core.kernel)

pub returns-then-branch-clause-passes : goal.returns-then-branch-clause-passes
returns-then-branch-clause-passes g c =
    let old = c.args.self.now in
    let new = c.write_piece.new.self in
    passes_after g.D.Disk.honest g.D.Disk.view old.store new.store old.core.kernel
    (λ mid. (piece_or_none g.D.Disk.honest g.D.Disk.view _ old.store new.store c.in_ok-write_piece.ensures.done mid
    old.core.kernel).passes)

pub returns-in_err-finish-clause-passes : goal.returns-in_err-finish-clause-passes
returns-in_err-finish-clause-passes g c =
    let old = c.args.self.now in
    let between = c.write_piece.new.self in
    let new = c.finish.new.self in
    passes_after g.D.Disk.honest g.D.Disk.view old.store new.store old.core.kernel
    (λ mid. leaves_then g.D.Disk.honest g.D.Disk.view old.store between.store new.store mid old.core.kernel
    (piece_or_none g.D.Disk.honest g.D.Disk.view _ old.store between.store c.in_ok-write_piece.ensures.done mid
    old.core.kernel)
    ((finish_breaks g.D.Disk.honest g.D.Disk.view between.store new.store _
    (piece_working g.D.Disk.honest g.D.Disk.view _ old.store between.store c.in_ok-write_piece.ensures.done
    c.requires.unfailed) c.in_err-finish.ensures.faults).1 mid old.core.kernel))

pub returns-then-branch-2-clause-kept : goal.returns-then-branch-2-clause-kept
returns-then-branch-2-clause-kept g c =
    let old = c.args.self.now in
    let none = match_false _ _ _ c.if-branch.false c.in_ok-write_piece.ensures.done in
    let rests =
    rests_same g.D.Disk.honest g.D.Disk.view old c.write_piece.new.self c.requires c.in_ok-write_piece.ensures.rest
    none.2 in
    let finishes = match_true _ _ _ c.if-branch-2.true c.in_ok-finish.ensures.done in
    let last =
    finished_rests g.D.Disk.honest g.D.Disk.view c.write_piece.new.self c.finish.new.self c.durable.new.self rests
    finishes (hands_finished g.D.Disk.honest g.D.Disk.view c.write_piece.new.self c.finish.new.self
    c.durable.new.self _ finishes c.durable.ensures) in
    standing_after g.D.Disk.honest g.D.Disk.view old c.durable.new.self
    (last.1 ∙ kernel_same g.D.Disk.honest g.D.Disk.view old c.write_piece.new.self c.in_ok-write_piece.ensures.rest)
    (λ mid. finished_moves g.D.Disk.honest g.D.Disk.view old.store c.write_piece.new.self c.finish.new.self
    c.durable.new.self (piece_or_none g.D.Disk.honest g.D.Disk.view _ old.store c.write_piece.new.self.store
    c.in_ok-write_piece.ensures.done) finishes last.2 mid old.core.kernel)

pub returns-then-branch-2-clause-passes : goal.returns-then-branch-2-clause-passes
returns-then-branch-2-clause-passes g c =
    let old = c.args.self.now in
    let none = match_false _ _ _ c.if-branch.false c.in_ok-write_piece.ensures.done in
    let rests =
    rests_same g.D.Disk.honest g.D.Disk.view old c.write_piece.new.self c.requires c.in_ok-write_piece.ensures.rest
    none.2 in
    let finishes = match_true _ _ _ c.if-branch-2.true c.in_ok-finish.ensures.done in
    let last =
    finished_rests g.D.Disk.honest g.D.Disk.view c.write_piece.new.self c.finish.new.self c.durable.new.self rests
    finishes (hands_finished g.D.Disk.honest g.D.Disk.view c.write_piece.new.self c.finish.new.self
    c.durable.new.self _ finishes c.durable.ensures) in
    passes_after g.D.Disk.honest g.D.Disk.view old.store c.durable.new.self.store old.core.kernel
    (λ mid. (finished_moves g.D.Disk.honest g.D.Disk.view old.store c.write_piece.new.self c.finish.new.self
    c.durable.new.self (piece_or_none g.D.Disk.honest g.D.Disk.view _ old.store c.write_piece.new.self.store
    c.in_ok-write_piece.ensures.done) finishes last.2 mid old.core.kernel).passes)

pub returns-else-branch-2-clause-kept : goal.returns-else-branch-2-clause-kept
returns-else-branch-2-clause-kept g c =
    let old = c.args.self.now in
    let between = c.write_piece.new.self in
    let new = c.finish.new.self in
    let none = match_false _ _ _ c.if-branch-2.false c.in_ok-finish.ensures.done in
    standing_after g.D.Disk.honest g.D.Disk.view old new
    (ap (λ s. s.core.kernel) none.2
    ∙ kernel_same g.D.Disk.honest g.D.Disk.view old between c.in_ok-write_piece.ensures.rest)
    (λ mid. moves_then g.D.Disk.honest g.D.Disk.view old.store between.store new.store mid old.core.kernel
    (piece_or_none g.D.Disk.honest g.D.Disk.view _ old.store between.store c.in_ok-write_piece.ensures.done mid
    old.core.kernel)
    (moves_none g.D.Disk.honest g.D.Disk.view between.store new.store mid old.core.kernel (ap (λ s. s.store) none.2)))
