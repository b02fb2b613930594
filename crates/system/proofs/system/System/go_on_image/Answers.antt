use Rattle.std.proofs.Common.{inl, inr, subst, sym}
use Rattle.disk.specs.Moments.{Passes}
use Rattle.store_layout.specs.Gates.{StandForState}
use Rattle.system.specs.GoingOn.{IsStanding}
use Rattle.system.proofs.Calls.{match_false, match_true}
use Rattle.system.proofs.Going.{image_breaks, image_moves, kernel_same, moves_none, passes_after, standing_after, system_same}
use Rattle.system.proofs.system.System.go_on_image.Goals as goal

pub returns-in_err-close_image-clause-passes : goal.returns-in_err-close_image-clause-passes
returns-in_err-close_image-clause-passes g c = λ is_honest standing.
    let old = c.args.self.now in
    let new = c.close_image.new.self in
    elim (image_breaks g.D.Disk.honest g.D.Disk.view old.store new.store _ c.requires.unfailed
    c.in_err-close_image.ensures.faults)
    as (λ _. Passes (g.D.Disk.view old.store.disk) (g.D.Disk.view new.store.disk) (StandForState old.core.kernel)) [
      | inl device ↦ passes_after g.D.Disk.honest g.D.Disk.view old.store new.store old.core.kernel
          (λ mid. device.1 mid old.core.kernel) is_honest standing
      | inr short ↦ passes_after g.D.Disk.honest g.D.Disk.view old.store new.store old.core.kernel
          (λ mid. (moves_none g.D.Disk.honest g.D.Disk.view old.store new.store mid old.core.kernel short.1).passes)
          is_honest standing
    ]

pub returns-then-branch-clause-kept : goal.returns-then-branch-clause-kept
returns-then-branch-clause-kept g c =
    let old = c.args.self.now in
    let new = c.close_image.new.self in
    let closes = match_true _ _ _ c.if-branch.true c.in_ok-close_image.ensures.done in
    standing_after g.D.Disk.honest g.D.Disk.view old new
    (kernel_same g.D.Disk.honest g.D.Disk.view old new c.in_ok-close_image.ensures.rest)
    (λ mid. image_moves g.D.Disk.honest g.D.Disk.view old.store new.store mid old.core.kernel closes)

pub returns-then-branch-clause-passes : goal.returns-then-branch-clause-passes
returns-then-branch-clause-passes g c =
    let old = c.args.self.now in
    let new = c.close_image.new.self in
    let closes = match_true _ _ _ c.if-branch.true c.in_ok-close_image.ensures.done in
    passes_after g.D.Disk.honest g.D.Disk.view old.store new.store old.core.kernel
    (λ mid. (image_moves g.D.Disk.honest g.D.Disk.view old.store new.store mid old.core.kernel closes).passes)

pub returns-clause-kept : goal.returns-clause-kept
returns-clause-kept g c = λ is_honest standing.
    let none = match_false _ _ _ c.if-branch.false c.in_ok-close_image.ensures.done in
    let same =
    system_same g.D.Disk.honest g.D.Disk.view c.args.self.now c.close_image.new.self
    c.in_ok-close_image.ensures.rest none.2 in
    c.go_on_pieces.ensures.kept is_honest
    (subst (λ s. IsStanding g.D.Disk.view s.store s.core.kernel) (sym same) standing)

pub returns-clause-passes : goal.returns-clause-passes
returns-clause-passes g c = λ is_honest standing.
    let none = match_false _ _ _ c.if-branch.false c.in_ok-close_image.ensures.done in
    let same =
    system_same g.D.Disk.honest g.D.Disk.view c.args.self.now c.close_image.new.self
    c.in_ok-close_image.ensures.rest none.2 in
    subst (λ s. Passes (g.D.Disk.view s.store.disk) (g.D.Disk.view c.go_on_pieces.new.self.store.disk)
    (StandForState s.core.kernel)) same
    (c.go_on_pieces.ensures.passes is_honest
    (subst (λ s. IsStanding g.D.Disk.view s.store s.core.kernel) (sym same) standing))
