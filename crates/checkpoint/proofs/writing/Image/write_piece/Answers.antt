use Rattle.std.proofs.Common.{◌≡◌, ℕ, ◌+◌, List, sym, ap, subst, ◌∙◌}
use Rattle.checkpoint.specs.Images.{HoldsAfter, ImageValue, first_pieces}
use Rattle.disk.specs.declared.slot.Slot.{Slot}
use Rattle.disk.specs.Moments.{Follows, Passes}
use Rattle.disk.specs.Slots.{slot_of, with_slot}
use Rattle.slot_steps.proofs.Lengths.{own_of}
use Rattle.slot_steps.specs.Steps.{IsShut, IsStillClosed, image_slot}
use Rattle.checkpoint.proofs.Along.{along}
use Rattle.checkpoint.proofs.Exits.{none_at_fault}
use Rattle.checkpoint.proofs.Whole.{held_more}
use Rattle.checkpoint.proofs.writing.Image.write_piece.Goals as goal

pub returns-in_err-push_piece-clause-held : goal.returns-in_err-push_piece-clause-held
returns-in_err-push_piece-clause-held g c = λ honest. none_at_fault _ _ c.from_residual.result c.from_residual.ensures.1

pub returns-in_err-push_piece-clause-others : goal.returns-in_err-push_piece-clause-others
returns-in_err-push_piece-clause-others g c =
    λ honest. none_at_fault _ _ c.from_residual.result c.from_residual.ensures.1

pub returns-in_err-push_piece-clause-shut : goal.returns-in_err-push_piece-clause-shut
returns-in_err-push_piece-clause-shut g c =
    λ honest shut. none_at_fault _ _ c.from_residual.result c.from_residual.ensures.1

-- Each clause is that of the step, in the epoch's slot.

pub returns-in_err-push_piece-clause-any_moment : goal.returns-in_err-push_piece-clause-any_moment
returns-in_err-push_piece-clause-any_moment g c = λ honest.
    let old = g.D.Disk.view c.args.disk.now in
    subst (λ (s : Slot). IsShut old s → Passes old (g.D.Disk.view c.push_piece.new.disk) (Follows old s IsStillClosed))
    (c.image_slot.ensures ∙ ap (λ (v : ImageValue). image_slot v.epoch) c.self.view_is)
    (c.push_piece.ensures.any_moment honest)

pub returns-clause-any_moment : goal.returns-clause-any_moment
returns-clause-any_moment g c = λ honest.
    let old = g.D.Disk.view c.args.disk.now in
    subst (λ (s : Slot). IsShut old s → Passes old (g.D.Disk.view c.push_piece.new.disk) (Follows old s IsStillClosed))
    (c.image_slot.ensures ∙ ap (λ (v : ImageValue). image_slot v.epoch) c.self.view_is)
    (c.push_piece.ensures.any_moment honest)

pub returns-clause-shut : goal.returns-clause-shut
returns-clause-shut g c = λ honest.
    subst (λ (s : Slot). IsShut (g.D.Disk.view c.args.disk.now) s → IsShut (g.D.Disk.view c.push_piece.new.disk) s)
    (c.image_slot.ensures ∙ ap (λ (v : ImageValue). image_slot v.epoch) c.self.view_is)
    (c.in_ok-push_piece.ensures.shut honest)

pub returns-clause-others : goal.returns-clause-others
returns-clause-others g c = λ honest.
    let old = (g.D.Disk.view c.args.disk.now).seen in
    let new = (g.D.Disk.view c.push_piece.new.disk).seen in
    let written = c.in_ok-push_piece.ensures.written honest in
    subst (λ (s : Slot). new ≡ with_slot old s (slot_of new s))
    (c.image_slot.ensures ∙ ap (λ (v : ImageValue). image_slot v.epoch) c.self.view_is)
    (written ∙ ap (λ (l : List ℕ). with_slot old c.image_slot.result l)
    (sym (own_of c.image_slot.result old new _ written)))

pub returns-clause-held : goal.returns-clause-held
returns-clause-held g c = λ honest.
    let old = (g.D.Disk.view c.args.disk.now).seen in
    let new = (g.D.Disk.view c.push_piece.new.disk).seen in
    let slot = c.image_slot.ensures ∙ ap (λ (v : ImageValue). image_slot v.epoch) c.self.view_is in
    let before = ap (λ (v : ImageValue). v.written) c.self.view_is in
    let encoding = c.deref.ensures.value ∙ ap (λ (v : ImageValue). v.encoding) c.self.view_is in
    let held =
    along (λ (s : Slot) (n : ℕ) (t : List ℕ). HoldsAfter (slot_of old s) (first_pieces n t)) _ _ _ _ _ _ (sym slot)
    (sym before) (sym encoding) (c.requires.holds honest) in
    along (λ (s : Slot) (n : ℕ) (t : List ℕ). HoldsAfter (slot_of new s) (first_pieces (n + 1) t)) _ _ _ _ _ _ slot
    before encoding
    (held_more c.image_slot.result old new
    (first_pieces c.self.inside.written c.deref.result.now) c.piece_at-piece.result.now
    (first_pieces (c.self.inside.written + 1) c.deref.result.now) held
    (c.in_ok-push_piece.ensures.written honest) c.piece_at-piece.ensures)
