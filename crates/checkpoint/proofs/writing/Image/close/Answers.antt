use Rattle.std.proofs.Common.{◌≡◌, [], OnOk, ap, subst, ◌∙◌}
use Rattle.checkpoint.specs.Images.{HoldsAfter, ImageValue}
use Rattle.disk.specs.declared.slot.Slot.{Slot}
use Rattle.disk.specs.Moments.{Follows, IsSynced, Passes}
use Rattle.disk.specs.Slots.{slot_of, with_slot}
use Rattle.slot_steps.specs.Steps.{IsClosing, IsShut, image_slot}
use Rattle.checkpoint.proofs.writing.Image.close.Goals as goal

-- Each clause is that of the step, in the epoch's slot.

pub returns-clause-cleared : goal.returns-clause-cleared
returns-clause-cleared g c = λ honest.
    subst (λ (s : Slot). OnOk c.clear.result (HoldsAfter (slot_of (g.D.Disk.view c.clear.new.disk).seen s) []))
    (c.image_slot.ensures ∙ ap (λ (v : ImageValue). image_slot v.epoch) c.self.view_is) (c.clear.ensures.cleared honest)

pub returns-clause-others : goal.returns-clause-others
returns-clause-others g c = λ honest.
    let new = g.D.Disk.view c.clear.new.disk in
    subst (λ (s : Slot). OnOk c.clear.result
    (new.seen ≡ with_slot (g.D.Disk.view c.args.disk.now).seen s (slot_of new.seen s)))
    (c.image_slot.ensures ∙ ap (λ (v : ImageValue). image_slot v.epoch) c.self.view_is) (c.clear.ensures.others honest)

pub returns-clause-shut : goal.returns-clause-shut
returns-clause-shut g c = λ honest.
    subst (λ (s : Slot). OnOk c.clear.result (IsShut (g.D.Disk.view c.clear.new.disk) s))
    (c.image_slot.ensures ∙ ap (λ (v : ImageValue). image_slot v.epoch) c.self.view_is) (c.clear.ensures.shut honest)

pub returns-clause-any_moment : goal.returns-clause-any_moment
returns-clause-any_moment g c = λ honest.
    let old = g.D.Disk.view c.args.disk.now in
    subst (λ (s : Slot). IsSynced old s → Passes old (g.D.Disk.view c.clear.new.disk) (Follows old s (IsClosing 24)))
    (c.image_slot.ensures ∙ ap (λ (v : ImageValue). image_slot v.epoch) c.self.view_is)
    (c.clear.ensures.any_moment honest)
