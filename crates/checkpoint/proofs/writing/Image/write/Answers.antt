use Rattle.std.proofs.Common.{◌≡◌, ℕ, List, OnOk, ap, ◌∙◌}
use Rattle.checkpoint.specs.Images.{ImageValue, open_image}
use Rattle.disk.specs.declared.slot.Slot.{Slot}
use Rattle.disk.specs.Moments.{Follows, IsSynced, Passes}
use Rattle.disk.specs.Slots.{with_slot}
use Rattle.slot_steps.specs.Steps.{IsRemade, image_slot}
use Rattle.checkpoint.proofs.Along.{along}
use Rattle.checkpoint.proofs.writing.Image.write.Goals as goal

-- Each clause is that of the step, in the epoch's slot.

pub returns-clause-made : goal.returns-clause-made
returns-clause-made g c = λ honest.
    let old = g.D.Disk.view c.args.disk.now in
    let new = g.D.Disk.view c.write_all.new.disk in
    along (λ (s : Slot) (e : ℕ) (t : List ℕ). OnOk c.write_all.result
    (new.seen ≡ with_slot old.seen s (open_image e t))) _ _ _ _ _ _
    (c.image_slot.ensures ∙ ap (λ (v : ImageValue). image_slot v.epoch) c.self.view_is)
    (ap (λ (v : ImageValue). v.epoch) c.self.view_is)
    (c.deref.ensures.value ∙ ap (λ (v : ImageValue). v.encoding) c.self.view_is)
    (c.write_all.ensures.made honest)

pub returns-clause-synced : goal.returns-clause-synced
returns-clause-synced g c = λ honest.
    let new = g.D.Disk.view c.write_all.new.disk in
    along (λ (s : Slot) (e : ℕ) (t : List ℕ). OnOk c.write_all.result (IsSynced new s)) _ _ _ _ _ _
    (c.image_slot.ensures ∙ ap (λ (v : ImageValue). image_slot v.epoch) c.self.view_is)
    (ap (λ (v : ImageValue). v.epoch) c.self.view_is)
    (c.deref.ensures.value ∙ ap (λ (v : ImageValue). v.encoding) c.self.view_is)
    (c.write_all.ensures.synced honest)

pub returns-clause-any_moment : goal.returns-clause-any_moment
returns-clause-any_moment g c = λ honest.
    let old = g.D.Disk.view c.args.disk.now in
    let new = g.D.Disk.view c.write_all.new.disk in
    along (λ (s : Slot) (e : ℕ) (t : List ℕ). IsSynced old s
    → Passes old new (Follows old s (IsRemade 24 (open_image e t)))) _ _ _ _ _ _
    (c.image_slot.ensures ∙ ap (λ (v : ImageValue). image_slot v.epoch) c.self.view_is)
    (ap (λ (v : ImageValue). v.epoch) c.self.view_is)
    (c.deref.ensures.value ∙ ap (λ (v : ImageValue). v.encoding) c.self.view_is)
    (c.write_all.ensures.any_moment honest)
