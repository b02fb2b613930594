use Rattle.std.proofs.Common.{ℕ, sym, subst}
use Rattle.std.specs.Prelude.{IfOk}
use Rattle.disk.proofs.Moments.{reads_then}
use Rattle.disk.specs.Slots.{Slots, slot_of}
use Rattle.ipc_model.specs.store.Recovery.{HoldsImage, IsOfEpoch}
use Rattle.recover.proofs.loading.load_image.Goals as goal

pub returns-clause-image : goal.returns-clause-image
returns-clause-image g c = λ honest.
    subst (λ (s : Slots). IfOk c.load_image_in.result (λ kernel. (number epoch : ℕ)
    → IsOfEpoch number epoch (slot_of s c.args.slot) → HoldsImage epoch (slot_of s c.args.slot) kernel))
    (c.in_ok-version.ensures.reads_only honest).seen (c.load_image_in.ensures.image honest)

pub returns-clause-damaged : goal.returns-clause-damaged
returns-clause-damaged g c = λ honest reported epoch state image.
    c.load_image_in.ensures.damaged honest reported epoch state
    (subst (λ (s : Slots). HoldsImage epoch (slot_of s c.args.slot) state)
    (sym (c.in_ok-version.ensures.reads_only honest).seen) image)

pub returns-clause-reads_only : goal.returns-clause-reads_only
returns-clause-reads_only g c = λ honest.
    reads_then (g.D.Disk.view c.args.disk.now) _ _ (c.in_ok-version.ensures.reads_only honest)
    (c.load_image_in.ensures.reads_only honest)
