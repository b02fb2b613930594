use Rattle.std.proofs.Common.{◌≡◌, ◌⊎◌, ◌<◌, List, ℕ, [], ◌∷◌, inl, length, take, refl, ap, subst, ◌∙◌, sym}
use Rattle.disk.specs.Slots.{Slots, slot_of}
use Rattle.ipc_model.specs.store.Store.{open_gate}
use Rattle.slot_steps.proofs.Following.{follows_as, still_then}
use Rattle.slot_steps.proofs.Gates.{gate_closing}
use Rattle.disk.proofs.Moments.{synced_kept}
use Rattle.slot_steps.specs.Steps.{HasSomeGate, IsClosing}
use Rattle.slot_steps.proofs.steps.close_slot.Goals as goal

pub returns-then-branch-clause-any_moment : goal.returns-then-branch-clause-any_moment
returns-then-branch-clause-any_moment g c = λ honest synced.
    let slot = c.args.slot in
    let old = g.D.Disk.view c.args.disk.now in
    let mid = g.D.Disk.view c.needs_closing.new.disk in
    let time = c.needs_closing.ensures.time honest in
    let same = c.needs_closing.ensures.seen honest in
    let needs = (c.in_ok-needs_closing.ensures.needs honest).0 c.if-branch.true in
    still_then slot old mid (g.D.Disk.view c.write_gate.new.disk) (IsClosing c.args.header) (λ x. inl refl) time
    (follows_as slot mid (g.D.Disk.view c.write_gate.new.disk) HasSomeGate (IsClosing c.args.header)
    (c.write_gate.ensures.any_moment honest)
    (λ d after left gate. gate_closing c.args.header (slot_of d slot) after c.requires
    (subst (λ (l : List ℕ). (length l < c.args.header) ⊎ (take 1 l ≡ open_gate ∷ []))
    (sym (synced_kept slot old mid time same synced d left ∙ ap (λ (s : Slots). slot_of s slot) same)) needs) gate))
