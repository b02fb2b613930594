use Rattle.std.proofs.Common.{◌≡◌, ℕ, List, [], ◌∷◌, ◌++◌, OnOk, take, drop, ap, subst, ◌∙◌}
use Rattle.disk.specs.declared.slot.Slot.{Slot}
use Rattle.disk.specs.Slots.{Slots, slot_of, with_slot}
use Rattle.ipc_model.specs.store.Store.{closed_gate, epoch_encoding, open_gate}
use Rattle.recover.specs.Making.{empty_segment}
use Rattle.slot_steps.proofs.Following.{synced_shut}
use Rattle.slot_steps.proofs.Gates.{after_first, closing_remade, closing_then, opening_then, remade_then}
use Rattle.disk.proofs.Moments.{own_bytes, with_twice}
use Rattle.slot_steps.specs.Steps.{segment_slot}
use Rattle.std.proofs.lemmas.Result.{err_from_is_err_and}
use Rattle.recover.proofs.Faults.{none_at_error}
use Rattle.recover.proofs.making.make_segment.Goals as goal

pub returns-clause-any_moment : goal.returns-clause-any_moment
returns-clause-any_moment g c = λ honest synced.
    let slot = segment_slot c.args.epoch in
    let closed = g.D.Disk.view c.roll_close.new.disk in
    let headed = g.D.Disk.view c.roll_head.new.disk in
    let front : List ℕ = slot_of closed.seen slot in
    let beyond : List ℕ = epoch_encoding c.args.epoch ++ closed_gate ∷ [] in
    let shut =
    synced_shut slot closed (c.in_ok-roll_close.ensures.synced honest) (c.in_ok-roll_close.ensures.closed honest) in
    let is =
    ap (λ (s : Slots). drop 1 (slot_of s slot)) (c.in_ok-roll_head.ensures.header honest) ∙ ap
    (λ (l : List ℕ). drop 1 l) (own_bytes slot closed.seen (take 1 front ++ beyond))
    ∙ after_first front beyond (c.in_ok-roll_close.ensures.begun honest) in
    remade_then slot (g.D.Disk.view c.args.disk.now) closed (g.D.Disk.view c.roll_open.new.disk) 16
    (empty_segment c.args.epoch) (c.roll_close.ensures.any_moment honest synced)
    (opening_then slot closed headed (g.D.Disk.view c.roll_open.new.disk) beyond
    (c.in_ok-roll_head.ensures.synced honest) is (c.roll_head.ensures.any_moment honest shut)
    (c.roll_open.ensures.any_moment honest))

-- a slot that was written three times has the bytes of the last write
made_last : (slot : Slot) (old closed headed : Slots) (x y z : List ℕ) → closed ≡ with_slot old slot x
    → headed ≡ with_slot closed slot y → with_slot headed slot z ≡ with_slot old slot z
made_last slot old closed headed x y z first second =
    ap (λ (s : Slots). with_slot s slot z) second
    ∙ (with_twice slot closed y z ∙ (ap (λ (s : Slots). with_slot s slot z) first ∙ with_twice slot old x z))

pub returns-clause-made : goal.returns-clause-made
returns-clause-made g c = λ honest.
    let slot = segment_slot c.args.epoch in
    let old = (g.D.Disk.view c.args.disk.now).seen in
    let closed = (g.D.Disk.view c.roll_close.new.disk).seen in
    let headed = (g.D.Disk.view c.roll_head.new.disk).seen in
    let front : List ℕ = slot_of closed slot in
    let beyond : List ℕ = epoch_encoding c.args.epoch ++ closed_gate ∷ [] in
    let is =
    ap (λ (s : Slots). drop 1 (slot_of s slot)) (c.in_ok-roll_head.ensures.header honest) ∙ ap
    (λ (l : List ℕ). drop 1 l) (own_bytes slot closed (take 1 front ++ beyond))
    ∙ after_first front beyond (c.in_ok-roll_close.ensures.begun honest) in
    let encoding = ap (λ (l : List ℕ). with_slot headed slot (open_gate ∷ l)) is in
    subst (λ (s : Slots). OnOk c.roll_open.result ((g.D.Disk.view c.roll_open.new.disk).seen ≡ s))
    (encoding ∙ made_last slot old closed headed front (take 1 front ++ beyond) (open_gate ∷ beyond)
    (c.in_ok-roll_close.ensures.others honest) (c.in_ok-roll_head.ensures.header honest))
    (c.roll_open.ensures.written honest)

pub returns-in_err-roll_close-clause-made : goal.returns-in_err-roll_close-clause-made
returns-in_err-roll_close-clause-made g c =
    λ honest. let p = err_from_is_err_and c.from_residual.result c.from_residual.ensures.1 in
    none_at_error _ c.from_residual.result _ p.1

pub returns-in_err-roll_close-clause-synced : goal.returns-in_err-roll_close-clause-synced
returns-in_err-roll_close-clause-synced g c =
    λ honest. let p = err_from_is_err_and c.from_residual.result c.from_residual.ensures.1 in
    none_at_error _ c.from_residual.result _ p.1

pub returns-in_err-roll_head-clause-made : goal.returns-in_err-roll_head-clause-made
returns-in_err-roll_head-clause-made g c =
    λ honest. let p = err_from_is_err_and c.from_residual-in_err-roll_head.result
    c.from_residual-in_err-roll_head.ensures.1 in none_at_error _ c.from_residual-in_err-roll_head.result _ p.1

pub returns-in_err-roll_head-clause-synced : goal.returns-in_err-roll_head-clause-synced
returns-in_err-roll_head-clause-synced g c =
    λ honest. let p = err_from_is_err_and c.from_residual-in_err-roll_head.result
    c.from_residual-in_err-roll_head.ensures.1 in none_at_error _ c.from_residual-in_err-roll_head.result _ p.1

pub returns-in_err-roll_head-clause-any_moment : goal.returns-in_err-roll_head-clause-any_moment
returns-in_err-roll_head-clause-any_moment g c = λ honest synced.
    let slot = segment_slot c.args.epoch in
    let old = g.D.Disk.view c.args.disk.now in
    let closed = g.D.Disk.view c.roll_close.new.disk in
    let headed = g.D.Disk.view c.roll_head.new.disk in
    let shut =
    synced_shut slot closed (c.in_ok-roll_close.ensures.synced honest) (c.in_ok-roll_close.ensures.closed honest) in
    closing_remade slot old headed 16 (empty_segment c.args.epoch)
    (closing_then slot old closed headed 16 (c.roll_close.ensures.any_moment honest synced)
    (c.roll_head.ensures.any_moment honest shut))
