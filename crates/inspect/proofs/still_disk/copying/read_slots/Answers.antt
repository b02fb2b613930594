use Rattle.inspect.proofs.still_disk.copying.read_slots.Goals as goal

pub returns-in_err-read_slot-3-clause-later : goal.returns-in_err-read_slot-3-clause-later
returns-in_err-read_slot-3-clause-later g c = λ honest.
    g.S.LiveSlots.joins _ _ _ (g.S.LiveSlots.joins _ _ _ (c.read_slot.ensures.later honest)
    (c.read_slot-2.ensures.later honest)) (c.read_slot-3.ensures.later honest)

pub returns-in_err-read_slot-4-clause-later : goal.returns-in_err-read_slot-4-clause-later
returns-in_err-read_slot-4-clause-later g c = λ honest.
    g.S.LiveSlots.joins _ _ _ (g.S.LiveSlots.joins _ _ _
    (g.S.LiveSlots.joins _ _ _ (c.read_slot.ensures.later honest) (c.read_slot-2.ensures.later honest))
    (c.read_slot-3.ensures.later honest)) (c.read_slot-4.ensures.later honest)
