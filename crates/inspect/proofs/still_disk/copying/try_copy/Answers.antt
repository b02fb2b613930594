use Rattle.inspect.proofs.still_disk.copying.try_copy.Goals as goal

pub returns-in_err-after-clause-later : goal.returns-in_err-after-clause-later
returns-in_err-after-clause-later g c = λ honest.
    g.S.LiveSlots.joins _ _ _ (g.S.LiveSlots.joins _ _ _ (c.read_fronts.ensures.later honest)
    (c.read_slots.ensures.later honest)) (c.read_fronts-2.ensures.later honest)

pub returns-in_err-own-clause-later : goal.returns-in_err-own-clause-later
returns-in_err-own-clause-later g c = λ honest.
    g.S.LiveSlots.joins _ _ _ (g.S.LiveSlots.joins _ _ _ (c.read_fronts.ensures.later honest)
    (c.read_slots.ensures.later honest)) (c.read_fronts-2.ensures.later honest)

pub returns-then-are-2-clause-later : goal.returns-then-are-2-clause-later
returns-then-are-2-clause-later g c = λ honest.
    g.S.LiveSlots.joins _ _ _ (g.S.LiveSlots.joins _ _ _ (c.read_fronts.ensures.later honest)
    (c.read_slots.ensures.later honest)) (c.read_fronts-2.ensures.later honest)

pub returns-clause-later : goal.returns-clause-later
returns-clause-later g c = λ honest.
    g.S.LiveSlots.joins _ _ _ (g.S.LiveSlots.joins _ _ _ (c.read_fronts.ensures.later honest)
    (c.read_slots.ensures.later honest)) (c.read_fronts-2.ensures.later honest)
