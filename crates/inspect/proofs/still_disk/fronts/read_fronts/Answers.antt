use Rattle.inspect.proofs.still_disk.fronts.read_fronts.Goals as goal

pub returns-in_err-segment0-clause-later : goal.returns-in_err-segment0-clause-later
returns-in_err-segment0-clause-later g c = λ honest.
    g.S.LiveSlots.joins _ _ _ (g.S.LiveSlots.joins _ _ _ (c.read_front.ensures.later honest)
    (c.read_front-2.ensures.later honest)) (c.read_front-3.ensures.later honest)

pub returns-in_err-segment1-clause-later : goal.returns-in_err-segment1-clause-later
returns-in_err-segment1-clause-later g c = λ honest.
    g.S.LiveSlots.joins _ _ _ (g.S.LiveSlots.joins _ _ _
    (g.S.LiveSlots.joins _ _ _ (c.read_front.ensures.later honest) (c.read_front-2.ensures.later honest))
    (c.read_front-3.ensures.later honest)) (c.read_front-4.ensures.later honest)

pub returns-clause-later : goal.returns-clause-later
returns-clause-later g c = λ honest.
    g.S.LiveSlots.joins _ _ _ (g.S.LiveSlots.joins _ _ _
    (g.S.LiveSlots.joins _ _ _ (c.read_front.ensures.later honest) (c.read_front-2.ensures.later honest))
    (c.read_front-3.ensures.later honest)) (c.read_front-4.ensures.later honest)
