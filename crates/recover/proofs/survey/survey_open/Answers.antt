use Rattle.recover.proofs.Surveys.{first_tells, second_tells, none_tell, reported_damaged, unused_damaged, on_error}
use Rattle.recover.proofs.survey.survey_open.Goals as goal

pub returns-in-Err-clause-damaged : goal.returns-in-Err-clause-damaged
returns-in-Err-clause-damaged c =
    λ slots tells base records. let known = first_tells slots _ _ _ _ c.in-First.epoch tells c.in-First.ensures.0 in
    reported_damaged slots c.in-First.epoch _ _ _ known c.in-First.ensures.1 c.in-Err.ensures.damaged base records

pub returns-in-Err-follows-clause-damaged : goal.returns-in-Err-follows-clause-damaged
returns-in-Err-follows-clause-damaged c =
    λ slots tells base records. let known = second_tells slots _ _ _ _ c.in-Second.epoch tells c.in-Second.ensures.0
    c.in-Second.ensures.1 in reported_damaged slots c.in-Second.epoch _ _ _ known.0 known.1
    c.in-Err-follows.ensures.damaged base records

pub returns-in-None-clause-damaged : goal.returns-in-None-clause-damaged
returns-in-None-clause-damaged c =
    λ slots tells. on_error c.survey_new.result
    (λ wrong base records. unused_damaged slots _ _
    (none_tell slots _ _ _ _ tells c.in-None.ensures.0 c.in-None.ensures.1) wrong base records)
    c.survey_new.ensures.damaged
