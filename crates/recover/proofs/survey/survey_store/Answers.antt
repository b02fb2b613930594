use Rattle.recover.proofs.survey.survey_store.Goals as goal

pub returns-in_err-survey-clause-damaged : goal.returns-in_err-survey-clause-damaged
returns-in_err-survey-clause-damaged c =
    λ slots says reported base records. c.in_err-survey.ensures.damaged slots says base records
