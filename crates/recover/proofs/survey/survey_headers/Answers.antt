use Rattle.std.proofs.Common.{inl, inr}
use Rattle.recover.proofs.Surveys.{always_err, foreign_damaged, tells_of}
use Rattle.recover.proofs.survey.survey_headers.Goals as goal

pub returns-in_err-image0-clause-damaged : goal.returns-in_err-image0-clause-damaged
returns-in_err-image0-clause-damaged c =
    λ slots says. always_err c.from_residual.result
    (foreign_damaged slots _ _ _ _ says (inl c.in_err-image0.ensures.foreign))

pub returns-in_err-image1-clause-damaged : goal.returns-in_err-image1-clause-damaged
returns-in_err-image1-clause-damaged c =
    λ slots says. always_err c.from_residual-in_err-image1.result
    (foreign_damaged slots _ _ _ _ says (inr (inl c.in_err-image1.ensures.foreign)))

pub returns-in_err-segment0-clause-damaged : goal.returns-in_err-segment0-clause-damaged
returns-in_err-segment0-clause-damaged c =
    λ slots says. always_err c.from_residual-in_err-segment0.result
    (foreign_damaged slots _ _ _ _ says (inr (inr (inl c.in_err-segment0.ensures.foreign))))

pub returns-in_err-segment1-clause-damaged : goal.returns-in_err-segment1-clause-damaged
returns-in_err-segment1-clause-damaged c =
    λ slots says. always_err c.from_residual-in_err-segment1.result
    (foreign_damaged slots _ _ _ _ says (inr (inr (inr c.in_err-segment1.ensures.foreign))))

pub returns-clause-surveyed : goal.returns-clause-surveyed
returns-clause-surveyed c = λ slots says. c.survey_open.ensures.surveyed slots (record {
  image0 = tells_of _ _ _ _ _ says.image0 c.in_ok-image0.ensures.«open» c.in_ok-image0.ensures.closed;
  image1 = tells_of _ _ _ _ _ says.image1 c.in_ok-image1.ensures.«open» c.in_ok-image1.ensures.closed;
  segment0 = tells_of _ _ _ _ _ says.segment0 c.in_ok-segment0.ensures.«open» c.in_ok-segment0.ensures.closed;
  segment1 = tells_of _ _ _ _ _ says.segment1 c.in_ok-segment1.ensures.«open» c.in_ok-segment1.ensures.closed;
})

pub returns-clause-damaged : goal.returns-clause-damaged
returns-clause-damaged c = λ slots says. c.survey_open.ensures.damaged slots (record {
  image0 = tells_of _ _ _ _ _ says.image0 c.in_ok-image0.ensures.«open» c.in_ok-image0.ensures.closed;
  image1 = tells_of _ _ _ _ _ says.image1 c.in_ok-image1.ensures.«open» c.in_ok-image1.ensures.closed;
  segment0 = tells_of _ _ _ _ _ says.segment0 c.in_ok-segment0.ensures.«open» c.in_ok-segment0.ensures.closed;
  segment1 = tells_of _ _ _ _ _ says.segment1 c.in_ok-segment1.ensures.«open» c.in_ok-segment1.ensures.closed;
})
