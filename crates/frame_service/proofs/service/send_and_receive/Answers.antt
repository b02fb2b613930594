use Rattle.std.proofs.Common.{inr, refl, sym, ◌∙◌}
use Rattle.frame_service.proofs.Answered.{if_err, if_ok, at_true, at_false}
use Rattle.frame_service.proofs.service.send_and_receive.Goals as goal

pub returns-then-not-is_success-clause-answered : goal.returns-then-not-is_success-clause-answered
returns-then-not-is_success-clause-answered g c = (
  c.in_ok-sent.sent,
  c.call.new.self,
  c.in_ok-sent.ensures.answers,
  at_false _ _ _ (sym c.is_success.ensures ∙ c.if-not-is_success.true) (refl, refl),
)

pub returns-clause-answered : goal.returns-clause-answered
returns-clause-answered g c =
    if_ok c.call-2.result
    (λ _ answered. (
      c.in_ok-sent.sent,
      c.call.new.self,
      c.in_ok-sent.ensures.answers,
      at_true _ _ _ (sym c.is_success.ensures ∙ c.if-not-is_success.false) answered,
    ))
    c.call-2.ensures.answers

pub returns-clause-failed : goal.returns-clause-failed
returns-clause-failed g c =
    if_err c.call-2.result
    (λ _ failed. inr (
      c.in_ok-sent.sent,
      c.call.new.self,
      c.in_ok-sent.ensures.answers,
      sym c.is_success.ensures ∙ c.if-not-is_success.false,
      failed,
    ))
    c.call-2.ensures.fails
