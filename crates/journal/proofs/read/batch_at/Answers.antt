use Rattle.std.proofs.Common.{inr, List, ℕ, ◌∷◌, ◌++◌, ◌∙◌, ap, arith}
use Rattle.ipc_model.specs.store.Store.{open_gate}
use Rattle.words.specs.Words.{word}
use Rattle.journal.proofs.read.batch_at.Goals as goal

pub returns-in_default-clause-ended : goal.returns-in_default-clause-ended
returns-in_default-clause-ended c = (c.if-left-ne0.false, c.if-size-ne0.false, c.in_default.ensures.closed)

pub returns-clause-found : goal.returns-clause-found
returns-clause-found c = inr (
  c.if-left-ne0.false,
  c.if-size-ne0.false,
  omega (arith, c.if-count-eq0.false),
  c.in-Some-take_word.ensures.fits,
  c.in-Some-take_long_word.ensures.fits,
  c.in-Some.ensures.open ∙ ap (λ (l : List ℕ). open_gate ∷ l)
      (c.in-Some-take_word.ensures.found ∙ ap
      (λ (l : List ℕ). word c.in-Some-take_word.count ++ l) c.in-Some-take_long_word.ensures.found),
)

pub returns-clause-ended : goal.returns-clause-ended
returns-clause-ended c = tt
