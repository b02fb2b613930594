use Rattle.inspect.proofs.looking.look_at_copy.Goals as goal

pub returns-clause-damaged : goal.returns-clause-damaged
returns-clause-damaged c = λ reported. c.look-looked.ensures.damaged tt reported
