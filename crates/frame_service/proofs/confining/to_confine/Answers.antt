use Rattle.codes.specs.declared.call_number.TheConstants.{CONFINE}
use Rattle.frame_service.proofs.Answered.{done_fits, refusal_fits}
use Rattle.frame_service.proofs.confining.to_confine.Goals as goal

pub returns-in-Plain-Done-clause-fits : goal.returns-in-Plain-Done-clause-fits
returns-in-Plain-Done-clause-fits c = done_fits CONFINE

pub returns-in-Plain-Refused-clause-fits : goal.returns-in-Plain-Refused-clause-fits
returns-in-Plain-Refused-clause-fits c =
    refusal_fits CONFINE c.in-Plain-Refused.code c.refused.result c.refused.ensures
