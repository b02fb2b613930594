use Rattle.codes.specs.declared.call_number.TheConstants.{CONFINE}
use Rattle.codes.specs.declared.kern_return.KernReturn.TheVariants.{ResourceShortage}
use Rattle.frame_service.proofs.Answered.{refusal_fits}
use Rattle.frame_service.proofs.confining.confine_shortage.Goals as goal

pub returns-clause-fits : goal.returns-clause-fits
returns-clause-fits c = refusal_fits CONFINE ResourceShortage c.refused.result c.refused.ensures
