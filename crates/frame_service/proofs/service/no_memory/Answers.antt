use Rattle.codes.specs.declared.call_number.TheConstants.{NUMBERED}
use Rattle.codes.specs.declared.kern_return.KernReturn.TheVariants.{ResourceShortage}
use Rattle.frame_service.proofs.Answered.{refusal_fits}
use Rattle.frame_service.proofs.service.no_memory.Goals as goal

pub returns-then-number-eq-NUMBERED-clause-fits : goal.returns-then-number-eq-NUMBERED-clause-fits
returns-then-number-eq-NUMBERED-clause-fits c =
    refusal_fits NUMBERED ResourceShortage c.refused.result c.refused.ensures
