use Rattle.codes.specs.declared.call_number.TheConstants.{ATTACH}
use Rattle.codes.specs.declared.kern_return.KernReturn.TheVariants.{NoAccess}
use Rattle.frame_service.proofs.Answered.{refusal_fits}
use Rattle.frame_service.proofs.confining.to_attach.Goals as goal

pub returns-then-is_success-clause-fits : goal.returns-then-is_success-clause-fits
returns-then-is_success-clause-fits c = refusal_fits ATTACH NoAccess c.refused.result c.refused.ensures
