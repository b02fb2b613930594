use Rattle.codes.specs.declared.kern_return.KernReturn.TheVariants.{InvalidArgument}
use Rattle.frame_service.proofs.Answered.{refusal_fits}
use Rattle.frame_service.proofs.service.no_call.Goals as goal

pub returns-clause-fits : goal.returns-clause-fits
returns-clause-fits c = refusal_fits c.args.number InvalidArgument c.refused.result c.refused.ensures
