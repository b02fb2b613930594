use Rattle.frame_service.proofs.Answered.{message_fits}
use Rattle.frame_service.proofs.service.only_code.Goals as goal

pub returns-clause-fits : goal.returns-clause-fits
returns-clause-fits c = message_fits c.args.code c.without_message.result c.without_message.ensures
