use Rattle.kernel.specs.Unrecorded.{unrecorded_step}
use Rattle.kernel.proofs.laws.unrecorded_steps_change_nothing.Goals as goal

pub returns : goal.returns
returns c = unrecorded_step
