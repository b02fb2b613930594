use Rattle.ipc_laws.specs.OnceLaws.{made_once}
use Rattle.ipc_laws.specs.RunLaws.{steps_run}
use Rattle.system.proofs.laws.calls_are_made_once.Goals as goal

pub returns : goal.returns
returns g c = λ base world system stands.
    made_once base world.applied system.core.kernel stands.applied.lawful
    (steps_run base system.core.kernel world.applied stands.applied.run)
