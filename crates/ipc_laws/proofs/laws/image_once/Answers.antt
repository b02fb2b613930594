use Rattle.ipc_laws.specs.ImageLaws.{image_once}
use Rattle.ipc_laws.proofs.laws.image_once.Goals as goal

pub returns : goal.returns
returns c = image_once
