use Rattle.type_desc.specs.Filling.{filled_front}
use Rattle.type_desc.proofs.laws.filled_one_by_one.Goals as goal

pub returns : goal.returns
returns c = filled_front
