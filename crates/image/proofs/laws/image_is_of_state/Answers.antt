use Rattle.image.specs.RowLaws.{image_of_state}
use Rattle.image.proofs.laws.image_is_of_state.Goals as goal

pub returns : goal.returns
returns c = image_of_state
