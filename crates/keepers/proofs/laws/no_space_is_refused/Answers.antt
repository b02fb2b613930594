use Rattle.keepers.proofs.Since.{no_space_refused}
use Rattle.keepers.proofs.laws.no_space_is_refused.Goals as goal

pub returns : goal.returns
returns c = no_space_refused
