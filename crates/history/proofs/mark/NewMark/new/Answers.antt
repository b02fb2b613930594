use Rattle.std.proofs.Common.{[], ◌∷◌, rules}
use Rattle.history.proofs.Moves.{begins}
use Rattle.history.proofs.mark.NewMark.new.Goals as goal

pub ruled-requires : goal.ruled-requires
ruled-requires c = (search rules, (search rules, begins (0 ∷ [])))
