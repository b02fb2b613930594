use Rattle.inspect.proofs.text.Reported.{holders_are_listed}
use Rattle.inspect.proofs.text.laws.holders_are_listed.Goals as goal

pub returns : goal.returns
returns c = holders_are_listed
