use Rattle.socket_server.proofs.Staying.{says_confined}
use Rattle.socket_server.proofs.laws.answer_says_confined.Goals as goal

pub returns : goal.returns
returns c = says_confined
