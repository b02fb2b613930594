use Rattle.socket_server.proofs.Staying.{confined_stay}
use Rattle.socket_server.proofs.laws.confined_connections_stay.Goals as goal

pub returns : goal.returns
returns c = confined_stay
