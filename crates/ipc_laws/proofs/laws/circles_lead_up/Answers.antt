use Rattle.ipc_laws.specs.Circles.{circles_lead_up}
use Rattle.ipc_laws.proofs.laws.circles_lead_up.Goals as goal

pub returns : goal.returns
returns c = circles_lead_up
