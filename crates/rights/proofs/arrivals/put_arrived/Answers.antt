use Rattle.std.proofs.Common.{refl, ap}
use Rattle.ipc_model.specs.calls.PortCalls.{names_in}
use Rattle.ipc_model.specs.declared.message.PortInMessage.{PortInMessage}
use Rattle.ipc_model.specs.rights.CopyOut.{names_after}
use Rattle.rights.proofs.OnTheWay.{unchanged}
use Rattle.rights.proofs.arrivals.put_arrived.Goals as goal

pub returns-in-Null : goal.returns-in-Null
returns-in-Null c = record {
  ok =
      unchanged c.args.state.now.current c.args.space c.args.right c.args.name c.requires.there
      (ap (λ (p : PortInMessage). names_after
      (names_in c.args.state.now.current c.args.space) c.args.right.kind p c.args.name) c.in-Null.is);
  before = refl;
}

pub returns-in-Dead : goal.returns-in-Dead
returns-in-Dead c = record {
  ok =
      unchanged c.args.state.now.current c.args.space c.args.right c.args.name c.requires.there
      (ap (λ (p : PortInMessage). names_after
      (names_in c.args.state.now.current c.args.space) c.args.right.kind p c.args.name) c.in-Dead.is);
  before = refl;
}
