use Rattle.std.proofs.Common.{refl}
use Rattle.ipc_model.specs.state.Ipc.{Names}
use Rattle.rights.proofs.Arriving.{unmoved}
use Rattle.rights.proofs.copy_out.put_right.Goals as goal

pub returns-in_default : goal.returns-in_default
returns-in_default c = record {
  ok =
      λ (names : Names) (there : _). unmoved c.args.state.now.current c.args.space names c.args.right.kind
      c.args.right.port c.args.name c.in_default.not-Live there;
  absent = λ _. refl;
  before = refl;
}
