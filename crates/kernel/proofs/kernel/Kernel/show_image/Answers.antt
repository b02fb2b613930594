use Rattle.std.proofs.Common.{subst}
use Rattle.ipc_laws.specs.Encoding.{lawful_is_encodable}
use Rattle.ipc_laws.specs.ImageLaws.{Encodable}
use Rattle.kernel.specs.Keeping.{state_of}
use Rattle.kernel.proofs.kernel.Kernel.show_image.Goals as goal

pub returns-clause-encoded : goal.returns-clause-encoded
returns-clause-encoded c =
    subst Encodable c.self.view_is
    (lawful_is_encodable (state_of c.self.inside.state.current c.self.inside.kept) c.self.invariant.0
    c.self.invariant.2)
