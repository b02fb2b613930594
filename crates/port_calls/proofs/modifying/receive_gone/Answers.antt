use Rattle.std.proofs.Common.{false, List, [], ◌∷◌, ◌++◌, ap, ◌∙◌, append_assoc}
use Rattle.ipc_model.specs.declared.entry.Entry.{Entry}
use Rattle.ipc_model.specs.declared.entry.Entry.TheVariants.{Port}
use Rattle.ipc_model.specs.declared.message.RightKind.TheVariants as kind
use Rattle.ipc_model.specs.effects.Effects.{Effect, release}
use Rattle.ipc_model.specs.rights.CopyIn.{notices_of_left}
use Rattle.port_calls.proofs.Handed.{still_ok}
use Rattle.port_calls.proofs.modifying.receive_gone.Goals as goal

pub returns-clause-effects : goal.returns-clause-effects
returns-clause-effects c =
    let left : Entry = Port (record c.args.rights { receive = false }) in
    let notices = notices_of_left c.args.name left in
    still_ok c.set_left.result
    (c.in_ok-announce_left.ensures.ok
    ∙ (ap (λ (effects : List Effect). effects ++ notices) c.in_ok-release.ensures
    ∙ append_assoc c.args.effects.now (release kind.Receive c.args.rights.port ∷ []) notices))
