use Rattle.std.proofs.Common.{sym, ◌∙◌}
use Rattle.std.specs.FinMap.{get}
use Rattle.death.proofs.Dying.{senders_left}
use Rattle.death.proofs.release.release_send.Goals as goal

pub returns-then-has_senders-clause-ok : goal.returns-then-has_senders-clause-ok
returns-then-has_senders-clause-ok c =
    let state = c.args.state.now.current in
    senders_left state c.args.serial (get state.ports c.args.serial)
    (sym c.has_senders.ensures ∙ c.if-has_senders.true)
