use Rattle.std.proofs.Common.{sym, ◌∙◌, ap}
use Rattle.ipc_model.specs.state.Ipc.{Ipc}
use Rattle.snapshot_loading.specs.Linked.{is_linked, looks_of}
use Rattle.snapshot_loading.specs.Restored.{linked_lawful, shaped_lawful}
use Rattle.snapshot_loading.proofs.making.fill.Goals as goal

pub returns-then-not-branch-clause-unlawful : goal.returns-then-not-branch-clause-unlawful
returns-then-not-branch-clause-unlawful c =
    λ _ lawful. cc (sym c.if-not-branch.true ∙ c.in_ok-is_shaped.ensures.1 (shaped_lawful c.args.snapshot.now lawful))

pub returns-then-not-is_linked-clause-unlawful : goal.returns-then-not-is_linked-clause-unlawful
returns-then-not-is_linked-clause-unlawful c = λ _ lawful.
    let snapshot = c.args.snapshot.now in
    let shape = c.in_ok-is_shaped.ensures.0 c.if-not-branch.false in
    cc (sym c.if-not-is_linked.true ∙ c.is_linked.ensures ∙ ap
    (λ (s : Ipc). is_linked (looks_of s) snapshot) c.in_ok-open_rows.ensures
    ∙ linked_lawful snapshot shape lawful)
