use Rattle.std.proofs.Common.{◌≡◌, List, true, sym, ◌∙◌, ap, subst}
use Rattle.ipc_model.specs.state.Lawful.{Lawful, ShortQueues}
use Rattle.ipc_model.specs.state.Ipc.{Ipc}
use Rattle.snapshot.specs.Snapshots.{ipc_snapshot_of}
use Rattle.snapshot.specs.declared.rows.LivePort.{LivePort}
use Rattle.snapshot_loading.specs.Climbing.{doubled, up_of}
use Rattle.snapshot_loading.specs.ClimbLaws.{hops_ground}
use Rattle.snapshot_loading.specs.Filling.{filled_all}
use Rattle.snapshot_loading.specs.FillLaws.{skeleton}
use Rattle.snapshot_loading.specs.Linked.{is_linked, looks_of}
use Rattle.snapshot_loading.specs.Restored.{acyclic_lawful, lawful_rows, received_lawful, same_rows, short_rows, whole_rows}
use Rattle.snapshot.specs.Rows.{state_of_rows}
use Rattle.snapshot_loading.proofs.making.fill_messages.Goals as goal

pub returns-then-not-branch-clause-unlawful : goal.returns-then-not-branch-clause-unlawful
returns-then-not-branch-clause-unlawful c =
    λ _ lawful. received_lawful c.args.snapshot.now c.requires.shaped lawful
    (c.in_ok-are_received_once.ensures.others c.if-not-branch.true)

pub returns-then-not-branch-2-clause-unlawful : goal.returns-then-not-branch-2-clause-unlawful
returns-then-not-branch-2-clause-unlawful c = λ _ lawful.
    let snapshot = c.args.snapshot.now in
    let shape = c.requires.shaped in
    let now : c.fill_queues.new.state.current ≡ state_of_rows snapshot =
    c.in_ok-fill_queues.ensures ∙ ap
    (λ (rows : List LivePort). filled_all rows c.args.state.now.current) c.as_slice.ensures
    ∙ ap (filled_all snapshot.ports) c.requires.opened ∙ whole_rows snapshot shape in
    c.in_ok-is_acyclic.ensures.circles c.if-not-branch-2.true
    (λ q. ap (λ (s : Ipc). doubled 15 (up_of s) q) now ∙ acyclic_lawful snapshot shape lawful q)

pub returns-clause-filled : goal.returns-clause-filled
returns-clause-filled c =
    let snapshot = c.args.snapshot.now in
    let shape = c.requires.shaped in
    let now : c.fill_queues.new.state.current ≡ state_of_rows snapshot =
    c.in_ok-fill_queues.ensures ∙ ap
    (λ (rows : List LivePort). filled_all rows c.args.state.now.current) c.as_slice.ensures
    ∙ ap (filled_all snapshot.ports) c.requires.opened ∙ whole_rows snapshot shape in
    let links : is_linked (looks_of (skeleton snapshot)) snapshot ≡ true =
    sym (ap (λ (s : Ipc). is_linked (looks_of s) snapshot) c.requires.opened) ∙ c.requires.linked in
    let lawful : Lawful c.fill_queues.new.state.current =
    subst Lawful (sym now) (lawful_rows snapshot shape c.serial_fits.ensures links
    (c.in_ok-are_received_once.ensures.once c.if-not-branch.false)) in
    let ends = c.in_ok-is_acyclic.ensures.ends c.if-not-branch-2.false in (
      same_rows snapshot shape ∙ ap ipc_snapshot_of (sym now),
      lawful,
      hops_ground c.fill_queues.new.state.current lawful ends.0 ends.1,
      subst ShortQueues (sym now) (short_rows snapshot shape),
    )
