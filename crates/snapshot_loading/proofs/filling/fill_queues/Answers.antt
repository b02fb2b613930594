use Rattle.std.proofs.Common.{◌≡◌, All, List, true, sym, ◌∙◌, ap, subst}
use Rattle.std.proofs.lemmas.List.Elements.{All-head, All-tail}
use Rattle.ipc_model.specs.declared.message.Message.{Message}
use Rattle.ipc_model.specs.state.Ipc.{Ipc, lives}
use Rattle.snapshot.specs.declared.rows.LivePort.{LivePort}
use Rattle.snapshot_loading.specs.Filling.{filled_all, queued_all}
use Rattle.snapshot_loading.specs.FillLaws.{all_queued_alike, linked_messages}
use Rattle.snapshot_loading.specs.Linked.{is_linked_message, is_linked_row, looks_of}
use Rattle.snapshot_loading.proofs.filling.fill_queues.Goals as goal

pub queue_messages-requires : goal.queue_messages-requires
queue_messages-requires c =
    let first = c.args.state.now.current in
    let all =
    subst (All (λ (r : LivePort). is_linked_row (looks_of first) r ≡ true)) c.in-Some.ensures.cases.0
    c.loop-row.invariant.linked in (
      first,
      c.loop-row.invariant.alike,
      subst (All (λ (m : Message). is_linked_message (looks_of first) m ≡ true)) (sym c.as_slice.ensures)
          (linked_messages (looks_of first) c.in-Some.row.now
          (All-head (λ (r : LivePort). is_linked_row (looks_of first) r ≡ true) c.in-Some.row.now
          c.in-Some.beyond.now all)),
    )

pub loop-row-preserved : goal.loop-row-preserved
loop-row-preserved c =
    let first = c.args.state.now.current in
    let now = c.loop-row.state.current in
    let row = c.in-Some.row.now in
    let is = c.in-Some.ensures.cases.0 in
    let beyond = c.in-Some.beyond.now in
    record {
      left =
          ap (filled_all beyond) c.in_ok-queue_messages.ensures
          ∙ ap (λ (messages : List Message). filled_all beyond (queued_all row.serial messages now)) c.as_slice.ensures
          ∙ ap (λ (rows : List LivePort). filled_all rows now) (sym is)
          ∙ c.loop-row.invariant.left;
      alike =
          λ s. ap (λ (state : Ipc). lives state s) c.in_ok-queue_messages.ensures
          ∙ all_queued_alike row.serial c.as_slice.result.now now s ∙ c.loop-row.invariant.alike s;
      linked =
          All-tail (λ (r : LivePort). is_linked_row (looks_of first) r ≡ true) row beyond
          (subst (All (λ (r : LivePort). is_linked_row (looks_of first) r ≡ true)) is c.loop-row.invariant.linked);
    }
