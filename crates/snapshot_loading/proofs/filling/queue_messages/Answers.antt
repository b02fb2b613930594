use Rattle.std.proofs.Common.{◌≡◌, All, List, true, sym, ◌∙◌, ap, subst}
use Rattle.std.proofs.lemmas.List.Elements.{All-head, All-tail}
use Rattle.ipc_model.specs.declared.message.Message.{Message}
use Rattle.ipc_model.specs.effects.Effects.{queued}
use Rattle.ipc_model.specs.state.Ipc.{lives}
use Rattle.ipc_state.specs.Live.{carries_live}
use Rattle.ipc_state.specs.Running.{Running}
use Rattle.snapshot_loading.specs.Filling.{queued_all}
use Rattle.snapshot_loading.specs.FillLaws.{live_message, queued_alike}
use Rattle.snapshot_loading.specs.Linked.{is_linked_message, looks_of}
use Rattle.snapshot_loading.proofs.filling.queue_messages.Goals as goal

pub queue_message-requires : goal.queue_message-requires
queue_message-requires c =
    let now = c.loop-message.state.current in
    let linked = c.loop-message.invariant.linked in
    let all =
    subst (All (λ (m : Message). is_linked_message (looks_of linked.0) m ≡ true)) c.in-Some.ensures.cases.0 linked.2
    in
    record {
      live = ap (carries_live now) c.in_ok-copy_of.ensures
          ∙ live_message linked.0 now linked.1 c.in-Some.message.now
          (All-head (λ (m : Message). is_linked_message (looks_of linked.0) m ≡ true) c.in-Some.message.now
          c.in-Some.beyond.now all);
    }

pub loop-message-preserved : goal.loop-message-preserved
loop-message-preserved c =
    let now = c.loop-message.state.current in
    let serial = c.args.serial in
    let is = c.in-Some.ensures.cases.0 in
    let beyond = c.in-Some.beyond.now in
    let linked = c.loop-message.invariant.linked in
    record {
      left =
          ap (λ (r : Running). queued_all serial beyond r.current) c.in_ok-queue_message.ensures.ok
          ∙ ap (λ (m : Message). queued_all serial beyond (queued now serial m)) c.in_ok-copy_of.ensures
          ∙ ap (λ (messages : List Message). queued_all serial messages now) (sym is)
          ∙ c.loop-message.invariant.left;
      linked = (
        linked.0,
        λ s. ap (λ (r : Running). lives r.current s) c.in_ok-queue_message.ensures.ok
            ∙ queued_alike serial c.in_ok-copy_of.field-0 now s ∙ linked.1 s,
        All-tail (λ (m : Message). is_linked_message (looks_of linked.0) m ≡ true) c.in-Some.message.now beyond
            (subst (All (λ (m : Message). is_linked_message (looks_of linked.0) m ≡ true)) is linked.2),
      );
    }
