-- The rights of a header and of a body together are those of a message that is ready.
use Rattle.std.proofs.Common.{◌≡◌, ℕ, Bool, true, false, ◌&&◌, not, List, [], ◌∷◌, ◌++◌, map, Result, Ok, Err, refl, sym, ◌∙◌, ap, subst, append_assoc, if◌then◌else◌}
use Rattle.std.specs.List.{list_any}
use Rattle.codes.specs.declared.kern_return.KernReturn.{KernReturn}
use Rattle.codes.specs.declared.kern_return.KernReturn.TheVariants.{SendInvalidRight, SendTimedOut}
use Rattle.ipc_model.specs.calls.Tests.{and_then, or_refused, unless_failing}
use Rattle.ipc_model.specs.declared.message.CarriedRight.{CarriedRight}
use Rattle.ipc_model.specs.declared.message.Message.{Message}
use Rattle.ipc_model.specs.declared.message.RightKind.TheVariants as kind
use Rattle.ipc_model.specs.effects.Effects.{Effect}
use Rattle.ipc_model.specs.messages.Items.{Item, as_stored, is_port_item, items_encoding}
use Rattle.ipc_model.specs.messages.Messages.{UsedParts}
use Rattle.ipc_model.specs.messages.Sending.{TakenHeader, TakenRights, Ready, ready_message, is_full, tests_of_queue, take_items}
use Rattle.ipc_model.specs.state.Placed.{same_kind}
use Rattle.ipc_model.specs.state.Ipc.{Ipc}
use Rattle.sending.specs.Agrees.{Agrees}
use Rattle.sending.specs.Sends.{ReadyIs}
use Rattle.sending.specs.SoFar.{so_far}
use Rattle.sending.specs.declared.fault.SendFault.{SendFault}
use Rattle.sending.specs.declared.header.HeaderRights.{HeaderRights}
use Rattle.sending.proofs.Steps.{agrees_then, agrees_failed}

-- the rights that were taken for a header
abbrev pub HeaderIs : Ipc → List Effect → List Effect → TakenHeader → HeaderRights → Type 0
HeaderIs new waiting after header found =
    (found ≡ record { kind = header.kind; port = header.port; reply = header.reply }) × (new ≡ header.state)
    × (after ≡ waiting ++ header.notices)

-- the rights that were taken for a body
abbrev pub RightsAre : {Y : Type 0} → (Y → List CarriedRight) → Ipc → List Effect → List Effect → TakenRights → Y
    → Type 0
RightsAre items new waiting after taken rights =
    (items rights ≡ taken.rights) × (new ≡ taken.state) × (after ≡ waiting ++ taken.notices)

abbrev pub message_of : UsedParts → List Item → HeaderRights → List CarriedRight → Message
message_of parts items found rights = record {
  destination = found.kind;
  reply = found.reply;
  id = parts.id;
  complex = list_any is_port_item items;
  rights = rights;
  body = if parts.complex then items_encoding (map as_stored items) else parts.body;
}

abbrev pub made : UsedParts → List Item → HeaderRights → Ipc → List CarriedRight → Result Message KernReturn
made parts items found state rights =
    unless_failing ((is_full state found.port && not (same_kind found.kind kind.SendOnce), SendTimedOut) ∷ [])
    (Ok (message_of parts items found rights))

abbrev pub next_rights : ℕ → UsedParts → List Item → TakenHeader → Result Ready KernReturn
next_rights space parts items header =
    and_then (or_refused SendInvalidRight
    (take_items space items (record { rights = []; state = header.state; notices = [] })))
    (λ (rights : TakenRights).
    let ready : Ready = ready_message parts items header rights in
    unless_failing (tests_of_queue ready) (Ok ready))

abbrev sent_one : Message → Result Message SendFault
sent_one message = Ok message

module _ (space : ℕ) (parts : UsedParts) (items : List Item) (found : HeaderRights) (mid new : Ipc)
    (waiting between after : List Effect) where
  -- the message that is ready after these rights were taken
  ready_is : (header : TakenHeader) (taken : TakenRights) (rights : List CarriedRight)
      → HeaderIs mid waiting between header found → rights ≡ taken.rights → new ≡ taken.state
      → ready_message parts items header taken
      ≡ record {
        message = message_of parts items found rights;
        port = found.port;
        state = new;
        notices = header.notices ++ taken.notices;
      }
  ready_is header taken rights head rights_are state_is = λ i. record {
    message = record {
      destination = (sym head.0 i).kind;
      reply = (sym head.0 i).reply;
      id = parts.id;
      complex = list_any is_port_item items;
      rights = sym rights_are i;
      body = if parts.complex then items_encoding (map as_stored items) else parts.body;
    };
    port = (sym head.0 i).port;
    state = sym state_is i;
    notices = header.notices ++ taken.notices;
  }

  by_test : (b : Bool) (m message : Message) (ready : Ready) → ready.message ≡ m
      → Agrees (unless_failing ((b, SendTimedOut) ∷ []) (Ok m)) (λ x y. y ≡ x) (sent_one message)
      → ready.port ≡ found.port → new ≡ ready.state → after ≡ waiting ++ ready.notices
      → Agrees (unless_failing ((b, SendTimedOut) ∷ []) (Ok ready)) (ReadyIs new waiting after)
      (Ok (message, found.port))
  by_test true m message ready is made_is port state notices = absurd made_is
  by_test false m message ready is made_is port state notices = (made_is ∙ sym is, sym port, state, notices)

  by_test_failed : (b : Bool) (m : Message) (ready : Ready) (fault : SendFault)
      → Agrees (unless_failing ((b, SendTimedOut) ∷ []) (Ok m)) (λ (x y : Message). y ≡ x) (Err fault)
      → Agrees (unless_failing ((b, SendTimedOut) ∷ []) (Ok ready)) (ReadyIs new waiting after) (Err fault)
  by_test_failed true m ready fault is = is
  by_test_failed false m ready fault is = is

  pub all_taken : {Y : Type 0} (list : Y → List CarriedRight) (header : Result TakenHeader KernReturn) (rights : Y)
      (message : Message) → Agrees header (HeaderIs mid waiting between) (Ok found)
      → Agrees (or_refused SendInvalidRight (take_items space items (so_far [] mid [])))
      (RightsAre list new between after) (Ok rights)
      → Agrees (made parts items found new (list rights)) (λ x y. y ≡ x) (Ok message)
      → Agrees (and_then header (next_rights space parts items)) (ReadyIs new waiting after) (Ok (message, found.port))
  all_taken list header rights message first second third =
      agrees_then header (next_rights space parts items) (HeaderIs mid waiting between)
      (ReadyIs new waiting after) found
      (Ok (message, found.port)) first (λ head is.
      agrees_then (or_refused SendInvalidRight (take_items space items (so_far [] head.state []))) _
      (RightsAre list new between after) (ReadyIs new waiting after) rights (Ok (message, found.port))
      (subst (λ (s : Ipc). Agrees (or_refused SendInvalidRight (take_items space items (so_far [] s [])))
      (RightsAre list new between after) (Ok rights)) is.1 second) (λ taken are.
      subst (λ (ready : Ready). Agrees (unless_failing (tests_of_queue ready) (Ok ready)) (ReadyIs new waiting after)
      (Ok (message, found.port)))
      (sym (ready_is head taken (list rights) is are.0 are.1))
      (by_test (is_full new found.port && not (same_kind found.kind kind.SendOnce))
      (message_of parts items found (list rights)) message
      (record {
        message = message_of parts items found (list rights);
        port = found.port;
        state = new;
        notices = head.notices ++ taken.notices;
      }) refl third refl refl
      (are.2 ∙ ap (λ (l : List Effect). l ++ taken.notices) is.2 ∙ append_assoc waiting head.notices taken.notices))))

  pub third_failed : {Y : Type 0} (list : Y → List CarriedRight) (header : Result TakenHeader KernReturn) (rights : Y)
      (fault : SendFault) → Agrees header (HeaderIs mid waiting between) (Ok found)
      → Agrees (or_refused SendInvalidRight (take_items space items (so_far [] mid [])))
      (RightsAre list new between after) (Ok rights)
      → Agrees (made parts items found new (list rights)) (λ (x y : Message). y ≡ x) (Err fault)
      → Agrees (and_then header (next_rights space parts items)) (ReadyIs new waiting after) (Err fault)
  third_failed list header rights fault first second third =
      agrees_then header (next_rights space parts items) (HeaderIs mid waiting between)
      (ReadyIs new waiting after) found
      (Err fault) first (λ head is.
      agrees_then (or_refused SendInvalidRight (take_items space items (so_far [] head.state []))) _
      (RightsAre list new between after) (ReadyIs new waiting after) rights (Err fault)
      (subst (λ (s : Ipc). Agrees (or_refused SendInvalidRight (take_items space items (so_far [] s [])))
      (RightsAre list new between after) (Ok rights)) is.1 second) (λ taken are.
      subst (λ (ready : Ready). Agrees (unless_failing (tests_of_queue ready) (Ok ready)) (ReadyIs new waiting after)
      (Err fault))
      (sym (ready_is head taken (list rights) is are.0 are.1))
      (by_test_failed (is_full new found.port && not (same_kind found.kind kind.SendOnce))
      (message_of parts items found (list rights))
      (record {
        message = message_of parts items found (list rights);
        port = found.port;
        state = new;
        notices = head.notices ++ taken.notices;
      }) fault third)))

  pub second_failed : {Y : Type 0} (list : Y → List CarriedRight) (header : Result TakenHeader KernReturn)
      (fault : SendFault) → Agrees header (HeaderIs mid waiting between) (Ok found)
      → Agrees (or_refused SendInvalidRight (take_items space items (so_far [] mid [])))
      (RightsAre list new between after) (Err fault)
      → Agrees (and_then header (next_rights space parts items)) (ReadyIs new waiting after) (Err fault)
  second_failed list header fault first second =
      agrees_then header (next_rights space parts items) (HeaderIs mid waiting between)
      (ReadyIs new waiting after) found
      (Err fault) first (λ head is.
      agrees_failed (or_refused SendInvalidRight (take_items space items (so_far [] head.state []))) _
      (RightsAre list new between after) (ReadyIs new waiting after) fault
      (subst (λ (s : Ipc). Agrees (or_refused SendInvalidRight (take_items space items (so_far [] s [])))
      (RightsAre list new between after) (Err fault)) is.1 second))
