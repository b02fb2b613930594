use Rattle.std.proofs.Common.{◌≡◌, ℕ, Bool, true, false, List, [], ◌++◌, sym, ap, ◌∙◌}
use Rattle.std.proofs.lemmas.List.{take_rest, append-nil}
use Rattle.ipc_model.specs.messages.Items.{items_of}
use Rattle.ipc_model.specs.messages.Messages.{UsedParts, HasUsedParts, body_of}
use Rattle.ipc_model.specs.messages.Sending.{items_if_complex}
use Rattle.msg_header.specs.Headers.{parts_by}
use Rattle.receiving.specs.ShownNames.{names_shown, name_in_header, names_in_items, parts_shown}
use Rattle.receiving.proofs.shown.names_shown.Goals as goal
use Rattle.receiving.proofs.shown.names_shown.Goals.{then-header+in_ok-add_names_in_body, else-header}

-- the names that were appended one after another
all_added : (bytes start named all : List ℕ) (parts : UsedParts) → HasUsedParts bytes parts → start ≡ []
    → named ≡ start ++ name_in_header parts.remote_disposition parts.remote
    → all ≡ named ++ names_in_items (items_if_complex parts.complex parts.body) → all ≡ names_shown bytes
all_added bytes start named all parts is none first more =
    more ∙ ap (λ (l : List ℕ). l ++ names_in_items (items_if_complex parts.complex parts.body))
    (first ∙ ap (λ (l : List ℕ). l ++ name_in_header parts.remote_disposition parts.remote) none)
    ∙ sym (parts_shown bytes parts is)

with_complex : (named all body : List ℕ) (complex : Bool) → complex ≡ true
    → all ≡ named ++ names_in_items (items_of body) → all ≡ named ++ names_in_items (items_if_complex complex body)
with_complex named all body complex is more =
    more ∙ ap (λ (b : Bool). named ++ names_in_items (items_if_complex b body)) (sym is)

without_complex : (named body : List ℕ) (complex : Bool) → complex ≡ false
    → named ≡ named ++ names_in_items (items_if_complex complex body)
without_complex named body complex isnt =
    sym (append-nil named) ∙ ap (λ (b : Bool). named ++ names_in_items (items_if_complex b body)) (sym isnt)

pub returns : goal.returns
returns c =
    let message : List ℕ = c.args.message.now in
    let header = c.in-Ok.header in
    let named : List ℕ = c.add_reply_name.new.names.items in
    all_added message c.new-names.result.items named c.if-header.names.items
    (parts_by header (body_of message)) c.in-Ok.ensures.found c.new-names.ensures.items
    c.in_ok-add_reply_name.ensures
    (elim c.if-header.branch [
      | then-header+in_ok-add_names_in_body w ↦ ap (λ v. v.items) w.names-is
          ∙ with_complex named _ (body_of message) header.complex w.if-header.true
          (w.in_ok-add_names_in_body.ensures ∙ ap
          (λ (l : List ℕ). named ++ names_in_items (items_of l)) (take_rest message 24))
      | else-header w ↦ ap (λ v. v.items) w.names-is
          ∙ without_complex named (body_of message) header.complex w.if-header.false
    ])
