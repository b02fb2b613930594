use Rattle.std.proofs.Common.{◌≡◌, ◌∙◌, ◌+◌, ◌++◌, ◌∷◌, [], ap, flat_map, length, List, ℕ}
use Rattle.image.specs.Parts.{added, after_complex, after_destination, after_id, after_reply, after_size}
use Rattle.ipc_model.specs.messages.Receiving.{message_size}
use Rattle.ipc_model.specs.rights.Dispositions.{number_of_kind}
use Rattle.ipc_model.specs.encodings.Images.{carried_encoding, reply_right_encoding}
use Rattle.ipc_model.specs.encodings.PlainCalls.{number_of_bool}
use Rattle.words.specs.Words.{word}
use Rattle.image.proofs.messages.MessageEncoded.push.Goals as goal

pub returns : goal.returns
returns c =
    let message = c.args.self.now in
    let end = c.extend_from_slice.new.self.items in
    let rights : end ≡ c.push_length-2.new.out.items ++ (flat_map carried_encoding message.rights ++ message.body) =
    added c.push_length-2.new.out.items c.push_rows.new.out.items
    (flat_map carried_encoding message.rights) message.body end
    (c.in_ok-push_rows.ensures ∙ ap
    (λ l. c.push_length-2.new.out.items ++ flat_map carried_encoding l) c.as_slice-rights.ensures)
    (c.in_ok-extend_from_slice.ensures.items ∙ ap
    (λ (l : List ℕ). c.push_rows.new.out.items ++ l) c.as_slice-body.ensures) in
    let count : end ≡ c.push_byte-2.new.out.items ++ after_complex message =
    added c.push_byte-2.new.out.items c.push_length-2.new.out.items (word (length message.rights))
    (flat_map carried_encoding message.rights ++ message.body) end
    (c.in_ok-push_length-2.ensures ∙ ap (λ l. c.push_byte-2.new.out.items ++ word (length l)) c.as_slice-rights.ensures)
    rights in
    let complex : end ≡ c.push_length.new.out.items ++ after_size message =
    added c.push_length.new.out.items c.push_byte-2.new.out.items (number_of_bool message.complex ∷ [])
    (after_complex message) end
    (c.in_ok-push_byte-2.ensures ∙ ap (λ (n : ℕ). c.push_length.new.out.items ++ n ∷ []) c.byte_of.ensures) count in
    let size : end ≡ c.push_word.new.out.items ++ after_id message =
    added c.push_word.new.out.items c.push_length.new.out.items (word (message_size message)) (after_size message) end
    (c.in_ok-push_length.ensures ∙ ap
    (λ (l : List ℕ). c.push_word.new.out.items ++ word (24 + length l)) c.as_slice-body.ensures) complex in
    let id : end ≡ c.push_reply.new.out.items ++ after_reply message =
    added c.push_reply.new.out.items c.push_word.new.out.items (word message.id)
    (after_id message) end c.in_ok-push_word.ensures.ok size in
    let reply : end ≡ c.push_byte.new.out.items ++ after_destination message =
    added c.push_byte.new.out.items c.push_reply.new.out.items (reply_right_encoding message.reply)
    (after_reply message) end c.in_ok-push_reply.ensures id in
    added c.args.out.now.items c.push_byte.new.out.items (number_of_kind message.destination ∷ [])
    (after_destination message) end
    (c.in_ok-push_byte.ensures ∙ ap (λ (n : ℕ). c.args.out.now.items ++ n ∷ []) c.byte_of_kind.ensures) reply
