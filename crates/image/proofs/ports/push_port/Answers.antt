use Rattle.std.proofs.Common.{◌∙◌, ◌++◌, ap, flat_map, length, ℕ}
use Rattle.image.specs.Parts.{port_added}
use Rattle.ipc_model.specs.encodings.Images.{message_image}
use Rattle.words.specs.Words.{word}
use Rattle.image.proofs.ports.push_port.Goals as goal

pub returns : goal.returns
returns c =
    port_added c.args.port.now c.args.out.now.items c.push_word.new.out.items c.push_word-2.new.out.items
    c.push_word-3.new.out.items c.push_word-4.new.out.items c.push_target.new.out.items
    c.push_target-2.new.out.items
    c.push_length.new.out.items c.push_rows.new.out.items c.in_ok-push_word.ensures.ok c.in_ok-push_word-2.ensures.ok
    c.in_ok-push_word-3.ensures.ok
    (c.in_ok-push_word-4.ensures.ok ∙ ap (λ (n : ℕ). c.push_word-3.new.out.items ++ word n) c.number_of.ensures)
    c.in_ok-push_target.ensures c.in_ok-push_target-2.ensures
    (c.in_ok-push_length.ensures ∙ ap
    (λ l. c.push_target-2.new.out.items ++ word (length l)) c.as_slice-messages.ensures)
    (c.in_ok-push_rows.ensures ∙ ap
    (λ l. c.push_length.new.out.items ++ flat_map message_image l) c.as_slice-messages.ensures)
