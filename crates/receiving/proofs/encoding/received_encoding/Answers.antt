use Rattle.std.proofs.Common.{◌++◌, ℕ, List, ap, ◌∙◌}
use Rattle.ipc_model.specs.messages.Receiving.{received_body}
use Rattle.receiving.specs.TakingLaws.{encoding_of_header}
use Rattle.receiving.proofs.encoding.received_encoding.Goals as goal

pub returns : goal.returns
returns c =
    encoding_of_header c.args.message.now c.args.member c.args.sequence_number c.args.given.now
    c.header_of-header.result c.in_ok-encoding.encoding.items c.write_into.new.out.items
    c.push_body.new.encoding.items
    c.requires.long c.header_of-header.ensures c.in_ok-encoding.ensures.items c.in_ok-write_into.ensures.ok
    (c.in_ok-push_body.ensures ∙ ap
    (λ (names : List ℕ). c.write_into.new.out.items ++ received_body c.args.message.now names) c.body_names.ensures)
