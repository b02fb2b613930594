use Rattle.std.specs.Io.Buffered.{writer_buffer, writer_contents}
use Rattle.relay.specs.Relaying.{side}
use Rattle.relay.proofs.shell.Joins.{none_done, part_said}
use Rattle.relay.proofs.shell.talk.take_turn.Goals as goal

pub returns-in_err-printed-clause-part : goal.returns-in_err-printed-clause-part
returns-in_err-printed-clause-part g c =
    none_done c.from_residual.result c.args.place.number
    (side (g.P.Read.remaining c.args.replies.now) (writer_contents g.S.Write.contents c.args.requests.now)
    (writer_buffer c.args.requests.now)) (writer_contents g.O.Write.contents c.args.output.now)

pub returns-in_err-say-clause-part : goal.returns-in_err-say-clause-part
returns-in_err-say-clause-part g c =
    let part = rw c.as_slice.ensures.value at c.in_err-say.ensures.part in
    part_said c.from_residual-in_err-say.result c.args.place.number c.args.line.now
    (side (g.P.Read.remaining c.args.replies.now) (writer_contents g.S.Write.contents c.args.requests.now)
    (writer_buffer c.args.requests.now))
    (side (g.P.Read.remaining c.hear.new.replies) (writer_contents g.S.Write.contents c.hear.new.requests)
    (writer_buffer c.hear.new.requests)) (writer_contents g.O.Write.contents c.args.output.now)
    (writer_contents g.O.Write.contents c.say.new.output)
    c.in_ok-printed.printed.text.items c.in_ok-printed.printed.is_well c.in_ok-printed.ensures part
