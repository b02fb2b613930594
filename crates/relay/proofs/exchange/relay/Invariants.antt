use Rattle.std.specs.Io.Buffered.{writer_buffer, writer_contents}
use Rattle.relay.proofs.Going.{Going}
use Rattle.relay.specs.Relaying.{side}
use Rattle.relay.proofs.exchange.relay.Given as goal

-- some frames were relayed
abbrev pub invariant-loop : goal.invariant-loop
invariant-loop g l =
    Going (side (g.I.Read.remaining l.fn.input) (writer_contents g.O.Write.contents l.fn.output)
    (writer_buffer l.fn.output)) (side (g.P.Read.remaining l.fn.replies)
    (writer_contents g.S.Write.contents l.fn.requests) (writer_buffer l.fn.requests))
    (side (g.I.Read.remaining l.input) (writer_contents g.O.Write.contents l.output) (writer_buffer l.output))
    (side (g.P.Read.remaining l.replies) (writer_contents g.S.Write.contents l.requests) (writer_buffer l.requests))
    l.counter
