use Rattle.std.proofs.Common.{◌≡◌, ℕ, Bool, false, List, Option}
use Rattle.std.specs.Io.Buffered.{writer_buffer, writer_contents}
use Rattle.relay.specs.Relaying.{Side, side}
use Rattle.relay.specs.shell.Turns.{Talk}
use Rattle.relay.proofs.shell.talk.converse.Given as goal

-- some lines were read and handled
pub record Talked (own peer : Side) (number : ℕ) (well : Bool) (own_now peer_now : Side) (is_prompting : Bool)
    (errors errors_now : Option (List ℕ)) : Type 0 where
  pub lines : Talk own peer number well own_now peer_now
  pub quiet : is_prompting ≡ false → errors_now ≡ errors

abbrev pub invariant-loop-done : goal.invariant-loop-done
invariant-loop-done g l =
    Talked (side (g.I.Read.remaining l.fn.input) (writer_contents g.O.Write.contents l.fn.output)
    (writer_buffer l.fn.output)) (side (g.P.Read.remaining l.fn.replies)
    (writer_contents g.S.Write.contents l.fn.requests) (writer_buffer l.fn.requests))
    l.done l.is_well
    (side (g.I.Read.remaining l.input) (writer_contents g.O.Write.contents l.output) (writer_buffer l.output))
    (side (g.P.Read.remaining l.replies) (writer_contents g.S.Write.contents l.requests) (writer_buffer l.requests))
    l.fn.is_prompting (g.E.Write.contents l.fn.errors) (g.E.Write.contents l.errors)
