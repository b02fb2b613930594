use Rattle.std.proofs.Common.{List, ℕ, refl, ap, ◌∙◌}
use Rattle.std.specs.Io.BufRead.{strip_last}
use Rattle.relay.proofs.shell.Joins.{goes_on, stopped_reading}
use Rattle.relay.specs.shell.Turns.{begun}
use Rattle.relay.proofs.shell.talk.converse.Goals as goal

pub loop-done-init : goal.loop-done-init
loop-done-init g c = record {
  lines = begun;
  quiet = λ e. refl;
}

pub loop-done-preserved : goal.loop-done-preserved
loop-done-preserved g c =
    let read = rw c.in-Some.is at c.in_ok-line.ensures.line in
    let one = rw c.in-Some.is at c.in_ok-line.ensures.one in
    record {
      lines =
          goes_on _ _ _ _ _ _ c.loop-done.done c.loop-done.is_well c.in_ok-turn.turn.is_well _ c.in-Some.line.items
          c.without_end.result.now c.loop-done.invariant.lines read one
          (c.without_end.ensures ∙ ap (λ (l : List ℕ). strip_last 10 l) c.deref.ensures.value) c.in_ok-turn.ensures.done
          c.in_ok-turn.ensures.flushed c.both-is_well.ensures;
      quiet = λ e. c.prompt.ensures.quiet e ∙ c.loop-done.invariant.quiet e;
    }

pub returns-in_err-line-clause-stops : goal.returns-in_err-line-clause-stops
returns-in_err-line-clause-stops g c =
    stopped_reading c.from_residual.result _ _ _ _
    (g.I.Read.remaining c.next_line.new.input) c.loop-done.done c.loop-done.is_well c.loop-done.invariant.lines
