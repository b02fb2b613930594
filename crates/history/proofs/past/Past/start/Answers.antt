use Rattle.std.proofs.Common.{arith}
use Rattle.std.proofs.lemmas.List.{length-map}
use Rattle.history.proofs.Knowing.{known_long}
use Rattle.history.proofs.past.Past.start.Goals as goal

pub returns-clause-within : goal.returns-clause-within
returns-clause-within g c =
    rw (← c.self.view_is) (omega (
      arith,
      known_long _ c.self.invariant.notes.entries,
      length-map c.self.inside.notes.items (λ n. n.known),
      length-map c.self.inside.notes.items (λ n. n.cell),
      c.self.invariant.begun,
    ))
