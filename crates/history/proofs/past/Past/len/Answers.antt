use Rattle.std.proofs.Common.{arith}
use Rattle.std.proofs.lemmas.List.{length-map}
use Rattle.history.proofs.Knowing.{known_long}
use Rattle.history.proofs.past.Past.len.Goals as goal

pub returns : goal.returns
returns g c =
    rw (← c.self.view_is) (omega (
      arith,
      known_long _ c.self.invariant.notes.entries,
      length-map c.self.inside.notes.items (λ n. n.known),
      c.self.inside.notes.ok,
    ))
