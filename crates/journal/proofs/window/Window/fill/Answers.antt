use Rattle.std.proofs.Common.{inl, ap}
use Rattle.journal.specs.Windows.{WindowValue}
use Rattle.journal.proofs.Pieces.{full_front}
use Rattle.journal.proofs.window.Window.fill.Goals as goal

pub returns-then-shown-ge-LONGEST_STEP-clause-shown : goal.returns-then-shown-ge-LONGEST_STEP-clause-shown
returns-then-shown-ge-LONGEST_STEP-clause-shown g c =
    λ honest over. (
      over,
      inl (full_front c.self.inside.from c.self.inside.to c.self.inside.buffer.items c.args.self.now
          c.self.invariant.1 (ap (λ (w : WindowValue). w.front) c.self.view_is) c.if-shown-ge-LONGEST_STEP.true),
    )
