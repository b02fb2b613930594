-- The device's count of failures over events one after another.
use Rattle.std.proofs.Common.{◌≡◌, ℕ, List, [], ◌∷◌, ◌++◌, refl}
use Rattle.system.specs.Counting.{counted_event, counted_events}
use Rattle.system.specs.declared.event.Outcome.{Outcome}

pub counted_push : (before : List Outcome) (last : Outcome) (failures : ℕ)
    → counted_events (before ++ last ∷ []) failures ≡ counted_event last (counted_events before failures)
counted_push [] last failures = refl
counted_push (answered ∷ before) last failures = counted_push before last (counted_event answered failures)
