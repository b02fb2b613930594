use Rattle.std.proofs.Common.{◌≡◌, ◌++◌, length, drop, vec_capacity}
use Rattle.history.proofs.notes.copy_rest.Given as goal

abbrev pub invariant-loop-at : goal.invariant-loop-at
invariant-loop-at g l =
    (l.others.items ≡ l.initial.others.items) × (vec_capacity l.notes ≡ vec_capacity l.initial.notes)
    × (length l.notes.items ≡ l.at)
    × (l.notes.items ++ drop l.at l.initial.others.items ≡ l.initial.notes.items ++ drop l.known l.initial.others.items)
