use Rattle.std.specs.Arc.{arc_value}
use Rattle.sessions_tests.proofs.closed.closed_on_new.Given as goal

-- the entry block, the mark and the state that were just made or opened
abbrev pub ghosts-closed_on-L-Founding : goal.ghosts-closed_on-L-Founding
ghosts-closed_on-L-Founding g a = record { first = arc_value a.start.row; table = a.start.mark; base = a.start.opened.kernel }

-- the ledger that was just made
abbrev pub ghosts-closed_on-L-Ledger : goal.ghosts-closed_on-L-Ledger
ghosts-closed_on-L-Ledger g a = record { name = a.start.blank.name; parts = a.start.blank.parts }
