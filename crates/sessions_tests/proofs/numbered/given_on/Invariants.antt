use Rattle.std.specs.Arc.{arc_value}
use Rattle.sessions_tests.proofs.numbered.given_on.Given as goal

-- the entry block, the mark and the state that were just made or opened
abbrev pub ghosts-given_from-L-Founding : goal.ghosts-given_from-L-Founding
ghosts-given_from-L-Founding g a = record { first = arc_value a.start.row; table = a.start.mark; base = a.start.opened.kernel }

-- the ledger that was just made
abbrev pub ghosts-given_from-L-Ledger : goal.ghosts-given_from-L-Ledger
ghosts-given_from-L-Ledger g a = record { name = a.start.blank.name; parts = a.start.blank.parts }
