use Rattle.std.specs.Arc.{arc_value}
use Rattle.socket_server.proofs.program.serve_opened.Given as goal

-- the history begins in the opened state, with the entry block, the ledger and the mark that were just made

abbrev pub ghosts-serve_history-L-Founding : goal.ghosts-serve_history-L-Founding
ghosts-serve_history-L-Founding g a = record { first = arc_value a.block; table = a.mark; base = a.opened.kernel }

abbrev pub ghosts-serve_history-L-Ledger : goal.ghosts-serve_history-L-Ledger
ghosts-serve_history-L-Ledger g a = record { name = a.blank.name; parts = a.blank.parts }
