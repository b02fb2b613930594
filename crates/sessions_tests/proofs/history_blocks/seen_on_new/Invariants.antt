use Rattle.std.specs.Arc.{arc_value}
use Rattle.history.specs.Marks.{no_table}
use Rattle.ipc_model.specs.state.State.{opening_state}
use Rattle.sessions_tests.proofs.history_blocks.seen_on_new.Given as goal

abbrev pub ghosts-see_from-L-Founding : goal.ghosts-see_from-L-Founding
ghosts-see_from-L-Founding a = record { first = arc_value a.row; table = no_table; base = opening_state }
