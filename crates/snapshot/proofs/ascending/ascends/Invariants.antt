use Rattle.std.proofs.Common.{◌↔◌, map, drop}
use Rattle.snapshot.specs.Ascending.{AscendsFrom}
use Rattle.snapshot.proofs.ascending.ascends.Given as goal

abbrev pub invariant-loop-row : goal.invariant-loop-row
invariant-loop-row g l =
    AscendsFrom l.fn.from (map g.T.Numbered.number l.fn.rows) ↔ AscendsFrom l.at
    (map g.T.Numbered.number (drop l.row-index l.fn.rows))
