use Rattle.std.proofs.Common.{◌∙◌, ap}
use Rattle.port_indexes.specs.Counts.{Counts}
use Rattle.spaces.specs.Counting.{entry_fewer}
use Rattle.spaces.proofs.counting.count_anew.Goals as goal

pub returns-clause-ok : goal.returns-clause-ok
returns-clause-ok c =
    c.in_ok-discount.ensures.ok ∙ ap (λ (counts : Counts). entry_fewer counts c.args.former) c.in_ok-count.ensures.ok
