use Rattle.std.proofs.Common.{arith}
use Rattle.std.proofs.lemmas.List.Sums.{prefix_len-le-length}
use Rattle.script.specs.Scripts.{in_line}
use Rattle.script.proofs.text.first_line.Goals as goal

pub split_at-requires : goal.split_at-requires
split_at-requires c = omega (arith, prefix_len-le-length in_line c.args.text.now, c.count_line_bytes.ensures)
