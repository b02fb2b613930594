use Rattle.std.proofs.Common.{◌∙◌, ap, arith}
use Rattle.number_table.specs.Rows.{rows_from}
use Rattle.number_table.proofs.Shown.{grown}
use Rattle.number_table.proofs.grow.Goals as goal

pub loop-rows-preserved : goal.loop-rows-preserved
loop-rows-preserved g c = record {
  same =
      ap (λ rows. rows_from 0 rows) c.in_ok-push.ensures.items ∙ grown c.loop-rows.rows.items 0
      ∙ c.loop-rows.invariant.same;
  grows = omega (arith, c.loop-rows.invariant.grows, c.in_ok-push.ensures.len);
}
