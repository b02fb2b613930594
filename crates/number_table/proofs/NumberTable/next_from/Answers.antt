use Rattle.std.proofs.Common.{None, Some, sym, ◌∙◌, ap, arith, slice_index_or}
use Rattle.number_table.proofs.Shown.{got, none_from, none_before}
use Rattle.number_table.proofs.NumberTable.next_from.Goals as goal

pub returns-in-Some-row : goal.returns-in-Some-row
returns-in-Some-row g c = (
  c.loop-row.invariant.from_on,
  sym (got c.self.inside.rows.items c.loop-row.at c.args.self.now (Some c.in-Some-row.value)
      (sym c.in-Some-row.is ∙ c.in-Some.ensures.lookup.4 (omega arith) None ∙ ap
      (λ l. slice_index_or l c.loop-row.at None) c.deref.ensures.value) c.self.view_is),
  none_before c.self.inside.rows.items c.args.from c.loop-row.at c.args.self.now c.loop-row.invariant.passed
      c.self.view_is,
)

pub returns : goal.returns
returns g c =
    none_from c.self.inside.rows.items c.deref.result.now c.args.from c.loop-row.at c.args.self.now
    c.loop-row.invariant.passed c.deref.ensures.value c.in_default.ensures.lookup.3 c.self.view_is
