use Rattle.std.proofs.Common.{refl, sym, ◌∙◌, ap, arith}
use Rattle.std.specs.FinMap as map
use Rattle.number_table.specs.Rows.{rows_from}
use Rattle.number_table.proofs.Shown.{got, got_none, removed, removed_past}
use Rattle.number_table.proofs.NumberTable.remove.Goals as goal

pub returns-then-at-len-clause-before : goal.returns-then-at-len-clause-before
returns-then-at-len-clause-before g c =
    got c.self.inside.rows.items c.args.number c.args.self.now c.replace_at.result c.replace_at.ensures.before
    c.self.view_is

pub returns-then-at-len-clause-removed : goal.returns-then-at-len-clause-removed
returns-then-at-len-clause-removed g c =
    ap (λ rows. rows_from 0 rows) c.replace_at.ensures.set
    ∙ removed c.self.inside.rows.items c.args.number (omega (arith, c.if-at-len.true, c.len.ensures)) ∙ ap
    (λ m. map.remove m c.args.number) c.self.view_is

pub returns-else-at-len-clause-before : goal.returns-else-at-len-clause-before
returns-else-at-len-clause-before g c =
    got_none c.self.inside.rows.items c.self.inside.rows.items c.args.number c.args.self.now refl
    (omega (arith, c.if-at-len.false, c.len.ensures)) c.self.view_is

pub returns-else-at-len-clause-removed : goal.returns-else-at-len-clause-removed
returns-else-at-len-clause-removed g c =
    sym c.self.view_is ∙ removed_past c.self.inside.rows.items c.args.number
    (omega (arith, c.if-at-len.false, c.len.ensures)) ∙ ap (λ m. map.remove m c.args.number) c.self.view_is
