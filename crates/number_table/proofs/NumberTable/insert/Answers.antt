use Rattle.std.proofs.Common.{Result, Ok, Err, OnErr, refl, sym, ◌∙◌, ap}
use Rattle.std.specs.FinMap as map
use Rattle.number_table.specs.Rows.{rows_from}
use Rattle.number_table.proofs.Shown.{got, got_none, inserted}
use Rattle.number_table.proofs.NumberTable.insert.Goals as goal

pub returns-clause-before : goal.returns-clause-before
returns-clause-before g c =
    got c.grow.new.rows.items c.args.number c.args.self.now c.replace_at.result c.replace_at.ensures.before
    (c.in_ok-grow.ensures.same ∙ c.self.view_is)

pub returns-clause-ok : goal.returns-clause-ok
returns-clause-ok g c =
    ap (λ rows. rows_from 0 rows) c.replace_at.ensures.set
    ∙ inserted c.grow.new.rows.items c.args.number c.args.value c.in_ok-grow.ensures.long
    ∙ ap (λ m. map.insert m c.args.number c.args.value) (c.in_ok-grow.ensures.same ∙ c.self.view_is)

for_err : {A B P : Type 0} (r : Result A B) → P → OnErr r P
for_err (Ok x) p = tt
for_err (Err e) p = p

pub returns-in_err-grow-clause-absent : goal.returns-in_err-grow-clause-absent
returns-in_err-grow-clause-absent g c =
    let rows = c.self.inside.rows.items in
    for_err c.from_residual.result
    (sym (got_none rows rows c.args.number c.args.self.now refl c.in_err-grow.ensures.short c.self.view_is))
