use Rattle.std.proofs.Common.{None, option_copied, slice_index_or, ◌∙◌, ap, arith}
use Rattle.number_table.proofs.Shown.{got, got_none}
use Rattle.number_table.proofs.NumberTable.get.Goals as goal

pub returns-in-Some : goal.returns-in-Some
returns-in-Some g c =
    got c.self.inside.rows.items c.args.number c.args.self.now (option_copied c.as_ref.result)
    (c.as_ref.ensures.value ∙ c.in-Some.ensures.lookup.4 (omega arith) None ∙ ap
    (λ l. slice_index_or l c.args.number None) c.deref.ensures.value) c.self.view_is

pub returns-in-None : goal.returns-in-None
returns-in-None g c =
    got_none c.self.inside.rows.items c.deref.result.now c.args.number c.args.self.now c.deref.ensures.value
    c.in-None.ensures.lookup.3 c.self.view_is
