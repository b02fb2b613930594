use Rattle.std.proofs.Common.{None, Some, inr, ◌∙◌, ap, arith, refl, slice_set}
use Rattle.std.proofs.lemmas.List.{set-get_or}
use Rattle.std.specs.FinMap as map
use Rattle.std.specs.Option.{option_copied_mut}
use Rattle.number_table.specs.Rows.{rows_from}
use Rattle.number_table.proofs.Lent.{same_loan}
use Rattle.number_table.proofs.Shown.{got, got_none, inserted}
use Rattle.number_table.proofs.NumberTable.get_mut.Goals as goal

pub returns-in-Some : goal.returns-in-Some
returns-in-Some g c =
    let rows = c.self.inside.rows.items in
    let row = c.in-Some.row.now in
    let item = c.in-Some.ensures.item in (
      same_loan c.as_mut.result row (λ w. rows_from 0 (slice_set rows c.args.number (Some w)))
          (map.insert c.args.self.now c.args.number)
          (rows_from 0 (slice_set rows c.args.number row)) c.args.self.now c.as_mut.ensures.value
          (λ there w. inserted rows c.args.number w item.3.0 ∙ ap (λ m. map.insert m c.args.number w) c.self.view_is)
          (ap (λ r. rows_from 0 (slice_set rows c.args.number r)) (item.4 (omega arith) row)
          ∙ ap (rows_from 0) (set-get_or rows c.args.number row) ∙ c.self.view_is),
      record {
        writes_back = tt;
        value =
            got rows c.args.number c.args.self.now (option_copied_mut c.as_mut.result)
            (c.as_mut.ensures.value ∙ item.4 (omega arith) None) c.self.view_is;
      },
    )

pub returns-in-None : goal.returns-in-None
returns-in-None g c = (
  ap inr c.self.view_is,
  record {
    writes_back = tt;
    value =
        got_none c.self.inside.rows.items c.self.inside.rows.items c.args.number c.args.self.now refl
        c.in-None.ensures.item.3 c.self.view_is;
  },
)
