use Rattle.std.proofs.Common.{◌∙◌, ap}
use Rattle.std.specs.FinMap as map
use Rattle.std.specs.FinMap.{from_entries}
use Rattle.std.specs.BTreeMap.{is_at}
use Rattle.std.specs.Map.{lookup}
use Rattle.std.specs.Option.{option_copied_mut}
use Rattle.std.specs.Ordering.{nat_cmp}
use Rattle.number_map.proofs.Lent.{same_loan}
use Rattle.number_map.proofs.Viewed.{got, inserted}
use Rattle.number_map.proofs.NumberMap.get_mut.Goals as goal

pub returns : goal.returns
returns g c =
    let es = c.self.inside.entries.entries in (
      same_loan c.get_mut.result (lookup (is_at (nat_cmp c.args.key)) es)
          (λ w. from_entries (c.get_mut.follows.lender w).entries) (map.insert c.args.self.now c.args.key)
          (from_entries c.get_mut.follows.lender-at-none.entries) c.args.self.now c.get_mut.ensures.value
          (λ there w. inserted es (c.get_mut.follows.lender w).entries c.args.key w
          ((c.get_mut.follows.holds w).3 there).0 ∙ ap (λ m. map.insert m c.args.key w) c.self.view_is)
          (ap (λ m. from_entries m.entries) c.get_mut.follows.holds-at-none ∙ c.self.view_is),
      record {
        writes_back = tt;
        value =
            got es c.args.key c.args.self.now
            (option_copied_mut c.get_mut.result) c.get_mut.ensures.value c.self.view_is;
      },
    )
