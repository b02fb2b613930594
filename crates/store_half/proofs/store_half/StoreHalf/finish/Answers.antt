use Rattle.std.proofs.Common.{rules}
use Rattle.store_half.proofs.store_half.StoreHalf.finish.Goals as goal

-- Field by field, because the search for the whole record is near its limits.
pub returns-clause-done : goal.returns-clause-done
returns-clause-done g c = (
  search rules,
  record {
    checkpoint = c.in-Some.checkpoint;
    under_way = search rules;
    next = search rules;
    unfailed = search rules;
    rest = search rules;
    in_use = search rules;
    fits = search rules;
    made = search rules;
    synced = search rules;
    passes = search rules;
  },
)
