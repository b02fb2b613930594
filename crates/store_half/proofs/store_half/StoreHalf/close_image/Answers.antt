use Rattle.std.proofs.Common.{rules}
use Rattle.store_half.proofs.store_half.StoreHalf.close_image.Goals as goal

-- Field by field, because the search for the whole record is near its limits.
pub returns-clause-done : goal.returns-clause-done
returns-clause-done g c = record {
  checkpoint = c.in-Some.checkpoint;
  under_way = search rules;
  next = search rules;
  unfailed = search rules;
  rest = search rules;
  others = search rules;
  shut = search rules;
  passes = search rules;
}
