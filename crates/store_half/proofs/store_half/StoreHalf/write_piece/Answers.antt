use Rattle.std.proofs.Common.{rules}
use Rattle.store_half.proofs.store_half.StoreHalf.write_piece.Goals as goal

-- Field by field, because the search for the whole record is near its limits.
pub invariant_of-self-else-is_err : goal.invariant_of-self-else-is_err
invariant_of-self-else-is_err g c = (
  record { steps = search rules; before = search rules; after = search rules; images = search rules },
  λ unfailed honest. record {
    gate = search rules;
    made = record { header = λ rolled. search rules; pieces = λ imaged. search rules };
  },
)

pub returns-clause-done : goal.returns-clause-done
returns-clause-done g c = record {
  checkpoint = c.in-Some.checkpoint;
  under_way = search rules;
  next = search rules;
  unfailed = search rules;
  rest = search rules;
  others = search rules;
  shut = search rules;
  passes = search rules;
}
