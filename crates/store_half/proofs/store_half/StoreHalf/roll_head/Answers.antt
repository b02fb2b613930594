use Rattle.std.proofs.Common.{rules}
use Rattle.store_half.proofs.store_half.StoreHalf.roll_head.Goals as goal

-- Field by field, because the search for the whole record is near its limits.
pub invariant_of-self-2 : goal.invariant_of-self-2
invariant_of-self-2 g c = (
  record { steps = search rules; before = search rules; after = search rules; images = search rules },
  λ unfailed honest. record {
    gate = search rules;
    made = record { header = λ rolled. search rules; pieces = λ imaged. search rules };
  },
)

pub invariant_of-self-then-is_err : goal.invariant_of-self-then-is_err
invariant_of-self-then-is_err g c = search rules

pub returns-then-is_err-clause-faults : goal.returns-then-is_err-clause-faults
returns-then-is_err-clause-faults g c = search rules
