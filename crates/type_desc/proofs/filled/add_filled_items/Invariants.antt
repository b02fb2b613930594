-- The bytes appended so far, followed by the filled items of the rest, are the whole result.
use Rattle.std.proofs.Common.{◌≡◌, length}
use Rattle.ipc_model.specs.messages.Items.{items_of}
use Rattle.type_desc.specs.Adding.{Keeps}
use Rattle.type_desc.specs.Filling.{with_filled}
use Rattle.type_desc.proofs.filled.add_filled_items.Given as goal

abbrev pub invariant-loop-rest : goal.invariant-loop-rest
invariant-loop-rest l = record {
  added : with_filled l.fn.out.items (items_of l.body) l.names ≡ with_filled l.out.items (items_of l.rest) l.left;
  kept : Keeps l.fn.out.items l.out.items;
}

abbrev pub decreases-loop-rest : goal.decreases-loop-rest
decreases-loop-rest l = length l.rest
