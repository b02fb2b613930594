-- The items read so far, followed by those of the rest, are all items.
use Rattle.std.proofs.Common.{◌≡◌, map, length}
use Rattle.ipc_model.specs.messages.Items.{items_of}
use Rattle.type_desc.specs.Reading.{with_front}
use Rattle.type_desc.specs.Values.{item_value}
use Rattle.type_desc.proofs.list.items.Given as goal

abbrev pub invariant-loop-rest : goal.invariant-loop-rest
invariant-loop-rest l = items_of l.body ≡ with_front (map item_value l.items.items) (items_of l.rest)

abbrev pub decreases-loop-rest : goal.decreases-loop-rest
decreases-loop-rest l = length l.rest
