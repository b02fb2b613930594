-- The items so far are appended.
use Rattle.std.proofs.Common.{◌≡◌, ◌++◌, map, take}
use Rattle.ipc_model.specs.messages.Items.{items_encoding, as_stored}
use Rattle.type_desc.specs.Values.{item_value}
use Rattle.type_desc.proofs.stored.add_stored_items.Given as goal

abbrev pub invariant-loop-item : goal.invariant-loop-item
invariant-loop-item l =
    l.out.items ≡ l.fn.out.items ++ items_encoding (map as_stored (map item_value (take l.item-index l.items)))
