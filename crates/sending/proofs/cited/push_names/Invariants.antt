use Rattle.std.proofs.Common.{◌≡◌, ◌++◌, drop, flat_map, map}
use Rattle.ipc_model.specs.messages.Items.{names_of_item}
use Rattle.type_desc.specs.Values.{item_value}
use Rattle.sending.proofs.cited.push_names.Given as goal

-- the names so far, followed by those of the remaining items, are all names
abbrev pub invariant-loop-item : goal.invariant-loop-item
invariant-loop-item l =
    l.names.items ++ flat_map names_of_item (map item_value (drop l.item-index l.items)) ≡ l.fn.names.items
    ++ flat_map names_of_item (map item_value l.items)
