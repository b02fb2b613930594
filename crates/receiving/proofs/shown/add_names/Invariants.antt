use Rattle.std.proofs.Common.{◌≡◌, ◌++◌, drop}
use Rattle.ipc_model.specs.messages.Items.{names_of_item}
use Rattle.type_desc.specs.Values.{item_value}
use Rattle.receiving.proofs.shown.add_names.Given as goal

-- the names so far, followed by the remaining ones, are all names
abbrev pub invariant-loop-index : goal.invariant-loop-index
invariant-loop-index l =
    l.names.items ++ drop l.index (names_of_item (item_value l.item)) ≡ l.fn.names.items
    ++ names_of_item (item_value l.item)
