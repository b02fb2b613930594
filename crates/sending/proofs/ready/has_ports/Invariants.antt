use Rattle.std.proofs.Common.{◌≡◌, drop, map}
use Rattle.std.specs.List.{list_any}
use Rattle.ipc_model.specs.messages.Items.{is_port_item}
use Rattle.type_desc.specs.Values.{item_value}
use Rattle.sending.proofs.ready.has_ports.Given as goal

-- no item before this one holds ports
abbrev pub invariant-loop-item : goal.invariant-loop-item
invariant-loop-item l =
    list_any is_port_item (map item_value l.items) ≡ list_any is_port_item (map item_value (drop l.item-index l.items))
