-- The number of ports in the items so far.
use Rattle.std.proofs.Common.{◌≡◌, ◌+◌, map, take}
use Rattle.ipc_model.specs.messages.Sending.{ports_in}
use Rattle.type_desc.specs.Values.{item_value}
use Rattle.type_desc.proofs.ports.has_too_many_ports.Given as goal

abbrev pub invariant-loop-item : goal.invariant-loop-item
invariant-loop-item l = ports_in (map item_value (take l.item-index l.items)) + l.room ≡ 256
