use Rattle.std.proofs.Common.{◌≡◌, drop, map}
use Rattle.ipc_model.specs.messages.Sending.{take_items}
use Rattle.sending.specs.SoFar.{so_far}
use Rattle.type_desc.specs.Values.{item_value}
use Rattle.sending.proofs.items.take_items.Given as goal

-- taking the remaining items from here gives the same as taking all from the start
abbrev pub invariant-loop-item : goal.invariant-loop-item
invariant-loop-item l =
    (take_items l.space (map item_value l.items) (so_far l.fn.rights.items l.fn.state.current l.fn.effects)
    ≡ take_items l.space (map item_value (drop l.item-index l.items)) (so_far l.rights.items l.state.current l.effects))
    × (l.state.before ≡ l.fn.state.before)
