use Rattle.std.proofs.Common.{◌≡◌, drop}
use Rattle.ipc_model.specs.messages.Items.{names_of_item}
use Rattle.ipc_model.specs.messages.Sending.{take_rights}
use Rattle.sending.specs.SoFar.{so_far}
use Rattle.type_desc.specs.Values.{item_value}
use Rattle.sending.proofs.items.take_names.Given as goal

-- taking the remaining names from here gives the same as taking all from the start
abbrev pub invariant-loop-index : goal.invariant-loop-index
invariant-loop-index l =
    (take_rights l.space l.disposition (names_of_item (item_value l.item))
    (so_far l.fn.rights.items l.fn.state.current l.fn.effects)
    ≡ take_rights l.space l.disposition (drop l.index (names_of_item (item_value l.item)))
    (so_far l.rights.items l.state.current l.effects))
    × (l.state.before ≡ l.fn.state.before)
