use Rattle.std.proofs.Common.{◌↔◌, drop, map}
use Rattle.snapshot_loading.specs.Bodies.{HasKinds, carried_kind}
use Rattle.type_desc.specs.Values.{item_value}
use Rattle.snapshot_loading.proofs.bodies.have_kinds.Given as goal

-- the rest passes exactly if the whole does
abbrev pub invariant-loop-item : goal.invariant-loop-item
invariant-loop-item l =
    HasKinds (map item_value l.fn.items) (map carried_kind l.fn.rights) ↔ HasKinds
    (map item_value (drop l.item-index l.fn.items)) (map carried_kind l.rest)
