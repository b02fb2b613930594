use Rattle.std.proofs.Common.{◌≡◌, ◌<◌, List, map, flat_map, take, length, get_or, sym, ap, ◌∙◌, arith, lt-ltb}
use Rattle.std.proofs.lemmas.List.Folds.{length-flat_map-take, flat_map-map}
use Rattle.ipc_model.specs.messages.Items.{names_of_item}
use Rattle.ipc_model.specs.messages.Sending.{ports_in}
use Rattle.type_desc.specs.Values.{item_value}
use Rattle.type_desc.specs.declared.item.Item as declared
use Rattle.type_desc.proofs.ports.has_too_many_ports.Goals as goal

in_declared : (items : List declared.Item)
    → ports_in (map item_value items) ≡ length (flat_map (λ item. names_of_item (item_value item)) items)
in_declared items = ap length (flat_map-map names_of_item item_value items)

pub returns-then-count-room : goal.returns-then-count-room
returns-then-count-room c =
    let items = c.args.items.now in
    let i = c.loop-item.item-index in
    let bound =
    length-flat_map-take (λ item. names_of_item (item_value item)) items i c.item-item.result c.loop-item-test.true
    in
    let count : length (names_of_item (item_value (get_or items i c.item-item.result))) ≡ c.port_count-count.result =
    ap (λ (item : declared.Item). length (names_of_item (item_value item))) (sym c.item-item.is)
    ∙ sym c.port_count-count.ensures in
    let more : 256 < ports_in (map item_value items) =
    omega (arith, bound, count, in_declared items, in_declared (take i items), c.loop-item.invariant) in
    sym (lt-ltb _ _ more)
