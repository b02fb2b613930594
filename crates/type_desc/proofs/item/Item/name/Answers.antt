use Rattle.std.proofs.Common.{◌*◌, length-take, length-drop, arith, sym, ap, ◌∙◌, rules}
use Rattle.std.proofs.lemmas.List.{take_rest}
use Rattle.byteorder.specs.Endian.{little_number}
use Rattle.type_desc.specs.Names.{name_at, port_within}
use Rattle.type_desc.specs.Values.{item_value}
use Rattle.type_desc.proofs.item.Item.name.Goals as goal

pub slice_bounds-read_u32-count : goal.slice_bounds-read_u32-count
slice_bounds-read_u32-count c =
    let within = port_within _ _ _ _ _ c.args.index c.args.self.now.whole c.requires in
    omega arith

pub slice_bounds-read_u32-start : goal.slice_bounds-read_u32-start
slice_bounds-read_u32-start c =
    let within = port_within _ _ _ _ _ c.args.index c.args.self.now.whole c.requires in
    search rules

pub read_u32-requires : goal.read_u32-requires
read_u32-requires c =
    let within = port_within _ _ _ _ _ c.args.index c.args.self.now.whole c.requires in
    simp (length-take, length-drop) (omega arith)

pub returns : goal.returns
returns c =
    c.read_u32.ensures
    ∙ ap (little_number 4) (take_rest c.args.self.now.content.now (4 * c.args.index))
    ∙ sym (name_at (item_value c.args.self.now) c.args.index c.requires)
