-- The values of declared items as items of the model.
use Rattle.std.specs.Prelude.{◌≡◌, ℕ, List, Result, Err, take, drop, flat_map, if◌then◌else◌}
use Rattle.codes.specs.declared.kern_return.KernReturn.{KernReturn}
use Rattle.ipc_model.specs.messages.Items.{Item, is_port_item}
use Rattle.type_desc.specs.declared.fault.ItemFault.{ItemFault}
use Rattle.type_desc.specs.declared.fault.ItemFault.TheVariants.{Code, NoMemory}
use Rattle.type_desc.specs.declared.item.Item as declared
use Rattle.words.specs.Words.{word}

-- the value of an item: its fields and the bytes of its data
abbrev pub item_value : declared.Item → Item
item_value item = record {
  type_name = item.type_name;
  bits = item.bits;
  number = item.number;
  is_long = item.is_long;
  content = item.content.now;
}

-- the code of a fault is that of the body's leftmost fault; out of memory says nothing of the body
abbrev pub FaultOf : Result (List Item) KernReturn → ItemFault → Type 0
FaultOf items (Code code) = items ≡ Err code
FaultOf items NoMemory = Unit {0}

-- An item with the first names in place of its ports, and the names that remain after it.
abbrev pub filled_item : Item → List ℕ → Item
filled_item item names =
    if is_port_item item then record item { content = flat_map word (take item.number names) } else item

abbrev pub names_after : Item → List ℕ → List ℕ
names_after item names = if is_port_item item then drop item.number names else names
