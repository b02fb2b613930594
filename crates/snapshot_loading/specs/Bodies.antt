-- Bodies that hold ports, once their items are found.
use Rattle.std.specs.Prelude.{◌≡◌, ◌≤◌, true, All, Contains, List, flat_map, length, map}
use Rattle.codes.specs.declared.limits.TheConstants.{MAX_MESSAGE_PORTS}
use Rattle.ipc_model.specs.declared.message.CarriedRight.{CarriedRight}
use Rattle.ipc_model.specs.declared.message.RightKind.{RightKind}
use Rattle.ipc_model.specs.messages.Items.{Item, is_port_item}
use Rattle.ipc_model.specs.state.Lawful.{IsStoredItem, kinds_of_item}

abbrev pub carried_kind : CarriedRight → RightKind
carried_kind right = right.kind

abbrev pub HasKinds : List Item → List RightKind → Type 0
HasKinds items kinds = kinds ≡ flat_map kinds_of_item items

-- these are the rights of the items' ports
pub record HoldsRights (items : List Item) (rights : List CarriedRight) : Type 0 where
  pub has_port : (item : Item) × Contains items item × (is_port_item item ≡ true)
  pub stored : All IsStoredItem items
  pub kinds : HasKinds items (map carried_kind rights)
  pub few : length rights ≤ MAX_MESSAGE_PORTS
