-- Rights, and the kinds of the items' ports.
use Rattle.std.proofs.Common.{◌≡◌, ℕ, suc, ◌+◌, ◌<◌, Bool, true, false, ◌||◌, ◌↔◌, if◌then◌else◌, All, List, [], ◌∷◌, ◌++◌, drop, flat_map, get_or, length, map, replicate, refl, sym, ◌∙◌, ap, add-one, arith}
use Rattle.std.specs.List.{Contains, list_any}
use Rattle.std.proofs.Math.Seq.{drop-cons}
use Rattle.std.proofs.lemmas.List.{append_cancel_left, map-append}
use Rattle.std.proofs.lemmas.List.Elements.{All-nil, All-cons, All-head, All-map, All-tail}
use Rattle.ipc_laws.specs.ListLaws.{same_head, same_tail}
use Rattle.ipc_model.specs.declared.message.CarriedRight.{CarriedRight}
use Rattle.ipc_model.specs.declared.message.RightKind.{RightKind}
use Rattle.ipc_model.specs.messages.Items.{Item, is_port_item}
use Rattle.ipc_model.specs.state.Lawful.{IsStoredItem, kind_of_number, kinds_of_item}
use Rattle.type_desc.specs.Values.{item_value}
use Rattle.type_desc.specs.declared.item.Item as declared
use Rattle.snapshot_loading.specs.Bodies.{HasKinds, carried_kind}

all_replicate : (what : RightKind) (rights : List CarriedRight)
    → All (λ (right : CarriedRight). right.kind ≡ what) rights
    → map carried_kind rights ≡ replicate (length rights) what
all_replicate what [] all = refl
all_replicate what (right ∷ rights) all =
    λ i. All-head (λ (r : CarriedRight). r.kind ≡ what) right rights all i ∷ all_replicate what rights
    (All-tail (λ (r : CarriedRight). r.kind ≡ what) right rights all) i

kinds_is : (item : Item) → is_port_item item ≡ true
    → kinds_of_item item ≡ replicate item.number (kind_of_number item.type_name)
kinds_is item port = ap (λ (b : Bool). if b then replicate item.number (kind_of_number item.type_name) else []) port

pub kinds_front : (item : Item) (rights front beyond : List CarriedRight) → is_port_item item ≡ true
    → rights ≡ front ++ beyond → length front ≡ item.number
    → All (λ (right : CarriedRight). right.kind ≡ kind_of_number item.type_name) front
    → map carried_kind rights ≡ kinds_of_item item ++ map carried_kind beyond
kinds_front item rights front beyond port is long all =
    ap (map carried_kind) is ∙ map-append carried_kind front beyond
    ∙ ap (λ (kinds : List RightKind). kinds ++ map carried_kind beyond)
    (all_replicate (kind_of_number item.type_name) front all ∙ ap
    (λ (n : ℕ). replicate n (kind_of_number item.type_name)) long ∙ sym (kinds_is item port))

front_all : (what : RightKind) (front beyond : List CarriedRight) (more : List RightKind)
    → map carried_kind (front ++ beyond) ≡ replicate (length front) what ++ more
    → All (λ (right : CarriedRight). right.kind ≡ what) front
front_all what [] beyond more is = All-nil (λ (right : CarriedRight). right.kind ≡ what)
front_all what (right ∷ front) beyond more is =
    All-cons (λ (right : CarriedRight). right.kind ≡ what) right front
    (same_head right.kind what (map carried_kind (front ++ beyond)) (replicate (length front) what ++ more) is)
    (front_all what front beyond more
    (same_tail right.kind what (map carried_kind (front ++ beyond)) (replicate (length front) what ++ more) is))

pub kinds_all : (item : Item) (rights front beyond : List CarriedRight) (more : List RightKind)
    → is_port_item item ≡ true → rights ≡ front ++ beyond → length front ≡ item.number
    → map carried_kind rights ≡ kinds_of_item item ++ more
    → All (λ (right : CarriedRight). right.kind ≡ kind_of_number item.type_name) front
kinds_all item rights front beyond more port is long same =
    front_all (kind_of_number item.type_name) front beyond more
    (ap (map carried_kind) (sym is) ∙ same ∙ ap
    (λ (kinds : List RightKind). kinds ++ more)
    (kinds_is item port ∙ ap (λ (n : ℕ). replicate n (kind_of_number item.type_name)) (sym long)))

-- an element of a list, and the list after it
pub read_cons : {A : Type 0} (xs : List A) (i : ℕ) (x : A) → i < length xs → x ≡ get_or xs i x
    → drop i xs ≡ x ∷ drop (i + 1) xs
read_cons xs i x less is = drop-cons xs i x less ∙ (λ t. sym is t ∷ drop (sym (add-one i) t) xs)

-- the kinds of one more item
pub kinds_step : {W : Type 0} (items others : List Item) (item : Item) (kinds beyond : List RightKind)
    → items ≡ item ∷ others → kinds ≡ kinds_of_item item ++ beyond → W ↔ HasKinds items kinds
    → W ↔ HasKinds others beyond
kinds_step items others item kinds beyond is begin same = (
  (λ w. append_cancel_left (kinds_of_item item) beyond (flat_map kinds_of_item others)
      (sym begin ∙ same.0 w ∙ ap (flat_map kinds_of_item) is)),
  (λ has. same.1 (begin ∙ ap (λ (rest : List RightKind). kinds_of_item item ++ rest) has ∙ sym
      (ap (flat_map kinds_of_item) is))),
)

-- a fact about all items is a fact about their values, and conversely
pub values_all : (items : List declared.Item)
    → All (λ (item : declared.Item). IsStoredItem (item_value item)) items ↔ All IsStoredItem (map item_value items)
values_all items = (All-map IsStoredItem item_value items, back items)
  where
    back : (items : List declared.Item) → All IsStoredItem (map item_value items)
        → All (λ (item : declared.Item). IsStoredItem (item_value item)) items
    back [] all = All-nil (λ (item : declared.Item). IsStoredItem (item_value item))
    back (item ∷ items) all =
        All-cons (λ (item : declared.Item). IsStoredItem (item_value item)) item items
        (All-head IsStoredItem (item_value item) (map item_value items) all)
        (back items (All-tail IsStoredItem (item_value item) (map item_value items) all))

-- some item is a port item
pub port_among : (items : List Item) → list_any is_port_item items ≡ true → (item : Item) × Contains items item
    × (is_port_item item ≡ true)
port_among [] any = absurd (cc any)
port_among (item ∷ items) any =
    elim (is_port_item item) as (λ (b : Bool). is_port_item item ≡ b → (b || list_any is_port_item items) ≡ true
    → (i : Item) × Contains (item ∷ items) i × (is_port_item i ≡ true)) [
      | true ↦ λ (is : _) (_ : _). (item, (0, omega arith, refl), is)
      | false ↦ λ (_ : _) (later : _). let rest = port_among items later in
          (rest.0, (suc rest.1.0, omega (arith, rest.1.1), rest.1.2), rest.2)
    ] refl any
