-- Port items as messages keep them: they fit their descriptors, are as long as before, and show the kinds of their
-- rights.
use Rattle.std.specs.Prelude.{◌≡◌, ℕ, zero, suc, ◌*◌, ◌<◌, ◌≤◌, Bool, true, false, ◌==◌, ◌&&◌, nat_le, All, List, [], ◌∷◌, length, map, replicate, None, Some, MatchBool, if◌then◌else◌, refl}
use Rattle.std.proofs.Common.{sym, ◌∙◌, ap, subst, arith, length-append}
use Rattle.std.proofs.lemmas.Bool.{leb-true, eqb-true, eqb-false}
use Rattle.std.proofs.lemmas.List.{length-replicate}
use Rattle.std.proofs.lemmas.List.Elements.{All-replicate, All-cons, All-nil}
use Rattle.ipc_model.specs.rights.Dispositions.{Disposition, MoveReceive, MoveSend, MoveSendOnce, CopySend, MakeSend, MakeSendOnce, disposition_of, received_kind}
use Rattle.ipc_model.specs.messages.Items.{Item, item_encoding, items_encoding, as_stored, is_port_type, is_port_item, received_type, padded, IsItem, AreItems, name_bound}
use Rattle.ipc_laws.specs.ItemLaws.{item_length}
use Rattle.ipc_model.specs.state.Lawful.{IsStoredItem, kinds_of_item, kind_of_number}
use Rattle.ipc_laws.specs.ListLaws.{some_same}
use Rattle.words.specs.Words.{AreBytes}

-- every type name is that of a port, with its disposition, or of data
outside : (n : ℕ) → (n == 16) ≡ false → (n == 17) ≡ false → (n == 18) ≡ false → (n == 19) ≡ false → (n == 20) ≡ false
    → (n == 21) ≡ false → is_port_type n ≡ false
outside n a b c d e f =
    elim (nat_le 16 n) as (λ (x : Bool). nat_le 16 n ≡ x → (x && nat_le n 21) ≡ false) [
      | true ↦ λ (low : _). elim (nat_le n 21) as (λ (x : Bool). nat_le n 21 ≡ x → x ≡ false) [
        | true ↦ λ (high : _). absurd (omega (
          arith,
          leb-true 16 n low,
          leb-true n 21 high,
          eqb-false n 16 a,
          eqb-false n 17 b,
          eqb-false n 18 c,
          eqb-false n 19 d,
          eqb-false n 20 e,
          eqb-false n 21 f,
        ))
        | false ↦ λ (_ : _). refl
      ] refl
      | false ↦ λ (_ : _). refl
    ] refl

at_number : (P : ℕ → Type 0) (n m : ℕ) → (n == m) ≡ true → P m → P n
at_number P n m same holds = subst P (sym (eqb-true n m same)) holds

pub by_type : (P : ℕ → Type 0) → P 16 → P 17 → P 18 → P 19 → P 20 → P 21
    → ((n : ℕ) → disposition_of n ≡ None → is_port_type n ≡ false → P n) → (n : ℕ) → P n
by_type P a b c d e f other n =
    elim (n == 16) as (λ (x : Bool). (n == 16) ≡ x → P n) [
      | true ↦ λ (same : _). at_number P n 16 same a
      | false ↦ λ (not_16 : _). elim (n == 17) as (λ (x : Bool). (n == 17) ≡ x → P n) [
        | true ↦ λ (same : _). at_number P n 17 same b
        | false ↦ λ (not_17 : _). elim (n == 18) as (λ (x : Bool). (n == 18) ≡ x → P n) [
          | true ↦ λ (same : _). at_number P n 18 same c
          | false ↦ λ (not_18 : _). elim (n == 19) as (λ (x : Bool). (n == 19) ≡ x → P n) [
            | true ↦ λ (same : _). at_number P n 19 same d
            | false ↦ λ (not_19 : _). elim (n == 20) as (λ (x : Bool). (n == 20) ≡ x → P n) [
              | true ↦ λ (same : _). at_number P n 20 same e
              | false ↦ λ (not_20 : _). elim (n == 21) as (λ (x : Bool). (n == 21) ≡ x → P n) [
                | true ↦ λ (same : _). at_number P n 21 same f
                | false ↦ λ (not_21 : _). other n (λ i.
                    if not_16 i then Some MoveReceive else if not_17 i then Some MoveSend else if not_18 i
                    then Some MoveSendOnce
                    else if not_19 i then Some CopySend else if not_20 i then Some MakeSend else if not_21 i
                    then Some MakeSendOnce else None)
                    (outside n not_16 not_17 not_18 not_19 not_20 not_21)
              ] refl
            ] refl
          ] refl
        ] refl
      ] refl
    ] refl

-- a port's type as received is again a port's, and at most that of a send-once right
pub record ReceivedType (n : ℕ) : Type 0 where
  pub port : is_port_type n ≡ true → is_port_type (received_type n) ≡ true
  pub small : is_port_type n ≡ true → received_type n ≤ 18

received_of : (n : ℕ) → ReceivedType n
received_of =
    by_type ReceivedType (record { port = λ (_ : _). refl; small = λ (_ : _). omega arith })
    (record { port = λ (_ : _). refl; small = λ (_ : _). omega arith })
    (record { port = λ (_ : _). refl; small = λ (_ : _). omega arith })
    (record { port = λ (_ : _). refl; small = λ (_ : _). omega arith })
    (record { port = λ (_ : _). refl; small = λ (_ : _). omega arith })
    (record { port = λ (_ : _). refl; small = λ (_ : _). omega arith })
    (λ (n : ℕ) (none : _) (data_type : _).
    record {
      port = λ (port : _). absurd (cc (sym data_type ∙ port));
      small = λ (port : _). absurd (cc (sym data_type ∙ port));
    })

-- stored items fit and keep their length

zero_bytes : (n : ℕ) → AreBytes (replicate n 0)
zero_bytes zero i = omega arith
zero_bytes (suc n) zero = omega arith
zero_bytes (suc n) (suc i) = zero_bytes n i

abbrev stored_port : Item → Item
stored_port item = record item { type_name = received_type item.type_name; content = replicate (4 * item.number) 0 }

bound_of_names : (b : Bool) (n : ℕ) → n ≤ 18 → n < name_bound b
bound_of_names true n le = omega arith
bound_of_names false n le = omega arith

port_fits : (item : Item) → is_port_item item ≡ true → IsItem item → IsItem (stored_port item)
port_fits item port fits = record {
  type_name = bound_of_names item.is_long (received_type item.type_name) ((received_of item.type_name).small port);
  bits = fits.bits;
  number = fits.number;
  ports = λ (_ : _). fits.ports port;
  long =
      length-replicate (4 * item.number) 0 ∙ omega (arith, ap (λ (b : ℕ). padded (item.number * b)) (fits.ports port));
  bytes = zero_bytes (4 * item.number);
}

-- what is shown of an item that is stored
pub record IsKept (item : Item) : Type 0 where
  pub fits : IsItem (as_stored item)
  pub long : length (item_encoding (as_stored item)) ≡ length (item_encoding item)
  pub stored : IsStoredItem (as_stored item)
  pub port : is_port_item (as_stored item) ≡ is_port_item item

port_kept : (item : Item) → is_port_item item ≡ true → IsItem item → IsKept item
port_kept item port fits =
    let as_port : as_stored item ≡ stored_port item = ap (λ (b : Bool). if b then stored_port item else item) port in
    let still : is_port_item (stored_port item) ≡ true = (received_of item.type_name).port port in
    record {
      fits = subst IsItem (sym as_port) (port_fits item port fits);
      long =
          ap (λ (i : Item). length (item_encoding i)) as_port
          ∙ omega (
            arith,
            item_length item,
            item_length (stored_port item),
            fits.long,
            (port_fits item port fits).long,
          );
      stored =
          subst IsStoredItem (sym as_port)
          (subst (λ (b : Bool). MatchBool b
          ((received_type item.type_name ≤ 18) × All (λ (byte : ℕ). byte ≡ 0) (replicate (4 * item.number) 0))
          (Unit {0})) (sym still)
          ((received_of item.type_name).small port, All-replicate (λ (byte : ℕ). byte ≡ 0) (4 * item.number) 0 refl));
      port = ap is_port_item as_port ∙ still ∙ sym port;
    }

data_kept : (item : Item) → is_port_item item ≡ false → IsItem item → IsKept item
data_kept item data_item fits =
    let as_data : as_stored item ≡ item = ap (λ (b : Bool). if b then stored_port item else item) data_item in
    record {
      fits = subst IsItem (sym as_data) fits;
      long = ap (λ (i : Item). length (item_encoding i)) as_data;
      stored =
          subst IsStoredItem (sym as_data)
          (subst (λ (b : Bool). MatchBool b ((item.type_name ≤ 18) × All (λ (byte : ℕ). byte ≡ 0) item.content)
          (Unit {0})) (sym data_item) tt);
      port = ap is_port_item as_data;
    }

pub is_kept : (item : Item) → IsItem item → IsKept item
is_kept item fits = elim (is_port_item item) as (λ (b : Bool). is_port_item item ≡ b → IsKept item) [
  | true ↦ λ (port : _). port_kept item port fits
  | false ↦ λ (data_item : _). data_kept item data_item fits
] refl

pub stored_fit : (items : List Item) → AreItems items → AreItems (map as_stored items)
stored_fit [] fits = tt
stored_fit (item ∷ items) fits = ((is_kept item fits.0).fits, stored_fit items fits.1)

pub stored_long : (items : List Item) → AreItems items
    → length (items_encoding (map as_stored items)) ≡ length (items_encoding items)
stored_long [] fits = refl
stored_long (item ∷ items) fits =
    length-append (item_encoding (as_stored item)) (items_encoding (map as_stored items))
    ∙ omega (
      arith,
      length-append (item_encoding item) (items_encoding items),
      (is_kept item fits.0).long,
      stored_long items fits.1,
    )

pub all_stored : (items : List Item) → AreItems items → All IsStoredItem (map as_stored items)
all_stored [] fits = All-nil IsStoredItem
all_stored (item ∷ items) fits =
    All-cons IsStoredItem (as_stored item) (map as_stored items) (is_kept item fits.0).stored (all_stored items fits.1)

-- the kinds of a stored port item's rights are those that its disposition brings

pub record KindsOf (n : ℕ) : Type 0 where
  pub some : (by : Disposition) → disposition_of n ≡ Some by → (is_port_type n ≡ true)
      × (kind_of_number (received_type n) ≡ received_kind by)
  pub none : disposition_of n ≡ None → is_port_type n ≡ false

known_kind : (n : ℕ) (is : Disposition) → is_port_type n ≡ true → disposition_of n ≡ Some is
    → kind_of_number (received_type n) ≡ received_kind is → KindsOf n
known_kind n is port known kind_is = record {
  some = λ (by : Disposition) (e : _). (port, kind_is ∙ ap received_kind (some_same is by (sym known ∙ e)));
  none = λ (e : _). absurd (cc (sym e ∙ known));
}

pub kinds_of_type : (n : ℕ) → KindsOf n
kinds_of_type =
    by_type KindsOf (known_kind 16 MoveReceive refl refl refl) (known_kind 17 MoveSend refl refl refl)
    (known_kind 18 MoveSendOnce refl refl refl) (known_kind 19 CopySend refl refl refl)
    (known_kind 20 MakeSend refl refl refl) (known_kind 21 MakeSendOnce refl refl refl)
    (λ (n : ℕ) (none : _) (data_type : _).
    record { some = λ (by : Disposition) (e : _). absurd (cc (sym none ∙ e)); none = λ (_ : _). data_type })

-- the kinds that a stored item shows
pub stored_kinds : (item : Item) (by : Disposition) → disposition_of item.type_name ≡ Some by
    → kinds_of_item (as_stored item) ≡ replicate item.number (received_kind by)
stored_kinds item by known =
    let kinds = (kinds_of_type item.type_name).some by known in
    let still : is_port_item (stored_port item) ≡ true = (received_of item.type_name).port kinds.0 in
    ap (λ (b : Bool). kinds_of_item (if b then stored_port item else item)) kinds.0
    ∙ ap (λ (b : Bool). if b then replicate item.number (kind_of_number (received_type item.type_name)) else []) still
    ∙ ap (replicate item.number) kinds.1

pub no_kinds : (item : Item) → disposition_of item.type_name ≡ None → kinds_of_item (as_stored item) ≡ []
no_kinds item none =
    let data_item : is_port_type item.type_name ≡ false = (kinds_of_type item.type_name).none none in
    ap (λ (b : Bool). kinds_of_item (if b then stored_port item else item)) data_item ∙ ap
    (λ (b : Bool). if b then replicate item.number (kind_of_number item.type_name) else []) data_item
