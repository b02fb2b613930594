-- Bytes that are appended leave the bytes before them unchanged.
use Rattle.std.specs.Prelude.{◌≡◌, ℕ, ◌^◌, ◌<◌, ◌≤◌, Bool, false, List, ◌++◌, length, take, refl}
use Rattle.std.proofs.Common.{sym, ◌∙◌, ap, arith, length-take, take_at, take-take}
use Rattle.ipc_model.specs.messages.Items.{Item, descriptor_encoding}

-- The new bytes begin with the old bytes.
pub record Keeps (old new : List ℕ) : Type 0 where
  pub front : take (length old) new ≡ old

pub keeps_added : (old new added : List ℕ) → new ≡ old ++ added → Keeps old new
keeps_added old new added is = record { front = ap (take (length old)) is ∙ take_at old added (length old) refl }

-- the descriptor of an item with another type
abbrev pub descriptor_with : Item → ℕ → List ℕ
descriptor_with item type_name = descriptor_encoding (record item { type_name = type_name }) item.is_long

-- a descriptor, if it is short, has room for this type
abbrev pub FitsShort : Bool → ℕ → Type 0
FitsShort is_long type_name = is_long ≡ false → type_name < 2 ^ 8

-- Transitive: if mid begins with old, and new begins with mid, then new begins with old.
pub keeps_both : (old mid new : List ℕ) → Keeps old mid → Keeps mid new → Keeps old new
keeps_both old mid new first second =
    let shorter : length old ≤ length mid = omega (arith, ap length first.front, length-take (length old) mid) in
    let inner : take (length old) (take (length mid) new) ≡ take (length old) new =
    take-take (length old) (length mid) new shorter in
    record { front = sym inner ∙ ap (take (length old)) second.front ∙ first.front }

-- if new begins with the old bytes and those appended to them, then new begins with the old bytes
pub keeps_more : (old mid new added : List ℕ) → mid ≡ old ++ added → Keeps mid new → Keeps old new
keeps_more old mid new added is kept = keeps_both old mid new (keeps_added old mid added is) kept
