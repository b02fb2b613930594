-- Spaces in slots. Each slot holds the names at the last commit or rollback, and the current ones.
use Rattle.std.specs.Prelude.{ℕ, Option, None, Some, option_and_then, refl}
use Rattle.std.specs.Coded.{Coded, code_by, coded×, coded_ℕ, coded_option}
use Rattle.std.specs.Ordering.{nat_cmp}
use Rattle.std.specs.FinMap as map
use Rattle.ipc_model.specs.contracts.entry.Entry as entry
use Rattle.ipc_model.specs.declared.entry.Entry.{Entry}
use Rattle.ipc_model.specs.state.Ipc.{Names}

abbrev pub names_code : Coded Names
names_code = map.code coded_ℕ entry.the_row.coded

-- the names of a slot's space before and now, if it existed and if it exists
pub record SpaceSlot : Type 0 where
  pub before : Option Names
  pub current : Option Names

abbrev pub slot_code : Coded SpaceSlot
slot_code =
    code_by (Option Names × Option Names) (coded× (coded_option names_code) (coded_option names_code))
    (λ s. (s.before, s.current)) (λ p. record { before = p.0; current = p.1 }) (λ _. refl)

-- a slot without changes to commit or roll back
abbrev pub slot_at_rest : Option Names → SpaceSlot
slot_at_rest names = record { before = names; current = names }

-- all spaces
abbrev pub SpaceMap : Type 0
SpaceMap = map.FinMap {K = ℕ} nat_cmp Names

-- the spaces at the last commit or rollback, and the current ones
pub record TrackedSpaces : Type 0 where
  pub before : SpaceMap
  pub current : SpaceMap

abbrev pub spaces_code : Coded TrackedSpaces
spaces_code =
    code_by (SpaceMap × SpaceMap) (coded× (map.code coded_ℕ names_code) (map.code coded_ℕ names_code))
    (λ s. (s.before, s.current)) (λ p. record { before = p.0; current = p.1 }) (λ _. refl)

abbrev pub spaces_at_rest : SpaceMap → TrackedSpaces
spaces_at_rest spaces = record { before = spaces; current = spaces }

-- the names in a slot before, and now
abbrev pub was : SpaceSlot → Option Names
was slot = slot.before

abbrev pub is : SpaceSlot → Option Names
is slot = slot.current

abbrev pub committed_slot : SpaceSlot → SpaceSlot
committed_slot slot = slot_at_rest slot.current

abbrev pub rolled_back_slot : SpaceSlot → SpaceSlot
rolled_back_slot slot = slot_at_rest slot.before

abbrev pub SpaceSlots : Type 0
SpaceSlots = map.FinMap {K = ℕ} nat_cmp SpaceSlot

-- the entry of a name in a slot's space
abbrev pub stood_at : SpaceSlots → ℕ → ℕ → Option Entry
stood_at slots space name =
    option_and_then (λ (slot : SpaceSlot). option_and_then (λ (names : Names). map.get names name) slot.current)
    (map.get slots space)

-- the slots after one has changed, if there is one with this key
abbrev pub slot_changed : SpaceSlots → ℕ → (SpaceSlot → SpaceSlot) → SpaceSlots
slot_changed slots key change =
    elim (map.get slots key) as (λ _. SpaceSlots) [ None ↦ slots | Some slot ↦ map.insert slots key (change slot) ]

-- the slots after a space without names is added
abbrev pub slot_opened : SpaceSlots → ℕ → SpaceSlots
slot_opened slots key = elim (map.get slots key) as (λ _. SpaceSlots) [
  | None ↦ map.insert slots key (record { before = None; current = Some map.empty })
  | Some slot ↦ map.insert slots key (record slot { current = Some map.empty })
]

-- the spaces after the names of one have changed, if it exists
abbrev pub names_changed : SpaceMap → ℕ → (Names → Names) → SpaceMap
names_changed spaces space change =
    elim (map.get spaces space) as (λ _. SpaceMap)
    [ None ↦ spaces | Some names ↦ map.insert spaces space (change names) ]
