-- The tables after changes of the table of ports.
use Rattle.std.specs.Prelude.{◌≡◌, ℕ, ◌≤◌, List, Option, None, Some, option_map}
use Rattle.std.specs.Ordering.{nat_cmp}
use Rattle.std.specs.FinMap as finmap
use Rattle.codes.specs.declared.limits.TheConstants.{MAX_PORTS}
use Rattle.ipc_model.specs.declared.port.PortState.{PortState}
use Rattle.tracked_map.specs.Slots.{picked}
use Rattle.live_ports.specs.PortSlot.{PortSlot, slot_at_rest}
use Rattle.live_ports.specs.Seen.{Ports, AreBelow}
use Rattle.live_ports.specs.Touched.{AreTouched}
use Rattle.live_ports.specs.declared.tables.Tables.{Tables}

abbrev pub Slots : Type 0
Slots = finmap.FinMap {K = ℕ} nat_cmp PortSlot

abbrev pub before_of : PortSlot → Option PortState
before_of slot = slot.before

abbrev pub current_of : PortSlot → Option PortState
current_of slot = slot.current

-- the ports before and now, with messages as they were sent
abbrev pub former_ports : Slots → Ports
former_ports slots = picked before_of slots

abbrev pub present_ports : Slots → Ports
present_ports slots = picked current_of slots

-- the slots after one has changed, if it exists
abbrev pub slot_changed : Slots → ℕ → (PortSlot → PortSlot) → Slots
slot_changed slots serial change =
    elim (finmap.get slots serial) as (λ _. Slots)
    [ None ↦ slots | Some slot ↦ finmap.insert slots serial (change slot) ]

-- the current port of a slot changed
abbrev pub present_changed : (PortState → PortState) → PortSlot → PortSlot
present_changed change slot = record slot { current = option_map change slot.current }

abbrev pub buried : PortSlot → PortSlot
buried slot = record slot { current = None }

-- a slot whose changes are committed, or rolled back
abbrev pub committed_slot : PortSlot → PortSlot
committed_slot slot = slot_at_rest slot.current

abbrev pub rolled_back_slot : PortSlot → PortSlot
rolled_back_slot slot = slot_at_rest slot.before

-- each untouched slot is unchanged
abbrev pub AreMarked : Slots → List ℕ → Type 0
AreMarked slots touched = AreTouched before_of current_of slots touched

-- the state at the last commit or rollback is the same
pub record SameBefore (old new : Tables) : Type 0 where
  pub ports : former_ports new.slots ≡ former_ports old.slots
  pub count : new.count_before ≡ old.count_before
  pub next : new.next_before ≡ old.next_before
  pub touched : AreMarked new.slots new.touched.items

-- the current ports, their number and the next serial
pub record AreNow (new : Tables) (raw : Ports) (many serial : ℕ) : Type 0 where
  pub ports : present_ports new.slots ≡ raw
  pub count : new.count ≡ many
  pub next : new.next ≡ serial

-- the table without changes to commit or roll back
pub record AreAtRest (new : Tables) (raw : Ports) (many serial : ℕ) : Type 0 where
  pub before : former_ports new.slots ≡ raw
  pub current : present_ports new.slots ≡ raw
  pub touched : AreMarked new.slots new.touched.items
  pub count : new.count ≡ many
  pub next : new.next ≡ serial
  pub count_before : new.count_before ≡ many
  pub next_before : new.next_before ≡ serial

-- the ports of a state: counted, at most MAX_PORTS, and below the next serial
pub record AreSound (ports : Ports) (count next : ℕ) : Type 0 where
  pub counted : count ≡ finmap.len ports
  pub few : count ≤ MAX_PORTS
  pub below : AreBelow next ports

pub record AreStanding (tables : Tables) : Type 0 where
  pub touched : AreMarked tables.slots tables.touched.items
  pub before : AreSound (former_ports tables.slots) tables.count_before tables.next_before
  pub current : AreSound (present_ports tables.slots) tables.count tables.next
  pub ascends : tables.next_before ≤ tables.next
