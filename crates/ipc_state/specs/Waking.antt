-- The places that a change has to report, so that waiting calls are woken.
use Rattle.std.specs.Prelude.{◌≡◌, ◌⊎◌, ℕ, ◌<◌, ◌/◌, ◌^◌, Bool, true, false, [], Option, None, Some, option_map}
use Rattle.std.specs.FinMap as finmap
use Rattle.ipc_model.specs.declared.port.PortState.{PortState}
use Rattle.ipc_model.specs.messages.Sending.{is_full}
use Rattle.ipc_model.specs.state.Ipc.{received_port}
use Rattle.ipc_state.specs.Members.{set_place}
use Rattle.ports.specs.Passed.{Ports}
use Rattle.spaces.specs.Looking.{at_place, place}
use Rattle.spaces.specs.Slots.{SpaceMap}
use Rattle.waiting.specs.Places.{place_of_port}
use Rattle.waiting.specs.Waiting.{IsQuiet, occupancy}

-- the port is live in both states or in neither; if live, it has as many messages, the same limit and the same set
abbrev pub same_occupancy : Ports → Ports → ℕ → Type 0
same_occupancy before current serial =
    option_map occupancy (finmap.get current serial) ≡ option_map occupancy (finmap.get before serial)

-- a name is reported, and so is the set of the port whose receive right it holds
pub record IsSetListed (named : ℕ → Bool) (spaces : SpaceMap) (ports : Ports) (number : ℕ) : Type 0 where
  pub itself : named number ≡ true
  pub set : (other : ℕ) → set_place spaces ports number ≡ Some other → named other ≡ true

-- the place of a port's receive right is reported if a receive there may succeed, and so is the port's set
pub record IsListedFor (named : ℕ → Bool) (set : Option ℕ) (has_messages : Bool) (number : ℕ) : Type 0 where
  pub alone : ((set ≡ None) × (has_messages ≡ false)) ⊎ (named number ≡ true)
  pub in_set : (other : ℕ) → set ≡ Some other → (has_messages ≡ false) ⊎ (named (place (number / 2 ^ 32) other) ≡ true)

-- the queue of a live port is full
abbrev pub is_full_in : Ports → ℕ → Bool
is_full_in ports serial = is_full (record { spaces = finmap.empty; ports = ports; next = 0 }) serial

-- a port is reported if a send to it may succeed, and so are the places of its receives if one may succeed
pub record IsPortListed (named : ℕ → Bool) (spaces : SpaceMap) (ports : Ports) (serial : ℕ) : Type 0 where
  pub room : (is_full_in ports serial ≡ true) ⊎ (named (place_of_port serial) ≡ true)
  pub alone : (number : ℕ) (port : PortState) → number < 2 ^ 64 → at_place received_port spaces number ≡ Some serial
      → finmap.get ports serial ≡ Some port → IsQuiet port ⊎ (named number ≡ true)
  pub sets : (number set : ℕ) (port : PortState) → number < 2 ^ 64 → at_place received_port spaces number ≡ Some serial
      → finmap.get ports serial ≡ Some port → port.set ≡ Some set
      → (port.messages ≡ []) ⊎ (named (place (number / 2 ^ 32) set) ≡ true)
