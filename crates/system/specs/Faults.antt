-- Calls that weren't answered.
use Rattle.std.specs.Prelude.{◌≡◌, ℕ}
use Rattle.disk.specs.Moments.{View}
use Rattle.ipc_model.specs.declared.call.Call.{Call}
use Rattle.store_fault.specs.declared.fault.StoreFault.TheVariants.{Device}
use Rattle.system.specs.Calling.{CallFails}
use Rattle.system.specs.Core.{SystemValue}
use Rattle.system.specs.declared.system.CallFault.{CallFault}
use Rattle.system.specs.declared.system.CallFault.TheVariants.{Submit, Store}

-- It wasn't made, and nothing changed; or the device failed while its record was stored.
abbrev pub NotCalled : {D : Type 0} → Type 0 → (D → View) → SystemValue D → ℕ → Call → CallFault → SystemValue D
    → Type 0
NotCalled honest view old space c (Submit fault) new = new ≡ old
NotCalled honest view old space c (Store fault) new = (fault ≡ Device) × CallFails honest view old space c new
