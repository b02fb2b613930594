-- How the device's count of failures grows by an event or a call: by one where it reports that the device failed, else
-- not at all.
use Rattle.std.specs.Prelude.{ℕ, List, [], ◌∷◌, Result, Ok, Err}
use Rattle.system.specs.declared.event.Outcome.{Outcome}
use Rattle.system.specs.declared.event.Outcome.TheVariants as outcome
use Rattle.system.specs.declared.system.CallFault.{CallFault}
use Rattle.system.specs.declared.system.CallFault.TheVariants.{Submit, Store}
pub use Rattle.store_half.specs.Counting.{counted, counted_fault}

-- the count after a call with this result
abbrev pub counted_call : {T : Type 0} → Result T CallFault → ℕ → ℕ
counted_call (Ok done) failures = failures
counted_call (Err (Submit fault)) failures = failures
counted_call (Err (Store fault)) failures = counted_fault fault failures

-- the count after an event of this outcome
abbrev pub counted_event : Outcome → ℕ → ℕ
counted_event (outcome.Ticket number) failures = failures
counted_event (outcome.Reply answer) failures = failures
counted_event outcome.Done failures = failures
counted_event outcome.NotNow failures = failures
counted_event outcome.EpochFull failures = failures
counted_event (outcome.Store fault) failures = counted_fault fault failures
counted_event outcome.NoMemory failures = failures

-- the count after events of these outcomes, one after another
abbrev pub counted_events : List Outcome → ℕ → ℕ
counted_events [] failures = failures
counted_events (answered ∷ outcomes) failures = counted_events outcomes (counted_event answered failures)
