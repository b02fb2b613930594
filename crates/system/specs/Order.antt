-- What holds of a core at any time.
use Rattle.std.specs.Prelude.{◌≡◌, ℕ, ◌+◌, ◌<◌, ◌≤◌, Bool, true, false, Option, None, Some}
use Rattle.std.specs.FinMap as finmap
use Rattle.store_half.specs.epoch_log.Logs.{TakenValue}
use Rattle.store_half.specs.Values.{CheckpointValue}
use Rattle.system.specs.Core.{SystemValue}

-- A batch is out from when it is taken until its receipt is handed in.
abbrev pub IsOut : Option TakenValue → Option ℕ → Bool → Type 0
IsOut None None false = Unit {0}
IsOut (Some taken) None true = 0 < taken.batch.count
IsOut None (Some size) true = Unit {0}
IsOut _ _ _ = ⊥

-- how many records are out
abbrev pub taken_out : Option TakenValue → ℕ
taken_out None = 0
taken_out (Some taken) = taken.batch.count

abbrev pub stored_out : Option ℕ → ℕ
stored_out None = 0
stored_out (Some size) = size

-- A core's parts agree with one another.
pub record IsInOrder {D : Type 0} (system : SystemValue D) : Type 0 where
  pub out : IsOut system.out system.receipt system.core.is_out
  -- each record that was made was handed in, or is out, or waits
  pub counted : system.core.handed + taken_out system.out + stored_out system.receipt + system.core.older.count +
      system.core.log.waiting.count ≡ system.core.log.made
  -- the halves are in one epoch, or a checkpoint leads there
  pub epoch : system.store.checkpoint ≡ None → system.store.segment.epoch ≡ system.core.epoch
  pub next : (checkpoint : CheckpointValue) → system.store.checkpoint ≡ Some checkpoint
      → checkpoint.epoch ≡ system.core.epoch
  pub over : system.core.is_cut ≡ false → (system.store.checkpoint ≡ None) × (system.finished ≡ None)
  pub whole : (epoch : ℕ) → system.finished ≡ Some epoch → system.store.checkpoint ≡ None
  -- no ticket has a number that wasn't given
  pub fresh : (number : ℕ) → system.tickets.given ≤ number → finmap.get system.tickets.kept number ≡ None
