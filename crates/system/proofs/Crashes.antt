-- Any number of crashes in a row, after a crash within the events of a core.
use Rattle.std.proofs.Common.{ℕ}
use Rattle.disk.specs.Moments.{View, MayLeave}
use Rattle.store_half.proofs.phases.Passed.{all_crashes, same_stands}
use Rattle.store_half.specs.phases.Passed.{CrashesKeep}
use Rattle.ipc_model.specs.state.State.{State}
use Rattle.ipc_model.specs.world.World.{World}
use Rattle.system.specs.Core.{Stands, StandsFrom}

module _ {D : Type 0} (view : D → View) (lasts : (disk : D) → MayLeave (view disk) (view disk).seen) (base : State)
    (world : World) where
  pub calls_kept : (k : ℕ) → CrashesKeep view (Stands base world k)
  calls_kept k old disks always stopped =
      all_crashes view lasts (Stands base world k) (λ s stands. stands.2.gates)
      (λ s c stands same. (stands.0, stands.1, same_stands stands.0 s c stands.2 same)) disks old always stopped

  pub least_kept : (least : ℕ) → CrashesKeep view (StandsFrom base least world)
  least_kept least old disks always stopped =
      all_crashes view lasts (StandsFrom base least world) (λ s stands. stands.3.2.gates)
      (λ s c stands same. (
        stands.0,
        stands.1,
        stands.2,
        (stands.3.0, stands.3.1, same_stands stands.3.0 s c stands.3.2 same),
      )) disks old always stopped
