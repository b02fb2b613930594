use Rattle.std.proofs.Common.{◌≡◌, ◌↔◌, length, map}
use Rattle.snapshot.specs.Rows.{serial_of}
use Rattle.snapshot_loading.proofs.receivers.are_serials.Given as goal

-- the rest is equal exactly if the whole is
abbrev pub invariant-loop-serial : goal.invariant-loop-serial
invariant-loop-serial l = (l.fn.serials ≡ map serial_of l.fn.ports) ↔ (l.rest ≡ map serial_of l.left)

abbrev pub decreases-loop-serial : goal.decreases-loop-serial
decreases-loop-serial l = length l.rest
