use Rattle.std.proofs.Common.{Err, ap}
use Rattle.ipc_laws.specs.RecoveryLaws.{recovers_once, recovers_known_versions}
use Rattle.store_layout.specs.Standing.{as_written}
use Rattle.recover.proofs.Faults.{other_fault}
use Rattle.recover.proofs.Joined.{kept_stands}
use Rattle.recover.proofs.opening.open.Goals as goal

pub returns-in-Ok-clause-stands : goal.returns-in-Ok-clause-stands
returns-in-Ok-clause-stands g c =
    λ honest left may. kept_stands (g.D.Disk.view c.load.new.disk) c.in-Ok.segment c.in-Ok.kernel
    (c.in-Ok.ensures.opened honest).kept left may

pub returns-in-Ok-clause-same : goal.returns-in-Ok-clause-same
returns-in-Ok-clause-same g c =
    λ honest state found. recovers_once (as_written (g.D.Disk.view c.args.disk).seen) c.in-Ok.kernel state
    (c.in-Ok.ensures.opened honest).state found

pub returns-in-Err-clause-damaged : goal.returns-in-Err-clause-damaged
returns-in-Err-clause-damaged g c = λ honest is. c.in-Err.ensures.damaged honest (ap Err is)

pub returns-in-Err-clause-opens : goal.returns-in-Err-clause-opens
returns-in-Err-clause-opens g c = λ honest state found. (
  λ is. (c.in-Err.ensures.damaged honest (ap Err is)).1 state found,
  λ is. recovers_known_versions (as_written (g.D.Disk.view c.args.disk).seen) state found
      (c.in-Err.ensures.version honest (ap Err is)),
)

pub returns-in-Err-clause-version : goal.returns-in-Err-clause-version
returns-in-Err-clause-version g c = λ honest is. c.in-Err.ensures.version honest (ap Err is)

pub returns-in-Err-clause-device : goal.returns-in-Err-clause-device
returns-in-Err-clause-device g c = λ is. c.in-Err.ensures.failures.device (ap Err is)

pub returns-in-Err-clause-still : goal.returns-in-Err-clause-still
returns-in-Err-clause-still g c =
    λ no. other_fault c.load.result c.in-Err.fault c.in-Err.is c.load.ensures.failures.still no

pub returns-in-Err-clause-unchanged : goal.returns-in-Err-clause-unchanged
returns-in-Err-clause-unchanged g c =
    λ honest no. other_fault c.load.result c.in-Err.fault c.in-Err.is (c.load.ensures.opened honest).unchanged no

pub returns-in-Err-clause-untouched : goal.returns-in-Err-clause-untouched
returns-in-Err-clause-untouched g c =
    λ honest no. other_fault c.load.result c.in-Err.fault c.in-Err.is (c.load.ensures.opened honest).untouched no

pub returns-in-Ok-clause-state : goal.returns-in-Ok-clause-state
returns-in-Ok-clause-state g c = λ honest. (c.in-Ok.ensures.opened honest).state

pub returns-in-Ok-clause-kept : goal.returns-in-Ok-clause-kept
returns-in-Ok-clause-kept g c = λ honest. (c.in-Ok.ensures.opened honest).kept

pub returns-in-Ok-clause-quiet : goal.returns-in-Ok-clause-quiet
returns-in-Ok-clause-quiet g c = c.in-Ok.ensures.failures.quiet

pub returns-in-Ok-clause-epoch : goal.returns-in-Ok-clause-epoch
returns-in-Ok-clause-epoch g c = λ honest. (c.in-Ok.ensures.opened honest).epoch
