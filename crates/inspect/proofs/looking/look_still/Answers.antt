use Rattle.std.proofs.Common.{◌≡◌, Err, refl, ap, subst}
use Rattle.disk.specs.Slots.{Slots}
use Rattle.inspect.specs.Looked.{of_looking}
use Rattle.inspect.specs.declared.fault.ListFault.TheVariants.{Store}
use Rattle.ipc_model.specs.store.Recovery.{IsDamaged}
use Rattle.store_fault.specs.declared.fault.StoreFault.{StoreFault}
use Rattle.store_fault.specs.declared.fault.StoreFault.TheVariants as store
use Rattle.recover.specs.Found.{Reads}
use Rattle.store_layout.specs.Standing.{as_written}
use Rattle.inspect.proofs.looking.look_still.Goals as goal

looking_damaged : (fault : StoreFault) → of_looking fault ≡ Store store.Damaged → fault ≡ store.Damaged
looking_damaged store.Device is = cc is
looking_damaged store.Full is = cc is
looking_damaged store.Damaged is = refl
looking_damaged store.NoMemory is = cc is
looking_damaged store.Failed is = cc is
looking_damaged store.Version is = cc is

pub returns-in-Ok-clause-state : goal.returns-in-Ok-clause-state
returns-in-Ok-clause-state g c =
    let look = c.in-Ok.look in
    let found = c.in-Ok.ensures.state in
    record {
      state = found.state;
      reads =
          λ honest. subst (λ (s : Slots). Reads s look.epoch look.records found.state)
          (c.in_ok-copy.ensures.slots honest) (found.reads tt);
      rows = found.rows;
    }

pub returns-in-Err-clause-damaged : goal.returns-in-Err-clause-damaged
returns-in-Err-clause-damaged g c = λ honest reported.
    let damaged : of_looking c.in-Err.fault ≡ Store store.Damaged = cc (c.fault_of_copy.ensures, reported) in
    subst (λ (s : Slots). IsDamaged (as_written s)) (c.in_ok-copy.ensures.slots honest)
    (c.in-Err.ensures.damaged (ap Err (looking_damaged c.in-Err.fault damaged)))
