-- What storing a load comes to.
use Rattle.std.specs.Prelude.{◌≡◌, ℕ, ◌+◌, ◌<◌, Result, true, IfErr, IfOk, Err}
use Rattle.codes.specs.declared.limits.TheConstants.{MAX_RECORDS}
use Rattle.disk.specs.Moments.{one_more}
use Rattle.store_fault.specs.declared.fault.StoreFault.TheVariants.{Device, Failed, Full}
use Rattle.store_half.specs.Values.{StoreValue}
use Rattle.keepers.specs.Storing.{LoadValue, StoreKeeperValue}
use Rattle.keepers.specs.declared.fault.NotStored.{NotStored}
use Rattle.keepers.specs.declared.fault.NotStored.TheVariants.{Store}

-- a receipt for as many records as the load has, and how many are known to be stored from then on; or a fault, and the
-- load again
abbrev pub Appended : Type 0
Appended = Result (ℕ × ℕ) (NotStored × LoadValue)

abbrev pub StoresLoad : {D : Type 0} → StoreKeeperValue D → StoreKeeperValue D → LoadValue → Appended → Type 0
StoresLoad old new load result =
    IfOk result (λ r. (r.0 ≡ load.batch.count) × (new.stored ≡ old.stored + load.batch.count) × (r.1 ≡ new.stored))

abbrev pub GivesLoadBack : {D : Type 0} → StoreKeeperValue D → StoreKeeperValue D → LoadValue → Appended → Type 0
GivesLoadBack old new load result = IfErr result (λ fault. (fault.1 ≡ load) × (new.stored ≡ old.stored))

-- a fault that isn't the device's leaves the store as it was
abbrev pub WritesNothingElse : {D : Type 0} → StoreValue D → StoreValue D → Appended → Type 0
WritesNothingElse old new result = IfErr result (λ fault. (fault.0 ≡ Store Device → ⊥) → new ≡ old)

-- the device's fault is one more failed call
abbrev pub CountsDevice : ℕ → ℕ → Appended → Type 0
CountsDevice before now result = IfErr result (λ fault. fault.0 ≡ Store Device → now ≡ one_more before)

-- `Failed` says that the device failed earlier
abbrev pub HadFailed : {D : Type 0} → StoreValue D → Appended → Type 0
HadFailed old result = IfErr result (λ fault. fault.0 ≡ Store Failed → old.failed ≡ true)

-- once the device has failed, that is the only answer, and nothing changes
abbrev pub OnlyFails : {D : Type 0} → StoreKeeperValue D → StoreKeeperValue D → LoadValue → Appended → Type 0
OnlyFails old new load result = old.store.failed ≡ true → (result ≡ Err (Store Failed, load)) × (new ≡ old)

-- `Full` says that the segment in use would hold too many records
abbrev pub WouldOverfill : {D : Type 0} → StoreValue D → LoadValue → Appended → Type 0
WouldOverfill old load result =
    IfErr result (λ fault. fault.0 ≡ Store Full → MAX_RECORDS < old.segment.records + load.batch.count)
