-- The differences between the versions of a store's slots.
use Rattle.std.specs.Prelude.{◌≢◌, ℕ}
use Rattle.codes.specs.declared.limits.TheConstants.{MAX_QUEUE_LIMIT}
use Rattle.codes.specs.declared.store_version.StoreVersion.{StoreVersion}
use Rattle.codes.specs.declared.store_version.StoreVersion.TheVariants.{One, Two}

-- the version in which slots are written
abbrev pub current : StoreVersion
current = Two

-- a version's number, as a slot's header contains it
abbrev pub version_number : StoreVersion → ℕ
version_number One = 1
version_number Two = 2

-- no version has this number
abbrev pub IsNoVersion : ℕ → Type 0
IsNoVersion number = (version : StoreVersion) → version_number version ≢ number

-- the maximum queue limit of a port in a version
abbrev pub greatest_limit : StoreVersion → ℕ
greatest_limit One = 16
greatest_limit Two = MAX_QUEUE_LIMIT
