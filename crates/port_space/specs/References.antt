-- The bounds of a space's names.
use Rattle.std.specs.Prelude.{◌≡◌, ℕ, ◌<◌, ◌≤◌, ◌^◌, Some}
use Rattle.std.specs.Ordering.{nat_cmp}
use Rattle.std.specs.FinMap as map
use Rattle.codes.specs.declared.limits.TheConstants.{MAX_NAMES, MAX_SEND_REFERENCES, MAX_DEAD_REFERENCES}
use Rattle.ipc_model.specs.declared.entry.Entry.{Entry}
use Rattle.ipc_model.specs.declared.entry.Entry.TheVariants.{Port, SendOnce, Set, Dead}

-- the references of a send right or a dead name are within their bound
abbrev pub AreFewReferences : Entry → Type 0
AreFewReferences (Port rights) = rights.send ≤ MAX_SEND_REFERENCES
AreFewReferences (SendOnce port target) = Unit {0}
AreFewReferences Set = Unit {0}
AreFewReferences (Dead references) = references ≤ MAX_DEAD_REFERENCES

-- there are at most MAX_NAMES names, each a u32 with references within their bound
pub record AreBounded (names : map.FinMap nat_cmp Entry) : Type 0 where
  pub few : map.len names ≤ MAX_NAMES
  pub each : (name : ℕ) (entry : Entry) → map.get names name ≡ Some entry → (name < 2 ^ 32) × AreFewReferences entry
