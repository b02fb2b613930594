-- Re-exports from `recover`, so that crates above name only this one.
pub use Rattle.recover.specs.Crashing.{CrashesKeep}
pub use Rattle.recover.specs.Kept.{IsKept}
pub use Rattle.recover.specs.Steps.{unrecorded_step}
