-- Re-exports from `rights` for crates above.
pub use Rattle.rights.specs.Passed.{Running}
pub use Rattle.rights.specs.Passed.{IsNextEntry, entries_from, from_end, from_first, from_next}
