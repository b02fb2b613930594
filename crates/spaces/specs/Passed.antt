-- Re-exports from libraries below, so that crates above name only this one.
pub use Rattle.port_indexes.specs.Rights.{right_weight}
pub use Rattle.port_indexes.specs.Indexed.{IsIndexed, alike_indexed, nothing_indexed, place_moved}
pub use Rattle.port_indexes.specs.Places.{IsNext, Numbers, moved, stands_at}
pub use Rattle.port_space.specs.References.{AreFewReferences}
pub use Rattle.port_space.specs.Renaming.{under_other_name}
pub use Rattle.port_space.specs.Walking.{
  IsNextEntry,
  above_all,
  below_none,
  entries_alike,
  entries_from,
  entries_none,
  entries_split,
  from_end,
  from_first,
  from_next,
  from_on,
  nothing_from,
}
pub use Rattle.tracked_map.specs.Tracked.{Tracked}
