-- Re-exports from libraries below, so that crates above name only this one.
pub use Rattle.ports.specs.Passed.{
  IsNextPort,
  PortNumbers,
  lives_in,
  messages_at,
  messages_in,
  numbers_of,
  seen_message,
  seen_right,
  with_numbers,
}
pub use Rattle.spaces.specs.Passed.{
  AreFewReferences,
  IsNextEntry,
  entries_from,
  from_end,
  from_first,
  from_next,
  under_other_name,
}
