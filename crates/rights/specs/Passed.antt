-- Re-exports from `ipc_state` for crates above.
pub use Rattle.ipc_state.specs.Added.{added_again, added_there, names_added}
pub use Rattle.ipc_state.specs.Live.{carries_live, is_live, is_live_port, is_live_reply}
pub use Rattle.ipc_state.specs.Running.{Running}
pub use Rattle.ipc_state.specs.SetNames.{member_names, member_under}
pub use Rattle.ipc_state.specs.There.{changed_there, or_empty}
pub use Rattle.ipc_state.specs.Passed.{
  AreFewReferences,
  IsNextEntry,
  PortNumbers,
  entries_from,
  from_end,
  from_first,
  from_next,
  lives_in,
  messages_at,
  messages_in,
  numbers_of,
  seen_message,
  seen_right,
  under_other_name,
}
