-- Re-exports from libraries below, so that crates above name only this one.
pub use Rattle.live_ports.specs.Changed.{
  changed,
  messages_at,
  messages_in,
  numbers_of,
  with_message,
  with_numbers,
  without_first,
}
pub use Rattle.live_ports.specs.NextPort.{IsNextPort}
pub use Rattle.live_ports.specs.Noted.{AreNoted}
pub use Rattle.live_ports.specs.PortTable.{PortTable, TrackedPorts}
pub use Rattle.live_ports.specs.Seen.{AreLive, Ports, is_to, lives_in, mentions, reply_is_to, seen_message, seen_right}
pub use Rattle.live_ports.specs.declared.port.PortNumbers.{PortNumbers}
