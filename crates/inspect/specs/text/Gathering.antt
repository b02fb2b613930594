-- The rights of a snapshot, collected by their ports.
use Rattle.std.specs.Prelude.{ℕ, ◌+◌, None, Some}
use Rattle.std.specs.FinMap as finmap
use Rattle.std.specs.Option.{option_or, unwrap_or}
use Rattle.std.specs.Ordering.{nat_cmp}
use Rattle.ipc_model.specs.declared.message.RightKind.{RightKind}
use Rattle.ipc_model.specs.declared.message.RightKind.TheVariants as kind
use Rattle.snapshot.specs.declared.rows.IpcSnapshot.{IpcSnapshot}
use Rattle.inspect.specs.declared.text.standing.Standing.{Standing}
use Rattle.inspect.specs.declared.text.standing.StandingRight.{StandingRight}
use Rattle.inspect.specs.declared.text.tally.Tally.{Tally}
use Rattle.inspect.specs.text.Walking.{snapshot_seen}

-- the tallies of ports, by their serials
abbrev pub Notes : Type 0
Notes = finmap.FinMap nat_cmp Tally

abbrev pub no_rights : Tally
no_rights = record { receive = None; send = 0; send_once = 0 }

abbrev pub tally_of : Notes → ℕ → Tally
tally_of notes serial = unwrap_or (finmap.get notes serial) no_rights

-- a port's tally with one more right
abbrev pub with_right : RightKind → Standing → Tally → Tally
with_right kind.Receive standing tally = record tally { receive = option_or tally.receive (Some standing) }
with_right kind.Send standing tally = record tally { send = tally.send + 1 }
with_right kind.SendOnce standing tally = record tally { send_once = tally.send_once + 1 }

unfoldable pub noted : StandingRight → Notes → Notes
noted right notes = finmap.insert notes right.port (with_right right.kind right.standing (tally_of notes right.port))

-- the tallies of all rights of a snapshot
unfoldable pub gathered : IpcSnapshot → Notes
gathered snapshot = snapshot_seen noted snapshot finmap.empty
