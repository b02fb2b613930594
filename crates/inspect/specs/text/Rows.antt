-- The lines of a snapshot's rows, from the tallies of its ports.
use Rattle.std.specs.Prelude.{ℕ, List, [], ◌++◌, flat_map, Option, None, Some, codes, decimal}
use Rattle.snapshot.specs.declared.rows.LivePort.{LivePort}
use Rattle.snapshot.specs.declared.rows.NamedEntry.{NamedEntry}
use Rattle.snapshot.specs.declared.rows.IpcSnapshot.{IpcSnapshot}
use Rattle.snapshot.specs.declared.rows.Space.{Space}
use Rattle.inspect.specs.declared.text.standing.Standing.{Standing}
use Rattle.inspect.specs.declared.text.standing.Standing.TheVariants.{Held, Queued, DeadNameRequest, NoSendersRequest, PortDestroyedRequest}
use Rattle.inspect.specs.text.Gathering.{Notes, tally_of, gathered}
use Rattle.inspect.specs.text.Listing.{hexadecimal, name_line, space_line, port_encoding, store_line}

abbrev pub names_rows : List NamedEntry → List ℕ
names_rows names = flat_map (λ (named : NamedEntry). name_line named.name named.entry) names

abbrev pub space_rows : Space → List ℕ
space_rows space = space_line space.number ++ names_rows space.names

abbrev pub spaces_rows : List Space → List ℕ
spaces_rows spaces = flat_map space_rows spaces

-- the place of a receive right; targets of requests are send-once rights only
abbrev pub standing_text : Option Standing → List ℕ
standing_text None = []
standing_text (Some (Held space name)) = codes " held " ++ (decimal space ++ (codes " " ++ hexadecimal name))
standing_text (Some (Queued queue)) = codes " carried " ++ decimal queue
standing_text (Some (DeadNameRequest space name)) = []
standing_text (Some (NoSendersRequest port)) = []
standing_text (Some (PortDestroyedRequest port)) = []

abbrev pub port_row : Notes → LivePort → List ℕ
port_row notes port =
    let tally = tally_of notes port.serial in
    port_encoding port.serial (standing_text tally.receive) tally.send tally.send_once port.state

abbrev pub ports_rows : Notes → List LivePort → List ℕ
ports_rows notes ports = flat_map (port_row notes) ports

unfoldable pub snapshot_rows : ℕ → ℕ → IpcSnapshot → List ℕ
snapshot_rows epoch records snapshot =
    store_line epoch records ++ (spaces_rows snapshot.spaces ++ ports_rows (gathered snapshot) snapshot.ports)
