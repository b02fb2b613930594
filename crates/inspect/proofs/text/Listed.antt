-- The lines of a state's snapshot are the state's listing.
use Rattle.std.proofs.Common.{◌≡◌, ℕ, List, [], ◌∷◌, ◌++◌, map, Option, None, Some, Result, Ok, Err, OnOk, refl, ◌∙◌, ap, arith}
use Rattle.std.specs.Prelude.{flat_map, option_map}
use Rattle.std.specs.FinMap as finmap
use Rattle.std.specs.FinMap.{get-empty}
use Rattle.std.specs.Option.{unwrap_or}
use Rattle.std.specs.Ordering.{nat_cmp}
use Rattle.ipc_model.specs.declared.entry.Entry.{Entry}
use Rattle.ipc_model.specs.declared.port.PortState.{PortState}
use Rattle.ipc_model.specs.state.Placed.{Place, held, destination, reply, body, dead_name_request, no_senders_request, port_destroyed_request, waiting, Right, placed, send_count, send_once_count}
use Rattle.ipc_model.specs.state.Ipc.{Ipc, Names}
use Rattle.snapshot.specs.declared.rows.IpcSnapshot.{IpcSnapshot}
use Rattle.snapshot.specs.Snapshots.{names_of, ipc_snapshot_of}
use Rattle.inspect.specs.declared.text.tally.Tally.{Tally}
use Rattle.inspect.specs.text.Gathering.{no_rights, tally_of, gathered}
use Rattle.inspect.specs.text.Listing.{name_line, space_line, space_lines, place_encoding, receive_right, receive_text, port_line, store_line, listing}
use Rattle.inspect.specs.text.Rows.{names_rows, spaces_rows, standing_text, port_row, ports_rows, snapshot_rows}
use Rattle.inspect.proofs.text.Walked.{standing_of}
use Rattle.inspect.proofs.text.Counted.{gathered_is, tallied, tally_of_all, send_tallied, send_once_tallied, receive_tallied}

pub both : {a b c d : List ℕ} → a ≡ b → c ≡ d → a ++ c ≡ b ++ d
both {a} {b} {c} {d} first second = ap (λ x. x ++ c) first ∙ ap (λ y. b ++ y) second

names_are : (es : List (ℕ × Entry))
    → names_rows (map (λ e. record { name = e.0; entry = e.1 }) es) ≡ flat_map (λ e. name_line e.0 e.1) es
names_are [] = refl
names_are (e ∷ es) = ap (λ text. name_line e.0 e.1 ++ text) (names_are es)

spaces_are : (es : List (ℕ × Names))
    → spaces_rows (map (λ e. record { number = e.0; names = names_of e.1 }) es) ≡ flat_map (λ e. space_lines e.0 e.1) es
spaces_are [] = refl
spaces_are (e ∷ es) = both (ap (λ text. space_line e.0 ++ text) (names_are (finmap.entries e.1))) (spaces_are es)

place_is : (place : Place) → standing_text (Some (standing_of place)) ≡ place_encoding place
place_is (held space name) = refl
place_is (destination queue) = refl
place_is (reply queue) = refl
place_is (body queue) = refl
place_is (dead_name_request space name) = refl
place_is (no_senders_request port) = refl
place_is (port_destroyed_request port) = refl
place_is waiting = refl

receive_is : (right : Option Right)
    → standing_text (option_map (λ (r : Right). standing_of r.place) right) ≡ receive_text right
receive_is None = refl
receive_is (Some right) = place_is right.place

-- the tally of a port of a state
tally_is : (state : Ipc) (serial : ℕ)
    → tally_of (gathered (ipc_snapshot_of state)) serial ≡ tallied serial (placed state) no_rights
tally_is state serial =
    ap (λ notes. tally_of notes serial) (gathered_is state) ∙ tally_of_all serial (placed state) finmap.empty
    ∙ ap (λ (o : Option Tally). tallied serial (placed state) (unwrap_or o no_rights)) (get-empty nat_cmp serial)

receive_at : (state : Ipc) (serial : ℕ)
    → standing_text (tally_of (gathered (ipc_snapshot_of state)) serial).receive
    ≡ receive_text (receive_right state serial)
receive_at state serial =
    ap (λ (t : Tally). standing_text t.receive) (tally_is state serial)
    ∙ ap standing_text (receive_tallied serial (placed state) no_rights) ∙ receive_is (receive_right state serial)

pub send_at : (state : Ipc) (serial : ℕ)
    → (tally_of (gathered (ipc_snapshot_of state)) serial).send ≡ send_count state serial
send_at state serial =
    ap (λ (t : Tally). t.send) (tally_is state serial) ∙ send_tallied serial (placed state) no_rights ∙ omega arith

pub send_once_at : (state : Ipc) (serial : ℕ)
    → (tally_of (gathered (ipc_snapshot_of state)) serial).send_once ≡ send_once_count state serial
send_once_at state serial =
    ap (λ (t : Tally). t.send_once) (tally_is state serial) ∙ send_once_tallied serial (placed state) no_rights
    ∙ omega arith

port_is : (state : Ipc) (serial : ℕ) (port : PortState)
    → port_row (gathered (ipc_snapshot_of state)) (record { serial = serial; state = port })
    ≡ port_line state serial port
port_is state serial port = rw (receive_at state serial, send_at state serial, send_once_at state serial)

ports_are : (state : Ipc) (es : List (ℕ × PortState))
    → ports_rows (gathered (ipc_snapshot_of state)) (map (λ e. record { serial = e.0; state = e.1 }) es) ≡ flat_map
    (λ e. port_line state e.0 e.1) es
ports_are state [] = refl
ports_are state (e ∷ es) = both (port_is state e.0 e.1) (ports_are state es)

pub rows_are : (epoch records : ℕ) (state : Ipc)
    → snapshot_rows epoch records (ipc_snapshot_of state) ≡ listing epoch records state
unfolding snapshot_rows listing ipc_snapshot_of
rows_are epoch records state =
    ap (λ text. store_line epoch records ++ text)
    (both (spaces_are (finmap.entries state.spaces)) (ports_are state (finmap.entries state.ports)))

pub list_from_rows : {A B : Type 0} (result : Result A B) (new old : List ℕ) (epoch records : ℕ)
    (snapshot : IpcSnapshot)
    (state : Ipc) → snapshot ≡ ipc_snapshot_of state
    → OnOk result (new ≡ old ++ snapshot_rows epoch records snapshot)
    → OnOk result (new ≡ old ++ listing epoch records state)
list_from_rows (Ok x) new old epoch records snapshot state is added =
    added ∙ ap (λ text. old ++ text) (ap (snapshot_rows epoch records) is ∙ rows_are epoch records state)
list_from_rows (Err e) new old epoch records snapshot state is added = tt
