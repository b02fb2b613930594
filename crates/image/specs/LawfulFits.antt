-- An image can encode the snapshot of every lawful state whose queues are short.
use Rattle.std.proofs.Common.{◌≡◌, ℕ, All, List, [], ◌∷◌, ◌∙◌, ap, length, map, refl, sym, Option, None, Some, subst, arith}
use Rattle.std.specs.Ordering.{nat_cmp}
use Rattle.std.specs.FinMap.{entries, get, get-empty, len-entries}
use Rattle.std.proofs.lemmas.List.Elements.{All-map}
use Rattle.ipc_laws.specs.ImageLaws.{Encodable, EncodableLivePort, EncodableMessage, EncodablePort, EncodableSpace}
use Rattle.ipc_laws.specs.Encoding.{lawful_is_encodable}
use Rattle.ipc_model.specs.declared.message.Message.{Message}
use Rattle.ipc_model.specs.declared.port.PortState.{PortState}
use Rattle.codes.specs.declared.store_version.StoreVersion.{StoreVersion}
use Rattle.codes.specs.declared.store_version.StoreVersion.TheVariants.{One, Two}
use Rattle.ipc_model.specs.declared.reply.NumberedReply.{NumberedReply}
use Rattle.ipc_model.specs.state.Ipc.{Names}
use Rattle.ipc_model.specs.state.Lawful.{LawfulMessage, LawfulPort, ShortQueues}
use Rattle.ipc_model.specs.state.LawfulState.{LawfulState}
use Rattle.ipc_model.specs.state.State.{KeptReplies, State}
use Rattle.ipc_model.specs.store.Recovery.{KeepsWhatItMay}
use Rattle.image.specs.RowLaws.{kept_row, rows_same}
use Rattle.snapshot.specs.Rows.{all_entries, each_entry, entries_ascend, map_map, named_row, port_row, space_row}
use Rattle.snapshot.specs.Snapshots.{ipc_snapshot_of, snapshot_of}
use Rattle.image.specs.Fitting.{FitsImage, FitsLivePort, FitsMessage, FitsNamed, FitsKept, FitsPort, FitsRow, FitsSpace, AscendsFrom, name_of, number_of, serial_of}

length_mapped : {A B : Type 0} (f : A → B) (xs : List A) → length (map f xs) ≡ length xs
length_mapped f [] = refl
length_mapped f (x ∷ xs) = omega (arith, length_mapped f xs)

message_fits : (message : Message) → LawfulMessage message → EncodableMessage message → FitsMessage message
message_fits message lawful encodes = record {
  destination = lawful.destination;
  reply = encodes.reply;
  id = encodes.id;
  size = (omega arith, lawful.small, lawful.whole_words);
  few_rights = encodes.few_rights;
  rights = encodes.rights;
  bytes = lawful.bytes;
}

port_fits : (port : PortState) → LawfulPort port → EncodablePort port → FitsPort port
port_fits port lawful encodes = record {
  limit = encodes.limit;
  sequence_number = encodes.sequence_number;
  make_send_count = encodes.make_send_count;
  set = encodes.set;
  no_senders_target = encodes.no_senders_target;
  port_destroyed_target = encodes.port_destroyed_target;
  few_messages = encodes.few_messages;
  messages = λ k d less. message_fits _ (lawful.messages k d less) (encodes.messages k d less);
}

space_fits : (state : State) → Encodable state → (space : ℕ) (names : Names)
    → get state.ipc.spaces space ≡ Some names → FitsSpace (space_row (space, names))
space_fits state encodes space names there =
    let own = each_entry EncodableSpace state.ipc.spaces space names encodes.ipc.spaces there in
    record {
      number = own.0;
      few_names = omega (arith, own.1.few, len-entries names, length_mapped named_row (entries names));
      names = All-map FitsNamed named_row (entries names) own.1.entries;
      names_ascend =
          subst (AscendsFrom 0) (sym (map_map name_of named_row (entries names)))
          (entries_ascend 0 names (λ k v at. omega arith));
    }

-- the kept reply of a space in a lawful state
may_keep : (version : StoreVersion) (state : State) (space : ℕ) (kept : Option NumberedReply) → LawfulState state
    → KeepsWhatItMay version state → get state.kept space ≡ kept → FitsKept version kept
may_keep version state space None lawful keeps is = tt
may_keep One state space (Some kept) lawful keeps is =
    absurd (cc (sym is ∙ ap (λ (m : KeptReplies). get m space) keeps ∙ get-empty nat_cmp space))
may_keep Two state space (Some kept) lawful keeps is = (lawful.kept space kept is).1

row_fits : (version : StoreVersion) (state : State) → LawfulState state → KeepsWhatItMay version state
    → Encodable state → (space : ℕ) (names : Names) → get state.ipc.spaces space ≡ Some names
    → FitsRow version (kept_row state.kept (space, names))
row_fits version state lawful keeps encodes space names there = (
  space_fits state encodes space names there,
  may_keep version state space (get state.kept space) lawful keeps refl,
)

abbrev pub LawfulSnapshotsFit : Type 0
LawfulSnapshotsFit =
    (version : StoreVersion) (state : State) → LawfulState state → ShortQueues state.ipc
    → KeepsWhatItMay version state → FitsImage version (snapshot_of state)

pub lawful_snapshots_fit : LawfulSnapshotsFit
unfolding snapshot_of ipc_snapshot_of
lawful_snapshots_fit version state lawful short keeps =
    let encodes : Encodable state = lawful_is_encodable state lawful short in
    let ipc = state.ipc in
    record {
      next_serial = encodes.ipc.next;
      few_spaces =
          omega (
            arith,
            encodes.ipc.few_spaces,
            len-entries ipc.spaces,
            length_mapped space_row (entries ipc.spaces),
          );
      spaces =
          subst (All (FitsRow version)) (sym (rows_same state.kept (entries ipc.spaces)))
          (All-map (FitsRow version) (kept_row state.kept) (entries ipc.spaces)
          (all_entries (λ (e : ℕ × Names). FitsRow version (kept_row state.kept e)) ipc.spaces
          (row_fits version state lawful keeps encodes)));
      spaces_ascend =
          subst (AscendsFrom 0) (sym (map_map number_of space_row (entries ipc.spaces)))
          (entries_ascend 0 ipc.spaces (λ k v at. omega arith));
      each_kept =
          length_mapped (λ (e : ℕ × Names). get state.kept e.0) (entries ipc.spaces)
          ∙ sym (length_mapped space_row (entries ipc.spaces));
      few_ports =
          omega (arith, encodes.ipc.few_ports, len-entries ipc.ports, length_mapped port_row (entries ipc.ports));
      ports =
          All-map FitsLivePort port_row (entries ipc.ports)
          (all_entries (λ (e : ℕ × PortState). FitsLivePort (port_row e)) ipc.ports (λ serial port at.
          let own =
          each_entry EncodableLivePort ipc.ports serial port encodes.ipc.ports at in
          (own.0, port_fits port (lawful.ipc.ports serial port at).2 own.1)));
      ports_ascend =
          subst (AscendsFrom 0) (sym (map_map serial_of port_row (entries ipc.ports)))
          (entries_ascend 0 ipc.ports (λ k v at. omega arith));
    }
