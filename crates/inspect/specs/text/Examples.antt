-- Worked examples: the lines of three states and the drawings of two, computed on the definitions.
use Rattle.std.specs.Prelude.{◌≡◌, ℕ, true, false, List, [], ◌∷◌, None, Some, length, codes, refl}
use Rattle.std.proofs.Common.{arith, sym, ◌∙◌, ap}
use Rattle.std.specs.FinMap as finmap
use Rattle.std.specs.Cmp.{nat_cmp_total}
use Rattle.std.specs.FinMap.{from_sorted, entries-from_sorted, entries-insert, len-entries, len-empty}
use Rattle.std.specs.Fmt.{digits}
use Rattle.std.specs.Ordering.{nat_cmp}
use Rattle.hex.specs.Hex.{encode_with}
use Rattle.ipc_model.specs.declared.entry.Entry.{Entry}
use Rattle.ipc_model.specs.declared.entry.Entry.TheVariants.{Port, SendOnce, Set, Dead}
use Rattle.ipc_model.specs.declared.message.Message.{Message}
use Rattle.ipc_model.specs.declared.message.PortInMessage.TheVariants as in_message
use Rattle.ipc_model.specs.declared.message.RightKind.TheVariants as kind
use Rattle.ipc_model.specs.declared.port.PortState.{PortState}
use Rattle.ipc_model.specs.state.Placed.{placed}
use Rattle.ipc_model.specs.state.Ipc.{Ipc, Names, opening_ipc, new_port}
use Rattle.inspect.specs.text.Drawing.{name_node, port_node, name_node_line, cluster_head, queue_label, port_node_text, edge_text, drawing}
use Rattle.inspect.specs.text.Listing.{hexadecimal, name_line, space_line, queue_text, port_encoding, store_line, listing}

no_length : {A : Type 0} (es : List A) → length es ≡ 0 → es ≡ []
no_length [] e = refl
no_length (x ∷ es) e = absurd (omega arith)

none : {X : Type 0} → finmap.entries (finmap.empty {X = X} {R = nat_cmp}) ≡ []
none {X} =
    no_length (finmap.entries (finmap.empty {X = X} {R = nat_cmp}))
    (sym (len-entries finmap.empty) ∙ len-empty nat_cmp X)

opened_spaces : finmap.entries opening_ipc.spaces ≡ (1, finmap.empty) ∷ []
opened_spaces = entries-insert nat_cmp_total finmap.empty 1 finmap.empty ∙ ap (finmap.put nat_cmp 1 finmap.empty) none

-- a new store
pub opening-lines : listing 0 0 opening_ipc ≡ codes "epoch 0 records 0\nspace 1\n"
unfolding listing placed space_line store_line digits
opening-lines = simp (opened_spaces, none)

-- A port whose receive right and one send right are under the name 0x100 of space 1, and from which a message was
-- received.
abbrev names_made : List (ℕ × Entry)
names_made = (0x100, Port (record { port = 1; receive = true; send = 1; dead_name_target = None })) ∷ []

abbrev ports_made : List (ℕ × PortState)
ports_made = (1, record new_port { sequence_number = 1; make_send_count = 1 }) ∷ []

abbrev spaces_made : List (ℕ × Names)
spaces_made = (1, from_sorted names_made) ∷ []

abbrev pub made : Ipc
made = record { spaces = from_sorted spaces_made; ports = from_sorted ports_made; next = 2 }

made_names : finmap.entries {R = nat_cmp} (from_sorted names_made) ≡ names_made
made_names = entries-from_sorted nat_cmp names_made tt

made_spaces : finmap.entries {R = nat_cmp} (from_sorted spaces_made) ≡ spaces_made
made_spaces = entries-from_sorted nat_cmp spaces_made tt

made_ports : finmap.entries {R = nat_cmp} (from_sorted ports_made) ≡ ports_made
made_ports = entries-from_sorted nat_cmp ports_made tt

pub made-lines : listing 0 4 made
    ≡ codes "epoch 0 records 4\nspace 1\nname 00000100 00030000 port 1 refs 1\nport 1 held 1 00000100 send 1 once 0 queue 0 of 5 seqno 1 mscount 1\n"
unfolding listing placed hexadecimal name_line space_line queue_text port_encoding store_line encode_with digits
made-lines = simp (made_spaces, made_ports) (simp made_names)

pub made-drawn : drawing made ≡ codes
    "digraph ports {\n  rankdir=LR;\n  node [shape=box];\n  subgraph cluster_1 {\n    label=\"space 1\";\n    n1_00000100 [label=\"00000100 00030000 refs 1\"];\n  }\n  p1 [shape=ellipse, label=\"port 1\\nsend 1 once 0\\nqueue 0 of 5\\nseqno 1 mscount 1\"];\n  n1_00000100 -> p1 [label=\"receive\"];\n  n1_00000100 -> p1 [label=\"send x1\"];\n}\n"
unfolding drawing placed hexadecimal name_node port_node name_node_line cluster_head queue_label port_node_text
    edge_text encode_with digits
made-drawn = simp (made_spaces, made_ports) (simp made_names)

-- Every kind of name, right and request. Port 2's receive right is in a message in port 1's queue, with a send right to
-- port 1 and one to a dead port.
abbrev names_of_1 : List (ℕ × Entry)
names_of_1 =
    (0x100, Port (record { port = 1; receive = true; send = 2; dead_name_target = None }))
    ∷ (0x101, Port (record { port = 2; receive = false; send = 3; dead_name_target = Some 1 }))
    ∷ (0x102, SendOnce 1 None)
    ∷ (0x103, Set)
    ∷ (0x104, Dead 2)
    ∷ (0x105, Port (record { port = 4; receive = true; send = 0; dead_name_target = None }))
    ∷ []

abbrev names_of_2 : List (ℕ × Entry)
names_of_2 = (0x200, SendOnce 2 (Some 4)) ∷ []

abbrev with_rights : Message
with_rights = record {
  destination = kind.Send;
  reply = Some (record { kind = kind.SendOnce; port = in_message.Live 4 });
  id = 7;
  complex = true;
  rights =
      (record { kind = kind.Receive; port = in_message.Live 2 }) ∷
      (record { kind = kind.Send; port = in_message.Live 1 }) ∷
      (record { kind = kind.Send; port = in_message.Dead }) ∷ [];
  body = 0x10 ∷ 0x20 ∷ 0x01 ∷ 0x10 ∷ 0 ∷ 0 ∷ 0 ∷ 0 ∷ 0x11 ∷ 0x20 ∷ 0x02 ∷ 0x10 ∷ 0 ∷ 0 ∷ 0 ∷ 0 ∷ 0 ∷ 0 ∷ 0 ∷ 0 ∷ [];
}

abbrev by_send_once : Message
by_send_once = record { destination = kind.SendOnce; reply = None; id = 70; complex = false; rights = []; body = [] }

abbrev ports_mixed : List (ℕ × PortState)
ports_mixed =
    (1, record new_port { make_send_count = 4; messages = with_rights ∷ []; no_senders_target = Some 4 })
    ∷ (
      2,
      record new_port {
        limit = 16;
        sequence_number = 3;
        messages = by_send_once ∷ [];
        port_destroyed_target = Some 1;
      },
    )
    ∷ (4, record new_port { set = Some 0x103 })
    ∷ []

abbrev spaces_mixed : List (ℕ × Names)
spaces_mixed = (1, from_sorted names_of_1) ∷ (2, from_sorted names_of_2) ∷ []

abbrev pub mixed : Ipc
mixed = record { spaces = from_sorted spaces_mixed; ports = from_sorted ports_mixed; next = 5 }

mixed_names_1 : finmap.entries {R = nat_cmp} (from_sorted names_of_1) ≡ names_of_1
mixed_names_1 = entries-from_sorted nat_cmp names_of_1 tt

mixed_names_2 : finmap.entries {R = nat_cmp} (from_sorted names_of_2) ≡ names_of_2
mixed_names_2 = entries-from_sorted nat_cmp names_of_2 tt

mixed_spaces : finmap.entries {R = nat_cmp} (from_sorted spaces_mixed) ≡ spaces_mixed
mixed_spaces = entries-from_sorted nat_cmp spaces_mixed tt

mixed_ports : finmap.entries {R = nat_cmp} (from_sorted ports_mixed) ≡ ports_mixed
mixed_ports = entries-from_sorted nat_cmp ports_mixed tt

pub mixed-lines : listing 3 12 mixed ≡
    codes "epoch 3 records 12\nspace 1\nname 00000100 00030000 port 1 refs 2\nname 00000101 80010000 port 2 refs 3\nname 00000102 00040000 port 1 refs 1\nname 00000103 00080000 port 0 refs 1\nname 00000104 00100000 port 0 refs 2\nname 00000105 00020000 port 4 refs 0\nspace 2\nname 00000200 80040000 port 2 refs 1\nport 1 held 1 00000100 send 3 once 3 queue 1 of 5 seqno 0 mscount 4\nport 2 carried 1 send 1 once 2 queue 1 of 16 seqno 3 mscount 0\nport 4 held 1 00000105 send 0 once 3 queue 0 of 5 seqno 0 mscount 0\n"
unfolding listing placed hexadecimal name_line space_line queue_text port_encoding store_line encode_with digits
mixed-lines = simp (mixed_spaces, mixed_ports) (simp (mixed_names_1, mixed_names_2))

pub mixed-drawn : drawing mixed
    ≡ codes "digraph ports {\n  rankdir=LR;\n  node [shape=box];\n  subgraph cluster_1 {\n    label=\"space 1\";\n    n1_00000100 [label=\"00000100 00030000 refs 2\"];\n    n1_00000101 [label=\"00000101 80010000 refs 3\"];\n    n1_00000102 [label=\"00000102 00040000 refs 1\"];\n    n1_00000103 [label=\"00000103 00080000 refs 1\"];\n    n1_00000104 [label=\"00000104 00100000 refs 2\"];\n    n1_00000105 [label=\"00000105 00020000 refs 0\"];\n  }\n  subgraph cluster_2 {\n    label=\"space 2\";\n    n2_00000200 [label=\"00000200 80040000 refs 1\"];\n  }\n  p1 [shape=ellipse, label=\"port 1\\nsend 3 once 3\\nqueue 1 of 5\\nseqno 0 mscount 4\"];\n  p2 [shape=ellipse, label=\"port 2\\nsend 1 once 2\\nqueue 1 of 16\\nseqno 3 mscount 0\"];\n  p4 [shape=ellipse, label=\"port 4\\nsend 0 once 3\\nqueue 0 of 5\\nseqno 0 mscount 0\"];\n  n1_00000100 -> p1 [label=\"receive\"];\n  n1_00000100 -> p1 [label=\"send x2\"];\n  n1_00000101 -> p2 [label=\"send x3\"];\n  n1_00000101 -> p1 [label=\"dead-name request\"];\n  n1_00000102 -> p1 [label=\"send-once\"];\n  n1_00000105 -> p4 [label=\"receive\"];\n  n2_00000200 -> p2 [label=\"send-once\"];\n  n2_00000200 -> p4 [label=\"dead-name request\"];\n  p1 -> p1 [label=\"carried send\"];\n  p1 -> p4 [label=\"carried send-once\"];\n  p1 -> p2 [label=\"carried receive\"];\n  p1 -> p1 [label=\"carried send\"];\n  p1 -> p4 [label=\"no-senders request\"];\n  p2 -> p2 [label=\"carried send-once\"];\n  p2 -> p1 [label=\"port-destroyed request\"];\n}\n"
unfolding drawing placed hexadecimal name_node port_node name_node_line cluster_head queue_label port_node_text
    edge_text encode_with digits
mixed-drawn = simp (mixed_spaces, mixed_ports) (simp (mixed_names_1, mixed_names_2))
