-- The drawing of a state's snapshot is the state's drawing.
use Rattle.std.proofs.Common.{◌≡◌, ℕ, List, [], ◌∷◌, ◌++◌, map, Result, Ok, Err, OnOk, refl, ◌∙◌, ap, append_assoc}
use Rattle.std.specs.Prelude.{flat_map}
use Rattle.std.specs.FinMap as finmap
use Rattle.std.proofs.lemmas.List.Concat.{flat_map-append}
use Rattle.ipc_model.specs.declared.entry.Entry.{Entry}
use Rattle.ipc_model.specs.declared.message.RightKind.{RightKind}
use Rattle.ipc_model.specs.declared.port.PortState.{PortState}
use Rattle.ipc_model.specs.state.Placed.{Place, held, destination, reply, body, dead_name_request, no_senders_request, port_destroyed_request, waiting, Right, rights_of_entry, rights_of_port}
use Rattle.ipc_model.specs.state.Ipc.{Ipc, Names}
use Rattle.snapshot.specs.declared.rows.IpcSnapshot.{IpcSnapshot}
use Rattle.snapshot.specs.Snapshots.{names_of, ipc_snapshot_of}
use Rattle.inspect.specs.text.Drawing.{name_node_line, cluster_head, cluster_end, cluster, port_node_line, source, label, edge_text, edge_line, space_edges, port_edges, drawing_head, drawing_end, drawing}
use Rattle.inspect.specs.text.Gathering.{gathered}
use Rattle.inspect.specs.text.Listing.{references_of}
use Rattle.inspect.specs.text.Strokes.{names_drawn, spaces_drawn, port_drawn, ports_drawn, source_of, label_of, edge_of, edge_drawn, edges_drawn, drawn}
use Rattle.inspect.proofs.text.Listed.{both, send_at, send_once_at}
use Rattle.inspect.proofs.text.Walked.{standing_of, references_at, as_seen, all_seen, names_all_seen, spaces_all_seen, kept_rights, snapshot_is}

names_are : (space : ℕ) (es : List (ℕ × Entry))
    → names_drawn space (map (λ e. record { name = e.0; entry = e.1 }) es) ≡ flat_map
    (λ e. name_node_line space e.0 e.1) es
names_are space [] = refl
names_are space (e ∷ es) = ap (λ text. name_node_line space e.0 e.1 ++ text) (names_are space es)

spaces_are : (es : List (ℕ × Names))
    → spaces_drawn (map (λ e. record { number = e.0; names = names_of e.1 }) es) ≡ flat_map (λ e. cluster e.0 e.1) es
spaces_are [] = refl
spaces_are (e ∷ es) =
    both (ap (λ text. cluster_head e.0 ++ (text ++ cluster_end)) (names_are e.0 (finmap.entries e.1))) (spaces_are es)

port_is : (state : Ipc) (serial : ℕ) (port : PortState)
    → port_drawn (gathered (ipc_snapshot_of state)) (record { serial = serial; state = port })
    ≡ port_node_line state serial port
port_is state serial port =
    rw (send_at state serial, send_once_at state serial)

ports_are : (state : Ipc) (es : List (ℕ × PortState))
    → ports_drawn (gathered (ipc_snapshot_of state)) (map (λ e. record { serial = e.0; state = e.1 }) es) ≡ flat_map
    (λ e. port_node_line state e.0 e.1) es
ports_are state [] = refl
ports_are state (e ∷ es) = both (port_is state e.0 e.1) (ports_are state es)

placed_edge : (references serial : ℕ) (k : RightKind) (place : Place)
    → edge_text (source_of (standing_of place)) serial (label_of (references_at references place) k (standing_of place))
    ≡ edge_text (source place) serial (label references k place)
placed_edge references serial k (held space name) = refl
placed_edge references serial k (destination queue) = refl
placed_edge references serial k (reply queue) = refl
placed_edge references serial k (body queue) = refl
placed_edge references serial k (dead_name_request space name) = refl
placed_edge references serial k (no_senders_request port) = refl
placed_edge references serial k (port_destroyed_request port) = refl
placed_edge references serial k waiting = refl

edge_is : (references : ℕ) (right : Right) → edge_of (as_seen references right) ≡ edge_line references right
edge_is references right = placed_edge references right.port right.kind right.place

-- edges follow the text to which they are appended
nothing_after : (text : List ℕ) → text ≡ text ++ []
nothing_after [] = refl
nothing_after (x ∷ text) = ap (λ rest. x ∷ rest) (nothing_after text)

edges_are : (references : ℕ) (rights : List Right) (text : List ℕ)
    → all_seen edge_drawn references rights text ≡ text ++ flat_map (edge_line references) rights
edges_are references [] text = nothing_after text
edges_are references (right ∷ rest) text =
    edges_are references rest (text ++ edge_of (as_seen references right))
    ∙ ap (λ edge. (text ++ edge) ++ flat_map (edge_line references) rest) (edge_is references right)
    ∙ append_assoc text (edge_line references right) (flat_map (edge_line references) rest)

abbrev name_edges : ℕ → ℕ × Entry → List ℕ
name_edges space e = flat_map (edge_line (references_of e.1)) (rights_of_entry space e.0 e.1)

name_edges_are : (space : ℕ) (es : List (ℕ × Entry)) (text : List ℕ)
    → names_all_seen edge_drawn space es text ≡ text ++ flat_map (name_edges space) es
name_edges_are space [] text = nothing_after text
name_edges_are space (e ∷ es) text =
    ap (names_all_seen edge_drawn space es) (edges_are (references_of e.1) (rights_of_entry space e.0 e.1) text)
    ∙ name_edges_are space es (text ++ name_edges space e)
    ∙ append_assoc text (name_edges space e) (flat_map (name_edges space) es)

space_edges_are : (es : List (ℕ × Names)) (text : List ℕ)
    → spaces_all_seen edge_drawn es text ≡ text ++ flat_map (λ e. space_edges e.0 e.1) es
space_edges_are [] text = nothing_after text
space_edges_are (e ∷ es) text =
    ap (spaces_all_seen edge_drawn es) (name_edges_are e.0 (finmap.entries e.1) text)
    ∙ space_edges_are es (text ++ space_edges e.0 e.1)
    ∙ append_assoc text (space_edges e.0 e.1) (flat_map (λ f. space_edges f.0 f.1) es)

port_edges_are : (es : List (ℕ × PortState))
    → flat_map (edge_line 0) (kept_rights es) ≡ flat_map (λ e. port_edges e.0 e.1) es
port_edges_are [] = refl
port_edges_are (e ∷ es) =
    flat_map-append (edge_line 0) (rights_of_port e.0 e.1) (kept_rights es) ∙ ap
    (λ text. port_edges e.0 e.1 ++ text) (port_edges_are es)

all_edges_are : (state : Ipc) (text : List ℕ)
    → edges_drawn (ipc_snapshot_of state) text
    ≡ (text ++ flat_map (λ e. space_edges e.0 e.1) (finmap.entries state.spaces))
    ++ flat_map (λ e. port_edges e.0 e.1) (finmap.entries state.ports)
all_edges_are state text =
    snapshot_is edge_drawn state text
    ∙ ap (all_seen edge_drawn 0 (kept_rights (finmap.entries state.ports)))
    (space_edges_are (finmap.entries state.spaces) text)
    ∙ edges_are 0 (kept_rights (finmap.entries state.ports))
    (text ++ flat_map (λ e. space_edges e.0 e.1) (finmap.entries state.spaces))
    ∙ ap (λ edges. (text ++ flat_map (λ e. space_edges e.0 e.1) (finmap.entries state.spaces)) ++ edges)
    (port_edges_are (finmap.entries state.ports))

grouped : (old head clusters ports spaces kept end : List ℕ)
    → (((((old ++ head) ++ clusters) ++ ports) ++ spaces) ++ kept) ++ end ≡ old
    ++ (head ++ (clusters ++ (ports ++ (spaces ++ (kept ++ end)))))
grouped old head clusters ports spaces kept end = simp append_assoc

spaces_of_state : (state : Ipc)
    → spaces_drawn (ipc_snapshot_of state).spaces ≡ flat_map (λ e. cluster e.0 e.1) (finmap.entries state.spaces)
unfolding ipc_snapshot_of
spaces_of_state state = spaces_are (finmap.entries state.spaces)

ports_of_state : (state : Ipc)
    → ports_drawn (gathered (ipc_snapshot_of state)) (ipc_snapshot_of state).ports ≡ flat_map
    (λ e. port_node_line state e.0 e.1) (finmap.entries state.ports)
unfolding ipc_snapshot_of
ports_of_state state = ports_are state (finmap.entries state.ports)

drawn_is : (state : Ipc) (old : List ℕ) → drawn (ipc_snapshot_of state) old ≡ old ++ drawing state
unfolding drawn drawing
drawn_is state old =
    let clusters : List ℕ = flat_map (λ e. cluster e.0 e.1) (finmap.entries state.spaces) in
    let nodes : List ℕ = flat_map (λ e. port_node_line state e.0 e.1) (finmap.entries state.ports) in
    let spaces : List ℕ = flat_map (λ e. space_edges e.0 e.1) (finmap.entries state.spaces) in
    let kept : List ℕ = flat_map (λ e. port_edges e.0 e.1) (finmap.entries state.ports) in
    ap (λ text. edges_drawn (ipc_snapshot_of state)
    (((old ++ drawing_head) ++ text) ++ ports_drawn (gathered (ipc_snapshot_of state)) (ipc_snapshot_of state).ports)
    ++ drawing_end) (spaces_of_state state)
    ∙ ap (λ text. edges_drawn (ipc_snapshot_of state) (((old ++ drawing_head) ++ clusters) ++ text) ++ drawing_end)
    (ports_of_state state)
    ∙ ap (λ text. text ++ drawing_end) (all_edges_are state (((old ++ drawing_head) ++ clusters) ++ nodes))
    ∙ grouped old drawing_head clusters nodes spaces kept drawing_end

pub draw_from_rows : {A B : Type 0} (result : Result A B) (new old : List ℕ) (snapshot : IpcSnapshot) (state : Ipc)
    → snapshot ≡ ipc_snapshot_of state → OnOk result (new ≡ drawn snapshot old)
    → OnOk result (new ≡ old ++ drawing state)
draw_from_rows (Ok x) new old snapshot state is added = added ∙ ap (λ s. drawn s old) is ∙ drawn_is state old
draw_from_rows (Err e) new old snapshot state is added = tt
