-- The encoding of a state's snapshot is the state's image.
use Rattle.std.specs.Prelude.{◌≡◌, ℕ, suc, List, [], ◌∷◌, ◌++◌, length, map, flat_map, refl}
use Rattle.std.proofs.Common.{sym, ◌∙◌, ap}
use Rattle.std.specs.FinMap as finmap
use Rattle.std.specs.FinMap.{len-entries}
use Rattle.codes.specs.declared.store_version.StoreVersion.{StoreVersion}
use Rattle.ipc_model.specs.declared.entry.Entry.{Entry}
use Rattle.ipc_model.specs.declared.port.PortState.{PortState}
use Rattle.ipc_model.specs.state.Ipc.{Names}
use Rattle.ipc_model.specs.state.State.{KeptReplies, State}
use Rattle.ipc_model.specs.encodings.Images.{entry_encoding, image_encoding_of, names_encoding, port_encoding, kept_encoding, space_encoding}
use Rattle.image.specs.Rows.{live_port_encoding, named_encoding, row_encoding_of, rows_of, snapshot_encoding_of, Row}
use Rattle.snapshot.specs.Rows.{space_row}
use Rattle.snapshot.specs.Snapshots.{names_of, ipc_snapshot_of, snapshot_of}
use Rattle.snapshot.specs.declared.rows.LivePort.{LivePort}
use Rattle.snapshot.specs.declared.rows.NamedEntry.{NamedEntry}
use Rattle.words.specs.Words.{word, long_word}

module _ {A B : Type 0} where
  length-map : (f : A → B) (xs : List A) → length (map f xs) ≡ length xs
  length-map f [] = refl
  length-map f (x ∷ xs) = ap suc (length-map f xs)

  -- the encodings of rows that are made from entries are the encodings of the entries
  encodings_of : (f : A → B) (of_row : B → List ℕ) (of_entry : A → List ℕ) → ((x : A) → of_row (f x) ≡ of_entry x)
      → (xs : List A) → flat_map of_row (map f xs) ≡ flat_map of_entry xs
  encodings_of f of_row of_entry same [] = refl
  encodings_of f of_row of_entry same (x ∷ xs) = λ i. same x i ++ encodings_of f of_row of_entry same xs i

named : ℕ × Entry → NamedEntry
named e = record { name = e.0; entry = e.1 }

names_same : (names : Names) → word (length (names_of names)) ++ flat_map named_encoding (names_of names)
    ≡ names_encoding names
unfolding named
names_same names = λ i.
    word ((length-map named (finmap.entries names) ∙ sym (len-entries names)) i)
    ++ encodings_of named named_encoding (λ (e : ℕ × Entry). word e.0 ++ entry_encoding e.1)
    (λ e. refl) (finmap.entries names) i

port_row : ℕ × PortState → LivePort
port_row e = record { serial = e.0; state = e.1 }

abbrev pub kept_row : KeptReplies → ℕ × Names → Row
kept_row kept e = record { space = record { number = e.0; names = names_of e.1 }; kept = finmap.get kept e.0 }

-- the rows of a state's snapshot
pub rows_same : (kept : KeptReplies) (es : List (ℕ × Names))
    → rows_of (map space_row es) (map (λ (e : ℕ × Names). finmap.get kept e.0) es) ≡ map (kept_row kept) es
rows_same kept [] = refl
rows_same kept (e ∷ es) = ap (λ (l : List Row). kept_row kept e ∷ l) (rows_same kept es)

pub image_of_state : (version : StoreVersion) (state : State)
    → snapshot_encoding_of version (snapshot_of state) ≡ image_encoding_of version state
unfolding snapshot_encoding_of snapshot_of ipc_snapshot_of image_encoding_of port_row
image_of_state version state =
    let es : List (ℕ × Names) = finmap.entries state.ipc.spaces in
    let spaces : flat_map (row_encoding_of version)
    (rows_of (map space_row es) (map (λ (e : ℕ × Names). finmap.get state.kept e.0) es))
    ≡ flat_map (space_encoding version state.kept) es =
    ap (flat_map (row_encoding_of version)) (rows_same state.kept es)
    ∙ encodings_of (kept_row state.kept) (row_encoding_of version) (space_encoding version state.kept)
    (λ (e : ℕ × Names). ap (λ (l : List ℕ). word e.0 ++ (kept_encoding version (finmap.get state.kept e.0) ++ l))
    (names_same e.1)) es in
    λ i. long_word state.ipc.next
    ++ (word ((length-map space_row es ∙ sym (len-entries state.ipc.spaces)) i)
    ++ (spaces i
    ++ (word ((length-map port_row (finmap.entries state.ipc.ports) ∙ sym (len-entries state.ipc.ports)) i)
    ++ encodings_of port_row live_port_encoding (λ (e : ℕ × PortState). long_word e.0 ++ port_encoding e.1)
    (λ e. refl) (finmap.entries state.ipc.ports) i)))
