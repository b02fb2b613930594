-- Kept replies, in the rows of a snapshot and as a finite map.
use Rattle.std.specs.Prelude.{◌≡◌, ◌≢◌, ℕ, ◌+◌, ◌≤◌, ◌<◌, true, All, List, [], ◌∷◌, length, map, Option, None, Some, is_some, refl}
use Rattle.std.proofs.Common.{◌∙◌, ap, sym, subst, inl, inr, arith}
use Rattle.std.proofs.lemmas.List.Elements.{All-nil, All-cons, All-head, All-tail}
use Rattle.std.specs.Cmp.{nat_cmp_total}
use Rattle.std.specs.Ordering.{nat_cmp}
use Rattle.std.specs.FinMap as finmap
use Rattle.std.specs.FinMap.{nat_cmp-IsAntisymmetric, same_map}
use Rattle.ipc_laws.specs.ListLaws.{some_same}
use Rattle.ipc_laws.specs.MapLaws.{get-here, get-there}
use Rattle.ipc_laws.specs.OpeningLaws.{none_in_empty}
use Rattle.ipc_laws.specs.Others.{number_decided}
use Rattle.ipc_model.specs.declared.reply.NumberedReply.{NumberedReply}
use Rattle.ipc_model.specs.state.Ipc.{Ipc, Names}
use Rattle.ipc_model.specs.state.Lawful.{Lawful}
use Rattle.ipc_model.specs.state.LawfulState.{IsKeptReply, LawfulState}
use Rattle.ipc_model.specs.state.State.{KeptReplies, State}
use Rattle.kernel.specs.Copying.{kept_row}
use Rattle.kernel.specs.Keeping.{state_of}
use Rattle.snapshot.specs.LawfulSnapshot.{IsLawfulIpc, IsLawfulSnapshot}
use Rattle.snapshot.specs.Rows.{AscendsFrom, all_entries, each_entry, entries_ascend, map_map, number_of, one_state, space_row}
use Rattle.snapshot.specs.Snapshots.{ipc_snapshot_of, snapshot_of}
use Rattle.snapshot.specs.declared.rows.IpcSnapshot.{IpcSnapshot}
use Rattle.snapshot.specs.declared.rows.Snapshot.{Snapshot}
use Rattle.snapshot.specs.declared.rows.Space.{Space}

-- a row of the kept replies is empty, or a reply that may be kept
abbrev pub MayStay : Option NumberedReply → Type 0
MayStay None = Unit {0}
MayStay (Some answer) = IsKeptReply answer

-- There is one row for each space, and each reply in the rows may be kept.
abbrev pub AreKept : List Space → List (Option NumberedReply) → Type 0
AreKept spaces rows = (length spaces ≡ length rows) × All MayStay rows

pub same_rows : (spaces others : List Space) (rows more : List (Option NumberedReply)) → spaces ≡ others → rows ≡ more
    → AreKept spaces rows → AreKept others more
same_rows spaces others rows more spaces_are rows_are are =
    subst (AreKept others) rows_are (subst (λ (s : List Space). AreKept s rows) spaces_are are)

abbrev pub put_row : KeptReplies → ℕ → Option NumberedReply → KeptReplies
put_row kept space None = kept
put_row kept space (Some answer) = finmap.insert kept space answer

abbrev pub put_rows : KeptReplies → List Space → List (Option NumberedReply) → KeptReplies
put_rows kept (space ∷ spaces) (row ∷ rows) = put_rows (put_row kept space.number row) spaces rows
put_rows kept spaces rows = kept

pub put_nothing : (kept : KeptReplies) (spaces : List Space) → put_rows kept spaces [] ≡ kept
put_nothing kept [] = refl
put_nothing kept (space ∷ spaces) = refl

abbrev pub kept_in_rows : List Space → List (Option NumberedReply) → KeptReplies
kept_in_rows spaces rows = put_rows finmap.empty spaces rows

-- A single row.

put_other : (kept : KeptReplies) (space : ℕ) (row : Option NumberedReply) (q : ℕ) → q ≢ space
    → finmap.get (put_row kept space row) q ≡ finmap.get kept q
put_other kept space None q apart = refl
put_other kept space (Some answer) q apart = get-there kept space answer q apart

put_here : (kept : KeptReplies) (space : ℕ) (row : Option NumberedReply) → finmap.get kept space ≡ None
    → finmap.get (put_row kept space row) space ≡ row
put_here kept space None none = none
put_here kept space (Some answer) none = get-here kept space answer

-- Rows of ascending spaces.

put_below : (spaces : List Space) (rows : List (Option NumberedReply)) (kept : KeptReplies) (at q : ℕ)
    → AscendsFrom at (map number_of spaces) → q < at → finmap.get (put_rows kept spaces rows) q ≡ finmap.get kept q
put_below [] rows kept at q ascends below = refl
put_below (space ∷ spaces) [] kept at q ascends below = refl
put_below (space ∷ spaces) (row ∷ rows) kept at q ascends below =
    put_below spaces rows (put_row kept space.number row) (space.number + 1) q ascends.1
    (omega (arith, ascends.0, below))
    ∙ put_other kept space.number row q (λ same. absurd (omega (arith, same, ascends.0, below)))

pub rows_back : (spaces : List Space) (rows : List (Option NumberedReply)) (kept : KeptReplies) (at : ℕ)
    → AscendsFrom at (map number_of spaces) → length spaces ≡ length rows
    → ((q : ℕ) → at ≤ q → finmap.get kept q ≡ None)
    → map (λ (s : Space). finmap.get (put_rows kept spaces rows) s.number) spaces ≡ rows
rows_back [] [] kept at ascends long none = refl
rows_back [] (row ∷ rows) kept at ascends long none = absurd (omega (arith, long))
rows_back (space ∷ spaces) [] kept at ascends long none = absurd (omega (arith, long))
rows_back (space ∷ spaces) (row ∷ rows) kept at ascends long none =
    let after : KeptReplies = put_row kept space.number row in
    let head : finmap.get (put_rows after spaces rows) space.number ≡ row =
    put_below spaces rows after (space.number + 1) space.number ascends.1 (omega arith)
    ∙ put_here kept space.number row (none space.number ascends.0) in
    let tail : map (λ (s : Space). finmap.get (put_rows after spaces rows) s.number) spaces ≡ rows =
    rows_back spaces rows after (space.number + 1) ascends.1 (omega (arith, long))
    (λ q le. put_other kept space.number row q (λ same. absurd (omega (arith, same, le)))
    ∙ none q (omega (arith, le, ascends.0))) in
    λ i. head i ∷ tail i

-- The kept reply of a space is in its row.

module _ (There : ℕ → Type 0) where
  abbrev KeptThere : KeptReplies → Type 0
  KeptThere kept =
      (q : ℕ) (answer : NumberedReply) → finmap.get kept q ≡ Some answer → There q × IsKeptReply answer

  row_there : (kept : KeptReplies) (space : ℕ) (row : Option NumberedReply) → There space → MayStay row
      → KeptThere kept → KeptThere (put_row kept space row)
  row_there kept space None there may each = each
  row_there kept space (Some given) there may each = λ q answer at. elim (number_decided q space)
      as (λ _. There q × IsKeptReply answer) [
        | inl apart ↦ each q answer (sym (get-there kept space given q apart) ∙ at)
        | inr same ↦
            let here : given ≡ answer = some_same given answer
            (sym (get-here kept space given) ∙ ap (finmap.get (finmap.insert kept space given)) (sym same) ∙ at) in
            (subst There (sym same) there, subst IsKeptReply here may)
      ]

  pub rows_there : (spaces : List Space) (rows : List (Option NumberedReply)) (kept : KeptReplies)
      → All (λ (s : Space). There s.number) spaces → All MayStay rows → KeptThere kept
      → KeptThere (put_rows kept spaces rows)
  rows_there [] rows kept there may each = each
  rows_there (space ∷ spaces) [] kept there may each = each
  rows_there (space ∷ spaces) (row ∷ rows) kept there may each =
      rows_there spaces rows (put_row kept space.number row)
      (All-tail (λ (s : Space). There s.number) space spaces there) (All-tail MayStay row rows may)
      (row_there kept space.number row (All-head (λ (s : Space). There s.number) space spaces there)
      (All-head MayStay row rows may) each)

  all_mapped : (es : List (ℕ × Names)) → All (λ (e : ℕ × Names). There e.0) es
      → All (λ (s : Space). There s.number) (map space_row es)
  all_mapped [] all = All-nil (λ (s : Space). There s.number)
  all_mapped (e ∷ es) all =
      All-cons (λ (s : Space). There s.number) (space_row e) (map space_row es)
      (All-head (λ (e : ℕ × Names). There e.0) e es all)
      (all_mapped es (All-tail (λ (e : ℕ × Names). There e.0) e es all))

-- The spaces of a snapshot.

module _ (snapshot : Snapshot) (ipc : Ipc) (same : snapshot.ipc ≡ ipc_snapshot_of ipc) where
  spaces_are : snapshot.ipc.spaces ≡ map space_row (finmap.entries ipc.spaces)
  unfolding ipc_snapshot_of
  spaces_are = ap (λ (s : IpcSnapshot). s.spaces) same

  ascending : AscendsFrom 0 (map number_of snapshot.ipc.spaces)
  ascending =
      subst (AscendsFrom 0)
      (sym (ap (map number_of) spaces_are ∙ map_map number_of space_row (finmap.entries ipc.spaces)))
      (entries_ascend 0 ipc.spaces (λ k v at. omega arith))

  are_there : All (λ (s : Space). is_some (finmap.get ipc.spaces s.number) ≡ true) snapshot.ipc.spaces
  are_there =
      subst (All (λ (s : Space). is_some (finmap.get ipc.spaces s.number) ≡ true)) (sym spaces_are)
      (all_mapped (λ q. is_some (finmap.get ipc.spaces q) ≡ true) (finmap.entries ipc.spaces)
      (all_entries (λ (e : ℕ × Names). is_some (finmap.get ipc.spaces e.0) ≡ true) ipc.spaces
      (λ k names at. ap is_some at)))

  -- The state of the snapshot.
  pub restored_same : (kept : KeptReplies) → AreKept snapshot.ipc.spaces snapshot.kept
      → kept ≡ kept_in_rows snapshot.ipc.spaces snapshot.kept → snapshot ≡ snapshot_of (state_of ipc kept)
  unfolding snapshot_of
  restored_same kept are is = λ i. record { ipc = same i; kept = rows i }
    where
      rows : snapshot.kept ≡ map (kept_row kept) (finmap.entries ipc.spaces)
      rows =
          sym (rows_back snapshot.ipc.spaces snapshot.kept finmap.empty 0 ascending are.0
          (λ q le. finmap.get-empty nat_cmp q))
          ∙ ap (λ (k : KeptReplies). map (λ (s : Space). finmap.get k s.number) snapshot.ipc.spaces) (sym is)
          ∙ ap (map (λ (s : Space). finmap.get kept s.number)) spaces_are
          ∙ map_map (λ (s : Space). finmap.get kept s.number) space_row (finmap.entries ipc.spaces)

  pub restored_lawful : (kept : KeptReplies) → AreKept snapshot.ipc.spaces snapshot.kept
      → kept ≡ kept_in_rows snapshot.ipc.spaces snapshot.kept → Lawful ipc → LawfulState (state_of ipc kept)
  restored_lawful kept are is lawful = record {
    ipc = lawful;
    kept = λ space answer at. rows_there (λ q. is_some (finmap.get ipc.spaces q) ≡ true) snapshot.ipc.spaces
        snapshot.kept finmap.empty are_there are.1 (λ q given none. absurd (none_in_empty q given none)) space answer
        (ap (λ (k : KeptReplies). finmap.get k space) (sym is) ∙ at);
  }

-- A snapshot is lawful exactly if its IPC state is lawful and each reply may be kept by its space.
pub lawful_snapshot : (snapshot : Snapshot) → IsLawfulIpc snapshot.ipc → AreKept snapshot.ipc.spaces snapshot.kept
    → IsLawfulSnapshot snapshot
lawful_snapshot snapshot is are = record {
  state = state_of is.state (kept_in_rows snapshot.ipc.spaces snapshot.kept);
  same = restored_same snapshot is.state is.same _ are refl;
  lawful = restored_lawful snapshot is.state is.same _ are refl is.lawful;
  acyclic = is.acyclic;
  short = is.short;
}

mapped_long : {A B C : Type 0} (f : A → B) (g : A → C) (xs : List A) → length (map f xs) ≡ length (map g xs)
mapped_long f g [] = refl
mapped_long f g (x ∷ xs) = omega (arith, mapped_long f g xs)

may_stay : (state : State) → LawfulState state → (es : List (ℕ × Names)) → All MayStay (map (kept_row state.kept) es)
may_stay state lawful [] = All-nil MayStay
may_stay state lawful (e ∷ es) =
    All-cons MayStay (kept_row state.kept e) (map (kept_row state.kept) es) (by (finmap.get state.kept e.0) refl)
    (may_stay state lawful es)
  where
    by : (o : Option NumberedReply) → finmap.get state.kept e.0 ≡ o → MayStay o
    by None is = tt
    by (Some answer) is = (lawful.kept e.0 answer is).1

pub snapshot_kept : (snapshot : Snapshot) → IsLawfulSnapshot snapshot
    → IsLawfulIpc snapshot.ipc × AreKept snapshot.ipc.spaces snapshot.kept
unfolding snapshot_of ipc_snapshot_of
snapshot_kept snapshot is =
    let es = finmap.entries is.state.ipc.spaces in
    subst (λ (s : Snapshot). IsLawfulIpc s.ipc × AreKept s.ipc.spaces s.kept) (sym is.same) (
      record {
        state = is.state.ipc;
        same = refl;
        lawful = is.lawful.ipc;
        acyclic = is.acyclic;
        short = is.short;
      },
      (mapped_long space_row (kept_row is.state.kept) es, may_stay is.state is.lawful es),
    )

-- A snapshot is of at most one lawful state.

heads : (a b : Option NumberedReply) (xs ys : List (Option NumberedReply)) → a ∷ xs ≡ b ∷ ys → (a ≡ b) × (xs ≡ ys)
heads a b xs ys same = (cc same, cc same)

rows_alike : (one other : KeptReplies) (es : List (ℕ × Names)) → map (kept_row one) es ≡ map (kept_row other) es
    → All (λ (e : ℕ × Names). finmap.get one e.0 ≡ finmap.get other e.0) es
rows_alike one other [] same = All-nil (λ (e : ℕ × Names). finmap.get one e.0 ≡ finmap.get other e.0)
rows_alike one other (e ∷ es) same =
    let both = heads (kept_row one e) (kept_row other e) (map (kept_row one) es) (map (kept_row other) es) same in
    All-cons (λ (e : ℕ × Names). finmap.get one e.0 ≡ finmap.get other e.0) e es both.0
    (rows_alike one other es both.1)

gone_keeps_none : (state : State) (space : ℕ) → LawfulState state → finmap.get state.ipc.spaces space ≡ None
    → finmap.get state.kept space ≡ None
gone_keeps_none state space lawful gone = by (finmap.get state.kept space) refl
  where
    by : (o : Option NumberedReply) → finmap.get state.kept space ≡ o → finmap.get state.kept space ≡ None
    by None is = is
    by (Some kept) is = absurd (cc ((lawful.kept space kept is).0, ap is_some gone))

pub one_snapshot : (one other : State) → LawfulState one → LawfulState other → snapshot_of one ≡ snapshot_of other
    → one ≡ other
unfolding snapshot_of
one_snapshot one other lawful lawful_too same = λ i. record { ipc = ipc i; kept = kept i }
  where
    ipc : one.ipc ≡ other.ipc
    ipc = one_state one.ipc other.ipc (ap (λ (s : Snapshot). s.ipc) same)

    rows : map (kept_row one.kept) (finmap.entries one.ipc.spaces)
        ≡ map (kept_row other.kept) (finmap.entries one.ipc.spaces)
    rows =
        ap (λ (s : Snapshot). s.kept) same
        ∙ ap (λ (s : Ipc). map (kept_row other.kept) (finmap.entries s.spaces)) (sym ipc)

    at : (space : ℕ) → finmap.get one.kept space ≡ finmap.get other.kept space
    at space = by (finmap.get one.ipc.spaces space) refl
      where
        by : (o : Option Names) → finmap.get one.ipc.spaces space ≡ o
            → finmap.get one.kept space ≡ finmap.get other.kept space
        by (Some names) there =
            each_entry (λ (e : ℕ × Names). finmap.get one.kept e.0 ≡ finmap.get other.kept e.0) one.ipc.spaces space
            names (rows_alike one.kept other.kept (finmap.entries one.ipc.spaces) rows) there
        by None gone =
            gone_keeps_none one space lawful gone
            ∙ sym (gone_keeps_none other space lawful_too
            (ap (λ (s : Ipc). finmap.get s.spaces space) (sym ipc) ∙ gone))

    kept : one.kept ≡ other.kept
    kept = same_map nat_cmp_total nat_cmp-IsAntisymmetric _ _ at
