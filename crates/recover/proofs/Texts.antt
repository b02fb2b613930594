-- Images that are read from their slots.
use Rattle.std.proofs.Common.{true, ◌≡◌, ℕ, ◌≤◌, ◌<◌, ◌^◌, List, [], ◌∷◌, ◌++◌, length, take, drop, refl, sym, ap, subst, ◌∙◌, arith, append_assoc, length-append, take-append-drop, length-take, length-drop}
use Rattle.std.specs.Prelude.{◌-◌, All, Option, None, Some, is_some, map, min, slice_index}
use Rattle.std.specs.Cmp.{nat_cmp_total}
use Rattle.std.specs.Ordering.{nat_cmp}
use Rattle.std.specs.FinMap.{entries, get, get-empty, nat_cmp-IsAntisymmetric, same_map}
use Rattle.std.proofs.lemmas.List.Elements.{All-cons, All-head, All-map, All-nil, All-tail}
use Rattle.std.proofs.lemmas.List.{append-nil, drop-drop, take_at}
use Rattle.codes.specs.StoreVersion.{version_number}
use Rattle.codes.specs.declared.store_version.StoreVersion.{StoreVersion}
use Rattle.codes.specs.declared.store_version.StoreVersion.TheVariants.{One, Two}
use Rattle.ipc_laws.specs.RecoveryLaws.{same_version}
use Rattle.ipc_model.specs.declared.port.PortState.{PortState}
use Rattle.words.specs.WordLaws.{same_long_word}
use Rattle.words.specs.Words.{long_word}
use Rattle.ipc_model.specs.state.Circular.{Acyclic}
use Rattle.ipc_model.specs.state.Lawful.{ShortQueues}
use Rattle.ipc_model.specs.state.LawfulState.{LawfulState}
use Rattle.ipc_model.specs.declared.reply.NumberedReply.{NumberedReply}
use Rattle.ipc_model.specs.state.Ipc.{Names}
use Rattle.ipc_model.specs.state.State.{State}
use Rattle.ipc_model.specs.store.Recovery.{HasLimits, HoldsImage, IsImageIn, IsOfEpoch, KeepsWhatItMay, version_of}
use Rattle.ipc_model.specs.store.Store.{image_content_of, open_gate, segment_header_of}
use Rattle.ipc_model.specs.encodings.Images.{image_encoding_of}
use Rattle.image.specs.Fitting.{FitsImage, FitsKept, FitsRow}
use Rattle.image.specs.LawfulFits.{lawful_snapshots_fit}
use Rattle.image.specs.RowLaws.{image_of_state, kept_row, rows_same}
use Rattle.image.specs.Rows.{snapshot_encoding_of}
use Rattle.snapshot.specs.LawfulSnapshot.{IsLawfulSnapshot}
use Rattle.snapshot.specs.Rows.{all_entries, each_entry, port_row}
use Rattle.snapshot.specs.Snapshots.{ipc_snapshot_of, snapshot_of}
use Rattle.snapshot.specs.declared.rows.Snapshot.{Snapshot}
use Rattle.recover.specs.Loaded.{HasLimit, HoldsEncoding}
use Rattle.recover.proofs.Fronts.{header_version}

-- bytes that follow their length are unique
pub one_encoding : (a b x y : List ℕ) → length a < 2 ^ 64 → length b < 2 ^ 64
    → long_word (length a) ++ (a ++ x) ≡ long_word (length b) ++ (b ++ y) → a ≡ b
one_encoding a b x y fits fits_too is =
    let long : length a ≡ length b = same_long_word (length a) (length b) (a ++ x) (b ++ y) fits fits_too is in
    let beyond : a ++ x ≡ b ++ y = ap (λ (l : List ℕ). drop 8 l) is in
    sym (take_at a x (length b) long) ∙ ap (take (length b)) beyond ∙ take_at b y (length b) refl

-- the image of a state, and its encoding
pub image_after : (epoch : ℕ) (slot : List ℕ) (state : State)
    → (image : HoldsImage epoch slot state) → HoldsEncoding slot (image_encoding_of image.version state)
image_after epoch slot state image = record {
  rest = image.rest;
  fits = image.fits;
  beyond =
      ap (λ (l : List ℕ). drop 16 l) image.encoding
      ∙ append_assoc (long_word (length (image_encoding_of image.version state)))
      (image_encoding_of image.version state) image.rest;
}

pub encoding_is_image : (version : StoreVersion) (number epoch : ℕ) (slot encoding : List ℕ) (state : State)
    → version_of slot ≡ version_number version → IsOfEpoch number epoch slot
    → HoldsEncoding slot encoding → IsImageIn version encoding state → HoldsImage epoch slot state
encoding_is_image version number epoch slot encoding state says is holds image =
    let same : drop 16 slot ≡ is.rest = ap (λ (l : List ℕ). drop 16 l) is.encoding in
    let header : List ℕ = segment_header_of version open_gate epoch in
    let begins : slot ≡ header ++ is.rest =
    subst (λ (v : StoreVersion). slot ≡ segment_header_of v open_gate epoch ++ is.rest)
    (header_version number epoch slot version is says) is.encoding in
    let whole : slot ≡ header ++ (long_word (length encoding) ++ (encoding ++ holds.rest)) =
    begins ∙ ap (λ (l : List ℕ). header ++ l) (sym same ∙ holds.beyond) in
    record {
      version = version;
      rest = holds.rest;
      encoding =
          whole ∙ ap (λ (l : List ℕ). header ++ l)
          (sym (append_assoc (long_word (length encoding)) encoding holds.rest))
          ∙ ap (λ (t : List ℕ). (open_gate ∷ image_content_of version epoch t) ++ holds.rest) image.encoding_is;
      fits = subst (λ (t : List ℕ). length t < 2 ^ 64) image.encoding_is holds.fits;
      lawful = image.lawful;
      acyclic = image.acyclic;
      short = image.short;
      limits = image.limits;
      kept = image.kept;
    }

-- the word after a slot's header
pub word_read : (slot buffer old beyond : List ℕ) (n size : ℕ) → 24 ≤ length slot → length old ≡ 8
    → n ≡ min (length old) (length slot - 16) → buffer ≡ take n (drop 16 slot) ++ drop n old
    → buffer ≡ long_word size ++ beyond
    → (rest : List ℕ) × (drop 16 slot ≡ long_word size ++ rest)
word_read slot buffer old beyond n size long one count bytes found =
    let all : n ≡ 8 = omega (arith, long, one, count) in
    let none : drop 8 old ≡ [] = nothing (drop 8 old) (omega (arith, length-drop 8 old, one)) in
    let front : buffer ≡ take 8 (drop 16 slot) =
    bytes ∙ (λ i. take (all i) (drop 16 slot) ++ drop (all i) old) ∙ ap
    (λ (l : List ℕ). take 8 (drop 16 slot) ++ l) none ∙ append-nil (take 8 (drop 16 slot)) in (
      beyond ++ drop 8 (drop 16 slot),
      sym (take-append-drop 8 (drop 16 slot)) ∙ ap (λ (l : List ℕ). l ++ drop 8 (drop 16 slot)) (sym front ∙ found)
          ∙ append_assoc (long_word size) beyond (drop 8 (drop 16 slot)),
    )
  where
    nothing : (l : List ℕ) → length l ≡ 0 → l ≡ []
    nothing [] is = refl
    nothing (x ∷ l) is = absurd (omega (arith, is))

-- the encoding after a slot's whole header
pub encoding_read : (slot buffer old rest : List ℕ) (n size : ℕ) → drop 16 slot ≡ long_word size ++ rest → size < 2 ^ 64
    → size ≤ length slot - 24 → 24 ≤ length slot → length old ≡ size → n ≡ min (length old) (length slot - 24)
    → buffer ≡ take n (drop 24 slot) ++ drop n old → HoldsEncoding slot buffer
encoding_read slot buffer old rest n size word fits room long made count bytes =
    let all : n ≡ size = omega (arith, room, long, made, count) in
    let none : drop size old ≡ [] = nothing (drop size old) (omega (arith, length-drop size old, made)) in
    let front : buffer ≡ take size (drop 24 slot) =
    bytes ∙ (λ i. take (all i) (drop 24 slot) ++ drop (all i) old) ∙ ap
    (λ (l : List ℕ). take size (drop 24 slot) ++ l) none ∙ append-nil (take size (drop 24 slot)) in
    let sized : length buffer ≡ size =
    omega (arith, ap length front, length-take size (drop 24 slot), length-drop 24 slot, room, long) in
    let beyond : drop 24 slot ≡ rest = drop_more slot ∙ ap (λ (l : List ℕ). drop 8 l) word in
    record {
      rest = drop size (drop 24 slot);
      fits = omega (arith, sized, fits);
      beyond =
          word ∙ ap (λ (l : List ℕ). long_word size ++ l)
          (sym beyond ∙ sym (take-append-drop size (drop 24 slot)) ∙ ap
          (λ (l : List ℕ). l ++ drop size (drop 24 slot)) (sym front))
          ∙ ap (λ (k : ℕ). long_word k ++ (buffer ++ drop size (drop 24 slot))) (sym sized);
    }
  where
    nothing : (l : List ℕ) → length l ≡ 0 → l ≡ []
    nothing [] is = refl
    nothing (x ∷ l) is = absurd (omega (arith, is))

    drop_more : (l : List ℕ) → drop 24 l ≡ drop 8 (drop 16 l)
    drop_more l = sym (drop-drop 8 16 l)

-- the image of a lawful state, read as rows

pub image_fits : (version : StoreVersion) (encoding : List ℕ) (state : State) → IsImageIn version encoding state
    → FitsImage version (snapshot_of state)
image_fits version encoding state is = lawful_snapshots_fit version state is.lawful is.short is.kept

pub image_as_rows : (version : StoreVersion) (encoding : List ℕ) (state : State) → IsImageIn version encoding state
    → encoding ≡ snapshot_encoding_of version (snapshot_of state)
image_as_rows version encoding state is = is.encoding_is ∙ sym (image_of_state version state)

-- a fact about all mapped elements, as a fact about the elements
All-unmap : {X Y : Type 0} (P : X → Type 0) (f : Y → X) (ys : List Y) → All P (map f ys) → All (λ y. P (f y)) ys
All-unmap P f [] all = All-nil (λ y. P (f y))
All-unmap P f (y ∷ ys) all =
    All-cons (λ y. P (f y)) y ys (All-head P (f y) (map f ys) all) (All-unmap P f ys (All-tail P (f y) (map f ys) all))

-- the limits of a state's queues, in its rows
rows_have_limits : (version : StoreVersion) (state : State) → HasLimits version state
    → All (HasLimit version) (snapshot_of state).ipc.ports
unfolding snapshot_of ipc_snapshot_of
rows_have_limits version state limits =
    All-map (HasLimit version) port_row (entries state.ipc.ports)
    (all_entries (λ (e : ℕ × PortState). HasLimit version (port_row e)) state.ipc.ports limits)

limits_of_rows : (version : StoreVersion) (state : State) → All (HasLimit version) (snapshot_of state).ipc.ports
    → HasLimits version state
unfolding snapshot_of ipc_snapshot_of
limits_of_rows version state rows serial port at =
    each_entry (λ (e : ℕ × PortState). HasLimit version (port_row e)) state.ipc.ports serial port
    (All-unmap (HasLimit version) port_row (entries state.ipc.ports) rows) at

-- the kept replies that a version allows
none_kept : (state : State) → LawfulState state → All (FitsRow One) (map (kept_row state.kept) (entries state.ipc.spaces))
    → (space : ℕ) → get state.kept space ≡ None
none_kept state lawful rows space = by (get state.kept space) refl
  where
    at : (kept : NumberedReply) (there : Option Names) → get state.kept space ≡ Some kept
        → get state.ipc.spaces space ≡ there → is_some there ≡ true → ⊥
    at kept None is found there = absurd (cc there)
    at kept (Some names) is found there =
        subst (FitsKept One) is
        (each_entry (λ (e : ℕ × Names). FitsRow One (kept_row state.kept e)) state.ipc.spaces space names
        (All-unmap (FitsRow One) (kept_row state.kept) (entries state.ipc.spaces) rows) found).1

    by : (kept : Option NumberedReply) → get state.kept space ≡ kept → get state.kept space ≡ None
    by None is = is
    by (Some kept) is = absurd (at kept (get state.ipc.spaces space) is refl (lawful.kept space kept is).0)

kept_of_rows : (version : StoreVersion) (state : State) → LawfulState state → FitsImage version (snapshot_of state)
    → KeepsWhatItMay version state
unfolding snapshot_of ipc_snapshot_of
kept_of_rows One state lawful fits =
    same_map nat_cmp_total nat_cmp-IsAntisymmetric _ _ (λ (space : ℕ).
    none_kept state lawful (subst (All (FitsRow One)) (rows_same state.kept (entries state.ipc.spaces)) fits.spaces) space
    ∙ sym (get-empty nat_cmp space))
kept_of_rows Two state lawful fits = tt

pub rows_within : (version : StoreVersion) (encoding : List ℕ) (snapshot : Snapshot) (state : State)
    → snapshot ≡ snapshot_of state → IsImageIn version encoding state → All (HasLimit version) snapshot.ipc.ports
rows_within version encoding snapshot state same is =
    subst (λ (s : Snapshot). All (HasLimit version) s.ipc.ports) (sym same) (rows_have_limits version state is.limits)

pub rows_are_image : (version : StoreVersion) (encoding : List ℕ) (snapshot : Snapshot) (state : State)
    → encoding ≡ snapshot_encoding_of version snapshot → FitsImage version snapshot → snapshot ≡ snapshot_of state
    → LawfulState state → Acyclic state.ipc → ShortQueues state.ipc
    → All (HasLimit version) snapshot.ipc.ports → IsImageIn version encoding state
rows_are_image version encoding snapshot state is fits same lawful acyclic short within =
    record {
      encoding_is = is ∙ ap (snapshot_encoding_of version) same ∙ image_of_state version state;
      lawful = lawful;
      acyclic = acyclic;
      short = short;
      limits = limits_of_rows version state
          (subst (λ (s : Snapshot). All (HasLimit version) s.ipc.ports) same within);
      kept = kept_of_rows version state lawful (subst (FitsImage version) same fits);
    }

pub lawful_rows : (version : StoreVersion) (encoding : List ℕ) (snapshot : Snapshot) (state : State)
    → snapshot ≡ snapshot_of state → IsImageIn version encoding state → IsLawfulSnapshot snapshot
lawful_rows version encoding snapshot state same is =
    record { state = state; same = same; lawful = is.lawful; acyclic = is.acyclic; short = is.short }

-- a vector that was filled to its end
pub filled : (buffer items : List ℕ) (len : ℕ) → len ≡ length buffer
    → take len (buffer ++ drop (length buffer) items) ≡ buffer
filled buffer items len is = take_at buffer (drop (length buffer) items) len (sym is)

pub read_length : (slot buffer old : List ℕ) (n : ℕ) → n ≡ min (length old) (length slot - 24)
    → buffer ≡ take n (drop 24 slot) ++ drop n old → length buffer ≡ length old
read_length slot buffer old n count bytes =
    omega (
      arith,
      ap length bytes,
      length-append (take n (drop 24 slot)) (drop n old),
      length-take n (drop 24 slot),
      length-drop 24 slot,
      length-drop n old,
      count,
    )

-- the encoding in a slot with an image is the image's
pub encoding_of_image : (epoch : ℕ) (slot encoding : List ℕ) (state : State) → HoldsEncoding slot encoding
    → (image : HoldsImage epoch slot state) → IsImageIn image.version encoding state
encoding_of_image epoch slot encoding state holds image =
    let own = image_after epoch slot state image in
    record {
      encoding_is =
          one_encoding encoding (image_encoding_of image.version state) holds.rest own.rest holds.fits own.fits
          (sym holds.beyond ∙ own.beyond);
      lawful = image.lawful;
      acyclic = image.acyclic;
      short = image.short;
      limits = image.limits;
      kept = image.kept;
    }

-- an image's version is the one in its header
pub image_version : (epoch : ℕ) (slot : List ℕ) (state : State) (version : StoreVersion)
    → (image : HoldsImage epoch slot state) → version_of slot ≡ version_number version → image.version ≡ version
image_version epoch slot state version image says =
    same_version image.version version (sym (ap (λ (l : List ℕ). slice_index l 1) image.encoding) ∙ says)
