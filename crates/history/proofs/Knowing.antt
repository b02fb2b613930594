-- What notes of cells show. f gives a note's cell, and g what it knows.
use Rattle.std.proofs.Common.{◌≡◌, ℕ, ◌+◌, ◌-◌, ◌<◌, ◌≤◌, Option, Some, None, List, [], ◌∷◌, ◌++◌, length, map, take, drop, slice_get, is_some, true, IfSome, refl, ap, sym, ◌∙◌, subst, arith, inl, inr, length-append}
use Rattle.std.specs.Option.{option_map}
use Rattle.std.proofs.lemmas.List.{map-append, length-map, length-take, take-take, take-map, take-append-drop}
use Rattle.std.proofs.lemmas.Option.{slice_get-map, slice_get_within, slice_get_cases}
use Rattle.history.specs.Entries.{numbers_of, PlacedValue, place_after, placed, Begins}
use Rattle.history.specs.Blocks.{BlockNames, LinkValue, PlaceValue, names_after, IsBlockAt, Leads}
use Rattle.history.specs.Blocks as blocks
use Rattle.history.specs.Pasts.{known_entries, AreKnown, AreNotes, IsPast}
use Rattle.history.proofs.Places.{slice_get-take, slice_get-drop, take_next, drop_map}
use Rattle.history.proofs.Placed.{begins_at, length-placed_from, placed-append, placed-take, placed_from_at}
use Rattle.history.proofs.Links.{compared, names_after-append}
use Rattle.history.proofs.Leading.{take_front, leads_more, leads_next, leads_at, leads_cell}

map_some-append : (xs : List PlacedValue) (p : PlacedValue) → map Some (xs ++ p ∷ []) ≡ map Some xs ++ Some p ∷ []
map_some-append [] p = refl
map_some-append (x ∷ xs) p = ap (λ rest. Some x ∷ rest) (map_some-append xs p)

known_more : (known : List (Option PlacedValue)) (p : PlacedValue)
    → known_entries (known ++ Some p ∷ []) ≡ known_entries known ++ p.entry ∷ []
known_more [] p = refl
known_more (None ∷ known) p = known_more known p
known_more (Some q ∷ known) p = ap (λ rest. q.entry ∷ rest) (known_more known p)

pub known_long : (known : List (Option PlacedValue)) → AreKnown known → length (known_entries known) ≡ length known
known_long known are =
    let entries = known_entries known in
    sym (ap length are ∙ (length-map (placed entries) Some ∙ length-placed_from [] entries))

known_at : (known : List (Option PlacedValue)) (i : ℕ) → AreKnown known → i < length known → (p : PlacedValue)
    × (slice_get known i ≡ Some (Some p)) × (slice_get (placed (known_entries known)) i ≡ Some p)
known_at known i are within =
    let entries = known_entries known in
    let long = known_long known are in
    elim (slice_get_cases (placed entries) i).1 [
      | inl here ↦ (
        here.0,
        ap (λ (l : List (Option PlacedValue)). slice_get l i) are
            ∙ (slice_get-map Some (placed entries) i ∙ ap (option_map Some) here.2),
        here.2,
      )
      | inr past ↦ absurd (omega (arith, length-placed_from [] entries))
    ]

pub name_at : (cells noted : List ℕ) (known : List (Option PlacedValue)) (i : ℕ) → AreNotes cells noted known
    → i < length noted → slice_get noted i ≡ slice_get cells i
name_at cells noted known i are within =
    ap (λ (l : List ℕ). slice_get l i) are.names ∙ slice_get-take (length noted) i cells within

pub noted_fits : (cells noted : List ℕ) (known : List (Option PlacedValue)) → AreNotes cells noted known
    → length noted ≤ length cells
noted_fits cells noted known are = omega (arith, ap length are.names, length-take (length noted) cells)

-- the note of the next cell, which knows an entry with all entries before it
notes_more : (cells noted : List ℕ) (known : List (Option PlacedValue)) (name : ℕ) (p : PlacedValue)
    → AreNotes cells noted known
    → slice_get cells (length noted) ≡ Some name → p.before ≡ numbers_of (known_entries known)
    → AreNotes cells (noted ++ name ∷ []) (known ++ Some p ∷ [])
notes_more cells noted known name p are at before =
    let entries = known_entries known in
    let here : place_after entries p.entry ≡ p =
    ap (λ (b : List ℕ). let v : PlacedValue = record { entry = p.entry; before = b } in v) (sym before) in
    record {
      names =
          ap (λ (l : List ℕ). l ++ name ∷ []) are.names
          ∙ (sym (take_next (length noted) cells name at) ∙ ap
          (λ n. take n cells) (sym (length-append noted (name ∷ []))));
      entries = ap (λ (l : List (Option PlacedValue)). l ++ Some p ∷ []) are.entries
          ∙ (ap (λ (v : PlacedValue). map Some (placed entries) ++ Some v ∷ []) (sym here)
          ∙ (sym (map_some-append (placed entries) (place_after entries p.entry))
          ∙ (ap (map Some) (sym (placed-append entries p.entry)) ∙ ap
          (λ es. map Some (placed es)) (sym (known_more known p)))));
    }

-- a place of the block, among those of all blocks
pub block_cell : (first block : BlockNames) (links : List LinkValue) (start at : ℕ) → IsBlockAt first links start block
    → start ≤ at → slice_get block.cells (at - start) ≡ slice_get (names_after first links).cells at
block_cell first block links start at is less =
    ap (λ (l : List ℕ). slice_get l (at - start)) is.same_cells
    ∙ (slice_get-drop start (at - start) (names_after first links).cells
    ∙ ap (slice_get (names_after first links).cells) (omega arith))

module _ {X : Type 0} (f : X → ℕ) (g : X → Option PlacedValue) where
  pub entries_more : (old new : List X) (x : X) (p : PlacedValue) → new ≡ old ++ x ∷ [] → g x ≡ Some p
      → known_entries (map g new) ≡ known_entries (map g old) ++ p.entry ∷ []
  entries_more old new x p more knows =
      ap known_entries (ap (map g) more
      ∙ (map-append g old (x ∷ []) ∙ ap (λ (k : Option PlacedValue). map g old ++ k ∷ []) knows))
      ∙ known_more (map g old) p

  -- one more entry
  pub past_more : (first : BlockNames) (place : PlaceValue) (old new : List X) (x : X) (p : PlacedValue)
      → IsPast first place (map f old) (map g old) → new ≡ old ++ x ∷ []
      → slice_get (names_after first place.links).cells (length old) ≡ Some (f x) → g x ≡ Some p
      → p.before ≡ numbers_of (known_entries (map g old)) → IsPast first place (map f new) (map g new)
  past_more first place old new x p is more at knows before =
      let cells = (names_after first place.links).cells in
      let noted : map f new ≡ map f old ++ f x ∷ [] = ap (map f) more ∙ map-append f old (x ∷ []) in
      let known : map g new ≡ map g old ++ Some p ∷ [] =
      ap (map g) more ∙ (map-append g old (x ∷ []) ∙ ap (λ (k : Option PlacedValue). map g old ++ k ∷ []) knows) in
      let long : length (map f old) ≡ length old = length-map old f in
      let grown = notes_more cells (map f old) (map g old) (f x) p is.notes (ap (slice_get cells) long ∙ at) before in
      let longer : length (map f new) ≡ length (map f old) + 1 =
      ap length noted ∙ length-append (map f old) (f x ∷ []) in
      record {
        notes =
            subst (λ (l : List ℕ). AreNotes cells l (map g new)) (sym noted)
            (subst (λ (l : List (Option PlacedValue)). AreNotes cells (map f old ++ f x ∷ []) l) (sym known) grown);
        leads = leads_more first place.links cells (length (map f old)) (length (map f new)) is.leads (omega arith);
        begun = omega (arith, is.begun);
      }

  -- two prefixes, by what the notes of the last cell of one of them show
  pub begins_by : (mine theirs : List X) (x : X) (i : ℕ) → AreKnown (map g mine) → AreKnown (map g theirs)
      → slice_get theirs i ≡ Some x
      → i < length mine → IfSome (g x)
      (λ seen. IfSome (slice_get (map g mine) i) (λ known. IfSome known (λ own. own ≡ seen)))
      → (length mine ≡ i + 1 → Begins (known_entries (map g mine)) (known_entries (map g theirs)))
      × (length theirs ≡ i + 1 → Begins (known_entries (map g theirs)) (known_entries (map g mine)))
  begins_by mine theirs x i own other at within clause =
      let here = known_at (map g mine) i own (omega (arith, length-map mine g)) in
      let there =
      known_at (map g theirs) i other (omega (arith, length-map theirs g, slice_get_within theirs i x at)) in
      let knows : Some (g x) ≡ Some (Some there.0) =
      ap (option_map g) (sym at) ∙ (sym (slice_get-map g theirs i) ∙ there.1) in
      let same : here.0 ≡ there.0 =
      compared (g x) (slice_get (map g mine) i) here.0 there.0 (cc knows) here.1 clause in (
        λ (long : length mine ≡ i + 1). begins_at (known_entries (map g mine))
            (known_entries (map g theirs)) i here.0 there.0
            (known_long (map g mine) own ∙ (length-map mine g ∙ long)) here.2 there.2 same,
        λ (long : length theirs ≡ i + 1). begins_at (known_entries (map g theirs))
            (known_entries (map g mine)) i there.0 here.0
            (known_long (map g theirs) other ∙ (length-map theirs g ∙ long)) there.2 here.2 (sym same),
      )

-- the next entry block
pub past_next : (first block : BlockNames) (place : PlaceValue) (noted : List ℕ) (known : List (Option PlacedValue))
    (long : ℕ) → IsPast first place noted known → long ≡ length noted
    → IsPast first (blocks.place_after first place long block) noted known
past_next first block place noted known long is at =
    let here = names_after first place.links in
    let fits = noted_fits here.cells noted known is.notes in
    let last : LinkValue = record { start = long; next = blocks.next_names here long block } in
    let names : names_after first (place.links ++ last ∷ []) ≡ last.next = names_after-append first place.links last in
    let cells : (names_after first (place.links ++ last ∷ [])).cells ≡ take long here.cells ++ block.cells =
    ap (λ (n : BlockNames). n.cells) names in
    record {
      notes = record {
        names =
            is.notes.names ∙ (sym (take_front (length noted) long here.cells block.cells (omega arith) (omega arith))
            ∙ ap (take (length noted)) (sym cells));
        entries = is.notes.entries;
      };
      leads = subst (λ (l : List ℕ). Leads first (place.links ++ last ∷ []) l (length noted)) (sym cells)
          (subst (λ (n : ℕ). Leads first (place.links ++ last ∷ []) (take long here.cells ++ block.cells) n) at
          (leads_next first place.links here.cells block.cells long last
          (subst (λ (n : ℕ). Leads first place.links here.cells n) (sym at) is.leads) refl refl (omega arith)));
      begun = omega arith;
    }

-- Up to where a block was left, its notes are of the same cells as the notes of pasts that went on.
pub beyond : (first : BlockNames) (mine theirs : List LinkValue) (own other : List ℕ)
    (known others : List (Option PlacedValue)) (s : ℕ) → AreNotes (names_after first mine).cells own known
    → AreNotes (names_after first theirs).cells other others
    → Leads first theirs (names_after first theirs).cells (length other) → take (length mine) theirs ≡ mine
    → option_map (λ (l : LinkValue). l.start) (slice_get theirs (length mine)) ≡ Some s → (s ≤ length other)
    × ((i : ℕ) → i < length own → i < s → slice_get own i ≡ slice_get other i)
beyond first mine theirs own other known others s are go leads begins starts =
    let cells = (names_after first theirs).cells in
    let left = leads_at first theirs cells (length other) (length mine) s leads starts in (
      left.0,
      λ (i : ℕ) (within : i < length own) (less : i < s). name_at (names_after first mine).cells own known i are within
          ∙ (ap (λ (l : List LinkValue). slice_get (names_after first l).cells i) (sym begins)
          ∙ (leads_cell first theirs cells (length other) (length mine) s i leads starts less
          ∙ sym (name_at cells other others i go (omega (arith, left.0))))),
    )

-- in the same block the notes are of the same cells
pub alongside : (first : BlockNames) (mine theirs : List LinkValue) (own other : List ℕ)
    (known others : List (Option PlacedValue)) (i : ℕ) → AreNotes (names_after first mine).cells own known
    → AreNotes (names_after first theirs).cells other others → mine ≡ theirs → i < length own → i < length other
    → slice_get own i ≡ slice_get other i
alongside first mine theirs own other known others i are go same within inside =
    name_at (names_after first mine).cells own known i are within
    ∙ (ap (λ (l : List LinkValue). slice_get (names_after first l).cells i) same
    ∙ sym (name_at (names_after first theirs).cells other others i go inside))

module _ {X : Type 0} (f : X → ℕ) (g : X → Option PlacedValue) where
  -- the note at a place knows the entry there
  pub known_entry : (notes : List X) (x : X) (i : ℕ) → AreKnown (map g notes) → slice_get notes i ≡ Some x
      → (slice_get (known_entries (map g notes)) i ≡ option_map (λ p. p.entry) (g x))
      × (is_some (option_map (λ p. p.entry) (g x)) ≡ true)
  known_entry notes x i are at =
      let here = known_at (map g notes) i are (omega (arith, length-map notes g, slice_get_within notes i x at)) in
      let one : Some (g x) ≡ Some (Some here.0) =
      ap (option_map g) (sym at) ∙ (sym (slice_get-map g notes i) ∙ here.1) in
      let known : g x ≡ Some here.0 = cc one in (
        (placed_from_at [] (known_entries (map g notes)) i here.0 here.2).0
            ∙ ap (option_map (λ (p : PlacedValue). p.entry)) (sym known),
        ap (λ (o : Option PlacedValue). is_some (option_map (λ (p : PlacedValue). p.entry) o)) known,
      )

  pub seen_cell : (first block : BlockNames) (links : List LinkValue) (start i : ℕ) (notes : List X) (x : X)
      → IsBlockAt first links start block → AreNotes (names_after first links).cells (map f notes) (map g notes)
      → slice_get notes (start + i) ≡ Some x → slice_get block.cells i ≡ Some (f x)
  seen_cell first block links start i notes x is are at =
      let cells = (names_after first links).cells in
      ap (λ (l : List ℕ). slice_get l i) is.same_cells
      ∙ (slice_get-drop start i cells
      ∙ (sym (name_at cells (map f notes) (map g notes) (start + i) are
      (omega (arith, length-map notes f, slice_get_within notes (start + i) x at)))
      ∙ (slice_get-map f notes (start + i) ∙ ap (option_map f) at)))

  -- notes of the same cells that know a prefix, and then those that the others have more
  grown : (mine theirs new : List X) → AreKnown (map g mine) → AreKnown (map g theirs)
      → map f mine ≡ take (length mine) (map f theirs)
      → Begins (known_entries (map g mine)) (known_entries (map g theirs))
      → new ≡ mine ++ drop (length mine) theirs → (map f new ≡ map f theirs) × (map g new ≡ map g theirs)
  grown mine theirs new own other cells begins more =
      let all = known_entries (map g theirs) in
      let n = length mine in
      let long : length (known_entries (map g mine)) ≡ n = known_long (map g mine) own ∙ length-map mine g in
      let front : known_entries (map g mine) ≡ take n all = sym begins ∙ ap (λ (k : ℕ). take k all) long in
      let lie : placed (known_entries (map g mine)) ≡ take n (placed all) = ap placed front ∙ placed-take all n in
      let known_front : map g mine ≡ take n (map g theirs) =
      own ∙ (ap (map Some) lie ∙ (sym (take-map Some n (placed all)) ∙ ap (take n) (sym other))) in (
        ap (map f) more ∙ (map-append f mine (drop n theirs) ∙ (ap (λ (l : List ℕ). l ++ map f (drop n theirs)) cells
            ∙ (ap (λ (l : List ℕ). take n (map f theirs) ++ l) (sym (drop_map f n theirs))
            ∙ take-append-drop n (map f theirs)))),
        ap (map g) more ∙ (map-append g mine (drop n theirs)
            ∙ (ap (λ (l : List (Option PlacedValue)). l ++ map g (drop n theirs)) known_front
            ∙ (ap (λ (l : List (Option PlacedValue)). take n (map g theirs) ++ l) (sym (drop_map g n theirs))
            ∙ take-append-drop n (map g theirs)))),
      )

  -- what another past has more in the same block
  pub learned : (first : BlockNames) (place other : PlaceValue) (mine theirs new : List X)
      → IsPast first place (map f mine) (map g mine) → IsPast first other (map f theirs) (map g theirs)
      → place.links ≡ other.links
      → length mine ≤ length theirs → Begins (known_entries (map g mine)) (known_entries (map g theirs))
      → new ≡ mine ++ drop (length mine) theirs → IsPast first place (map f new) (map g new)
      × (known_entries (map g new) ≡ known_entries (map g theirs))
  learned first place other mine theirs new is are links less begins more =
      let n = length mine in
      let cells = (names_after first place.links).cells in
      let theirs_noted : map f theirs ≡ take (length (map f theirs)) cells =
      are.notes.names ∙ ap (λ (l : List LinkValue). take (length (map f theirs)) (names_after first l).cells)
      (sym links) in
      let noted_front : map f mine ≡ take n (map f theirs) =
      is.notes.names ∙ (ap (λ (k : ℕ). take k cells) (length-map mine f)
      ∙ (sym (take-take n (length (map f theirs)) cells (omega (arith, length-map theirs f)))
      ∙ ap (take n) (sym theirs_noted))) in
      let same = grown mine theirs new is.notes.entries are.notes.entries noted_front begins more in
      let whole : IsPast first place (map f theirs) (map g theirs) = record {
        notes =
            subst (λ (l : List LinkValue). AreNotes (names_after first l).cells (map f theirs) (map g theirs))
            (sym links) are.notes;
        leads =
            subst (λ (l : List LinkValue). Leads first l (names_after first l).cells (length (map f theirs)))
            (sym links) are.leads;
        begun = omega (arith, is.begun, length-map mine f, length-map theirs f);
      } in (
        subst (λ (l : List ℕ). IsPast first place l (map g new)) (sym same.0)
            (subst (λ (l : List (Option PlacedValue)). IsPast first place (map f theirs) l) (sym same.1) whole),
        ap known_entries same.1,
      )

  -- what another past has more, with its place
  pub followed : (first : BlockNames) (other : PlaceValue) (mine theirs new : List X) → AreKnown (map g mine)
      → IsPast first other (map f theirs) (map g theirs)
      → map f mine ≡ take (length mine) (map f theirs)
      → Begins (known_entries (map g mine)) (known_entries (map g theirs)) → new ≡ mine ++ drop (length mine) theirs
      → IsPast first other (map f new) (map g new) × (known_entries (map g new) ≡ known_entries (map g theirs))
  followed first other mine theirs new own are cells begins more =
      let same = grown mine theirs new own are.notes.entries cells begins more in (
        subst (λ (l : List ℕ). IsPast first other l (map g new)) (sym same.0)
            (subst (λ (l : List (Option PlacedValue)). IsPast first other (map f theirs) l) (sym same.1) are),
        ap known_entries same.1,
      )

  -- the same place and notes once more
  pub again : (first : BlockNames) (place other : PlaceValue) (mine new : List X)
      → IsPast first place (map f mine) (map g mine) → other ≡ place → new ≡ mine
      → IsPast first other (map f new) (map g new)
  again first place other mine new is same more =
      subst (λ (l : List X). IsPast first other (map f l) (map g l)) (sym more)
      (subst (λ (p : PlaceValue). IsPast first p (map f mine) (map g mine)) (sym same) is)

-- up to where a block was left, the notes are of the first cells of pasts that went on
pub front_cells : (first : BlockNames) (mine theirs : List LinkValue) (own other : List ℕ)
    (known others : List (Option PlacedValue)) (s : ℕ) → AreNotes (names_after first mine).cells own known
    → AreNotes (names_after first theirs).cells other others
    → Leads first theirs (names_after first theirs).cells (length other) → take (length mine) theirs ≡ mine
    → option_map (λ (l : LinkValue). l.start) (slice_get theirs (length mine)) ≡ Some s → length own ≤ s
    → own ≡ take (length own) other
front_cells first mine theirs own other known others s are go leads begins starts less =
    let n = length own in
    let cells = (names_after first theirs).cells in
    let left = leads_at first theirs cells (length other) (length mine) s leads starts in
    let before : take s (names_after first mine).cells ≡ take s cells =
    ap (λ (l : List LinkValue). take s (names_after first l).cells) (sym begins) ∙ left.1 in
    are.names ∙ (sym (take-take n s (names_after first mine).cells less)
    ∙ (ap (take n) before ∙ (take-take n s cells less
    ∙ (sym (take-take n (length other) cells (omega (arith, left.0))) ∙ ap (take n) (sym go.names)))))
