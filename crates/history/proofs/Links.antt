-- What notes of links show. f gives a note's cell, and g what it knows.
use Rattle.std.proofs.Common.{◌≡◌, ℕ, zero, suc, ◌+◌, ◌<◌, ◌≤◌, Option, Some, None, List, [], ◌∷◌, ◌++◌, length, map, take, drop, slice_get, IfSome, refl, ap, sym, ◌∙◌, arith, inl, inr}
use Rattle.std.specs.Option.{option_map}
use Rattle.std.proofs.lemmas.List.{map-append, length-map, drop_at, length-take-le}
use Rattle.std.proofs.lemmas.Option.{slice_get-map, slice_get_within, slice_get_cases}
use Rattle.history.specs.Blocks.{BlockNames, LinkValue, names_after, next_names, link_cells, known_links, AreLinks, IsPlace}
use Rattle.history.proofs.Places.{take_next}

-- two notes of one cell, in the words of their comparison
pub compared : {T : Type 0} (k : Option T) (m : Option (Option T)) (p q : T) → k ≡ Some q → m ≡ Some (Some p)
    → IfSome k (λ seen. IfSome m (λ known. IfSome known (λ own. own ≡ seen))) → p ≡ q
compared None m p q ek em h = absurd (cc ek)
compared (Some a) None p q ek em h = absurd (cc em)
compared (Some a) (Some None) p q ek em h = absurd (cc em)
compared (Some a) (Some (Some b)) p q ek em h = cc (ek, em, h)

pub links_long : (first : BlockNames) (noted : List ℕ) (known : List (Option LinkValue)) → AreLinks first noted known
    → length (known_links known) ≡ length known
links_long first noted known are = sym (ap length are.links ∙ length-map (known_links known) Some)

-- what the note at a place knows is the link there
pub link_at : (first : BlockNames) (noted : List ℕ) (known : List (Option LinkValue)) (i : ℕ)
    → AreLinks first noted known → i < length known
    → (l : LinkValue) × (slice_get known i ≡ Some (Some l)) × (slice_get (known_links known) i ≡ Some l)
link_at first noted known i are within =
    let links = known_links known in
    let long = links_long first noted known are in
    elim (slice_get_cases links i).1 [
      | inl here ↦ (
        here.0,
        ap (λ (l : List (Option LinkValue)). slice_get l i) are.links
            ∙ (slice_get-map Some links i ∙ ap (option_map Some) here.2),
        here.2,
      )
      | inr past ↦ absurd (omega arith)
    ]

link_cell_at : (here : BlockNames) (links : List LinkValue) (i : ℕ) → i < length links
    → slice_get (link_cells here links) i ≡ Some (names_after here (take i links)).link
link_cell_at here [] i within = absurd (omega arith)
link_cell_at here (l ∷ links) zero within = refl
link_cell_at here (l ∷ links) (suc i) within = link_cell_at l.next links i (omega arith)

link_cells-append : (here : BlockNames) (links : List LinkValue) (l : LinkValue)
    → link_cells here (links ++ l ∷ []) ≡ link_cells here links ++ (names_after here links).link ∷ []
link_cells-append here [] l = refl
link_cells-append here (k ∷ links) l = ap (λ rest. here.link ∷ rest) (link_cells-append k.next links l)

pub names_after-append : (here : BlockNames) (links : List LinkValue) (l : LinkValue)
    → names_after here (links ++ l ∷ []) ≡ l.next
names_after-append here [] l = refl
names_after-append here (k ∷ links) l = names_after-append k.next links l

known_links-append : (known : List (Option LinkValue)) (l : LinkValue)
    → known_links (known ++ Some l ∷ []) ≡ known_links known ++ l ∷ []
known_links-append [] l = refl
known_links-append (None ∷ known) l = known_links-append known l
known_links-append (Some k ∷ known) l = ap (λ rest. k ∷ rest) (known_links-append known l)

map_some-append : (xs : List LinkValue) (l : LinkValue) → map Some (xs ++ l ∷ []) ≡ map Some xs ++ Some l ∷ []
map_some-append [] l = refl
map_some-append (x ∷ xs) l = ap (λ rest. Some x ∷ rest) (map_some-append xs l)

module _ {X : Type 0} (f : X → ℕ) (g : X → Option LinkValue) (first : BlockNames) where
  -- a note is of the cell that comes after the links before it
  pub cell_at : (notes : List X) (i : ℕ) → AreLinks first (map f notes) (map g notes) → i < length notes
      → slice_get (map f notes) i ≡ Some (names_after first (take i (known_links (map g notes)))).link
  cell_at notes i are within =
      let links = known_links (map g notes) in
      ap (λ (l : List ℕ). slice_get l i) are.names
      ∙ link_cell_at first links i (omega
      (arith, links_long first (map f notes) (map g notes) are, length-map notes g))

  -- after the same links the next notes are of one cell
  pub same_link_cell : (mine theirs : List X) (x : X) (i : ℕ) → AreLinks first (map f mine) (map g mine)
      → AreLinks first (map f theirs) (map g theirs)
      → take i (known_links (map g mine)) ≡ take i (known_links (map g theirs)) → slice_get theirs i ≡ Some x
      → i < length mine → slice_get (map f mine) i ≡ Some (f x)
  same_link_cell mine theirs x i own other same at within =
      cell_at mine i own within
      ∙ (ap (λ (l : List LinkValue). Some (names_after first l).link) same
      ∙ (sym (cell_at theirs i other (slice_get_within theirs i x at))
      ∙ (slice_get-map f theirs i ∙ ap (option_map f) at)))

  -- and if the comparison says so, one more link is the same
  pub links_next : (mine theirs : List X) (x : X) (i : ℕ) → AreLinks first (map f mine) (map g mine)
      → AreLinks first (map f theirs) (map g theirs)
      → take i (known_links (map g mine)) ≡ take i (known_links (map g theirs)) → slice_get theirs i ≡ Some x
      → i < length mine
      → IfSome (g x) (λ seen. IfSome (slice_get (map g mine) i) (λ known. IfSome known (λ own. own ≡ seen)))
      → take (i + 1) (known_links (map g mine)) ≡ take (i + 1) (known_links (map g theirs))
  links_next mine theirs x i own other same at within clause =
      let here = link_at first (map f mine) (map g mine) i own (omega (arith, length-map mine g)) in
      let there =
      link_at first (map f theirs) (map g theirs) i other
      (omega (arith, length-map theirs g, slice_get_within theirs i x at)) in
      let knows : Some (g x) ≡ Some (Some there.0) =
      ap (option_map g) (sym at) ∙ (sym (slice_get-map g theirs i) ∙ there.1) in
      let one : here.0 ≡ there.0 = compared (g x) (slice_get (map g mine) i) here.0 there.0 (cc knows) here.1 clause in
      take_next i (known_links (map g mine)) here.0 here.2
      ∙ (ap (λ (l : List LinkValue). l ++ here.0 ∷ []) same
      ∙ (ap (λ (l : LinkValue). take i (known_links (map g theirs)) ++ l ∷ []) one
      ∙ sym (take_next i (known_links (map g theirs)) there.0 there.2)))

  pub links_more : (old new : List X) (x : X) (l : LinkValue) → new ≡ old ++ x ∷ [] → g x ≡ Some l
      → known_links (map g new) ≡ known_links (map g old) ++ l ∷ []
  links_more old new x l more knows =
      ap known_links (ap (map g) more
      ∙ (map-append g old (x ∷ []) ∙ ap (λ (k : Option LinkValue). map g old ++ k ∷ []) knows))
      ∙ known_links-append (map g old) l

  -- one more link
  pub are_links-more : (old new : List X) (x : X) (l : LinkValue) → AreLinks first (map f old) (map g old)
      → new ≡ old ++ x ∷ [] → f x ≡ (names_after first (known_links (map g old))).link → g x ≡ Some l
      → AreLinks first (map f new) (map g new)
  are_links-more old new x l are more at knows =
      let links = known_links (map g old) in
      let noted : map f new ≡ map f old ++ f x ∷ [] = ap (map f) more ∙ map-append f old (x ∷ []) in
      let known : map g new ≡ map g old ++ Some l ∷ [] =
      ap (map g) more ∙ (map-append g old (x ∷ []) ∙ ap (λ (k : Option LinkValue). map g old ++ k ∷ []) knows) in
      let all = links_more old new x l more knows in
      record {
        names = noted ∙ (ap (λ (l : List ℕ). l ++ f x ∷ []) are.names
            ∙ (ap (λ (c : ℕ). link_cells first links ++ c ∷ []) at
            ∙ (sym (link_cells-append first links l) ∙ ap (link_cells first) (sym all))));
        links =
            known ∙ (ap (λ (k : List (Option LinkValue)). k ++ Some l ∷ []) are.links
            ∙ (sym (map_some-append links l) ∙ ap (map Some) (sym all)));
      }

  -- where a block is left, its link's cell is the next one of the links that go on
  pub left_cell : (notes : List X) (links all : List LinkValue) (i cell : ℕ)
      → AreLinks first (map f notes) (map g notes) → known_links (map g notes) ≡ all → i ≡ length links
      → length links < length all
      → take (length links) all ≡ links → cell ≡ (names_after first links).link → slice_get (map f notes) i ≡ Some cell
  left_cell notes links all i cell are is at more begins same =
      let within : i < length notes =
      omega (arith, links_long first (map f notes) (map g notes) are, length-map notes g, ap length is) in
      let before : take i (known_links (map g notes)) ≡ links =
      ap (λ (n : ℕ). take n (known_links (map g notes))) at ∙ (ap (take (length links)) is ∙ begins) in
      cell_at notes i are within ∙
      (ap (λ (l : List LinkValue). Some (names_after first l).link) before ∙ ap Some (sym same))

  pub left_start : (notes : List X) (links all : List LinkValue) (i s : ℕ) (k : Option LinkValue)
      → AreLinks first (map f notes) (map g notes) → known_links (map g notes) ≡ all → i ≡ length links
      → length links < length all
      → option_map (λ (l : LinkValue). l.start) k ≡ Some s
      → IfSome k (λ seen. IfSome (slice_get (map g notes) i) (λ known. IfSome known (λ own. own ≡ seen)))
      → option_map (λ (l : LinkValue). l.start) (slice_get all (length links)) ≡ Some s
  left_start notes links all i s None are is at more starts clause = absurd (cc starts)
  left_start notes links all i s (Some k) are is at more starts clause =
      let here =
      link_at first (map f notes) (map g notes) i are
      (omega (arith, links_long first (map f notes) (map g notes) are, ap length is)) in
      let same : here.0 ≡ k = compared (Some k) (slice_get (map g notes) i) here.0 k refl here.1 clause in
      ap (λ (l : List LinkValue). option_map (λ (v : LinkValue). v.start) (slice_get l (length links))) (sym is)
      ∙ (ap (λ (n : ℕ). option_map (λ (v : LinkValue). v.start) (slice_get (known_links (map g notes)) n)) (sym at)
      ∙ (ap (option_map (λ (v : LinkValue). v.start)) here.2 ∙ (ap (λ (v : LinkValue). Some v.start) same ∙ starts)))

  -- the place after one more link
  pub begins_block : (old new : List X) (x : X) (l : LinkValue) (left block : BlockNames) (start long : ℕ)
      (links : List LinkValue) → IsPlace first left (map f old) (map g old) start → known_links (map g old) ≡ links
      → new ≡ old ++ x ∷ [] → f x ≡ left.link → g x ≡ Some l
      → l ≡ record { start = long; next = next_names (names_after first links) long block }
      → long ≤ length (names_after first links).cells
      → IsPlace first block (map f new) (map g new) long
  begins_block old new x l left block start long links is same more at knows tells fits =
      let next : names_after first (known_links (map g new)) ≡ next_names (names_after first links) long block =
      ap (names_after first) (links_more old new x l more knows)
      ∙ (names_after-append first (known_links (map g old)) l ∙ ap (λ (v : LinkValue). v.next) tells) in
      let cells = (names_after first links).cells in
      record {
        notes = are_links-more old new x l is.notes more (at ∙ is.here.same_link) knows;
        here = record {
          same_link = ap (λ (n : BlockNames). n.link) (sym next);
          same_cells =
              sym (drop_at (take long cells) block.cells long (length-take-le long cells fits)) ∙ ap
              (λ (n : BlockNames). drop long n.cells) (sym next);
        };
      }
