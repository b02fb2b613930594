-- Entry blocks, each a row of cells, and how each one leads to the next.
use Rattle.std.specs.Prelude.{◌≡◌, ℕ, ◌≤◌, Option, Some, None, List, [], ◌∷◌, ◌++◌, map, take, drop, refl}
use Rattle.std.specs.Coded.{Coded, code_by, coded×, coded_ℕ, coded_list}

-- The names of an entry block's cells: of its link, which names the next block, and of those of its entries. Where
-- blocks follow one another, the cells are those of all entries so far, followed by the block's.
pub record BlockNames : Type 0 where
  pub link : ℕ
  pub cells : List ℕ

abbrev pub names_code : Coded BlockNames
names_code =
    code_by (ℕ × List ℕ) (coded× coded_ℕ (coded_list coded_ℕ)) (λ n. (n.link, n.cells))
    (λ p. record { link = p.0; cells = p.1 }) (λ _. refl)

-- names as numbers, and back
abbrev pub numbers_of_names : BlockNames → List ℕ
numbers_of_names names = names.link ∷ names.cells

abbrev pub names_of_numbers : List ℕ → BlockNames
names_of_numbers [] = record { link = 0; cells = [] }
names_of_numbers (link ∷ cells) = record { link = link; cells = cells }

-- what a link says: how many entries there were when its block was left, and the names from then on
pub record LinkValue : Type 0 where
  pub start : ℕ
  pub next : BlockNames

abbrev pub link_code : Coded LinkValue
link_code =
    code_by (ℕ × BlockNames) (coded× coded_ℕ names_code) (λ l. (l.start, l.next))
    (λ p. record { start = p.0; next = p.1 }) (λ _. refl)

-- the names after this many entries, where this block comes next
abbrev pub next_names : BlockNames → ℕ → BlockNames → BlockNames
next_names here long block = record { link = block.link; cells = take long here.cells ++ block.cells }

-- the names after these links
abbrev pub names_after : BlockNames → List LinkValue → BlockNames
names_after here [] = here
names_after here (l ∷ links) = names_after l.next links

-- the cells where links lie
abbrev pub link_cells : BlockNames → List LinkValue → List ℕ
link_cells here [] = []
link_cells here (l ∷ links) = here.link ∷ link_cells l.next links

-- the links that notes know
abbrev pub known_links : List (Option LinkValue) → List LinkValue
known_links [] = []
known_links (None ∷ known) = known_links known
known_links (Some l ∷ known) = l ∷ known_links known

-- There is a note for each link, from the first block on. It knows the link.
pub record AreLinks (first : BlockNames) (noted : List ℕ) (known : List (Option LinkValue)) : Type 0 where
  pub names : noted ≡ link_cells first (known_links known)
  pub links : known ≡ map Some (known_links known)

-- A place in the history: the links that led there, where its block begins, and the names of that block.
pub record PlaceValue : Type 0 where
  pub links : List LinkValue
  pub start : ℕ
  pub block : BlockNames

abbrev pub place_code : Coded PlaceValue
place_code =
    code_by (List LinkValue × (ℕ × BlockNames)) (coded× (coded_list link_code) (coded× coded_ℕ names_code))
    (λ p. (p.links, (p.start, p.block))) (λ p. record { links = p.0; start = p.1.0; block = p.1.1 }) (λ _. refl)

-- this is the block after these links
pub record IsBlockAt (first : BlockNames) (links : List LinkValue) (start : ℕ) (block : BlockNames) : Type 0 where
  pub same_link : block.link ≡ (names_after first links).link
  pub same_cells : block.cells ≡ drop start (names_after first links).cells

-- Of a place: its notes know the links, and its block is the one that they lead to.
pub record IsPlace (first block : BlockNames) (noted : List ℕ) (known : List (Option LinkValue))
    (start : ℕ) : Type 0 where
  pub notes : AreLinks first noted known
  pub here : IsBlockAt first (known_links known) start block

-- the place after the next block
abbrev pub place_after : BlockNames → PlaceValue → ℕ → BlockNames → PlaceValue
place_after first place long block =
    record {
      links = place.links ++
          (record { start = long; next = next_names (names_after first place.links) long block } ∷ []);
      start = long;
      block = block;
    }

-- Each link was made after entries that are still there, in the same cells.
abbrev pub Leads : BlockNames → List LinkValue → List ℕ → ℕ → Type 0
Leads here [] cells long = Unit {0}
Leads here (l ∷ links) cells long =
    (l.start ≤ long) × (take l.start here.cells ≡ take l.start cells) × Leads l.next links cells long
