-- Values that are decoded from the front of bytes, one after another.
use Rattle.std.specs.Prelude.{◌≡◌, ℕ, ◌+◌, ◌<◌, List, [], ◌∷◌, ◌++◌, length, flat_map, All, Option, None, Some, IfSome, IsSomeAnd, refl}
use Rattle.std.proofs.Common.{Bor, sym, ◌∙◌, ap, subst, arith, append_assoc, length-append}
use Rattle.std.proofs.lemmas.Grind.{flat_map-append}
use Rattle.std.proofs.lemmas.List.{append-nil}
use Rattle.std.proofs.lemmas.List.Elements.{All-nil, All-cons, All-head, All-tail, All-append}

module _ {A : Type 0} (encoding : A → List ℕ) (fits : A → Type 0) where
  -- The bytes encode this many values, followed by `end`.
  abbrev pub Encodes : List ℕ → ℕ → List A → List ℕ → Type 0
  Encodes bytes count rows end = All fits rows × (length rows ≡ count) × (bytes ≡ flat_map encoding rows ++ end)

  -- Values were decoded, and these bytes are left. If the whole encodes this many values in any way, the decoded ones
  -- are the first of them, and the bytes left encode the others.
  pub record Taken (whole : List ℕ) (count : ℕ) (rows : List A) (left : List ℕ) : Type 0 where
    pub joined : whole ≡ flat_map encoding rows ++ left
    pub fit : All fits rows
    pub only : (all : List A) (end : List ℕ) → Encodes whole count all end → (more : List A) × (all ≡ rows ++ more)
        × All fits more × (left ≡ flat_map encoding more ++ end)

  -- The bytes begin with this value and no other.
  abbrev pub Leads : List ℕ → A → List ℕ → Type 0
  Leads bytes row beyond =
      (bytes ≡ encoding row ++ beyond) × fits row
      × ((value : A) (rest : List ℕ) → fits value → bytes ≡ encoding value ++ rest → (row ≡ value)
      × (beyond ≡ rest))

  -- The bytes begin with no value.
  abbrev pub LeadsNone : List ℕ → Type 0
  LeadsNone bytes = (value : A) (rest : List ℕ) → fits value → bytes ≡ encoding value ++ rest → ⊥

  pub none_taken : (whole : List ℕ) (count : ℕ) → Taken whole count [] whole
  none_taken whole count = record {
    joined = refl;
    fit = All-nil fits;
    only = λ (all : List A) (end : List ℕ) (encodes : _). (all, refl, encodes.0, encodes.2);
  }

  -- if fewer values were decoded than there are, some are left
  some_left : (rows more all : List A) (count : ℕ) → all ≡ rows ++ more → length all ≡ count → length rows < count
      → more ≡ [] → ⊥
  some_left rows more all count joined long fewer none =
      omega (arith, fewer, long, ap length joined, length-append rows more, ap length none)

  pub one_more : (whole : List ℕ) (count : ℕ) (rows : List A) (left : List ℕ) (row : A) (beyond : List ℕ)
      → length rows < count
      → Taken whole count rows left → Leads left row beyond → Taken whole count (rows ++ row ∷ []) beyond
  one_more whole count rows left row beyond fewer taken leads = record {
    joined = taken.joined ∙ ap (λ (l : List ℕ). flat_map encoding rows ++ l) leads.0
        ∙ sym (append_assoc (flat_map encoding rows) (encoding row) beyond)
        ∙ ap (λ (l : List ℕ). (flat_map encoding rows ++ l) ++ beyond) (sym (append-nil (encoding row)))
        ∙ ap (λ (l : List ℕ). l ++ beyond) (sym (flat_map-append encoding rows (row ∷ [])));
    fit = All-append fits rows (row ∷ []) taken.fit (All-cons fits row [] leads.1 (All-nil fits));
    only = λ (all : List A) (end : List ℕ) (encodes : _).
        let was = taken.only all end encodes in
        elim was.0 as (λ (more : List A). all ≡ rows ++ more → All fits more → left ≡ flat_map encoding more ++ end
        → (others : List A) × (all ≡ (rows ++ row ∷ []) ++ others) × All fits others
        × (beyond ≡ flat_map encoding others ++ end)) [
          | [] ↦ λ (joined : _) (_ : _) (_ : _). absurd (some_left rows [] all count joined encodes.1 fewer refl)
          | value ∷ others ↦ λ (joined : _) (fit : _) (is : _).
              let same =
              leads.2 value (flat_map encoding others ++ end) (All-head fits value others fit)
              (is ∙ append_assoc (encoding value) (flat_map encoding others) end) in (
                others,
                joined ∙ ap (λ (v : A). rows ++ v ∷ others) (sym same.0) ∙ sym (append_assoc rows (row ∷ []) others),
                All-tail fits value others fit,
                same.1,
              )
        ] was.1 was.2 was.3;
  }

  -- if the bytes left begin with no value, the whole doesn't encode this many
  pub too_few : (whole : List ℕ) (count : ℕ) (rows : List A) (left : List ℕ) → length rows < count
      → Taken whole count rows left → LeadsNone left
      → (all : List A) (end : List ℕ) → Encodes whole count all end → ⊥
  too_few whole count rows left fewer taken none all end encodes =
      let was = taken.only all end encodes in
      elim was.0 as (λ (more : List A). all ≡ rows ++ more → All fits more → left ≡ flat_map encoding more ++ end → ⊥) [
        | [] ↦ λ (joined : _) (_ : _) (_ : _). some_left rows [] all count joined encodes.1 fewer refl
        | value ∷ others ↦ λ (joined : _) (fit : _) (is : _).
            none value (flat_map encoding others ++ end) (All-head fits value others fit)
            (is ∙ append_assoc (encoding value) (flat_map encoding others) end)
      ] was.1 was.2 was.3

  -- if all values were decoded, they are the ones that the whole encodes
  pub all_taken : (whole : List ℕ) (count : ℕ) (rows : List A) (left : List ℕ) → length rows ≡ count
      → Taken whole count rows left
      → (all : List A) (end : List ℕ) → Encodes whole count all end → (rows ≡ all) × (left ≡ end)
  all_taken whole count rows left long taken all end encodes =
      let was = taken.only all end encodes in
      elim was.0 as (λ (more : List A). all ≡ rows ++ more → left ≡ flat_map encoding more ++ end → (rows ≡ all)
      × (left ≡ end)) [
        | [] ↦ λ (joined : _) (is : _). (sym (joined ∙ append-nil rows), is)
        | value ∷ others ↦ λ (joined : _) (_ : _). absurd
            (omega (arith, long, encodes.1, ap length joined, length-append rows (value ∷ others)))
      ] was.1 was.3

  -- The result of the reader of one value.
  abbrev pub Reads : List ℕ → Option (A × Bor (List ℕ)) → Type 0
  Reads bytes found =
      IfSome found (λ r. (bytes ≡ encoding r.0 ++ r.1.now) × fits r.0)
      × ((value : A) (rest : List ℕ) → fits value → bytes ≡ encoding value ++ rest
      → IsSomeAnd found (λ r. (r.0 ≡ value) × (r.1.now ≡ rest)))

  pub leads_some : (bytes : List ℕ) (found : Option (A × Bor (List ℕ))) (row : A) (beyond : Bor (List ℕ))
      → found ≡ Some (row, beyond) → Reads bytes found → Leads bytes row beyond.now
  leads_some bytes found row beyond is reads = let some = subst (Reads bytes) is reads in (some.0.0, some.0.1, some.1)

  pub leads_none : (bytes : List ℕ) (found : Option (A × Bor (List ℕ))) → found ≡ None → Reads bytes found
      → LeadsNone bytes
  leads_none bytes found is reads = (subst (Reads bytes) is reads).1

  -- The loop invariant of the reader: this many values were decoded.
  abbrev pub TakenSoFar : List ℕ → ℕ → List A → List ℕ → ℕ → Type 0
  TakenSoFar whole count rows left taken = Taken whole count rows left × (length rows ≡ taken)

  pub none_so_far : (whole : List ℕ) (count : ℕ) (rows : List A) → rows ≡ [] → TakenSoFar whole count rows whole 0
  none_so_far whole count rows none =
      subst (λ (rows : List A). TakenSoFar whole count rows whole 0) (sym none) (none_taken whole count, refl)

  pub one_more_so_far : (whole : List ℕ) (count : ℕ) (rows longer : List A) (left : List ℕ) (row : A) (beyond : List ℕ)
      (taken : ℕ) → taken < count
      → longer ≡ rows ++ row ∷ [] → TakenSoFar whole count rows left taken → Leads left row beyond
      → TakenSoFar whole count longer beyond (taken + 1)
  one_more_so_far whole count rows longer left row beyond taken fewer is so_far leads =
      subst (λ (rows : List A). TakenSoFar whole count rows beyond (taken + 1)) (sym is) (
        one_more whole count rows left row beyond (omega (arith, fewer, so_far.1)) so_far.0 leads,
        omega (arith, length-append rows (row ∷ []), so_far.1),
      )

  -- the decoded values as seen by a contract
  pub seen_taken : (whole : List ℕ) (count : ℕ) (rows seen : List A) (left : List ℕ) → seen ≡ rows → length rows ≡ count
      → Taken whole count rows left
      → (whole ≡ flat_map encoding seen ++ left) × (length seen ≡ count) × All fits seen
  seen_taken whole count rows seen left same long taken =
      subst (λ (rows : List A). (whole ≡ flat_map encoding rows ++ left) × (length rows ≡ count) × All fits rows)
      (sym same) (taken.joined, long, taken.fit)
