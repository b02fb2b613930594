-- A copy of a slot that only grows after a front. The copy begins with the front that the slot had at some moment while
-- it was read.
use Rattle.std.specs.Prelude.{◌≡◌, ◌⊎◌, ℕ, ◌-◌, ◌<◌, List, [], ◌∷◌, ◌++◌, length, take, drop}
use Rattle.std.proofs.Common.{zero, suc, refl, sym, ap, subst, inl, inr, ◌∙◌, arith, append_assoc, length-append, length-take, take-append-drop}
use Rattle.std.proofs.lemmas.Bool.{cases_lt}
use Rattle.std.proofs.lemmas.List.{append-nil, drop_at, take_all, take-append-le}
use Rattle.std.proofs.Math.Seq.{take-append-add}
use Rattle.ipc_model.specs.store.Store.{IsClosed}
use Rattle.inspect.specs.still_disk.Live.{Copied, IsCopy, nothing_yet, one_piece_more}

-- bytes with a closed gate, truncated anywhere, have a closed gate or none
closed_front : (k : ℕ) (xs : List ℕ) → IsClosed xs → IsClosed (take k xs)
closed_front zero xs closed = tt
closed_front (suc k) [] closed = tt
closed_front (suc k) (x ∷ xs) closed = closed

closed_more : (xs ys : List ℕ) → 0 < length xs → IsClosed xs → IsClosed (xs ++ ys)
closed_more [] ys some closed = absurd (omega (arith, some))
closed_more (x ∷ xs) ys some closed = closed

nothing : (xs : List ℕ) → length xs ≡ 0 → xs ≡ []
nothing [] none = refl
nothing (x ∷ xs) none = absurd (omega (arith, none))

module _ {Moment : Type 0} (Later : Moment → Moment → Type 0) (stays : (m : Moment) → Later m m)
    (joins : (a b c : Moment) → Later a b → Later b c → Later a c)
    (slot front : Moment → List ℕ) (begun : Moment)
    (holds : (m : Moment) → Later begun m → (beyond : List ℕ) × (slot m ≡ front m ++ beyond) × IsClosed beyond)
    (grows : (a b : Moment) → Later begun a → Later a b → (more : List ℕ) × (front b ≡ front a ++ more)) where
  -- the copy so far is within the front
  abbrev Within : Moment → List ℕ → Type 0
  Within now copy = (rest : List ℕ) × (front now ≡ copy ++ rest)

  -- the copy is the front of some moment, followed by a closed gate or the end of the slot
  pub record Ends (ended : Moment) (copy : List ℕ) : Type 0 where
    pub at : Moment
    pub since : Later begun at
    pub until : Later at ended
    pub rest : List ℕ
    pub encoding : copy ≡ front at ++ rest
    pub shut : IsClosed rest

  abbrev Reads : Moment → List ℕ → Type 0
  Reads now copy = Within now copy ⊎ ((ends : Ends now copy) × (0 < length ends.rest))

  -- a copy within the front is within each later front
  within_later : (a b : Moment) (copy : List ℕ) → Later begun a → Later a b → Within a copy → Within b copy
  within_later a b copy since later within =
      let more = grows a b since later in
      (within.0 ++ more.0, more.1 ∙ ap (λ l. l ++ more.0) within.1 ∙ append_assoc copy within.0 more.0)

  -- one more piece of the bytes after the front
  piece_past : (now : Moment) (copy rest beyond : List ℕ) (far : ℕ) → Later begun now → 0 < far
      → front now ≡ copy ++ rest → IsClosed beyond → Reads now (copy ++ (rest ++ take far beyond))
  piece_past now copy rest [] far since some within shut =
      inl (
        [],
        within ∙ sym (append-nil (copy ++ rest)) ∙ ap
            (λ l. l ++ []) (ap (λ l. copy ++ l)
            (sym (append-nil rest) ∙ ap (λ l. rest ++ l) (sym (take_all far [] (omega arith))))),
      )
  piece_past now copy rest (gate ∷ beyond) far since some within shut = inr (
    record {
      at = now;
      since = since;
      until = stays now;
      rest = take far (gate ∷ beyond);
      encoding =
          sym (append_assoc copy rest (take far (gate ∷ beyond))) ∙ ap
          (λ l. l ++ take far (gate ∷ beyond)) (sym within);
      shut = closed_front far (gate ∷ beyond) shut;
    },
    omega (arith, some, length-take far (gate ∷ beyond)),
  )

  -- One more piece of a slot, after a copy within the front: the piece ends within the front, or after it.
  piece_within : (now : Moment) (copy : List ℕ) (count : ℕ) → Later begun now → Within now copy
      → Reads now (copy ++ take count (drop (length copy) (slot now)))
  piece_within now copy count since within =
      let rest = within.0 in
      let held = holds now since in
      let beyond = held.0 in
      let whole : slot now ≡ copy ++ (rest ++ beyond) =
      held.1 ∙ ap (λ l. l ++ beyond) within.1 ∙ append_assoc copy rest beyond in
      let next : drop (length copy) (slot now) ≡ rest ++ beyond =
      ap (drop (length copy)) whole ∙ drop_at copy (rest ++ beyond) (length copy) refl in
      elim (cases_lt (length rest) count) as (λ _. Reads now (copy ++ take count (drop (length copy) (slot now)))) [
        | inl past ↦
            let far = count - length rest in
            let taken : take count (rest ++ beyond) ≡ rest ++ take far beyond =
            ap (λ k. take k (rest ++ beyond)) (omega (arith, past)) ∙ take-append-add rest beyond far in
            subst (λ l. Reads now (copy ++ l)) (sym (ap (take count) next ∙ taken))
            (piece_past now copy rest beyond far since (omega (arith, past)) within.1 held.2)
        | inr short ↦
            let taken : take count (rest ++ beyond) ≡ take count rest =
            take-append-le count rest beyond (omega (arith, short)) in
            subst (λ l. Reads now (copy ++ l)) (sym (ap (take count) next ∙ taken)) (inl (
              drop count rest,
              within.1 ∙ ap (λ l. copy ++ l) (sym (take-append-drop count rest))
                  ∙ sym (append_assoc copy (take count rest) (drop count rest)),
            ))
      ]

  -- One more piece, of the contents that the slot has by then.
  piece_more : (last now : Moment) (copy : List ℕ) (count : ℕ) → Later begun last → Later last now → Reads last copy
      → Reads now (copy ++ take count (drop (length copy) (slot now)))
  piece_more last now copy count since later (inl within) =
      piece_within now copy count (joins begun last now since later) (within_later last now copy since later within)
  piece_more last now copy count since later (inr ends) =
      let piece = take count (drop (length copy) (slot now)) in
      let old = ends.0 in
      inr (
        record {
          at = old.at;
          since = old.since;
          until = joins old.at last now old.until later;
          rest = old.rest ++ piece;
          encoding = ap (λ l. l ++ piece) old.encoding ∙ append_assoc (front old.at) old.rest piece;
          shut = closed_more old.rest piece ends.1 old.shut;
        },
        omega (arith, ends.1, length-append old.rest piece),
      )

  reads : (last : Moment) (copy : List ℕ) → Copied Later slot begun last copy → Later begun last × Reads last copy
  reads _ _ nothing_yet = (stays begun, inl (front begun, refl))
  reads _ _ (one_piece_more {last} {copy} now count longer copied later is) =
      let before = reads last copy copied in (
        joins begun last now before.0 later,
        subst (Reads now) (sym is) (piece_more last now copy count before.0 later before.1),
      )

  -- A whole copy is the front of some moment while it was made, followed by nothing or a closed gate.
  pub copy_ends : (ended : Moment) (copy : List ℕ) → IsCopy Later slot begun ended copy → Ends ended copy
  copy_ends ended copy is =
      let known = reads is.last copy is.copied in
      elim known.1 as (λ _. Ends ended copy) [
        | inl within ↦
            let now = within_later is.last ended copy known.0 is.later within in
            let held = holds ended (joins begun is.last ended known.0 is.later) in
            let fits : length now.0 ≡ 0 =
            omega (
              arith,
              is.whole,
              ap length held.1,
              length-append (front ended) held.0,
              ap length now.1,
              length-append copy now.0,
            ) in
            record {
              at = ended;
              since = joins begun is.last ended known.0 is.later;
              until = stays ended;
              rest = [];
              encoding =
                  sym (append-nil copy) ∙ ap (λ l. copy ++ l) (sym (nothing now.0 fits)) ∙ sym now.1
                  ∙ sym (append-nil (front ended));
              shut = tt;
            }
        | inr ends ↦ record {
          at = ends.0.at;
          since = ends.0.since;
          until = joins ends.0.at is.last ended ends.0.until is.later;
          rest = ends.0.rest;
          encoding = ends.0.encoding;
          shut = ends.0.shut;
        }
      ]
