-- Facts about a whole that its front determines.
use Rattle.std.proofs.Common.{◌≡◌, ◌⊎◌, inl, inr, ℕ, ◌+◌, ◌-◌, ◌≤◌, List, ◌++◌, length, take, drop, refl, sym, ap, ◌∙◌, subst, arith, append_assoc, take-append-drop, length-append, length-drop, length-take}
use Rattle.std.proofs.lemmas.List.{take_all, take_at, take-take, drop_at, drop-drop, drop-take}
use Rattle.journal.specs.declared.window.TheConstants.{LONGEST_STEP}
use Rattle.journal.specs.Windows.{WindowValue, IsOver, IsFull}

-- the front of some bytes: at least this many of them, or all
pub record IsFrontOf (most : ℕ) (front whole : List ℕ) : Type 0 where
  pub shown : front ≡ take (length front) whole
  pub enough : (most ≤ length front) ⊎ (front ≡ whole)

-- if the front begins with an encoding, so does the whole
pub whole_begins : (most : ℕ) (front whole encoding content : List ℕ) → IsFrontOf most front whole
    → front ≡ encoding ++ content → whole ≡ encoding ++ drop (length encoding) whole
whole_begins most front whole encoding content is begins =
    let rest : List ℕ = drop (length front) whole in
    let joined : whole ≡ encoding ++ (content ++ rest) =
    sym (take-append-drop (length front) whole) ∙ ap (λ l. l ++ rest) (sym is.shown ∙ begins)
    ∙ append_assoc encoding content rest in
    let beyond : drop (length encoding) whole ≡ content ++ rest =
    ap (drop (length encoding)) joined ∙ drop_at encoding (content ++ rest) (length encoding) refl in
    joined ∙ ap (λ l. encoding ++ l) (sym beyond)

-- after the encoding, the front's rest is a front of the whole's rest
pub front_after : (most less : ℕ) (front whole encoding content : List ℕ) → IsFrontOf most front whole
    → front ≡ encoding ++ content → most ≡ length encoding + less
    → IsFrontOf less content (drop (length encoding) whole)
front_after most less front whole encoding content is begins fits =
    let rest : List ℕ = drop (length front) whole in
    let joined : whole ≡ encoding ++ (content ++ rest) =
    sym (take-append-drop (length front) whole) ∙ ap (λ l. l ++ rest) (sym is.shown ∙ begins)
    ∙ append_assoc encoding content rest in
    let beyond : drop (length encoding) whole ≡ content ++ rest =
    ap (drop (length encoding)) joined ∙ drop_at encoding (content ++ rest) (length encoding) refl in
    let long : length front ≡ length encoding + length content = ap length begins ∙ length-append encoding content in
    record {
      shown = sym (take_at content rest (length content) refl) ∙ ap (take (length content)) (sym beyond);
      enough = elim is.enough [
        | inl many ↦ inl (omega arith)
        | inr all ↦ inr (sym (drop_at encoding content (length encoding) refl)
            ∙ ap (drop (length encoding)) (sym begins ∙ all))
      ];
    }

-- if the whole begins with an encoding that isn't too long, so does the front
pub front_begins : (most : ℕ) (front whole encoding rest : List ℕ) → IsFrontOf most front whole
    → whole ≡ encoding ++ rest → length encoding ≤ most → front ≡ encoding ++ drop (length encoding) front
front_begins most front whole encoding rest is begins fits = elim is.enough [
  | inl many ↦
      let first : take (length encoding) front ≡ encoding =
      ap (take (length encoding)) is.shown ∙ take-take (length encoding) (length front) whole (omega arith)
      ∙ ap (take (length encoding)) begins ∙ take_at encoding rest (length encoding) refl in
      sym (take-append-drop (length encoding) front) ∙ ap (λ l. l ++ drop (length encoding) front) first
  | inr all ↦
      let same : front ≡ encoding ++ rest = all ∙ begins in
      same ∙ ap (λ l. encoding ++ l)
      (sym (ap (drop (length encoding)) same ∙ drop_at encoding rest (length encoding) refl))
]

-- a full window holds a front of the bytes from its offset on
pub window_front : (bytes : List ℕ) (window : WindowValue) → IsOver bytes window → IsFull window
    → IsFrontOf LONGEST_STEP window.front (drop window.at bytes)
window_front bytes window over full = record {
  shown = over.shown;
  enough = elim full [
    | inl many ↦ inl many
    | inr all ↦ inr (over.shown ∙ take_all (length window.front) (drop window.at bytes)
        (omega (arith, length-drop window.at bytes, over.ended)))
  ];
}

-- an advanced window is over the same slot
pub window_on : (bytes : List ℕ) (old new : WindowValue) (count : ℕ) → IsOver bytes old → count ≤ length old.front
    → new.at ≡ old.at + count → new.front ≡ drop count old.front → new.room ≡ old.room → new.end ≡ old.end
    → IsOver bytes new
window_on bytes old new count over fits moved left room end =
    let shorter : length new.front + count ≡ length old.front =
    omega (arith, ap length left, length-drop count old.front) in
    let from : drop new.at bytes ≡ drop count (drop old.at bytes) =
    ap (λ n. drop n bytes) moved ∙ sym (drop-drop count old.at bytes) in
    record {
      ended = end ∙ over.ended;
      inside = omega (arith, over.inside);
      shown = left ∙ ap (drop count) over.shown ∙ ap (λ n. drop count (take n (drop old.at bytes))) (omega arith)
          ∙ drop-take count (length new.front) (drop old.at bytes) ∙ ap (take (length new.front)) (sym from);
      room = subst (λ n. (LONGEST_STEP ≤ n) ⊎ (length bytes ≤ n)) (sym room) over.room;
    }

-- the length of the rest of a buffer's front
front_long : (from to : ℕ) (buffer : List ℕ) → to ≤ length buffer → length (drop from (take to buffer)) ≡ to - from
front_long from to buffer fits = omega (arith, length-drop from (take to buffer), length-take to buffer)

pub full_front : (from to : ℕ) (buffer : List ℕ) (window : WindowValue) → to ≤ length buffer
    → drop from (take to buffer) ≡ window.front → LONGEST_STEP ≤ to - from → LONGEST_STEP ≤ length window.front
full_front from to buffer window fits is long =
    subst (λ n. LONGEST_STEP ≤ n) (sym (front_long from to buffer fits) ∙ ap length is) long
