-- The numbers of spaces, as bits of words.
use Rattle.std.proofs.Common.{◌≡◌, ◌≢◌, ℕ, ◌+◌, ◌-◌, ◌*◌, ◌/◌, ◌%◌, ◌<◌, ◌≤◌, Bool, true, false, cond, nat_lt, Option, None, Some, is_some, IsSome, get_or, refl, sym, ◌∙◌, ap, arith}
use Rattle.std.proofs.lemmas.Bool.{ltb-false, ltb-true}
use Rattle.std.specs.Cmp.{nat_cmp_total}
use Rattle.std.specs.Int.{bit_at}
use Rattle.std.specs.Ordering.{nat_cmp, eq_by_cmp}
use Rattle.std.specs.FinMap.{empty, get, insert, remove, len, get-empty, get-insert, get-remove}
use Rattle.codes.specs.declared.limits.TheConstants.{MAX_SPACES}
use Rattle.ipc_laws.specs.MapSums.{key_is, same_key}
use Rattle.ipc_model.specs.state.Ipc.{Names}
use Rattle.port_space.specs.Crowded.{crowded}
use Rattle.spaces.specs.Slots.{SpaceMap}
use Rattle.spaces.specs.declared.numbers.Numbers.{Numbers}

-- the bit at an index: 1 if it is set
abbrev pub place_at : Numbers → ℕ → ℕ
place_at numbers k = bit_at (get_or numbers.words (k / 64) 0) (k % 64)

-- the index of the first clear bit, or the number of bits if all are set
pub record IsFirstFree (numbers : Numbers) (found : ℕ) : Type 0 where
  pub few : found ≤ 256
  pub free : found < 256 → place_at numbers found ≡ 0
  pub taken : (k : ℕ) → k < found → place_at numbers k ≡ 1

-- the bit at k is set exactly if space k + 1 exists
pub record AreTaken (numbers : Numbers) (spaces : SpaceMap) : Type 0 where
  pub each : (k : ℕ) → k < 256 → place_at numbers k ≡ cond {A = ℕ} (is_some (get spaces (k + 1))) 1 0

-- the least unused number of a space
pub record IsFreeNumber (spaces : SpaceMap) (number : ℕ) : Type 0 where
  pub first : 0 < number
  pub few : number ≤ MAX_SPACES
  pub unused : get spaces number ≡ None
  pub least : (k : ℕ) → 0 < k → k < number → IsSome (get spaces k)

pub none_taken : (numbers : Numbers) → ((k : ℕ) → place_at numbers k ≡ 0) → AreTaken numbers empty
none_taken numbers free =
    record {
      each = λ k few. free k
          ∙ sym (ap (λ (o : Option Names). cond {A = ℕ} (is_some o) 1 0) (get-empty nat_cmp (k + 1)));
    }

-- spaces with the same numbers
pub same_taken : (numbers : Numbers) (spaces other : SpaceMap)
    → ((q : ℕ) → is_some (get other q) ≡ is_some (get spaces q)) → AreTaken numbers spaces → AreTaken numbers other
same_taken numbers spaces other same taken =
    record { each = λ k few. taken.each k few ∙ ap (λ (b : Bool). cond {A = ℕ} b 1 0) (sym (same (k + 1))) }

-- different numbers have different bits
apart : (k number place : ℕ) → number ≡ place + 1 → eq_by_cmp nat_cmp (k + 1) number ≡ false → k ≢ place
apart k number place at other same =
    absurd (cc (sym other ∙ ap (λ (q : ℕ). eq_by_cmp nat_cmp q number) (omega (arith, same, at)) ∙ same_key number))

module _ (old new : Numbers) (number place : ℕ) (at : number ≡ place + 1)
    (others : (k : ℕ) → k ≢ place → place_at new k ≡ place_at old k) (spaces : SpaceMap)
    (taken : AreTaken old spaces) where
  pub added_taken : (names : Names) → place_at new place ≡ 1 → AreTaken new (insert spaces number names)
  added_taken names is = record {
    each =
        λ k few. go k few (eq_by_cmp nat_cmp (k + 1) number) refl
        ∙ sym (ap (λ (o : Option Names). cond {A = ℕ} (is_some o) 1 0)
        (get-insert nat_cmp_total spaces number names (k + 1)));
  }
    where
      go : (k : ℕ) → k < 256 → (b : Bool) → eq_by_cmp nat_cmp (k + 1) number ≡ b
          → place_at new k ≡ cond {A = ℕ} (is_some (cond b (Some names) (get spaces (k + 1)))) 1 0
      go k few true same = ap (place_at new) (omega (arith, key_is (k + 1) number same, at)) ∙ is
      go k few false other = others k (apart k number place at other) ∙ taken.each k few

  pub removed_taken : place_at new place ≡ 0 → AreTaken new (remove spaces number)
  removed_taken is = record {
    each =
        λ k few. go k few (eq_by_cmp nat_cmp (k + 1) number) refl
        ∙ sym (ap (λ (o : Option Names). cond {A = ℕ} (is_some o) 1 0)
        (get-remove nat_cmp_total spaces number (k + 1)));
  }
    where
      go : (k : ℕ) → k < 256 → (b : Bool) → eq_by_cmp nat_cmp (k + 1) number ≡ b
          → place_at new k ≡ cond {A = ℕ} (is_some (cond b None (get spaces (k + 1)))) 1 0
      go k few true same = ap (place_at new) (omega (arith, key_is (k + 1) number same, at)) ∙ is
      go k few false other = others k (apart k number place at other) ∙ taken.each k few

-- A number without a bit.
module _ (numbers : Numbers) (number : ℕ) (outside : (k : ℕ) → k < 256 → number ≡ k + 1 → ⊥) (spaces : SpaceMap)
    (taken : AreTaken numbers spaces) where
  other_place : (k : ℕ) → k < 256 → eq_by_cmp nat_cmp (k + 1) number ≡ false
  other_place k few = go (eq_by_cmp nat_cmp (k + 1) number) refl
    where
      go : (b : Bool) → eq_by_cmp nat_cmp (k + 1) number ≡ b → b ≡ false
      go true same = absurd (outside k few (sym (key_is (k + 1) number same)))
      go false other = refl

  pub added_outside : (names : Names) → AreTaken numbers (insert spaces number names)
  added_outside names = record {
    each =
        λ k few. taken.each k few ∙ sym
        (ap (λ (o : Option Names). cond {A = ℕ} (is_some o) 1 0)
        (get-insert nat_cmp_total spaces number names (k + 1) ∙ ap
        (λ (b : Bool). cond b (Some names) (get spaces (k + 1))) (other_place k few)));
  }

  pub removed_outside : AreTaken numbers (remove spaces number)
  removed_outside = record {
    each =
        λ k few. taken.each k few ∙ sym
        (ap (λ (o : Option Names). cond {A = ℕ} (is_some o) 1 0)
        (get-remove nat_cmp_total spaces number (k + 1) ∙ ap
        (λ (b : Bool). cond b None (get spaces (k + 1))) (other_place k few)));
  }

-- all bits up to the end of a full word are set, if those of all words before it are
pub word_taken : (numbers : Numbers) (words word k : ℕ) → word ≡ get_or numbers.words words 0
    → ((i : ℕ) → i < 64 → bit_at word i ≡ 1) → ((q : ℕ) → q < 64 * words → place_at numbers q ≡ 1) → k < 64 * words + 64
    → place_at numbers k ≡ 1
word_taken numbers words word k is all before less =
    elim (nat_lt k (64 * words)) as (λ (b : Bool). nat_lt k (64 * words) ≡ b → place_at numbers k ≡ 1) [
      | true ↦ λ (e : _). before k (ltb-true k (64 * words) e)
      | false ↦ λ (e : _).
          let here : k / 64 ≡ words = omega (arith, less, ltb-false k (64 * words) e) in
          ap (λ (w : ℕ). bit_at (get_or numbers.words w 0) (k % 64)) here ∙ ap (λ (w : ℕ). bit_at w (k % 64)) (sym is)
          ∙ all (k % 64) (omega arith)
    ] refl

-- the first clear bit is in this word
pub found_free : (numbers : Numbers) (words word bit found : ℕ) → words < 4 → word ≡ get_or numbers.words words 0
    → found ≡ 64 * words + bit → (bit < 64) × (bit_at word bit ≡ 0) × ((i : ℕ) → i < bit → bit_at word i ≡ 1)
    → ((q : ℕ) → q < 64 * words → place_at numbers q ≡ 1) → IsFirstFree numbers found
found_free numbers words word bit found few is at first before = record {
  few = omega (arith, few, at, first.0);
  free = λ _. in_word found bit (omega (arith, at, first.0)) (omega (arith, at, first.0)) ∙ first.1;
  taken = λ k less. elim (nat_lt k (64 * words)) as (λ (b : Bool). nat_lt k (64 * words) ≡ b → place_at numbers k ≡ 1) [
    | true ↦ λ (e : _). before k (ltb-true k (64 * words) e)
    | false ↦ λ (e : _).
        let more : 64 * words ≤ k = ltb-false k (64 * words) e in
        in_word k (k - 64 * words) (omega (arith, less, more, at, first.0)) (omega (arith, less, more, at, first.0))
        ∙ first.2 (k - 64 * words) (omega (arith, less, more, at))
  ] refl;
}
  where
    in_word : (k i : ℕ) → k / 64 ≡ words → k % 64 ≡ i → place_at numbers k ≡ bit_at word i
    in_word k i here there =
        ap (λ (w : ℕ). bit_at (get_or numbers.words w 0) (k % 64)) here ∙ ap (λ (w : ℕ). bit_at w (k % 64)) (sym is)
        ∙ ap (bit_at word) there

-- the number of the first clear bit
pub free_is : (numbers : Numbers) (spaces : SpaceMap) (found : ℕ) → AreTaken numbers spaces → IsFirstFree numbers found
    → len spaces < MAX_SPACES → IsFreeNumber spaces (found + 1)
free_is numbers spaces found taken free room = record {
  first = omega arith;
  few = omega (arith, short);
  unused = none (get spaces (found + 1)) (sym (taken.each found short) ∙ free.free short);
  least = λ k some less. used k some (omega (arith, less));
}
  where
    used : (k : ℕ) → 0 < k → k ≤ found → is_some (get spaces k) ≡ true
    used k some less =
        ap (λ (q : ℕ). is_some (get spaces q)) (omega (arith, some))
        ∙ there (get spaces ((k - 1) + 1))
        (sym (taken.each (k - 1) (omega (arith, some, less, free.few)))
        ∙ free.taken (k - 1) (omega (arith, some, less)))
      where
        there : (o : Option Names) → cond {A = ℕ} (is_some o) 1 0 ≡ 1 → is_some o ≡ true
        there None is = absurd (omega (arith, is))
        there (Some names) is = refl

    short : found < 256
    short = elim (nat_lt found 256) as (λ (b : Bool). nat_lt found 256 ≡ b → found < 256) [
      | true ↦ λ (less : _). ltb-true found 256 less
      | false ↦ λ (more : _). absurd
          (omega (
            arith,
            room,
            crowded 256 spaces 1
                (λ k le lt. used k (omega (arith, le)) (omega (arith, lt, ltb-false found 256 more))),
          ))
    ] refl

    none : (o : Option Names) → cond {A = ℕ} (is_some o) 1 0 ≡ 0 → o ≡ None
    none None is = refl
    none (Some names) is = absurd (omega (arith, is))
