-- The unused names of a space, as names are added and removed.
use Rattle.std.proofs.Common.{◌≡◌, inl, inr, ℕ, ◌≤◌, ◌<◌, Bool, true, false, not, cond, nat_lt, Option, None, Some, is_some, refl, sym, ◌∙◌, ap, arith}
use Rattle.std.proofs.lemmas.Bool.{cases_eq, ltb-false, ltb-true}
use Rattle.std.specs.Ordering.{nat_cmp, eq_by_cmp}
use Rattle.std.specs.Cmp.{nat_cmp_total}
use Rattle.std.specs.FinMap.{get, insert, remove, get-remove, same_map, nat_cmp-IsAntisymmetric}
use Rattle.codes.specs.declared.name.TheConstants.{FIRST_NAME}
use Rattle.ipc_model.specs.declared.entry.Entry.{Entry}
use Rattle.ipc_model.specs.state.Ipc.{Names}
use Rattle.ipc_laws.specs.MapSums.{key_is, same_key}
use Rattle.port_space.specs.Alongside.{Numbers, has, AreFree, GoesOn}

not_true : (a : Bool) → (a ≡ true → ⊥) → a ≡ false
not_true true never = absurd (never refl)
not_true false never = refl

pub free_put : (names after : Names) (gaps fewer : Numbers) (low next name : ℕ) (entry : Entry)
    → ((q : ℕ) → get after q ≡ cond (eq_by_cmp nat_cmp q name) (Some entry) (get names q))
    → ((q : ℕ) → has fewer q ≡ cond (eq_by_cmp nat_cmp q name) false (has gaps q)) → AreFree names gaps low
    → GoesOn after name low next → AreFree after fewer next
free_put names after gaps fewer low next name entry changed less free goes = record {
  from = from;
  below = below;
  within =
      λ q there. let before = free.within q (was_there q (eq_by_cmp nat_cmp q name) (sym (less q) ∙ there)) in
      (before.0, omega (arith, before.1, low_next));
  next = first;
}
  where
    low_next : low ≤ next
    low_next = elim goes [ inl on ↦ omega (arith, on.1.from_on) | inr still ↦ omega (arith, still.1) ]

    from : FIRST_NAME ≤ next
    from = omega (arith, free.from, low_next)

    apart : (b : Bool) → eq_by_cmp nat_cmp low name ≡ b → (name ≡ low → ⊥) → cond b (Some entry) (get names low) ≡ None
    apart true same other = absurd (other (sym (key_is low name same)))
    apart false _ other = free.next

    first : get after next ≡ None
    first =
        elim goes [
          | inl on ↦ on.1.unused
          | inr still ↦ ap (get after) still.1 ∙ changed low
              ∙ apart (eq_by_cmp nat_cmp low name) refl still.0
        ]

    was_there : (q : ℕ) (b : Bool) → cond b false (has gaps q) ≡ true → has gaps q ≡ true
    was_there q true there = absurd (cc there)
    was_there q false there = there

    here : (q : ℕ) (b : Bool) → (is_some (get names q) ≡ not (has gaps q))
        → is_some (cond b (Some entry) (get names q)) ≡ not (cond b false (has gaps q))
    here q true was = refl
    here q false was = was

    no_gap : (q : ℕ) → low ≤ q → has gaps q ≡ false
    no_gap q more = not_true (has gaps q) (λ there. absurd (omega (arith, more, (free.within q there).1)))

    gone : (q : ℕ) (b : Bool) → has gaps q ≡ false → cond b false (has gaps q) ≡ false
    gone q true none = refl
    gone q false none = none

    put : name ≡ low → is_some (get after low) ≡ true
    put same =
        ap is_some (ap (get after) (sym same) ∙ changed name) ∙ ap
        (λ (b : Bool). is_some (cond b (Some entry) (get names name))) (same_key name)

    beyond : (q : ℕ) → low ≤ q → q < next → is_some (get after q) ≡ true
    beyond q more short = elim goes [
      | inl on ↦ elim (cases_eq q low) [
        | inl same ↦ ap (λ (k : ℕ). is_some (get after k)) same ∙ put on.0
        | inr other ↦
            on.1.used q (omega (arith, more, other)) short
      ]
      | inr still ↦ absurd (omega (arith, still.1, more, short))
    ]

    below : (q : ℕ) → FIRST_NAME ≤ q → q < next → is_some (get after q) ≡ not (has fewer q)
    below q le short =
        elim (nat_lt q low) as (λ (b : Bool). nat_lt q low ≡ b → is_some (get after q) ≡ not (has fewer q)) [
          | true ↦ λ (under : _). ap is_some (changed q)
              ∙ here q (eq_by_cmp nat_cmp q name) (free.below q le (ltb-true q low under)) ∙ ap not (sym (less q))
          | false ↦ λ (over : _).
              let more : low ≤ q = ltb-false q low over in
              beyond q more short ∙ ap not (sym (less q ∙ gone q (eq_by_cmp nat_cmp q name) (no_gap q more)))
        ] refl

-- A name in use is neither a gap nor `low`.
module _ (names : Names) (gaps : Numbers) (low name : ℕ) (former entry : Entry) (free : AreFree names gaps low)
    (used : get names name ≡ Some former) where
  no_gap_of : has gaps name ≡ false
  no_gap_of = not_true (has gaps name) (λ there.
      let within = free.within name there in
      absurd (cc (sym (ap is_some used) ∙ free.below name within.0 within.1 ∙ ap not there)))

  absent : (o : Option (Unit {0})) → is_some o ≡ false → o ≡ None
  absent None none = refl
  absent (Some x) none = absurd (cc none)

  pub no_gap_goes : gaps ≡ remove gaps name
  no_gap_goes =
      same_map nat_cmp_total nat_cmp-IsAntisymmetric _ _
      (λ (q : ℕ). go q (eq_by_cmp nat_cmp q name) refl ∙ sym (get-remove nat_cmp_total gaps name q))
    where
      go : (q : ℕ) (b : Bool) → eq_by_cmp nat_cmp q name ≡ b → get gaps q ≡ cond b None (get gaps q)
      go q true same = ap (get gaps) (key_is q name same) ∙ absent (get gaps name) no_gap_of
      go q false other = refl

  pub stays_low : GoesOn (insert names name entry) name low low
  stays_low = inr (λ same. absurd (cc (sym used ∙ ap (get names) same ∙ free.next)), refl)

still_unused : (names : Names) (low : ℕ) (b : Bool) → get names low ≡ None → cond b None (get names low) ≡ None
still_unused names low true none = refl
still_unused names low false none = none

-- a removed name becomes a gap if it is below `low`
pub free_removed : (names after : Names) (gaps more : Numbers) (low name : ℕ)
    → ((q : ℕ) → get after q ≡ cond (eq_by_cmp nat_cmp q name) None (get names q))
    → ((q : ℕ) → has more q ≡ cond (eq_by_cmp nat_cmp q name) true (has gaps q)) → FIRST_NAME ≤ name → name < low
    → AreFree names gaps low → AreFree after more low
free_removed names after gaps more low name changed grown le short free = record {
  from = free.from;
  below =
      λ q from under. ap is_some (changed q) ∙ here q (eq_by_cmp nat_cmp q name) (free.below q from under)
      ∙ ap not (sym (grown q));
  within = λ q there. inside q (eq_by_cmp nat_cmp q name) refl (sym (grown q) ∙ there);
  next = changed low ∙ still_unused names low (eq_by_cmp nat_cmp low name) free.next;
}
  where
    here : (q : ℕ) (b : Bool) → (is_some (get names q) ≡ not (has gaps q))
        → is_some (cond b None (get names q)) ≡ not (cond b true (has gaps q))
    here q true was = refl
    here q false was = was

    inside : (q : ℕ) (b : Bool) → eq_by_cmp nat_cmp q name ≡ b → cond b true (has gaps q) ≡ true → (FIRST_NAME ≤ q)
        × (q < low)
    inside q true same there = let is = key_is q name same in (omega (arith, is, le), omega (arith, is, short))
    inside q false same there = free.within q there

-- a removed name that isn't below `low` leaves the gaps unchanged
pub free_without : (names after : Names) (gaps : Numbers) (low name : ℕ)
    → ((q : ℕ) → get after q ≡ cond (eq_by_cmp nat_cmp q name) None (get names q))
    → ((FIRST_NAME ≤ name) → (name < low) → ⊥) → AreFree names gaps low → AreFree after gaps low
free_without names after gaps low name changed outside free = record {
  from = free.from;
  below =
      λ q from under. ap is_some (changed q) ∙ same q (eq_by_cmp nat_cmp q name) refl from under
      ∙ free.below q from under;
  within = free.within;
  next = changed low ∙ still_unused names low (eq_by_cmp nat_cmp low name) free.next;
}
  where
    same : (q : ℕ) (b : Bool) → eq_by_cmp nat_cmp q name ≡ b → FIRST_NAME ≤ q → q < low
        → is_some (cond b None (get names q)) ≡ is_some (get names q)
    same q true is from under =
        let at = key_is q name is in absurd (outside (omega (arith, at, from)) (omega (arith, at, under)))
    same q false is from under = refl
