-- The dead-name notices of a port's death, as the names are processed.
use Rattle.std.proofs.Common.{◌≡◌, ℕ, ◌+◌, ◌^◌, ◌<◌, ◌≤◌, ◌/◌, ◌%◌, false, List, [], ◌++◌, Option, None, Some, option_and_then, append_assoc, append-nil, ap, sym, ◌∙◌, arith}
use Rattle.ipc_model.specs.declared.entry.Entry.{Entry}
use Rattle.ipc_model.specs.effects.Effects.{Effect, dead_name_of_entry}
use Rattle.ipc_model.specs.state.Ipc.{is_number}
use Rattle.spaces.specs.Burying.{Buried, StandsApart}
use Rattle.spaces.specs.Indexes.{AreSmall}
use Rattle.spaces.specs.Looking.{entry_in, port_named, at_place, parts}
use Rattle.spaces.specs.Slots.{SpaceMap}
use Rattle.spaces.specs.Walks.{notice_of, notices_end, notices_from, notices_on}

module _ (port : ℕ) (before spaces : SpaceMap) (at : ℕ) (buried : Buried port before spaces at) where
  -- from the place on the names are as before
  as_before : (q : ℕ) → at ≤ q → entry_in spaces (q / 2 ^ 32) (q % 2 ^ 32) ≡ entry_in before (q / 2 ^ 32) (q % 2 ^ 32)
  as_before q le = buried.left (q / 2 ^ 32) (q % 2 ^ 32) (parts q).1 (omega (arith, le, (parts q).0))

  apart_before : (q : ℕ) → at ≤ q → StandsApart port spaces q → is_number (at_place port_named before q) port ≡ false
  apart_before q le apart =
      ap (λ (o : Option Entry). is_number (option_and_then port_named o) port) (sym (as_before q le)) ∙ apart.0

  -- the notice of one place, then those of the places after it
  pub one_notified : (number next : ℕ) (effects added whole : List Effect) → AreSmall before → next ≡ number + 1
      → at ≤ number → number < 2 ^ 64 → ((q : ℕ) → at ≤ q → q < number → StandsApart port spaces q)
      → added ≡ effects ++ notice_of port spaces number → effects ++ notices_from port before at ≡ whole
      → added ++ notices_from port before next ≡ whole
  one_notified number next effects added whole small after le fits apart is had =
      ap (λ (xs : List Effect). xs ++ notices_from port before next) is
      ∙ append_assoc effects (notice_of port spaces number) (notices_from port before next)
      ∙ ap (λ (n : ℕ). effects ++ (notice_of port spaces number ++ notices_from port before n)) after
      ∙ ap (λ (o : Option Entry). effects
      ++ ((elim o as (λ _. List Effect)
      [ None ↦ [] | Some entry ↦ dead_name_of_entry port (number % 2 ^ 32) entry ])
      ++ notices_from port before (number + 1))) (as_before number le)
      ∙ ap (λ (xs : List Effect). effects ++ xs)
      (sym (notices_on port before at number small le fits
      (λ q from below. apart_before q from (apart q from below))))
      ∙ had

  -- no notice is left
  pub all_notified : (old effects : List Effect) → AreSmall before
      → ((q : ℕ) → at ≤ q → q < 2 ^ 64 → StandsApart port spaces q)
      → effects ++ notices_from port before at ≡ old ++ notices_from port before 0
      → effects ≡ old ++ notices_from port before 0
  all_notified old effects small apart had =
      sym (append-nil effects) ∙ ap (λ (xs : List Effect). effects ++ xs)
      (sym (notices_end port before small at (λ q from below. apart_before q from (apart q from below)))) ∙ had

-- no place is left
pub last_notified : (port : ℕ) (before : SpaceMap) (old effects : List Effect) → AreSmall before
    → effects ++ notices_from port before (2 ^ 64) ≡ old ++ notices_from port before 0
    → effects ≡ old ++ notices_from port before 0
last_notified port before old effects small had =
    sym (append-nil effects) ∙ ap (λ (xs : List Effect). effects ++ xs)
    (sym (notices_end port before small (2 ^ 64) (λ q from below. absurd (omega (arith, from, below))))) ∙ had
