use Rattle.std.proofs.Common.{◌≡◌, ◌⊎◌, inl, inr, ℕ, ◌≤◌, true, sym, subst, arith}
use Rattle.std.proofs.lemmas.Bool.Decides.{nat_tests}
use Rattle.waiting.specs.Places.{Named, names, place_of_port}
use Rattle.ipc_state.proofs.Covering.{listed_port}
use Rattle.ipc_state.proofs.waking.name_port.Goals.{then-held-numbers, else-held-numbers}
use Rattle.ipc_state.proofs.waking.name_port.Goals as goal

pub returns-clause-listed : goal.returns-clause-listed
returns-clause-listed c =
    listed_port c.args.spaces.now.current c.args.ports.now.current.ports c.args.serial c.message_count-held.result
    c.in-Some.numbers _ (names c.name_receivers.new.places) c.in-Some.ensures c.message_count-held.ensures
    (λ none. grind (arith, nat_tests, none))
    (elim c.if-held-numbers.branch
    as (λ _. (c.in-Some.numbers.limit ≤ c.message_count-held.result)
    ⊎ (names c.name_receivers.new.places (place_of_port c.args.serial) ≡ true)) [
      | then-held-numbers w ↦ inr (c.name_receivers.ensures.kept (place_of_port c.args.serial)
          (subst (λ (p : Named). names p (place_of_port c.args.serial) ≡ true) (sym w.places-is)
          (subst (λ (n : ℕ). names w.add_ready.new.self n ≡ true) w.place_of_port-then-held-numbers.ensures
          w.add_ready.ensures.added)))
      | else-held-numbers w ↦ inl w.if-held-numbers.false
    ]) c.name_receivers.ensures.listed
