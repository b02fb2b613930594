use Rattle.std.proofs.Common.{ℕ, ◌+◌, sym, ◌∙◌, subst, arith}
use Rattle.ipc_state.specs.Members.{all_moved}
use Rattle.ipc_state.proofs.Kept.{MovesTo, moves_on}
use Rattle.ipc_state.proofs.port_changes.move_places.Goals as goal

pub returns-in_default-checked_add-clause-ok : goal.returns-in_default-checked_add-clause-ok
returns-in_default-checked_add-clause-ok c = λ before after differ was is are.
    let moved =
    moves_on c.args.spaces.now.current c.args.serial c.loop-place.at c.in-Some.place c.args.former c.args.set
    c.args.members.now.current c.loop-place.members c.move_place.new.members c.in-Some.ensures
    c.in_ok-move_place.ensures.ok c.loop-place.invariant.2 before after differ was is are in
    all_moved c.args.spaces.now.current before after c.args.serial differ
    (c.in-Some.place + 1) c.move_place.new.members.current
    (λ q from fits. absurd (omega (arith, from, fits, c.in_default-checked_add.ensures))) moved

pub loop-place-preserved : goal.loop-place-preserved
loop-place-preserved c = (
  omega (arith, c.in-Some-checked_add.ensures.1, c.in-Some.ensures.1),
  c.in_ok-move_place.ensures.before ∙ c.loop-place.invariant.1,
  subst (λ (n : ℕ). MovesTo c.args.spaces.now.current c.args.serial c.args.former c.args.set c.args.members.now.current
      n c.move_place.new.members.current) (sym (c.in-Some-checked_add.ensures.1))
      (moves_on c.args.spaces.now.current c.args.serial c.loop-place.at c.in-Some.place c.args.former c.args.set
      c.args.members.now.current c.loop-place.members c.move_place.new.members c.in-Some.ensures
      c.in_ok-move_place.ensures.ok c.loop-place.invariant.2),
)

pub returns-clause-ok : goal.returns-clause-ok
returns-clause-ok c = λ before after differ was is are.
    all_moved c.args.spaces.now.current before after c.args.serial differ c.loop-place.at c.loop-place.members.current
    (λ q from fits. c.in_default.ensures q from fits) (c.loop-place.invariant.2 before after differ was is are)
