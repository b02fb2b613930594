use Rattle.std.proofs.Common.{ℕ, ◌-◌, Option, None, Some, refl, ap, sym, subst, ◌∙◌, arith}
use Rattle.std.specs.FinMap.{get, remove, len}
use Rattle.ipc_model.specs.state.Ipc.{Names}
use Rattle.tracked_map.specs.Slots.{picked, get_picked}
use Rattle.tracked_map.specs.Touched.{AreTouched}
use Rattle.spaces.specs.Slots.{SpaceSlot, SpaceSlots, TrackedSpaces, was, is}
use Rattle.spaces.specs.Numbers.{AreTaken}
use Rattle.spaces.specs.Laws as laws
use Rattle.spaces.proofs.table.SpaceTable.close.Goals as goal

pub invariant_of-self : goal.invariant_of-self
invariant_of-self c = (
  subst (AreTouched was is c.self.inside.slots) (sym c.reserve.ensures.items) c.self.invariant.0,
  c.self.invariant.1,
  c.self.invariant.2,
  c.self.invariant.3,
  c.self.invariant.4,
)

pub invariant_of-self-2 : goal.invariant_of-self-2
invariant_of-self-2 c = (
  subst (AreTouched was is c.self.inside.slots) (sym c.reserve.ensures.items) c.self.invariant.0,
  c.self.invariant.1,
  c.self.invariant.2,
  c.self.invariant.3,
  c.self.invariant.4,
)

pub close_at-requires : goal.close_at-requires
close_at-requires c = record {
  empty = λ slot at names there.
      c.requires.empty names (ap (λ (t : TrackedSpaces). get t.current c.args.space) (sym c.self.view_is)
      ∙ get_picked is c.self.inside.slots c.args.space ∙ ap
      (λ (o : Option SpaceSlot). elim o as (λ _. Option Names) [ None ↦ None | Some s ↦ is s ]) at ∙ there);
}

pub overflow_sub-self : goal.overflow_sub-self
overflow_sub-self c =
    let some =
    laws.some_counted (picked is c.self.inside.slots) c.args.space (sym c.contains.ensures ∙ c.if-contains.true) in
    omega (arith, some, c.self.invariant.1)

pub invariant_of-self-then-contains : goal.invariant_of-self-then-contains
invariant_of-self-then-contains c =
    let change : SpaceSlot → SpaceSlot = λ slot. record slot { current = None } in
    let done = c.close_at.ensures in (
      subst (λ (s : SpaceSlots). AreTouched was is s c.push_reserved.new.self.items) (sym done)
          (laws.changed_touched c.self.inside.slots c.reserve.new.self.items c.push_reserved.new.self.items c.args.space
          change c.push_reserved.ensures.items
          (subst (AreTouched was is c.self.inside.slots) (sym c.reserve.ensures.items) c.self.invariant.0)),
      ap (λ (n : ℕ). n - 1) c.self.invariant.1
          ∙ sym (ap (λ (s : SpaceSlots). len (picked is s)) done
          ∙ ap len (laws.looks_gone c.self.inside.slots c.args.space change is (λ (s : SpaceSlot). refl))
          ∙ laws.one_less (picked is c.self.inside.slots) c.args.space
          (sym c.contains.ensures ∙ c.if-contains.true)),
      c.self.invariant.2 ∙ sym (ap (λ (s : SpaceSlots). len (picked was s)) done
          ∙ ap len (laws.looks_same c.self.inside.slots c.args.space change was (λ (s : SpaceSlot). refl))),
      subst (λ (s : SpaceSlots). AreTaken c.remove.new.self (picked is s)) (sym done)
          (subst (AreTaken c.remove.new.self)
          (sym (laws.looks_gone c.self.inside.slots c.args.space change is (λ (s : SpaceSlot). refl)))
          (c.remove.ensures (picked is c.self.inside.slots) c.self.invariant.3)),
      subst (λ (s : SpaceSlots). AreTaken c.self.inside.numbers_before (picked was s)) (sym done)
          (subst (AreTaken c.self.inside.numbers_before)
          (sym (laws.looks_same c.self.inside.slots c.args.space change was (λ (s : SpaceSlot). refl)))
          c.self.invariant.4),
    )

pub invariant_of-self-else-contains : goal.invariant_of-self-else-contains
invariant_of-self-else-contains c = (
  subst (AreTouched was is c.self.inside.slots) (sym c.reserve.ensures.items) c.self.invariant.0,
  c.self.invariant.1,
  c.self.invariant.2,
  c.self.invariant.3,
  c.self.invariant.4,
)

pub returns-then-contains-clause-ok : goal.returns-then-contains-clause-ok
returns-then-contains-clause-ok c =
    let change : SpaceSlot → SpaceSlot = λ slot. record slot { current = None } in
    let done = c.close_at.ensures in
    laws.both _ _ _ _
    (ap (picked was) done ∙ laws.looks_same c.self.inside.slots c.args.space change was (λ (s : SpaceSlot). refl) ∙ ap
    (λ (t : TrackedSpaces). t.before) c.self.view_is)
    (ap (picked is) done ∙ laws.looks_gone c.self.inside.slots c.args.space change is (λ (s : SpaceSlot). refl) ∙ ap
    (λ (t : TrackedSpaces). remove t.current c.args.space) c.self.view_is)

pub returns-else-contains-clause-ok : goal.returns-else-contains-clause-ok
returns-else-contains-clause-ok c =
    laws.both _ _ _ _ (ap (λ (t : TrackedSpaces). t.before) c.self.view_is)
    (laws.none_gone (picked is c.self.inside.slots) c.args.space (sym c.contains.ensures ∙ c.if-contains.false) ∙ ap
    (λ (t : TrackedSpaces). remove t.current c.args.space) c.self.view_is)
