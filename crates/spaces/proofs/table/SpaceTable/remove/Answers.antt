use Rattle.std.proofs.Common.{option_map, refl, ap, sym, subst, ◌∙◌}
use Rattle.std.specs.FinMap.{remove, len}
use Rattle.ipc_model.specs.state.Ipc.{Names}
use Rattle.tracked_map.specs.Slots.{picked}
use Rattle.tracked_map.specs.Touched.{AreTouched, exchanged}
use Rattle.spaces.specs.Slots.{SpaceSlot, SpaceSlots, TrackedSpaces, was, is, rolled_back_slot, names_changed}
use Rattle.spaces.specs.Numbers.{AreTaken, same_taken}
use Rattle.spaces.specs.Laws as laws
use Rattle.spaces.specs.Looking.{entry_in, stood_is}
use Rattle.spaces.proofs.table.SpaceTable.remove.Goals as goal

pub invariant_of-self : goal.invariant_of-self
invariant_of-self c = (
  subst (AreTouched was is c.self.inside.slots) (sym c.reserve.ensures.items) c.self.invariant.0,
  c.self.invariant.1,
  c.self.invariant.2,
  c.self.invariant.3,
  c.self.invariant.4,
)

pub invariant_of-self-in-Ok : goal.invariant_of-self-in-Ok
invariant_of-self-in-Ok c =
    let done = c.in-Ok.ensures.ok in
    let put : Names → Names = λ names. remove names c.args.name in
    let change : SpaceSlot → SpaceSlot = λ slot. record slot { current = option_map put slot.current } in (
      subst (λ (s : SpaceSlots). AreTouched was is s c.push_reserved.new.self.items) (sym done)
          (laws.changed_touched c.self.inside.slots c.reserve.new.self.items c.push_reserved.new.self.items c.args.space
          change c.push_reserved.ensures.items
          (subst (AreTouched was is c.self.inside.slots) (sym c.reserve.ensures.items) c.self.invariant.0)),
      c.self.invariant.1 ∙ sym (ap (λ (s : SpaceSlots). len (picked is s)) done
          ∙ ap len (laws.looks_changed c.self.inside.slots c.args.space change is put (λ (s : SpaceSlot). refl))
          ∙ laws.as_many (picked is c.self.inside.slots) c.args.space put),
      c.self.invariant.2 ∙ sym (ap (λ (s : SpaceSlots). len (picked was s)) done
          ∙ ap len (laws.looks_same c.self.inside.slots c.args.space change was (λ (s : SpaceSlot). refl))),
      subst (λ (s : SpaceSlots). AreTaken c.self.inside.numbers (picked is s)) (sym done)
          (subst (AreTaken c.self.inside.numbers)
          (sym (laws.looks_changed c.self.inside.slots c.args.space change is put (λ (s : SpaceSlot). refl)))
          (same_taken c.self.inside.numbers (picked is c.self.inside.slots) _
          (laws.same_numbers (picked is c.self.inside.slots) c.args.space put) c.self.invariant.3)),
      subst (λ (s : SpaceSlots). AreTaken c.self.inside.numbers_before (picked was s)) (sym done)
          (subst (AreTaken c.self.inside.numbers_before)
          (sym (laws.looks_same c.self.inside.slots c.args.space change was (λ (s : SpaceSlot). refl)))
          c.self.invariant.4),
    )

pub roll_slots_back-requires : goal.roll_slots_back-requires
roll_slots_back-requires c =
    exchanged was is c.remove_at.new.slots c.as_slice.result.now
    (subst (λ (s : SpaceSlots). AreTouched was is s c.as_slice.result.now) (sym c.in-Err.ensures.err)
    (laws.rolled_back_touched c.self.inside.slots c.as_slice.result.now c.args.space
    (subst (AreTouched was is c.self.inside.slots)
    (sym (c.as_slice.ensures.value ∙ c.reserve.ensures.items)) c.self.invariant.0)))

pub invariant_of-self-in-Err : goal.invariant_of-self-in-Err
invariant_of-self-in-Err c =
    let rest =
    laws.rolled_back_rest c.roll_slots_back.new.slots c.clear.new.self.items _ c.clear.ensures.items
    c.roll_slots_back.ensures.rest c.roll_slots_back.ensures.shown in
    let former =
    ap (picked was) c.in-Err.ensures.err
    ∙ laws.looks_same c.self.inside.slots c.args.space rolled_back_slot was (λ (s : SpaceSlot). refl) in (
      rest.touched_none,
      c.self.invariant.2 ∙ ap len (sym (rest.seen_is ∙ former)),
      c.self.invariant.2 ∙ ap len (sym (rest.seen_was ∙ former)),
      subst (AreTaken c.self.inside.numbers_before) (sym (rest.seen_is ∙ former)) c.self.invariant.4,
      subst (AreTaken c.self.inside.numbers_before) (sym (rest.seen_was ∙ former)) c.self.invariant.4,
    )

pub returns-in-Ok-clause-ok : goal.returns-in-Ok-clause-ok
returns-in-Ok-clause-ok c =
    let done = c.in-Ok.ensures.ok in
    let put : Names → Names = λ names. remove names c.args.name in
    let change : SpaceSlot → SpaceSlot = λ slot. record slot { current = option_map put slot.current } in
    laws.both _ _ _ _
    (ap (picked was) done ∙ laws.looks_same c.self.inside.slots c.args.space change was (λ (s : SpaceSlot). refl) ∙ ap
    (λ (t : TrackedSpaces). t.before) c.self.view_is)
    (ap (picked is) done ∙ laws.looks_changed c.self.inside.slots c.args.space change is put (λ (s : SpaceSlot). refl)
    ∙ ap (λ (t : TrackedSpaces). names_changed t.current c.args.space put) c.self.view_is)

pub returns-in-Err-clause-err : goal.returns-in-Err-clause-err
returns-in-Err-clause-err c =
    let rest =
    laws.rolled_back_rest c.roll_slots_back.new.slots c.clear.new.self.items _ c.clear.ensures.items
    c.roll_slots_back.ensures.rest c.roll_slots_back.ensures.shown in
    let former =
    ap (picked was) c.in-Err.ensures.err
    ∙ laws.looks_same c.self.inside.slots c.args.space rolled_back_slot was (λ (s : SpaceSlot). refl) ∙ ap
    (λ (t : TrackedSpaces). t.before) c.self.view_is in
    laws.both _ _ _ _ (rest.seen_was ∙ former) (rest.seen_is ∙ former)

pub returns-in-Ok-clause-former : goal.returns-in-Ok-clause-former
returns-in-Ok-clause-former c =
    c.in-Ok.ensures.former ∙ stood_is c.self.inside.slots c.args.space c.args.name ∙ ap
    (λ (t : TrackedSpaces). entry_in t.current c.args.space c.args.name) c.self.view_is
