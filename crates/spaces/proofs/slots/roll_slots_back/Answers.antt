use Rattle.std.proofs.Common.{ℕ, List, refl, ap, sym, subst, ◌∙◌}
use Rattle.spaces.specs.Slots.{SpaceSlot, SpaceSlots, was, is, rolled_back_slot}
use Rattle.tracked_map.specs.Slots.{picked}
use Rattle.tracked_map.specs.Touched.{AreTouched, turned_looks, turned_touched, none_left}
use Rattle.spaces.proofs.slots.roll_slots_back.Goals as goal

pub loop-key-preserved : goal.loop-key-preserved
loop-key-preserved c =
    let key = c.in-Some.key.now in
    record {
      shown =
          ap (picked was) c.roll_slot_back.ensures ∙ turned_looks was is rolled_back_slot (λ (s : SpaceSlot). refl)
          (λ (s : SpaceSlot). refl) c.loop-key.slots key ∙ c.loop-key.invariant.shown;
      rest = subst (λ (s : SpaceSlots). AreTouched is was s c.in-Some.before.now) (sym c.roll_slot_back.ensures)
          (turned_touched was is rolled_back_slot (λ (s : SpaceSlot). refl)
          (λ (s : SpaceSlot). refl) c.loop-key.slots c.in-Some.before.now key
          (subst (λ (l : List ℕ). AreTouched is was c.loop-key.slots l) c.in-Some.ensures.cases.0
          c.loop-key.invariant.rest));
    }

pub returns-clause-rest : goal.returns-clause-rest
returns-clause-rest c =
    subst (λ (l : List ℕ). AreTouched is was c.loop-key.slots l)
    (none_left c.loop-key.rest.now c.in_default.ensures.cases) c.loop-key.invariant.rest
