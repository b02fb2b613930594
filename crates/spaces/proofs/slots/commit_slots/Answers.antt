use Rattle.std.proofs.Common.{ℕ, List, refl, ap, sym, subst, ◌∙◌}
use Rattle.spaces.specs.Slots.{SpaceSlot, SpaceSlots, was, is, committed_slot}
use Rattle.tracked_map.specs.Slots.{picked}
use Rattle.tracked_map.specs.Touched.{AreTouched, turned_looks, turned_touched, none_left}
use Rattle.spaces.proofs.slots.commit_slots.Goals as goal

pub loop-key-preserved : goal.loop-key-preserved
loop-key-preserved c =
    let key = c.in-Some.key.now in
    record {
      shown =
          ap (picked is) c.commit_slot.ensures ∙ turned_looks is was committed_slot (λ (s : SpaceSlot). refl)
          (λ (s : SpaceSlot). refl) c.loop-key.slots key ∙ c.loop-key.invariant.shown;
      rest = subst (λ (s : SpaceSlots). AreTouched was is s c.in-Some.before.now) (sym c.commit_slot.ensures)
          (turned_touched is was committed_slot (λ (s : SpaceSlot). refl)
          (λ (s : SpaceSlot). refl) c.loop-key.slots c.in-Some.before.now key
          (subst (λ (l : List ℕ). AreTouched was is c.loop-key.slots l) c.in-Some.ensures.cases.0
          c.loop-key.invariant.rest));
    }

pub returns-clause-rest : goal.returns-clause-rest
returns-clause-rest c =
    subst (λ (l : List ℕ). AreTouched was is c.loop-key.slots l)
    (none_left c.loop-key.rest.now c.in_default.ensures.cases) c.loop-key.invariant.rest
