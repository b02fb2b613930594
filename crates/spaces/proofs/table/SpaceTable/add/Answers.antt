use Rattle.std.proofs.Common.{ℕ, ◌+◌, cond, Option, None, is_some, ap, sym, subst, ◌∙◌}
use Rattle.std.specs.Cmp.{nat_cmp_total}
use Rattle.std.specs.FinMap.{empty, get, insert, len, len-insert}
use Rattle.ipc_model.specs.state.Ipc.{Names}
use Rattle.tracked_map.specs.Slots.{picked}
use Rattle.tracked_map.specs.Touched.{AreTouched}
use Rattle.spaces.specs.Slots.{SpaceSlots, TrackedSpaces, was, is}
use Rattle.spaces.specs.Numbers.{AreTaken}
use Rattle.spaces.specs.Laws as laws
use Rattle.spaces.proofs.table.SpaceTable.add.Goals as goal

pub invariant_of-self : goal.invariant_of-self
invariant_of-self c = (
  subst (AreTouched was is c.self.inside.slots) (sym c.reserve.ensures.items) c.self.invariant.0,
  c.self.invariant.1,
  c.self.invariant.2,
  c.self.invariant.3,
  c.self.invariant.4,
)

pub open_at-requires : goal.open_at-requires
open_at-requires c = record {
  absent =
      λ slot at. laws.slot_is c.self.inside.slots c.args.space slot None
      (ap (λ (t : TrackedSpaces). get t.current c.args.space) c.self.view_is ∙ c.requires.absent) at;
}

pub invariant_of-self-in-Ok : goal.invariant_of-self-in-Ok
invariant_of-self-in-Ok c =
    let opened = c.in-Ok.ensures.ok in
    let none = ap (λ (t : TrackedSpaces). get t.current c.args.space) c.self.view_is ∙ c.requires.absent in
    let more =
    len-insert nat_cmp_total (picked is c.self.inside.slots) c.args.space empty ∙ ap
    (λ (o : Option Names). cond (is_some o) (len (picked is c.self.inside.slots))
    (len (picked is c.self.inside.slots) + 1)) none in (
      subst (λ (s : SpaceSlots). AreTouched was is s c.push_reserved.new.self.items) (sym opened)
          (laws.opened_touched c.self.inside.slots c.reserve.new.self.items c.push_reserved.new.self.items c.args.space
          c.push_reserved.ensures.items (subst (AreTouched was is c.self.inside.slots)
          (sym c.reserve.ensures.items) c.self.invariant.0)),
      ap (λ (n : ℕ). n + 1) c.self.invariant.1
          ∙ sym (ap (λ (s : SpaceSlots). len (picked is s)) opened
          ∙ ap len (laws.opened_is c.self.inside.slots c.args.space) ∙ more),
      c.self.invariant.2 ∙ sym (ap (λ (s : SpaceSlots). len (picked was s)) opened
          ∙ ap len (laws.opened_was c.self.inside.slots c.args.space)),
      subst (λ (s : SpaceSlots). AreTaken c.add.new.self (picked is s)) (sym opened)
          (subst (AreTaken c.add.new.self) (sym (laws.opened_is c.self.inside.slots c.args.space))
          (c.add.ensures (picked is c.self.inside.slots) c.self.invariant.3)),
      subst (λ (s : SpaceSlots). AreTaken c.self.inside.numbers_before (picked was s)) (sym opened)
          (subst (AreTaken c.self.inside.numbers_before)
          (sym (laws.opened_was c.self.inside.slots c.args.space)) c.self.invariant.4),
    )

pub invariant_of-self-in-Err : goal.invariant_of-self-in-Err
invariant_of-self-in-Err c =
    let same = c.in-Err.ensures.err in (
      subst (λ (s : SpaceSlots). AreTouched was is s c.reserve.new.self.items) (sym same)
          (subst (AreTouched was is c.self.inside.slots) (sym c.reserve.ensures.items) c.self.invariant.0),
      c.self.invariant.1 ∙ ap (λ (s : SpaceSlots). len (picked is s)) (sym same),
      c.self.invariant.2 ∙ ap (λ (s : SpaceSlots). len (picked was s)) (sym same),
      subst (λ (s : SpaceSlots). AreTaken c.self.inside.numbers (picked is s)) (sym same) c.self.invariant.3,
      subst (λ (s : SpaceSlots). AreTaken c.self.inside.numbers_before (picked was s)) (sym same) c.self.invariant.4,
    )

pub returns-in-Ok-clause-ok : goal.returns-in-Ok-clause-ok
returns-in-Ok-clause-ok c =
    let opened = c.in-Ok.ensures.ok in
    laws.both _ _ _ _
    (ap (picked was) opened ∙ laws.opened_was c.self.inside.slots c.args.space ∙ ap
    (λ (t : TrackedSpaces). t.before) c.self.view_is)
    (ap (picked is) opened ∙ laws.opened_is c.self.inside.slots c.args.space ∙ ap
    (λ (t : TrackedSpaces). insert t.current c.args.space empty) c.self.view_is)
