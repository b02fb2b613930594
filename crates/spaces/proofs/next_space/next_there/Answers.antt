use Rattle.std.proofs.Common.{ℕ, ◌+◌, is_some, sym, ◌∙◌, ap, subst, arith}
use Rattle.spaces.specs.NextSpace.{ArePassed, passed_on, passed_slot}
use Rattle.spaces.specs.Slots.{is}
use Rattle.tracked_map.specs.Slots.{picked, get_picked}
use Rattle.spaces.proofs.next_space.next_there.Goals as goal

pub returns-then-is_there : goal.returns-then-is_there
returns-then-is_there c =
    let slots = c.args.slots.now in
    let next = c.in-Some.ensures.slot in (
      omega (arith, c.loop-number.invariant.from_on, next.0),
      ap is_some (get_picked is slots c.in-Some.number) ∙ sym next.1 ∙ c.if-is_there.true,
      passed_on slots c.args.from c.loop-number.at c.loop-number.invariant.passed c.in-Some.number next.2,
    )

pub loop-number-preserved : goal.loop-number-preserved
loop-number-preserved c =
    let slots = c.args.slots.now in
    let next = c.in-Some.ensures.slot in
    let passed = passed_on slots c.args.from c.loop-number.at c.loop-number.invariant.passed c.in-Some.number next.2 in
    record {
      passed =
          subst (λ (n : ℕ). ArePassed (picked is slots) c.args.from (n + 1)) (sym c.from-at.ensures)
          (passed_slot slots c.args.from c.in-Some.number passed (sym next.1 ∙ c.if-is_there.false));
      from_on = omega (arith, c.loop-number.invariant.from_on, next.0, c.from-at.ensures);
    }

pub returns : goal.returns
returns c = λ number le small.
    passed_on c.args.slots.now c.args.from c.loop-number.at c.loop-number.invariant.passed (number + 1)
    (λ q from below. c.in_default.ensures.slot q from (omega (arith, below, small))) number le (omega arith)
