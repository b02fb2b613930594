use Rattle.std.proofs.Common.{ℕ, ◌+◌, sym, ◌∙◌, subst, arith}
use Rattle.live_ports.specs.NextPort.{ArePassed, passed_dead, passed_on}
use Rattle.live_ports.specs.Tables.{present_ports}
use Rattle.live_ports.proofs.tables.Tables.next_port.Goals as goal

pub loop-serial-init : goal.loop-serial-init
loop-serial-init c = record {
  passed = λ serial le below. absurd (omega (arith, c.from-at.ensures, le, below));
  from_on = omega (arith, c.from-at.ensures);
  fits = omega (arith, c.from-at.ensures);
}

pub returns-then-contains : goal.returns-then-contains
returns-then-contains c =
    let next = c.in-Some.ensures.slot in (
      omega (arith, c.loop-serial.invariant.from_on, next.0),
      sym c.contains.ensures ∙ c.if-contains.true,
      passed_on c.args.self.now.slots c.args.from c.loop-serial.at c.loop-serial.invariant.passed c.in-Some.serial
          next.1,
    )

pub loop-serial-preserved : goal.loop-serial-preserved
loop-serial-preserved c =
    let slots = c.args.self.now.slots in
    let next = c.in-Some.ensures.slot in
    let passed = passed_on slots c.args.from c.loop-serial.at c.loop-serial.invariant.passed c.in-Some.serial next.1 in
    record {
      passed =
          subst (λ (n : ℕ). ArePassed (present_ports slots) c.args.from (n + 1)) (sym c.from-at-in-Some.ensures)
          (passed_dead slots c.args.from c.in-Some.serial passed (sym c.contains.ensures ∙ c.if-contains.false));
      from_on = omega (arith, c.loop-serial.invariant.from_on, next.0, c.from-at-in-Some.ensures);
      fits = omega (arith, c.in-Some.ensures.fits, c.from-at-in-Some.ensures);
    }

pub returns : goal.returns
returns c = λ serial le small.
    passed_on c.args.self.now.slots c.args.from c.loop-serial.at c.loop-serial.invariant.passed (serial + 1)
    (λ q from below. c.in_default.ensures.slot q from (omega (arith, below, small))) serial le (omega arith)
