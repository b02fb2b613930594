use Rattle.std.proofs.Common.{ℕ, ◌∙◌, ap, refl, sym, subst}
use Rattle.live_ports.specs.Changed.{with_numbers}
use Rattle.live_ports.specs.Tables.{present_changed, slot_changed, AreMarked}
use Rattle.live_ports.proofs.Slotted.{former_same, marked_changed, present_as}
use Rattle.live_ports.proofs.tables.Tables.set_numbers.Goals as goal

pub returns-in_err-touch-clause-before : goal.returns-in_err-touch-clause-before
returns-in_err-touch-clause-before c =
    record {
      ports = refl;
      count = refl;
      next = refl;
      touched = subst (AreMarked c.args.self.now.slots) (sym c.in_err-touch.ensures.err) c.requires;
    }

pub returns-clause-ok : goal.returns-clause-ok
returns-clause-ok c =
    record {
      ports = present_as c.args.self.now.slots c.set_numbers.new.self c.args.serial (with_numbers c.args.numbers)
          (c.set_numbers.ensures ∙ ap
          (λ (k : ℕ). slot_changed c.args.self.now.slots k (present_changed (with_numbers c.args.numbers)))
          c.from.ensures);
      count = refl;
      next = refl;
    }

pub returns-clause-before : goal.returns-clause-before
returns-clause-before c =
    let f = present_changed (with_numbers c.args.numbers) in
    record {
      ports =
          former_same c.args.self.now.slots c.set_numbers.new.self c.args.serial f
          (λ _. refl) (c.set_numbers.ensures ∙ ap
          (λ (k : ℕ). slot_changed c.args.self.now.slots k (present_changed (with_numbers c.args.numbers)))
          c.from.ensures);
      count = refl;
      next = refl;
      touched =
          marked_changed c.args.self.now.slots c.set_numbers.new.self c.args.self.now.touched.items
          c.touch.new.touched.items c.args.serial f
          (c.set_numbers.ensures ∙ ap
          (λ (k : ℕ). slot_changed c.args.self.now.slots k (present_changed (with_numbers c.args.numbers)))
          c.from.ensures) c.in_ok-touch.ensures.ok c.requires;
    }
