use Rattle.std.proofs.Common.{ℕ, ◌∙◌, ap, refl, sym, subst}
use Rattle.live_ports.specs.Changed.{without_first}
use Rattle.live_ports.specs.Tables.{present_changed, slot_changed, AreMarked}
use Rattle.live_ports.proofs.Slotted.{former_same, marked_changed, present_as}
use Rattle.live_ports.proofs.tables.Tables.take.Goals as goal

pub returns-in_err-touch-clause-before : goal.returns-in_err-touch-clause-before
returns-in_err-touch-clause-before c =
    record {
      ports = refl;
      count = refl;
      next = refl;
      touched = subst (AreMarked c.args.self.now.slots) (sym c.in_err-touch.ensures.err) c.requires;
    }

pub returns-clause-ok : goal.returns-clause-ok
returns-clause-ok c =
    record {
      ports = present_as c.args.self.now.slots c.take.new.self c.args.serial without_first
          (c.take.ensures ∙ ap (λ (k : ℕ). slot_changed c.args.self.now.slots k (present_changed without_first))
          c.from.ensures);
      count = refl;
      next = refl;
    }

pub returns-clause-before : goal.returns-clause-before
returns-clause-before c =
    let f = present_changed without_first in
    record {
      ports =
          former_same c.args.self.now.slots c.take.new.self c.args.serial f
          (λ _. refl) (c.take.ensures ∙ ap
          (λ (k : ℕ). slot_changed c.args.self.now.slots k (present_changed without_first)) c.from.ensures);
      count = refl;
      next = refl;
      touched =
          marked_changed c.args.self.now.slots c.take.new.self c.args.self.now.touched.items c.touch.new.touched.items
          c.args.serial f (c.take.ensures ∙ ap
          (λ (k : ℕ). slot_changed c.args.self.now.slots k (present_changed without_first)) c.from.ensures)
          c.in_ok-touch.ensures.ok c.requires;
    }
