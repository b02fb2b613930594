use Rattle.std.proofs.Common.{ℕ, ◌∙◌, ap, refl, sym, subst}
use Rattle.live_ports.specs.Tables.{buried, slot_changed, AreMarked}
use Rattle.live_ports.proofs.Slotted.{former_same, marked_changed, present_buried}
use Rattle.live_ports.proofs.tables.Tables.bury.Goals as goal

pub returns-in_err-touch-clause-before : goal.returns-in_err-touch-clause-before
returns-in_err-touch-clause-before c =
    record {
      ports = refl;
      count = refl;
      next = refl;
      touched = subst (AreMarked c.args.self.now.slots) (sym c.in_err-touch.ensures.err) c.requires.marked;
    }

pub returns-clause-ok : goal.returns-clause-ok
returns-clause-ok c =
    record {
      ports = present_buried c.args.self.now.slots c.bury.new.self c.args.serial
          (c.bury.ensures ∙ ap (λ (k : ℕ). slot_changed c.args.self.now.slots k buried) c.from.ensures);
      count = refl;
      next = refl;
    }

pub returns-clause-before : goal.returns-clause-before
returns-clause-before c = record {
  ports =
      former_same c.args.self.now.slots c.bury.new.self c.args.serial buried
      (λ _. refl) (c.bury.ensures ∙ ap (λ (k : ℕ). slot_changed c.args.self.now.slots k buried) c.from.ensures);
  count = refl;
  next = refl;
  touched =
      marked_changed c.args.self.now.slots c.bury.new.self c.args.self.now.touched.items c.touch.new.touched.items
      c.args.serial buried (c.bury.ensures ∙ ap
      (λ (k : ℕ). slot_changed c.args.self.now.slots k buried) c.from.ensures) c.in_ok-touch.ensures.ok
      c.requires.marked;
}
