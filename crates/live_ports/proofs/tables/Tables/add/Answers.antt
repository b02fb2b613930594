use Rattle.std.proofs.Common.{refl, sym, ◌∙◌, ap, subst}
use Rattle.std.specs.FinMap as map
use Rattle.live_ports.specs.Tables.{former_ports, AreMarked}
use Rattle.ipc_model.specs.state.Ipc.{new_port}
use Rattle.live_ports.proofs.Slotted.{former_born, marked_born, marked_noted, present_born}
use Rattle.live_ports.proofs.tables.Tables.add.Goals as goal

pub returns-in_err-touch-clause-before : goal.returns-in_err-touch-clause-before
returns-in_err-touch-clause-before c =
    record {
      ports = refl;
      count = refl;
      next = refl;
      touched = subst (AreMarked c.args.self.now.slots) (sym c.in_err-touch.ensures.err) c.requires.marked;
    }

pub returns-in_err-insert-clause-before : goal.returns-in_err-insert-clause-before
returns-in_err-insert-clause-before c = record {
  ports = ap former_ports c.in_err-insert.ensures.err;
  count = refl;
  next = refl;
  touched =
      marked_noted c.args.self.now.slots c.insert.new.self c.args.self.now.touched.items c.touch.new.touched.items
      c.args.self.now.next c.in_err-insert.ensures.err c.in_ok-touch.ensures.ok c.requires.marked;
}

pub returns-clause-ok : goal.returns-clause-ok
returns-clause-ok c =
    let slots = c.args.self.now.slots in
    let at =
    c.in_ok-insert.ensures.ok ∙ ap (λ k. map.insert slots k c.new-port.result) c.from.ensures
    ∙ ap (map.insert slots c.args.self.now.next) c.new-port.ensures in
    record { ports = present_born slots c.insert.new.self c.args.self.now.next new_port at; count = refl; next = refl }

pub returns-clause-before : goal.returns-clause-before
returns-clause-before c =
    let slots = c.args.self.now.slots in
    let at =
    c.in_ok-insert.ensures.ok ∙ ap (λ k. map.insert slots k c.new-port.result) c.from.ensures
    ∙ ap (map.insert slots c.args.self.now.next) c.new-port.ensures in
    record {
      ports = former_born slots c.insert.new.self c.args.self.now.next new_port at c.requires.unborn;
      count = refl;
      next = refl;
      touched =
          marked_born slots c.insert.new.self c.args.self.now.touched.items c.touch.new.touched.items
          c.args.self.now.next _ at c.in_ok-touch.ensures.ok c.requires.marked;
    }
