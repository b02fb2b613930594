use Rattle.std.proofs.Common.{ℕ, ◌<◌, ◌-◌, ◌^◌, ◌∙◌, IfSome, length, option_and_then, refl, sym, ap, subst}
use Rattle.std.specs.FinMap as map
use Rattle.live_ports.specs.Changed.{with_message}
use Rattle.live_ports.specs.Tables.{current_of, former_ports, present_changed, slot_changed, AreMarked}
use Rattle.live_ports.proofs.Slotted.{either, former_same, marked_changed, marked_noted, present_as, pushed_ok, pushed_room}
use Rattle.live_ports.proofs.tables.Tables.push.Goals as goal

pub returns-in_err-touch-clause-before : goal.returns-in_err-touch-clause-before
returns-in_err-touch-clause-before c =
    record {
      ports = refl;
      count = refl;
      next = refl;
      touched = subst (AreMarked c.args.self.now.slots) (sym c.in_err-touch.ensures.err) c.requires;
    }

pub returns-clause-ok : goal.returns-clause-ok
returns-clause-ok c =
    pushed_ok c.push.result c.push.ensures.ok
    (λ at. record {
      ports = present_as c.args.self.now.slots c.push.new.self c.args.serial
          (with_message c.args.message) (at ∙ ap
          (λ (k : ℕ). slot_changed c.args.self.now.slots k (present_changed (with_message c.args.message)))
          c.from.ensures);
      count = refl;
      next = refl;
    })

pub returns-clause-room : goal.returns-clause-room
returns-clause-room c = pushed_room c.push.result c.args.self.now.slots c.args.serial
    (pushed_ok c.push.result c.push.ensures.room
    (λ r. subst (λ (k : ℕ). IfSome (option_and_then current_of (map.get c.args.self.now.slots k))
    (λ port. length port.messages < 2 ^ 32 - 1)) c.from.ensures r))

pub returns-clause-before : goal.returns-clause-before
returns-clause-before c =
    let f = present_changed (with_message c.args.message) in
    let slots = c.args.self.now.slots in
    either c.push.result c.push.ensures.ok c.push.ensures.err
    (λ at. record {
      ports =
          former_same slots c.push.new.self c.args.serial f
          (λ _. refl) (at ∙ ap (λ (k : ℕ). slot_changed slots k f) c.from.ensures);
      count = refl;
      next = refl;
      touched =
          marked_changed slots c.push.new.self c.args.self.now.touched.items c.touch.new.touched.items c.args.serial f
          (at ∙ ap (λ (k : ℕ). slot_changed slots k f) c.from.ensures) c.in_ok-touch.ensures.ok c.requires;
    })
    (λ at. record {
      ports = ap former_ports at;
      count = refl;
      next = refl;
      touched =
          marked_noted slots c.push.new.self c.args.self.now.touched.items c.touch.new.touched.items c.args.serial at
          c.in_ok-touch.ensures.ok c.requires;
    })
