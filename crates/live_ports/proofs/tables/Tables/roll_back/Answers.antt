use Rattle.std.proofs.Common.{refl, sym, ◌∙◌, subst}
use Rattle.live_ports.specs.Tables.{before_of, current_of, AreMarked}
use Rattle.live_ports.specs.Touched.{untouched_alike}
use Rattle.live_ports.proofs.tables.Tables.roll_back.Goals as goal

pub roll_back_touched-requires : goal.roll_back_touched-requires
roll_back_touched-requires c = subst (AreMarked c.args.self.now.slots) (sym c.deref.ensures.value) c.requires

pub returns : goal.returns
returns c = record {
  before = c.roll_back_touched.ensures.seen;
  current =
      sym (untouched_alike before_of current_of c.roll_back_touched.new.slots c.roll_back_touched.ensures.touched)
      ∙ c.roll_back_touched.ensures.seen;
  touched =
      subst (AreMarked c.roll_back_touched.new.slots) (sym c.clear.ensures.items) c.roll_back_touched.ensures.touched;
  count = refl;
  next = refl;
  count_before = refl;
  next_before = refl;
}
