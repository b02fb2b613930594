use Rattle.std.proofs.Common.{refl, sym, ◌∙◌, subst}
use Rattle.live_ports.specs.Tables.{before_of, current_of, AreMarked}
use Rattle.live_ports.specs.Touched.{untouched_alike}
use Rattle.live_ports.proofs.tables.Tables.commit.Goals as goal

pub commit_touched-requires : goal.commit_touched-requires
commit_touched-requires c = subst (AreMarked c.args.self.now.slots) (sym c.deref.ensures.value) c.requires

pub returns : goal.returns
returns c = record {
  before =
      untouched_alike before_of current_of c.commit_touched.new.slots c.commit_touched.ensures.touched
      ∙ c.commit_touched.ensures.seen;
  current = c.commit_touched.ensures.seen;
  touched = subst (AreMarked c.commit_touched.new.slots) (sym c.clear.ensures.items) c.commit_touched.ensures.touched;
  count = refl;
  next = refl;
  count_before = refl;
  next_before = refl;
}
