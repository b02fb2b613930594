use Rattle.std.proofs.Common.{ap, sym, subst}
use Rattle.port_indexes.specs.Counts.{ArePositive, with_positive}
use Rattle.port_indexes.proofs.counts.PairCounts.set.Goals as goal

pub invariant_of-self : goal.invariant_of-self
invariant_of-self c = (
  subst ArePositive (sym (ap (λ (t : _). t.before) (c.in-Ok.ensures.ok))) c.self.invariant.0,
  subst ArePositive (sym (ap (λ (t : _). t.current) (c.in-Ok.ensures.ok)))
      (with_positive c.self.inside.counts.current c.args.first c.args.second c.args.count c.requires.few
      c.self.invariant.1),
)
