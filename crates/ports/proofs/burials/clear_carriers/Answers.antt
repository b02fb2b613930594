use Rattle.std.proofs.Common.{ℕ, ap, ◌∙◌}
use Rattle.tracked_map.specs.Tracked.{Tracked}
use Rattle.ports.specs.Burials.{fewer_pairs, others_stay}
use Rattle.ports.proofs.burials.clear_carriers.Goals as goal

pub loop-outer-smaller : goal.loop-outer-smaller
loop-outer-smaller c =
    fewer_pairs c.loop-outer.carriers.current c.clear.new.self.current c.args.inner c.in-Some.outer
    (ap (λ (t : Tracked ℕ). t.current) c.in_ok-clear.ensures.ok) c.in-Some.ensures.1

pub loop-outer-preserved : goal.loop-outer-preserved
loop-outer-preserved c = record {
  others = λ a b small apart.
      others_stay c.loop-outer.carriers.current c.clear.new.self.current c.args.inner c.in-Some.outer a b
      (ap (λ (t : Tracked ℕ). t.current) c.in_ok-clear.ensures.ok) c.in-Some.ensures.0 small apart
      ∙ c.loop-outer.invariant.others a b small apart;
  before = ap (λ (t : Tracked ℕ). t.before) c.in_ok-clear.ensures.ok ∙ c.loop-outer.invariant.before;
}
