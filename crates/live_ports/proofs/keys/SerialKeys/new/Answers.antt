use Rattle.std.proofs.Common.{ap, ◌∙◌}
use Rattle.live_ports.specs.Recent.{Places, at}
use Rattle.live_ports.proofs.Recency.{free_recent, none_last, nothing_at}
use Rattle.live_ports.proofs.keys.SerialKeys.new.Goals as goal

pub invariant_of-result : goal.invariant_of-result
invariant_of-result c = (
  free_recent c.new-2.result.items c.new.result
      (λ place. ap (λ (l : Places). at l place) c.new-2.ensures.items ∙ nothing_at place),
  none_last 0 c.new.result c.new.ensures,
)
