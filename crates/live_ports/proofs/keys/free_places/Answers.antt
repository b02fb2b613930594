use Rattle.std.proofs.Common.{ap, ◌∙◌}
use Rattle.live_ports.specs.Recent.{Places, at}
use Rattle.live_ports.proofs.Recency.{all_free, none_alone}
use Rattle.live_ports.proofs.keys.free_places.Goals as goal

pub returns-in-Ok : goal.returns-in-Ok
returns-in-Ok c =
    λ place. ap (λ (l : Places). at l place) (c.in-Ok.ensures.items_if_clones_equal (none_alone _ (λ x clone. clone)))
    ∙ all_free 16384 place
