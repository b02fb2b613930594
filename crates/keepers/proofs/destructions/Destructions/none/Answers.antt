use Rattle.std.proofs.Common.{ℕ, List, ap, ◌+◌, ◌∙◌}
use Rattle.codes.specs.declared.limits.TheConstants.{MAX_SPACES}
use Rattle.keepers.proofs.Destroyed.{zero_at}
use Rattle.keepers.specs.Destroying.{count_at}
use Rattle.keepers.proofs.destructions.Destructions.none.Goals as goal

pub returns : goal.returns
returns c = λ space.
    ap (λ (l : List ℕ). count_at l space) (c.in_ok-counts.ensures.items_if_clones_equal (λ y same. same))
    ∙ zero_at (MAX_SPACES + 1) space
