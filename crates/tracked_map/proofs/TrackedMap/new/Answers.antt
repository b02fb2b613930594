use Rattle.std.proofs.Common.{ap, sym, ◌∙◌}
use Rattle.std.specs.FinMap.{get, get-empty}
use Rattle.std.specs.Ordering.{nat_cmp}
use Rattle.tracked_map.proofs.Laws.{both, none_removed_yet, nothing_seen, nothing_sound}
use Rattle.tracked_map.proofs.TrackedMap.new.Goals as goal

pub invariant_of-result : goal.invariant_of-result
invariant_of-result g c =
    let sound = nothing_sound c.new.result c.new-2.result.items c.new.ensures c.new-2.ensures.items in (
      sound,
      λ _. none_removed_yet c.new.result c.new-3.result.items c.new-3.ensures.items
          (λ key is. absurd (cc (sym (ap (λ m. get m key) c.new.ensures ∙ get-empty nat_cmp key) ∙ is))),
    )

pub returns : goal.returns
returns g c =
    let seen = nothing_seen c.new.result c.new-2.result.items c.new.ensures c.new-2.ensures.items in
    both _ _ _ _ seen.0 seen.1
