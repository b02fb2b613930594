use Rattle.std.proofs.Common.{ap, sym, subst, ◌∙◌}
use Rattle.std.specs.FinMap.{get}
use Rattle.spaces.specs.Counting.{opened_counted}
use Rattle.spaces.specs.Indexes.{AreIndexed, same_indexed, opened_alike}
use Rattle.spaces.specs.Noted.{AreNoted, alike_noted, before_noted}
use Rattle.spaces.specs.Slots.{SpaceMap, TrackedSpaces}
use Rattle.spaces.proofs.spaces.Spaces.add.Goals as goal

pub invariant_of-self : goal.invariant_of-self
invariant_of-self c =
    let indexes = c.self.inside.indexes in
    let absent = ap (λ (t : TrackedSpaces). get t.current c.args.space) c.self.view_is ∙ c.requires.absent in
    let done = c.in-Ok.ensures.ok in (
      subst (λ (s : SpaceMap). AreIndexed s indexes.sharers.before indexes.requesters.before indexes.receivers.before
          indexes.counts.before) (sym (ap (λ (t : TrackedSpaces). t.before) done)) c.self.invariant.0,
      subst (λ (s : SpaceMap). AreIndexed s indexes.sharers.current indexes.requesters.current indexes.receivers.current
          indexes.counts.current) (sym (ap (λ (t : TrackedSpaces). t.current) done))
          (same_indexed _ _ _ _ _ _ (opened_alike c.self.inside.table.current c.args.space absent)
          (opened_counted c.self.inside.table.current c.args.space indexes.counts.current absent)
          c.self.invariant.1),
      before_noted c.self.inside.table.before _ _ indexes.changed.items (ap (λ (t : TrackedSpaces). t.before) done)
          (subst (λ (s : SpaceMap). AreNoted c.self.inside.table.before s indexes.changed.items)
          (sym (ap (λ (t : TrackedSpaces). t.current) done))
          (alike_noted c.self.inside.table.before c.self.inside.table.current _ indexes.changed.items
          (opened_alike c.self.inside.table.current c.args.space absent) c.self.invariant.2)),
    )
