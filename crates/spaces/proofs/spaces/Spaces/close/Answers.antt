use Rattle.std.proofs.Common.{◌≡◌, Some, ap, sym, subst, ◌∙◌}
use Rattle.std.specs.FinMap.{empty, get}
use Rattle.ipc_model.specs.state.Ipc.{Names}
use Rattle.spaces.specs.Counting.{closed_counted}
use Rattle.spaces.specs.Indexes.{AreIndexed, same_indexed, closed_alike}
use Rattle.spaces.specs.Noted.{AreNoted, alike_noted, before_noted}
use Rattle.spaces.specs.Slots.{SpaceMap, TrackedSpaces}
use Rattle.spaces.proofs.spaces.Spaces.close.Goals as goal

pub invariant_of-self : goal.invariant_of-self
invariant_of-self c =
    let indexes = c.self.inside.indexes in
    let empty_there : (names : Names) → get c.self.inside.table.current c.args.space ≡ Some names → names ≡ empty =
    λ names at. c.requires.empty names
    (ap (λ (t : TrackedSpaces). get t.current c.args.space) (sym c.self.view_is) ∙ at) in
    let done = c.in-Ok.ensures.ok in (
      subst (λ (s : SpaceMap). AreIndexed s indexes.sharers.before indexes.requesters.before indexes.receivers.before
          indexes.counts.before) (sym (ap (λ (t : TrackedSpaces). t.before) done)) c.self.invariant.0,
      subst (λ (s : SpaceMap). AreIndexed s indexes.sharers.current indexes.requesters.current indexes.receivers.current
          indexes.counts.current) (sym (ap (λ (t : TrackedSpaces). t.current) done))
          (same_indexed _ _ _ _ _ _ (closed_alike c.self.inside.table.current c.args.space empty_there)
          (closed_counted c.self.inside.table.current c.args.space indexes.counts.current empty_there)
          c.self.invariant.1),
      before_noted c.self.inside.table.before _ _ indexes.changed.items (ap (λ (t : TrackedSpaces). t.before) done)
          (subst (λ (s : SpaceMap). AreNoted c.self.inside.table.before s indexes.changed.items)
          (sym (ap (λ (t : TrackedSpaces). t.current) done))
          (alike_noted c.self.inside.table.before c.self.inside.table.current _ indexes.changed.items
          (closed_alike c.self.inside.table.current c.args.space empty_there) c.self.invariant.2)),
    )
