use Rattle.std.proofs.Common.{Some, is_some, ap, ◌∙◌}
use Rattle.std.specs.Cmp.{nat_cmp_total}
use Rattle.std.specs.FinMap.{get, insert, get-insert}
use Rattle.ipc_model.specs.state.Ipc.{Names}
use Rattle.spaces.specs.Indexes.{indexed_before, indexed_after}
use Rattle.spaces.specs.Noted.{before_noted, one_noted}
use Rattle.spaces.specs.Slots.{TrackedSpaces}
use Rattle.spaces.proofs.spaces.Spaces.put_name.Goals as goal

pub invariant_of-self : goal.invariant_of-self
invariant_of-self c =
    let change : Names → Names = λ names. insert names c.args.name c.args.entry in (
      indexed_before c.self.inside.indexes c.put_in_both.new.indexes c.self.inside.table.before
          c.put_in_both.new.table.before c.put_in_both.ensures.before c.put_in_both.ensures.indexes_before
          c.self.invariant.0,
      indexed_after c.self.inside.indexes c.put_in_both.new.indexes c.self.inside.table.current
          c.put_in_both.new.table.current c.args.space c.args.name change
          (Some c.args.entry) c.ranges.name.fits c.ranges.space.fits
          (ap (λ (t : TrackedSpaces). is_some (get t.current c.args.space)) c.self.view_is
          ∙ cc (c.contains.ensures, c.if-not-contains.ensures, c.if-not-contains.false))
          (λ names n. get-insert nat_cmp_total names c.args.name c.args.entry n)
          (ap (λ (t : TrackedSpaces). t.current) c.in-Ok.ensures.table)
          c.in-Ok.ensures.indexes c.self.invariant.1,
      before_noted c.self.inside.table.before _ _ _ c.put_in_both.ensures.before
          (one_noted c.self.inside.table.before c.self.inside.table.current c.put_in_both.new.table.current
          c.self.inside.indexes.changed.items c.put_in_both.new.indexes.changed.items c.args.space c.args.name
          change (Some c.args.entry) c.ranges.name.fits
          (λ names n. get-insert nat_cmp_total names c.args.name c.args.entry n)
          (ap (λ (t : TrackedSpaces). t.current) c.in-Ok.ensures.table) c.in-Ok.ensures.indexes.noted
          c.self.invariant.2),
    )
