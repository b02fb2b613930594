use Rattle.std.proofs.Common.{ap, sym, subst, ◌∙◌}
use Rattle.std.specs.Ordering.{nat_cmp}
use Rattle.std.specs.FinMap.{len, len-empty}
use Rattle.ipc_model.specs.state.Ipc.{Names}
use Rattle.spaces.specs.Numbers.{AreTaken}
use Rattle.spaces.specs.Laws as laws
use Rattle.spaces.proofs.table.SpaceTable.new.Goals as goal

pub invariant_of-result : goal.invariant_of-result
invariant_of-result c =
    let rest = laws.new_rest c.new.result c.new-2.result.items c.new-2.ensures.items c.new.ensures in
    let none = len-empty nat_cmp Names in (
      rest.touched_none,
      sym (ap len rest.seen_is ∙ none),
      sym (ap len rest.seen_was ∙ none),
      subst (AreTaken _) (sym rest.seen_is) c.new-3.ensures,
      subst (AreTaken _) (sym rest.seen_was) c.new-4.ensures,
    )

pub returns : goal.returns
returns c =
    let rest = laws.new_rest c.new.result c.new-2.result.items c.new-2.ensures.items c.new.ensures in
    laws.both _ _ _ _ rest.seen_was rest.seen_is
