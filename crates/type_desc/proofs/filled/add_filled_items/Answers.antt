use Rattle.std.proofs.Common.{sym, ◌∙◌}
use Rattle.type_desc.specs.Adding.{keeps_added, keeps_both}
use Rattle.type_desc.specs.Filling.{one_filled, all_filled, one_unfilled}
use Rattle.type_desc.specs.Values.{item_value}
use Rattle.type_desc.proofs.filled.add_filled_items.Goals as goal

pub returns-in_default-clause-faulty : goal.returns-in_default-clause-faulty
returns-in_default-clause-faulty c =
    λ (_ : _). one_unfilled _ _ _ _ _ _ _ c.loop-rest.invariant.added
    (sym c.is_empty.ensures ∙ c.loop-rest-test.true) c.in_default.ensures.refused

pub loop-rest-preserved : goal.loop-rest-preserved
loop-rest-preserved c = record {
  added =
      one_filled _ _ c.in-Ok.beyond.now _ _ _ _ (item_value c.in-Ok.item) c.loop-rest.invariant.added
      (sym c.is_empty.ensures ∙ c.loop-rest-test.true) c.in-Ok.ensures.passes c.in-Ok.ensures.item
      c.in-Ok.ensures.rest
      c.in_ok-push_filled.ensures.ok c.following_names-left.ensures;
  kept = keeps_both _ _ _ c.loop-rest.invariant.kept (keeps_added _ _ _ c.in_ok-push_filled.ensures.ok);
}

pub returns-clause-tiled : goal.returns-clause-tiled
returns-clause-tiled c =
    λ (_ : _). all_filled _ _ _ _ _ _ c.loop-rest.invariant.added (sym c.is_empty.ensures ∙ c.loop-rest-test.false)
