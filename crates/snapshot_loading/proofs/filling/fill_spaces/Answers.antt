use Rattle.std.proofs.Common.{List, sym, ◌∙◌, ap, subst}
use Rattle.snapshot.specs.declared.rows.Space.{Space}
use Rattle.snapshot_loading.specs.Filling.{spaced_all}
use Rattle.snapshot_loading.specs.FillLaws.{MaySpace, may_space_next}
use Rattle.snapshot_loading.proofs.filling.fill_spaces.Goals as goal

pub loop-row-preserved : goal.loop-row-preserved
loop-row-preserved c =
    let now = c.loop-row.state.current in
    let is = c.in-Some.ensures.cases.0 in
    let beyond = c.in-Some.beyond.now in
    record {
      left =
          ap (spaced_all beyond) c.in_ok-fill_space.ensures ∙ ap (λ (rows : List Space). spaced_all rows now) (sym is)
          ∙ c.loop-row.invariant.left;
      may =
          subst (MaySpace beyond) (sym c.in_ok-fill_space.ensures)
          (may_space_next c.in-Some.row.now beyond now
          (subst (λ (rows : List Space). MaySpace rows now) is c.loop-row.invariant.may));
    }
