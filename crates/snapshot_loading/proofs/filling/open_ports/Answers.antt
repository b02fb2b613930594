use Rattle.std.proofs.Common.{List, sym, ◌∙◌, ap, subst}
use Rattle.snapshot.specs.declared.rows.LivePort.{LivePort}
use Rattle.snapshot_loading.specs.Filling.{opened_all}
use Rattle.snapshot_loading.specs.FillLaws.{MayOpen, may_open_next}
use Rattle.snapshot_loading.proofs.filling.open_ports.Goals as goal

pub loop-row-preserved : goal.loop-row-preserved
loop-row-preserved c =
    let now = c.loop-row.state.current in
    let is = c.in-Some.ensures.cases.0 in
    let beyond = c.in-Some.beyond.now in
    record {
      left =
          ap (opened_all beyond) c.in_ok-open_port.ensures ∙ ap (λ (rows : List LivePort). opened_all rows now) (sym is)
          ∙ c.loop-row.invariant.left;
      may =
          subst (MayOpen beyond) (sym c.in_ok-open_port.ensures)
          (may_open_next c.in-Some.row.now beyond now
          (subst (λ (rows : List LivePort). MayOpen rows now) is c.loop-row.invariant.may));
    }
