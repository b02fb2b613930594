use Rattle.std.proofs.Common.{List, sym, ◌∙◌, ap, subst}
use Rattle.ipc_state.specs.Running.{Running}
use Rattle.snapshot.specs.declared.rows.NamedEntry.{NamedEntry}
use Rattle.snapshot_loading.specs.Filling.{named_all}
use Rattle.snapshot_loading.specs.FillLaws.{MayName, may_name_next}
use Rattle.snapshot_loading.proofs.filling.put_names.Goals as goal

pub loop-row-preserved : goal.loop-row-preserved
loop-row-preserved c =
    let now = c.loop-row.state.current in
    let space = c.args.space in
    let is = c.in-Some.ensures.cases.0 in
    let beyond = c.in-Some.beyond.now in
    record {
      left =
          ap (λ (r : Running). named_all space beyond r.current) c.in_ok-put_name.ensures.ok ∙ ap
          (λ (rows : List NamedEntry). named_all space rows now) (sym is) ∙ c.loop-row.invariant.left;
      may =
          subst (λ (r : Running). MayName space beyond r.current) (sym c.in_ok-put_name.ensures.ok)
          (may_name_next space c.in-Some.row.now beyond now
          (subst (λ (rows : List NamedEntry). MayName space rows now) is c.loop-row.invariant.may));
    }
