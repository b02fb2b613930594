use Rattle.std.proofs.Common.{[], List, sym, subst}
use Rattle.std.specs.FinMap.{empty}
use Rattle.std.proofs.lemmas.List.Elements.{All-head}
use Rattle.ipc_model.specs.state.Ipc.{with_names}
use Rattle.ipc_state.specs.Running.{Running}
use Rattle.snapshot.specs.declared.rows.NamedEntry.{NamedEntry}
use Rattle.snapshot_loading.specs.FillLaws.{MayName, may_name_first}
use Rattle.snapshot_loading.specs.Shaped.{IsShapedSpace}
use Rattle.snapshot_loading.proofs.filling.fill_space.Goals as goal

pub put_names-requires : goal.put_names-requires
put_names-requires c =
    let row = c.args.row.now in
    let old = c.args.state.now.current in
    subst (λ (r : Running). MayName row.number c.as_slice.result.now r.current) (sym c.in_ok-add_space.ensures.ok)
    (subst (λ (rows : List NamedEntry). MayName row.number rows (with_names old row.number empty))
    (sym c.as_slice.ensures) (may_name_first row old (All-head IsShapedSpace row [] c.requires.each)))
