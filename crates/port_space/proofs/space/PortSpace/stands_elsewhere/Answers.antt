use Rattle.std.proofs.Common.{Some, None, ap, sym, subst, ◌∙◌}
use Rattle.ipc_model.specs.calls.PortCalls.{stands_elsewhere}
use Rattle.ipc_model.specs.declared.entry.Entry.{Entry}
use Rattle.ipc_laws.specs.ListLaws.{some_same}
use Rattle.tracked_map.specs.Tracked.{Tracked}
use Rattle.port_space.proofs.Answering.{NextName, StandsAbove, differ, elsewhere_above, elsewhere_first}
use Rattle.port_space.proofs.Standing.{small_bounded}
use Rattle.port_space.proofs.space.PortSpace.stands_elsewhere.Goals as goal

pub returns-in_default : goal.returns-in_default
returns-in_default c =
    let names = c.self.inside.tables.names.current in
    elsewhere_first names c.args.port c.args.name None
    (small_bounded names c.self.invariant.1.bounded) c.in_default.ensures (λ none. cc none)
    ∙ ap (λ (t : Tracked Entry). stands_elsewhere t.current c.args.name c.args.port) c.self.view_is

pub returns-then-first-name : goal.returns-then-first-name
returns-then-first-name c =
    let names = c.self.inside.tables.names.current in
    differ c.in-Some.first c.args.name c.if-first-name.true
    ∙ elsewhere_first names c.args.port c.args.name (Some c.in-Some.first)
    (small_bounded names c.self.invariant.1.bounded) c.in-Some.ensures
    (λ same. c.if-first-name.true (some_same _ _ same))
    ∙ ap (λ (t : Tracked Entry). stands_elsewhere t.current c.args.name c.args.port) c.self.view_is

pub returns-else-first-name : goal.returns-else-first-name
returns-else-first-name c =
    let names = c.self.inside.tables.names.current in
    elsewhere_above names c.args.port c.args.name c.stands_above.result
    (subst (λ n. NextName names c.args.port 0 (Some n)) c.if-first-name.false c.in-Some.ensures)
    (subst (λ (t : Tracked Entry). StandsAbove t.current c.args.port c.args.name c.stands_above.result)
    (sym c.self.view_is) c.stands_above.ensures)
    ∙ ap (λ (t : Tracked Entry). stands_elsewhere t.current c.args.name c.args.port) c.self.view_is
