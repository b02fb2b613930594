use Rattle.std.proofs.Common.{arith, subst, ◌+◌, ◌^◌, false}
use Rattle.ipc_model.specs.declared.entry.Entry.{Entry}
use Rattle.tracked_map.specs.Tracked.{Tracked}
use Rattle.port_space.proofs.Answering.{StandsAbove, above_is, last_is, not_less}
use Rattle.port_space.proofs.Standing.{small_bounded}
use Rattle.port_space.proofs.space.PortSpace.stands_above.Goals as goal

pub returns-in-Some : goal.returns-in-Some
returns-in-Some c =
    let names = c.self.inside.tables.names.current in
    subst (λ (t : Tracked Entry). StandsAbove t.current c.args.port c.args.name c.is_some.result) c.self.view_is
    (above_is names c.args.port c.args.name c.in-Some.next c.next_name.result c.is_some.result
    (small_bounded names c.self.invariant.1.bounded)
    (omega (arith, c.in-Some.ensures)) c.next_name.ensures c.is_some.ensures)

pub returns-in-None : goal.returns-in-None
returns-in-None c =
    let names = c.self.inside.tables.names.current in
    subst (λ (t : Tracked Entry). StandsAbove t.current c.args.port c.args.name false) c.self.view_is
    (last_is names c.args.port c.args.name (small_bounded names c.self.invariant.1.bounded)
    (not_less (c.args.name + 1) (2 ^ 32) c.in-None.ensures))
