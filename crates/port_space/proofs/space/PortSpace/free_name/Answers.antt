use Rattle.std.proofs.Common.{arith, ap}
use Rattle.ipc_model.specs.declared.entry.Entry.{Entry}
use Rattle.tracked_map.specs.Tracked.{Tracked}
use Rattle.port_space.proofs.Answering.{gap_is_free, low_is_free, same_free}
use Rattle.port_space.proofs.space.PortSpace.free_name.Goals as goal

pub overflow_cast-result : goal.overflow_cast-result
overflow_cast-result c =
    let t =
    c.self.inside.tables in omega (
      arith,
      (gap_is_free t.names.current t.by_port.current t.gaps.current t.low c.in-Some.gap c.self.invariant.1
          c.in-Some.ensures.1 c.in-Some.ensures.2).fits,
    )

pub overflow_cast-result-in-None : goal.overflow_cast-result-in-None
overflow_cast-result-in-None c =
    let t =
    c.self.inside.tables in omega (
      arith,
      (low_is_free t.names.current t.by_port.current t.gaps.current t.low c.self.invariant.1
          c.in-None.ensures).fits,
    )

pub returns-in-Some-clause-unused : goal.returns-in-Some-clause-unused
returns-in-Some-clause-unused c =
    let t = c.self.inside.tables in
    (same_free _ _ c.in-Some.gap (ap (λ (n : Tracked Entry). n.current) c.self.view_is)
    (gap_is_free t.names.current t.by_port.current t.gaps.current t.low c.in-Some.gap c.self.invariant.1
    c.in-Some.ensures.1 c.in-Some.ensures.2)).unused

pub returns-in-None-clause-unused : goal.returns-in-None-clause-unused
returns-in-None-clause-unused c =
    let t =
    c.self.inside.tables in (same_free _ _ t.low (ap (λ (n : Tracked Entry). n.current) c.self.view_is)
    (low_is_free t.names.current t.by_port.current t.gaps.current t.low c.self.invariant.1
    c.in-None.ensures)).unused
