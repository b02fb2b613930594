use Rattle.system.specs.declared.system.CallFault.TheVariants.{Store}
use Rattle.system.proofs.Calls.{call_fails, called, if_err_from, is_due}
use Rattle.system.proofs.system.System.call.Goals as goal

pub returns-in_err-store_waiting-clause-faults : goal.returns-in_err-store_waiting-clause-faults
returns-in_err-store_waiting-clause-faults g c =
    if_err_from c.from_residual-in_err-store_waiting.result
    (Store c.in_err-store_waiting.field-0.0) _ c.from_residual-in_err-store_waiting.ensures.1 (
      c.in_err-store_waiting.ensures.faults.0,
      call_fails g.D.Disk.honest g.D.Disk.view c.args.self.now c.args.space c.args.call.now c.submit.new.self _
          c.requires c.in_ok-number.ensures.given c.in_err-store_waiting.ensures.faults.1,
    )

pub unreachable-requires : goal.unreachable-requires
unreachable-requires g c =
    is_due g.D.Disk.honest g.D.Disk.view c.args.self.now c.args.space c.args.call.now c.submit.new.self
    c.store_waiting.new.self c.in_ok-number.number c.requires c.in_ok-number.ensures.given
    c.in_ok-store_waiting.ensures.none c.in_ok-store_waiting.ensures.stored c.in_ok-number.ensures.number
    c.in_default.ensures.none.0

pub returns-clause-answered : goal.returns-clause-answered
returns-clause-answered g c =
    called g.D.Disk.honest g.D.Disk.view c.args.self.now c.args.space c.args.call.now c.submit.new.self
    c.store_waiting.new.self c.reply.new.self c.in_ok-number.number c.in-Some.reply c.requires
    c.in_ok-number.ensures.given
    c.in_ok-store_waiting.ensures.none c.in_ok-store_waiting.ensures.stored c.in_ok-number.ensures.number
    c.in-Some.ensures.answered
