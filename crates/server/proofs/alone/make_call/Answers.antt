use Rattle.std.proofs.Common.{subst, sym}
use Rattle.system.specs.Faults.{NotCalled}
use Rattle.system.specs.GoingOn.{IsStanding}
use Rattle.system.specs.declared.system.CallFault.{CallFault}
use Rattle.frame_service.proofs.Answered.{shortage_fits}
use Rattle.server.proofs.Making.{calls_keep, calls_pass, fails_pass}
use Rattle.server.proofs.alone.make_call.Goals as goal

pub returns-in-Ok-clause-passes : goal.returns-in-Ok-clause-passes
returns-in-Ok-clause-passes g c = λ honest kept.
    calls_pass g.D.Disk.honest g.D.Disk.view c.args.system.now c.call.new.self c.args.space c.args.call.now
    c.in-Ok.reply c.in-Ok.ensures.answered honest kept

pub returns-in-Ok-clause-kept : goal.returns-in-Ok-clause-kept
returns-in-Ok-clause-kept g c = λ honest kept.
    calls_keep g.D.Disk.honest g.D.Disk.view c.args.system.now c.call.new.self c.args.space c.args.call.now
    c.in-Ok.reply c.in-Ok.ensures.answered honest kept

pub returns-in-Err-Submit-clause-kept : goal.returns-in-Err-Submit-clause-kept
returns-in-Err-Submit-clause-kept g c = λ honest standing.
    let same = subst (λ (f : CallFault). NotCalled g.D.Disk.honest g.D.Disk.view c.args.system.now c.args.space c.args.call.now f c.call.new.self) c.in-Err-Submit.field-0-is c.in-Err-Submit.ensures.faults in
    subst (λ s. IsStanding g.D.Disk.view s.store s.core.kernel) (sym same) standing

pub returns-in-Err-Submit-clause-frame : goal.returns-in-Err-Submit-clause-frame
returns-in-Err-Submit-clause-frame g c = shortage_fits c.args.call.now c.shortage.result c.shortage.ensures.answer

pub returns-in-Err-Store-clause-passes : goal.returns-in-Err-Store-clause-passes
returns-in-Err-Store-clause-passes g c = λ honest kept.
    let fault =
    subst (λ (f : CallFault). NotCalled g.D.Disk.honest g.D.Disk.view c.args.system.now c.args.space c.args.call.now
    f c.call.new.self) c.in-Err-Store.field-0-is c.in-Err-Store.ensures.faults in
    fails_pass g.D.Disk.honest g.D.Disk.view c.args.system.now c.call.new.self c.args.space c.args.call.now fault.1
    honest kept
