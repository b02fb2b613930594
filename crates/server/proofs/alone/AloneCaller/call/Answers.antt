use Rattle.std.proofs.Common.{◌&&◌, ap, sym, ◌∙◌}
use Rattle.frame_service.specs.Confining.{is_attach}
use Rattle.server.proofs.Confining.{asked_free}
use Rattle.server.proofs.alone.AloneCaller.call.Goals as goal

pub returns-clause-answers : goal.returns-clause-answers
returns-clause-answers g c =
    let free =
    ap (λ v. v.confined && is_attach c.args.call) (sym c.self.view_is) ∙ sym c.is_kept.ensures ∙ c.if-is_kept.false in
    asked_free g.D.Disk.honest g.D.Disk.view c.args.self.now c.args.call c.make.result _ free c.make.ensures.answers
