use Rattle.std.proofs.Common.{Bool, ◌&&◌, ap, sym, ◌∙◌}
use Rattle.std.specs.Prelude.{is_some}
use Rattle.frame_service.specs.Confining.{is_attach}
use Rattle.socket_server.proofs.Unconfined.{made_free, some_made}
use Rattle.socket_server.proofs.making.submit.Goals as goal

pub returns-clause-made : goal.returns-clause-made
returns-clause-made g c =
    let free =
    ap (λ (b : Bool). b && is_attach c.args.call.now) (sym c.is_some.ensures) ∙ sym c.is_kept.ensures ∙ c.if-is_kept.false in
    some_made g.L.Founding.base c.args.since c.args.session c.submit-session.result.0 c.args.call.now _
    c.submit-session.result.1 c.ok.result c.ok.ensures.value
    (made_free (is_some c.args.since) c.args.session.task.space c.args.call.now free) c.submit-session.ensures.made
