use Rattle.std.proofs.Common.{inl, inr, sym, ◌∙◌}
use Rattle.frame_service.proofs.Sent.{sent_is_made}
use Rattle.frame_service.proofs.taking.send_and_receive.Goals as goal

pub returns-else-not-is_sent : goal.returns-else-not-is_sent
returns-else-not-is_sent g c =
    let made =
    sent_is_made g.A.Asker.answer g.A.Asker.makes g.A.Asker.lacks c.args.asker.now c.try_call.new.asker c.args.send
    c.in-Ok.ready c.in-Ok.ensures.asks (sym (c.is_sent.ensures c.args.send) ∙ c.if-not-is_sent.false) in
    inr (made.0, c.try_call.new.asker, made.1, made.2, c.receive_now.ensures)

pub returns-then-not-is_sent : goal.returns-then-not-is_sent
returns-then-not-is_sent g c = inl (
  (c.in-Ok.ensures.asks, c.in-Ok.ensures.endless),
  sym (c.is_sent.ensures c.args.send) ∙ c.if-not-is_sent.true,
)
