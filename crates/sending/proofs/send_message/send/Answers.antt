use Rattle.std.proofs.Common.{arith}
use Rattle.sending.proofs.LiveRights.{ready_live}
use Rattle.sending.proofs.send_message.send.Goals as goal

pub deliver-requires : goal.deliver-requires
deliver-requires c = record {
  live =
      ready_live c.args.state.now.current c.args.space c.args.message.now
      (record {
        message = c.in_ok-ready.ready;
        port = c.in_ok-ready.queue;
        state = c.ready.new.state.current;
        notices = c.ready.new.effects;
      })
      (λ i. omega (arith, c.type_inv.message i)) c.requires.lawful c.requires.acyclic c.requires.there
      c.in_ok-ready.ensures.ready;
}
