use Rattle.std.proofs.Common.{◌≡◌, Option, IfSome, length, refl, subst, ap, arith}
use Rattle.ipc_model.specs.declared.call.Call.{Call}
use Rattle.ipc_model.specs.declared.reply.Reply.{Reply}
use Rattle.ipc_model.specs.encodings.Encodings.{call_encoding, reply_encoding, IsCanonicalCall, IsRecordedReply}
use Rattle.record.proofs.read.read_record.Goals as goal

pub returns-clause-found : goal.returns-clause-found
returns-clause-found c =
    let call =
    subst (λ (o : Option Call). IfSome o (λ x. (c.args.call.now ≡ call_encoding x) × IsCanonicalCall x))
    c.in-Some.is c.in_ok-call.ensures.found in
    let reply =
    subst (λ (o : Option Reply). IfSome o
    (λ x. (c.args.reply.now ≡ reply_encoding x) × IsRecordedReply c.in-Some.call x)) c.in-Some-2.is
    c.in_ok-reply.ensures.found in (
      refl,
      call.0,
      reply.0,
      record {
        space = omega (arith, c.ranges.space.fits);
        call = call.1;
        reply = reply.1;
        frames = (
          omega (arith, c.if-most-call.false, ap length call.0),
          omega (arith, c.if-most-reply.false, ap length reply.0),
        );
      },
    )
