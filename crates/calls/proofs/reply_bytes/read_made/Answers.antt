use Rattle.std.proofs.Common.{Some, ap, sym, ◌∙◌, arith}
use Rattle.ipc_model.specs.declared.plain_reply.PlainReply.{PlainReply}
use Rattle.ipc_model.specs.declared.reply.Reply.{Reply}
use Rattle.ipc_model.specs.declared.reply.Reply.TheVariants as reply
use Rattle.calls.proofs.RequestLaws.{long_made, made_reply, some_reply}
use Rattle.calls.proofs.reply_bytes.read_made.Goals as goal

pub returns-in_default-clause-only : goal.returns-in_default-clause-only
returns-in_default-clause-only c = λ answer is.
    absurd (omega (
      arith,
      long_made c.args.request c.args.inner.now answer c.ranges.request.fits is,
      c.in_default.ensures.none,
    ))

pub returns-in_default-2-clause-only : goal.returns-in_default-2-clause-only
returns-in_default-2-clause-only c = λ answer is.
    let own =
    made_reply c.args.request c.in-Some.number c.args.inner.now c.in-Some.field-0-1.now answer c.ranges.request.fits
    c.in-Some.ensures.fits c.in-Some.ensures.found is in
    absurd (cc (sym c.in_default-2.is ∙ c.in_ok-reply.ensures.only own.0 own.1))

pub returns-clause-only : goal.returns-clause-only
returns-clause-only c = λ answer is.
    let own =
    made_reply c.args.request c.in-Some.number c.args.inner.now c.in-Some.field-0-1.now answer c.ranges.request.fits
    c.in-Some.ensures.fits c.in-Some.ensures.found is in
    let same =
    some_reply c.in_ok-reply.field-0 c.in-Some-2.reply own.0 c.in-Some-2.is (c.in_ok-reply.ensures.only own.0 own.1) in
    ap (λ (r : Reply). Some r)
    (ap (λ (r : PlainReply). reply.Numbered (record { request = c.args.request; reply = r })) same ∙ sym own.2)
