use Rattle.std.proofs.Common.{ap, ◌∙◌, arith}
use Rattle.ipc_model.specs.declared.reply.NumberedReply.{NumberedReply}
use Rattle.ipc_model.specs.encodings.Encodings.{numbered_encoding}
use Rattle.kept_reply.proofs.KeptLaws.{same_kept, short_kept}
use Rattle.kept_reply.proofs.frame.take_kept_reply.Goals as goal

pub returns-in_default-clause-only : goal.returns-in_default-clause-only
returns-in_default-clause-only c = λ kept rest is request text.
    absurd (c.in_default.ensures.only (numbered_encoding kept) rest (omega (arith, short_kept kept is)) text)

pub returns-in_default-2-clause-only : goal.returns-in_default-2-clause-only
returns-in_default-2-clause-only c = λ kept rest is request text.
    let parts = c.in-Some.ensures.only (numbered_encoding kept) rest (omega (arith, short_kept kept is)) text in
    absurd (cc (c.in_default-2.is, c.in_ok-kept.ensures.only kept is parts.0))

pub returns-then-kept-request-clause-only : goal.returns-then-kept-request-clause-only
returns-then-kept-request-clause-only c = λ kept rest is request text.
    let parts = c.in-Some.ensures.only (numbered_encoding kept) rest (omega (arith, short_kept kept is)) text in
    let same =
    same_kept c.in_ok-kept.field-0 c.in-Some-2.kept kept c.in-Some-2.is (c.in_ok-kept.ensures.only kept is parts.0) in
    absurd (c.if-kept-request.true (ap (λ (k : NumberedReply). k.request) same ∙ request))

pub returns-clause-only : goal.returns-clause-only
returns-clause-only c = λ kept rest is request text.
    let parts = c.in-Some.ensures.only (numbered_encoding kept) rest (omega (arith, short_kept kept is)) text in
    let same =
    same_kept c.in_ok-kept.field-0 c.in-Some-2.kept kept c.in-Some-2.is (c.in_ok-kept.ensures.only kept is parts.0) in
    (same, parts.1)
