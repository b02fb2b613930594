use Rattle.std.proofs.Common.{◌≡◌, ◌∙◌, sym, ap, inl, inr, Some}
use Rattle.image.specs.Kept.{kept_front}
use Rattle.image.specs.Parts.{none_and, some_and}
use Rattle.ipc_model.specs.declared.reply.NumberedReply.{NumberedReply}
use Rattle.image.proofs.spaces.take_request.Goals as goal

pub returns-in_default-2-clause-only : goal.returns-in_default-2-clause-only
returns-in_default-2-clause-only c = λ kept rest fits is.
    elim (kept_front kept c.in-Some.request c.args.bytes.now c.in-Some.rest.now rest fits c.in-Some.ensures.fits
    c.in-Some.ensures.found is) as (λ _. ⊥) [
      | inl none ↦ absurd (c.if-request-eq0.false none.0)
      | inr reply ↦ none_and c.in_ok-kept.field-0 _ c.in_default-2.is
          (c.in_ok-kept.ensures.only reply.0 rest reply.4 reply.3 reply.5)
    ]

pub returns-clause-only : goal.returns-clause-only
returns-clause-only c = λ kept rest fits is.
    elim (kept_front kept c.in-Some.request c.args.bytes.now c.in-Some.rest.now rest fits c.in-Some.ensures.fits
    c.in-Some.ensures.found is) as (λ _. (Some c.in-Some-2.kept ≡ kept) × (c.in-Some-2.rest.now ≡ rest)) [
      | inl none ↦ absurd (c.if-request-eq0.false none.0)
      | inr reply ↦
          let same =
          some_and c.in_ok-kept.field-0 _ (c.in-Some-2.kept, c.in-Some-2.rest) c.in-Some-2.is
          (c.in_ok-kept.ensures.only reply.0 rest reply.4 reply.3 reply.5) in
          (ap (λ (r : NumberedReply). Some r) same.0 ∙ sym reply.2, same.1)
    ]
