use Rattle.std.proofs.Common.{◌≡◌, ℕ, List, ◌++◌, drop, sym, ap, subst, ◌∙◌, refl, arith}
use Rattle.ipc_laws.specs.CanonicalLaws.{canonical_again, canonical_bytes, canonical_long}
use Rattle.ipc_model.specs.declared.plain_call.PlainCall.TheVariants as call
use Rattle.ipc_model.specs.encodings.PlainCalls.{IsCanonicalCall, IsMessageSize}
use Rattle.words.specs.Words.{word}
use Rattle.calls.proofs.Messages.{bytes_after, kept_same, same_bytes, other_bytes}
use Rattle.ipc_model.specs.messages.Kept.{canonical_message}
use Rattle.calls.proofs.read.read_send.Goals as goal

pub returns-in_default-clause-only : goal.returns-in_default-clause-only
returns-in_default-clause-only c = λ message kept is. absurd (c.in_default.ensures.none message is)

pub returns-then-ne-clause-only : goal.returns-then-ne-clause-only
returns-then-ne-clause-only c = λ message kept is.
    let same : message ≡ c.in-Some.message.now = ap (λ (l : List ℕ). drop 12 l) (sym is ∙ c.in-Some.ensures.found) in
    let kept_is : c.as_slice.result.now ≡ canonical_message c.in-Some.message.now =
    c.as_slice.ensures.value ∙ c.in_ok-kept.ensures in
    absurd (other_bytes c.as_slice.result.now c.in-Some.message.now c.ne.result c.ne.ensures c.if-ne.true
    (kept_is ∙ ap canonical_message (sym same) ∙ kept_same message kept ∙ same))

pub returns-clause-found : goal.returns-clause-found
returns-clause-found c =
    let message = c.in-Some.message.now in
    let same = same_bytes c.as_slice.result.now message c.ne.result c.ne.ensures c.if-ne.false in
    let whole : message ≡ c.new-message.result = sym same ∙ c.as_slice.ensures.value ∙ sym c.new-message.ensures in
    let bytes =
    bytes_after c.args.words.now message 12
    (λ i. omega (arith, c.type_inv.words i)) (ap (λ (l : List ℕ). drop 12 l) c.in-Some.ensures.found) in
    let kept : c.new-message.result ≡ canonical_message message = c.new-message.ensures ∙ c.in_ok-kept.ensures in (
      ap (λ (l : List ℕ). word 1 ++ l) c.in-Some.ensures.found ∙ ap
          (λ (l : List ℕ). word 1 ++ (word 0 ++ (word 0 ++ (word 0 ++ l)))) whole,
      refl,
      subst (λ (l : List ℕ). IsCanonicalCall (call.Send l)) (sym kept) (record {
        fits = canonical_bytes message bytes;
        whole =
            subst IsMessageSize (sym (canonical_long message))
            (c.is_message_size.ensures.yes c.if-not-is_message_size.false);
        kept = ap (λ (l : List ℕ). call.Send l) (canonical_again message);
      }),
    )
