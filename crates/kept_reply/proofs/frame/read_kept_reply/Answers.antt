use Rattle.std.proofs.Common.{Some, ap, sym, subst, ◌∙◌}
use Rattle.ipc_model.specs.declared.reply.NumberedReply.{NumberedReply}
use Rattle.ipc_model.specs.declared.reply.Reply.TheVariants.{Numbered}
use Rattle.ipc_model.specs.state.LawfulState.{IsKeptReply}
use Rattle.kept_reply.proofs.KeptLaws.{kept_answers, same_kept}
use Rattle.kept_reply.proofs.frame.read_kept_reply.Goals as goal

pub returns-in_default-clause-only : goal.returns-in_default-clause-only
returns-in_default-clause-only c = λ kept is text.
    let found =
    c.numbered_of.ensures.only kept
    (c.in_ok-found.ensures.only (Numbered kept) (kept_answers kept c.args.content.now is text)) in
    absurd (cc (c.in_default.is, found))

pub returns-then-not-may_be_kept-clause-only : goal.returns-then-not-may_be_kept-clause-only
returns-then-not-may_be_kept-clause-only c = λ kept is text.
    let found =
    c.numbered_of.ensures.only kept
    (c.in_ok-found.ensures.only (Numbered kept) (kept_answers kept c.args.content.now is text)) in
    let same = same_kept c.numbered_of.result c.in-Some.kept kept c.in-Some.is found in
    absurd (cc (sym c.if-not-may_be_kept.true ∙ c.may_be_kept.ensures.1 (subst IsKeptReply (sym same) is)))

pub returns-clause-only : goal.returns-clause-only
returns-clause-only c = λ kept is text.
    let found =
    c.numbered_of.ensures.only kept
    (c.in_ok-found.ensures.only (Numbered kept) (kept_answers kept c.args.content.now is text)) in
    ap (λ (k : NumberedReply). Some k) (same_kept c.numbered_of.result c.in-Some.kept kept c.in-Some.is found)
