use Rattle.std.proofs.Common.{refl, sym, subst}
use Rattle.ipc_model.specs.declared.plain_call.PlainCall.{PlainCall}
use Rattle.kernel.specs.Choosing.{Prefers, prefers_closed, prefers_allocate}
use Rattle.kernel.proofs.dispatch.change.Goals as goal

pub returns-in_ok-reply-in-Rename-clause-shown : goal.returns-in_ok-reply-in-Rename-clause-shown
returns-in_ok-reply-in-Rename-clause-shown c =
    subst (λ (made : PlainCall). Prefers c.args.state.now.current c.args.space made c.args.shown.now
    c.in_ok-reply-in-Rename.reply) (sym c.in-Rename.is)
    (prefers_closed _ _ _ _ _ _ _ refl c.in_ok-reply-in-Rename.ensures.acts)

pub returns-in_ok-reply-in-AllocateName-clause-shown : goal.returns-in_ok-reply-in-AllocateName-clause-shown
returns-in_ok-reply-in-AllocateName-clause-shown c =
    subst (λ (made : PlainCall). Prefers c.args.state.now.current c.args.space made c.args.shown.now
    c.in_ok-reply-in-AllocateName.reply) (sym c.in-AllocateName.is)
    (prefers_closed _ _ _ _ _ _ _ refl c.in_ok-reply-in-AllocateName.ensures.acts)

pub returns-in_ok-reply-in-Allocate-clause-shown : goal.returns-in_ok-reply-in-Allocate-clause-shown
returns-in_ok-reply-in-Allocate-clause-shown c =
    subst (λ (made : PlainCall). Prefers c.args.state.now.current c.args.space made c.args.shown.now
    c.in_ok-reply-in-Allocate.reply) (sym c.in-Allocate.is)
    (prefers_allocate _ _ _ _ _ _ _ c.in_ok-reply-in-Allocate.ensures.acts c.in_ok-reply-in-Allocate.ensures.wanted)

pub returns-in_ok-reply-in-SetQlimit-clause-shown : goal.returns-in_ok-reply-in-SetQlimit-clause-shown
returns-in_ok-reply-in-SetQlimit-clause-shown c =
    subst (λ (made : PlainCall). Prefers c.args.state.now.current c.args.space made c.args.shown.now
    c.in_ok-reply-in-SetQlimit.reply) (sym c.in-SetQlimit.is)
    (prefers_closed _ _ _ _ _ _ _ refl c.in_ok-reply-in-SetQlimit.ensures.acts)

pub returns-in_ok-reply-in-SetMscount-clause-shown : goal.returns-in_ok-reply-in-SetMscount-clause-shown
returns-in_ok-reply-in-SetMscount-clause-shown c =
    subst (λ (made : PlainCall). Prefers c.args.state.now.current c.args.space made c.args.shown.now
    c.in_ok-reply-in-SetMscount.reply) (sym c.in-SetMscount.is)
    (prefers_closed _ _ _ _ _ _ _ refl c.in_ok-reply-in-SetMscount.ensures.acts)

pub returns-in_ok-reply-in-SetSeqno-clause-shown : goal.returns-in_ok-reply-in-SetSeqno-clause-shown
returns-in_ok-reply-in-SetSeqno-clause-shown c =
    subst (λ (made : PlainCall). Prefers c.args.state.now.current c.args.space made c.args.shown.now
    c.in_ok-reply-in-SetSeqno.reply) (sym c.in-SetSeqno.is)
    (prefers_closed _ _ _ _ _ _ _ refl c.in_ok-reply-in-SetSeqno.ensures.acts)

pub returns-in_ok-reply-in-MoveMember-clause-shown : goal.returns-in_ok-reply-in-MoveMember-clause-shown
returns-in_ok-reply-in-MoveMember-clause-shown c =
    subst (λ (made : PlainCall). Prefers c.args.state.now.current c.args.space made c.args.shown.now
    c.in_ok-reply-in-MoveMember.reply) (sym c.in-MoveMember.is)
    (prefers_closed _ _ _ _ _ _ _ refl c.in_ok-reply-in-MoveMember.ensures.acts)
