use Rattle.std.proofs.Common.{refl, sym, subst}
use Rattle.ipc_model.specs.declared.plain_call.PlainCall.{PlainCall}
use Rattle.ipc_model.specs.declared.plain_call.PlainCall.TheVariants as call
use Rattle.kernel.specs.Trials.{tries_acting}
use Rattle.port_calls.specs.Trying.{Tries}
use Rattle.kernel.proofs.dispatch.give_rights_up.Goals as goal

pub returns-in_ok-reply-in-Destroy-clause-tries : goal.returns-in_ok-reply-in-Destroy-clause-tries
returns-in_ok-reply-in-Destroy-clause-tries c =
    subst (λ (made : PlainCall). Tries c.args.state.now.current c.args.space made c.in_ok-reply-in-Destroy.reply
    c.destroy.new.state.current c.destroy.new.effects) (sym c.in-Destroy.is)
    (tries_acting c.args.state.now.current c.args.space
    (call.Destroy c.in-Destroy.name) c.in_ok-reply-in-Destroy.reply c.destroy.new.state.current
    c.destroy.new.effects refl c.in_ok-reply-in-Destroy.ensures.acts)

pub returns-in_ok-reply-in-Deallocate-clause-tries : goal.returns-in_ok-reply-in-Deallocate-clause-tries
returns-in_ok-reply-in-Deallocate-clause-tries c =
    subst (λ (made : PlainCall). Tries c.args.state.now.current c.args.space made c.in_ok-reply-in-Deallocate.reply
    c.deallocate.new.state.current c.deallocate.new.effects) (sym c.in-Deallocate.is)
    (tries_acting c.args.state.now.current c.args.space
    (call.Deallocate c.in-Deallocate.name) c.in_ok-reply-in-Deallocate.reply c.deallocate.new.state.current
    c.deallocate.new.effects refl c.in_ok-reply-in-Deallocate.ensures.acts)

pub returns-in_ok-reply-in-ModRefs-clause-tries : goal.returns-in_ok-reply-in-ModRefs-clause-tries
returns-in_ok-reply-in-ModRefs-clause-tries c =
    subst (λ (made : PlainCall). Tries c.args.state.now.current c.args.space made c.in_ok-reply-in-ModRefs.reply
    c.mod_refs.new.state.current c.mod_refs.new.effects) (sym c.in-ModRefs.is)
    (tries_acting c.args.state.now.current c.args.space
    (call.ModRefs c.in-ModRefs.name c.in-ModRefs.right c.in-ModRefs.delta) c.in_ok-reply-in-ModRefs.reply
    c.mod_refs.new.state.current c.mod_refs.new.effects refl c.in_ok-reply-in-ModRefs.ensures.acts)

pub returns-in_ok-reply-in-SpaceDestroy-clause-tries : goal.returns-in_ok-reply-in-SpaceDestroy-clause-tries
returns-in_ok-reply-in-SpaceDestroy-clause-tries c =
    subst (λ (made : PlainCall). Tries c.args.state.now.current c.args.space made c.in_ok-reply-in-SpaceDestroy.reply
    c.space_destroy.new.state.current c.space_destroy.new.effects) (sym c.in-SpaceDestroy.is)
    (tries_acting c.args.state.now.current c.args.space call.SpaceDestroy c.in_ok-reply-in-SpaceDestroy.reply
    c.space_destroy.new.state.current c.space_destroy.new.effects refl c.in_ok-reply-in-SpaceDestroy.ensures.acts)
