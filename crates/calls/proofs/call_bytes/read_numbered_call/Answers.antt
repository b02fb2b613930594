use Rattle.std.proofs.Common.{Some, ap, sym, ◌∙◌}
use Rattle.ipc_model.specs.declared.call.Call.{Call}
use Rattle.ipc_model.specs.declared.call.Call.TheVariants.{Numbered}
use Rattle.ipc_model.specs.declared.plain_call.PlainCall.{PlainCall}
use Rattle.calls.proofs.RequestLaws.{numbered_of, some_call}
use Rattle.calls.proofs.call_bytes.read_numbered_call.Goals as goal

pub returns-in_default-2-clause-only : goal.returns-in_default-2-clause-only
returns-in_default-2-clause-only c = λ call kept is.
    let own =
    numbered_of call c.args.arguments.now c.in-Some.content.now c.in-Some.request c.in-Some.ensures.fits kept
    c.in-Some.ensures.found is in
    absurd (cc (sym c.in_default-2.is ∙ c.in_ok-call.ensures.only own.0 own.1 own.2))

pub returns-clause-only : goal.returns-clause-only
returns-clause-only c = λ call kept is.
    let own =
    numbered_of call c.args.arguments.now c.in-Some.content.now c.in-Some.request c.in-Some.ensures.fits kept
    c.in-Some.ensures.found is in
    let same =
    some_call c.in_ok-call.field-0 c.in-Some-2.call own.0 c.in-Some-2.is
    (c.in_ok-call.ensures.only own.0 own.1 own.2) in
    ap (λ (k : Call). Some k)
    (ap (λ (k : PlainCall). Numbered (record { request = c.in-Some.request; call = k })) same ∙ sym own.3)
