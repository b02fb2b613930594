use Rattle.std.proofs.Common.{Some, ap, sym, ◌∙◌}
use Rattle.ipc_model.specs.calls.PlainStep.{may_be_numbered}
use Rattle.ipc_model.specs.declared.plain_call.PlainCall.{PlainCall}
use Rattle.calls.proofs.RequestLaws.{other_numbers, other_parts, some_call}
use Rattle.calls.proofs.numbered.read_other.Goals as goal

pub returns-in_default-clause-only : goal.returns-in_default-clause-only
returns-in_default-clause-only c = λ k is.
    let parts = other_parts c.args.number c.args.arguments.now k c.ranges.number.fits c.requires is in
    absurd (cc (c.in_default.is, c.read_arguments.ensures.only k parts.0 parts.1 parts.2))

pub returns-then-not-may_be_numbered-clause-only : goal.returns-then-not-may_be_numbered-clause-only
returns-then-not-may_be_numbered-clause-only c = λ k is.
    let parts = other_parts c.args.number c.args.arguments.now k c.ranges.number.fits c.requires is in
    let same =
    some_call c.read_arguments.result c.in-Some.call k c.in-Some.is
    (c.read_arguments.ensures.only k parts.0 parts.1 parts.2) in
    absurd (cc (sym c.if-not-may_be_numbered.true ∙ c.may_be_numbered.ensures
    ∙ ap (λ (call : PlainCall). may_be_numbered call) same ∙ parts.3))

pub returns-clause-found : goal.returns-clause-found
returns-clause-found c =
    other_numbers c.args.number c.args.arguments.now c.in-Some.call c.requires c.in-Some.ensures.found.0
    c.in-Some.ensures.found.1 c.in-Some.ensures.found.2.fits
    (sym c.may_be_numbered.ensures ∙ c.if-not-may_be_numbered.false)

pub returns-clause-only : goal.returns-clause-only
returns-clause-only c = λ k is.
    let parts = other_parts c.args.number c.args.arguments.now k c.ranges.number.fits c.requires is in
    ap (λ (call : PlainCall). Some call)
    (some_call c.read_arguments.result c.in-Some.call k c.in-Some.is
    (c.read_arguments.ensures.only k parts.0 parts.1 parts.2))
