use Rattle.std.proofs.Common.{Ok, inl, ap, sym, ◌∙◌, arith}
use Rattle.ipc_model.specs.declared.call.Call.{Call}
use Rattle.calls.proofs.RequestLaws.{asked_behind, long_behind, none_asked, one_asked}
use Rattle.calls.proofs.numbered.read_numbered.Goals as goal

pub returns-then-content-lt4-clause-only : goal.returns-then-content-lt4-clause-only
returns-then-content-lt4-clause-only c = λ asks is.
    let content = c.in-Some.content.now in
    let behind =
    asked_behind asks c.args.arguments.now content c.in-Some.request c.in-Some.ensures.fits c.in-Some.ensures.found
    is in
    absurd (omega (arith, long_behind c.in-Some.request content asks behind, c.if-content-lt4.true))

pub returns-in-Some-found-clause-only : goal.returns-in-Some-found-clause-only
returns-in-Some-found-clause-only c = λ asks is.
    let content = c.in-Some.content.now in
    let behind =
    asked_behind asks c.args.arguments.now content c.in-Some.request c.in-Some.ensures.fits c.in-Some.ensures.found
    is in
    inl (ap (λ (k : Call). Ok k)
    (one_asked asks c.in-Some.request content c.in-Ok.found c.in-Some-found.call behind c.in-Some-found.is
    c.in-Ok.ensures.found c.in-Ok.ensures.only))

pub returns-in-None-clause-found : goal.returns-in-None-clause-found
returns-in-None-clause-found c = (
  c.in-Some.request,
  c.in-Some.content.now,
  c.in-Some.ensures.fits,
  c.in-Some.ensures.found,
  omega (arith, c.if-content-lt4.false),
  λ call numbers. absurd (cc (sym c.in-None.is ∙ c.in-Ok.ensures.only call numbers)),
)

pub returns-in-None-clause-only : goal.returns-in-None-clause-only
returns-in-None-clause-only c = λ asks is.
    let content = c.in-Some.content.now in
    let behind =
    asked_behind asks c.args.arguments.now content c.in-Some.request c.in-Some.ensures.fits c.in-Some.ensures.found
    is in
    inl (ap (λ (k : Call). Ok k)
    (none_asked asks c.in-Some.request content c.in-Ok.found behind c.in-None.is c.in-Ok.ensures.only))
