use Rattle.std.proofs.Common.{ℕ, ◌++◌, inr, sym, ap, ◌∙◌}
use Rattle.words.specs.Words.{word}
use Rattle.calls.proofs.Asked.{asks_in_front, asks_after}
use Rattle.calls.proofs.RequestLaws.{confine_found, confine_lacks_nothing, confine_only, no_memory, one_numbered, only_numbered}
use Rattle.calls.proofs.request.read_request.Goals as goal

pub returns-then-number-eq-MACH_MSG-clause-found :
    goal.returns-then-number-eq-MACH_MSG-clause-found
returns-then-number-eq-MACH_MSG-clause-found c =
    asks_in_front c.args.content.now c.in-Some.arguments.now c.read_mach_msg.result
    (c.in-Some.ensures.found ∙ ap
    (λ (n : ℕ). word n ++ c.in-Some.arguments.now) c.if-number-eq-MACH_MSG.true) c.read_mach_msg.ensures.found

pub returns-then-number-eq-MACH_MSG-clause-only : goal.returns-then-number-eq-MACH_MSG-clause-only
returns-then-number-eq-MACH_MSG-clause-only c =
    asks_after c.args.content.now c.in-Some.arguments.now c.read_mach_msg.result
    (c.in-Some.ensures.found ∙ ap
    (λ (n : ℕ). word n ++ c.in-Some.arguments.now) c.if-number-eq-MACH_MSG.true) c.read_mach_msg.ensures.only

pub returns-in-Ok-clause-only : goal.returns-in-Ok-clause-only
returns-in-Ok-clause-only c =
    one_numbered c.args.content.now c.in-Some.arguments.now c.read_numbered.result c.in-Ok.call
    (c.in-Some.ensures.found ∙ ap
    (λ (n : ℕ). word n ++ c.in-Some.arguments.now) c.if-number-eq-NUMBERED.true) c.in-Ok.is c.read_numbered.ensures.only

pub returns-in-Err-clause-only : goal.returns-in-Err-clause-only
returns-in-Err-clause-only c =
    only_numbered c.args.content.now c.in-Some.arguments.now c.read_numbered.result c.in-Err.fault
    (c.in-Some.ensures.found ∙ ap
    (λ (n : ℕ). word n ++ c.in-Some.arguments.now) c.if-number-eq-NUMBERED.true) c.in-Err.is
    c.read_numbered.ensures.only

pub returns-in-Err-clause-memory : goal.returns-in-Err-clause-memory
returns-in-Err-clause-memory c = λ is.
    let asks = c.in-Err.ensures.memory (no_memory c.in-Err.fault is) in
    inr (
      asks.0,
      asks.1,
      (
        c.in-Some.arguments.now,
        (c.in-Some.ensures.found ∙ ap
            (λ (n : ℕ). word n ++ c.in-Some.arguments.now) c.if-number-eq-NUMBERED.true),
        asks.2,
      ),
    )

pub returns-then-number-eq-CONFINE-clause-found : goal.returns-then-number-eq-CONFINE-clause-found
returns-then-number-eq-CONFINE-clause-found c =
    confine_found c.args.content.now c.in-Some.arguments.now c.read_confine.result
    (c.in-Some.ensures.found ∙ ap
    (λ (n : ℕ). word n ++ c.in-Some.arguments.now) c.if-number-eq-CONFINE.true) c.read_confine.ensures.found

pub returns-then-number-eq-CONFINE-clause-only : goal.returns-then-number-eq-CONFINE-clause-only
returns-then-number-eq-CONFINE-clause-only c =
    confine_only c.args.content.now c.in-Some.arguments.now c.read_confine.result
    (c.in-Some.ensures.found ∙ ap
    (λ (n : ℕ). word n ++ c.in-Some.arguments.now) c.if-number-eq-CONFINE.true) c.read_confine.ensures.found
    c.read_confine.ensures.none

pub returns-then-number-eq-CONFINE-clause-memory : goal.returns-then-number-eq-CONFINE-clause-memory
returns-then-number-eq-CONFINE-clause-memory c = λ is.
    absurd (confine_lacks_nothing c.read_confine.result c.read_confine.ensures.fault is)
