use Rattle.std.proofs.Common.{◌≡◌, ℕ, None, sym, ◌∙◌, ap, arith}
use Rattle.std.proofs.lemmas.Bool.{eq-eqb, eqb-true}
use Rattle.std.specs.FinMap.{get, len}
use Rattle.snapshot_loading.specs.Climbing.{doubled, up_of}
use Rattle.snapshot_loading.specs.HopLaws.{doubled_only, ends_here, none_nowhere}
use Rattle.snapshot_loading.proofs.climbing.is_acyclic.Goals as goal

pub returns-then-is_empty-clause-ends : goal.returns-then-is_empty-clause-ends
returns-then-is_empty-clause-ends c = λ _.
    ends_here c.args.state.now.current c.loop-round._round c.loop-round.up c.loop-round.invariant
    (eqb-true (len c.loop-round.up) 0 (sym c.is_empty.ensures ∙ c.if-is_empty.true))

pub doubled-requires : goal.doubled-requires
doubled-requires c =
    λ q dead. c.loop-round.invariant q ∙ doubled_only c.args.state.now.current c.loop-round._round q dead

pub returns-clause-ends : goal.returns-clause-ends
returns-clause-ends c =
    λ yes. ends_here c.args.state.now.current c.loop-round._round c.loop-round.up c.loop-round.invariant
    (eqb-true (len c.loop-round.up) 0 (sym c.is_empty-2.ensures ∙ yes))

pub returns-clause-circles : goal.returns-clause-circles
returns-clause-circles c = λ no all.
    let last : c.loop-round._round ≡ 15 = omega (arith, c.loop-round-test.false, c.loop-round.auto._round-end) in
    let none : (q : ℕ) → get c.loop-round.up q ≡ None =
    λ q. c.loop-round.invariant q ∙ ap (λ (k : ℕ). doubled k (up_of c.args.state.now.current) q) last ∙ all q in
    cc (sym no ∙ c.is_empty-2.ensures ∙ eq-eqb (len c.loop-round.up) 0 (none_nowhere c.loop-round.up none))
