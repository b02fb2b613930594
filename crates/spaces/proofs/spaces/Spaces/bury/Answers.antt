use Rattle.std.proofs.Common.{◌≡◌, ◌+◌, ◌^◌, List, ◌++◌, ap, ◌∙◌, arith}
use Rattle.ipc_model.specs.effects.Effects.{Effect}
use Rattle.spaces.specs.Burying.{all_buried, passed, place_buried}
use Rattle.spaces.specs.Laws.{both}
use Rattle.spaces.specs.Walks.{notices_first}
use Rattle.spaces.proofs.Telling.{all_notified, last_notified, one_notified}
use Rattle.spaces.proofs.spaces.Spaces.bury.Goals as goal

pub loop-place-preserved : goal.loop-place-preserved
loop-place-preserved c =
    let next : c.in-Some-checked_add.next ≡ c.in-Some.place + 1 = omega (arith, c.in-Some-checked_add.ensures) in
    let done =
    place_buried c.args.port c.args.self.now.current c.loop-place.self c.bury_at.new.self c.loop-place.at
    c.in-Some.place c.in-Some-checked_add.next next c.in-Some.ensures.0 c.in-Some.ensures.1 c.in-Some.ensures.2
    c.in_ok-bury_at.ensures.ok c.loop-place.invariant.buried in
    record {
      buried = done.0;
      notified =
          one_notified c.args.port c.args.self.now.current c.loop-place.self.current c.loop-place.at
          c.loop-place.invariant.buried c.in-Some.place c.in-Some-checked_add.next c.loop-place.effects
          c.bury_at.new.effects _ c.show_counts_small.ensures next c.in-Some.ensures.0 c.in-Some.ensures.1
          c.in-Some.ensures.2 c.in_ok-bury_at.ensures.notified c.loop-place.invariant.notified;
      before = done.1 ∙ c.loop-place.invariant.before;
      fits = omega (arith, c.in-Some-checked_add.ensures);
    }

pub returns-in_default-checked_add-clause-ok : goal.returns-in_default-checked_add-clause-ok
returns-in_default-checked_add-clause-ok c =
    let last : 2 ^ 64 ≡ c.in-Some.place + 1 = omega (arith, c.in_default-checked_add.ensures, c.in-Some.ensures.1) in
    let done =
    place_buried c.args.port c.args.self.now.current c.loop-place.self c.bury_at.new.self c.loop-place.at
    c.in-Some.place (2 ^ 64) last c.in-Some.ensures.0 c.in-Some.ensures.1 c.in-Some.ensures.2
    c.in_ok-bury_at.ensures.ok c.loop-place.invariant.buried in
    both _ _ _ _ (done.1 ∙ c.loop-place.invariant.before)
    (all_buried c.args.port c.args.self.now.current c.bury_at.new.self.current c.show_counts_small.ensures
    c.show_counts_small-in_default-checked_add.ensures done.0)

pub returns-clause-ok : goal.returns-clause-ok
returns-clause-ok c =
    let all =
    passed c.args.port c.args.self.now.current c.loop-place.self.current c.loop-place.at (2 ^ 64)
    (omega (arith, c.loop-place.invariant.fits))
    (omega arith) c.in_default.ensures c.loop-place.invariant.buried in
    both _ _ _ _ c.loop-place.invariant.before
    (all_buried c.args.port c.args.self.now.current c.loop-place.self.current c.show_counts_small.ensures
    c.show_counts_small-2.ensures all)

pub returns-in_default-checked_add-clause-notified : goal.returns-in_default-checked_add-clause-notified
returns-in_default-checked_add-clause-notified c =
    let last : 2 ^ 64 ≡ c.in-Some.place + 1 = omega (arith, c.in_default-checked_add.ensures, c.in-Some.ensures.1) in
    last_notified c.args.port c.args.self.now.current c.args.effects.now c.bury_at.new.effects
    c.show_counts_small.ensures
    (one_notified c.args.port c.args.self.now.current c.loop-place.self.current c.loop-place.at
    c.loop-place.invariant.buried c.in-Some.place
    (2 ^ 64) c.loop-place.effects c.bury_at.new.effects _ c.show_counts_small.ensures last c.in-Some.ensures.0
    c.in-Some.ensures.1 c.in-Some.ensures.2 c.in_ok-bury_at.ensures.notified
    c.loop-place.invariant.notified)
    ∙ ap (λ (xs : List Effect). c.args.effects.now ++ xs) (notices_first c.args.port c.args.self.now.current)

pub returns-clause-notified : goal.returns-clause-notified
returns-clause-notified c =
    all_notified c.args.port c.args.self.now.current c.loop-place.self.current c.loop-place.at
    c.loop-place.invariant.buried
    c.args.effects.now c.loop-place.effects c.show_counts_small.ensures c.in_default.ensures
    c.loop-place.invariant.notified
    ∙ ap (λ (xs : List Effect). c.args.effects.now ++ xs) (notices_first c.args.port c.args.self.now.current)
