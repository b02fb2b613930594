use Rattle.std.proofs.Common.{ℕ}
use Rattle.ipc_state.specs.Waking.{IsSetListed}
use Rattle.waiting.specs.Places.{Named, names}
use Rattle.ipc_state.proofs.Covering.{later_or, more_set, next_off}
use Rattle.ipc_state.proofs.waking.name_names.Goals as goal

pub loop-place-preserved : goal.loop-place-preserved
loop-place-preserved c =
    let listed : Named → ℕ → Type 0 =
    λ p n. IsSetListed (names p) c.args.spaces.now.current c.args.ports.now.current.ports n in
    next_off (listed c.name_name.new.places) c.changed_places-rest.result.now c.loop-place.rest.now c.in-Some.before.now
    c.in-Some.place.now c.in-Some.ensures.cases.0 c.name_name.ensures.listed
    (later_or (listed c.loop-place.places)
    (listed c.name_name.new.places) c.changed_places-rest.result.now c.loop-place.rest.now
    (λ n is. more_set c.loop-place.places c.name_name.new.places c.args.spaces.now.current
    c.args.ports.now.current.ports n c.name_name.ensures.kept is) c.loop-place.invariant)
