use Rattle.std.proofs.Common.{◌≡◌, ℕ, ◌^◌, ◌%◌, Option, None, Some, subst, arith}
use Rattle.ipc_state.specs.Running.{Running}
use Rattle.ipc_state.specs.SetNames.{IsNextPlace, name_found, none_found, past_names}
use Rattle.spaces.specs.Passed.{Numbers, IsNext}
use Rattle.spaces.specs.Looking.{place}
use Rattle.ipc_state.proofs.state.IpcState.next_place.Goals as goal

-- the numbers that were skipped are places
at_places : (members : Numbers) (number from number_is from_is : ℕ) (found : Option ℕ) → number ≡ number_is
    → from ≡ from_is → IsNext members number from found → IsNext members number_is from_is found
at_places members number from number_is from_is found first second is =
    subst (λ (n : ℕ). IsNext members n from_is found) first (subst (λ (n : ℕ). IsNext members number n found) second is)

pub returns-then-from : goal.returns-then-from
returns-then-from c =
    subst (λ (r : Running). IsNextPlace r.current c.args.space c.args.set c.args.from None) c.self.view_is
    (past_names c.self.inside.spaces.current c.self.inside.ports.current c.self.inside.members.current c.args.space
    c.args.set c.args.from (omega (arith, c.ranges.space.fits)) c.self.invariant.1 c.show_counts_small.ensures
    (omega (arith, c.if-from.true, c.from.ensures)))

pub returns-in_default : goal.returns-in_default
returns-in_default c =
    subst (λ (r : Running). IsNextPlace r.current c.args.space c.args.set c.args.from None) c.self.view_is
    (none_found c.self.inside.spaces.current c.self.inside.ports.current c.self.inside.members.current c.args.space
    c.args.set c.args.from (omega (arith, c.ranges.space.fits)) c.self.invariant.1 c.show_counts_small.ensures
    (at_places c.self.inside.members.current c.place.result c.place-first.result (place c.args.space c.args.set)
    (place c.args.space c.args.from) None c.place.ensures c.place-first.ensures c.in_default.ensures))

pub returns : goal.returns
returns c =
    subst (λ (r : Running). IsNextPlace r.current c.args.space c.args.set c.args.from (Some (c.in-Some.found % 2 ^ 32)))
    c.self.view_is
    (name_found c.self.inside.spaces.current c.self.inside.ports.current c.self.inside.members.current c.args.space
    c.args.set c.args.from (omega (arith, c.ranges.space.fits)) c.self.invariant.1 c.show_counts_small.ensures
    c.in-Some.found (omega (arith, c.if-from.false, c.from.ensures))
    (at_places c.self.inside.members.current c.place.result c.place-first.result (place c.args.space c.args.set)
    (place c.args.space c.args.from) (Some c.in-Some.found) c.place.ensures c.place-first.ensures c.in-Some.ensures)
    (omega (arith, c.if-found-from.false, c.from-2.ensures)))
