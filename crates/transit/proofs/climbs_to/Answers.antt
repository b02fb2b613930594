use Rattle.std.proofs.Common.{ℕ, suc, ◌-◌, None, Some, sym, ◌∙◌, arith}
use Rattle.std.proofs.lemmas.Bool.{ne_eqb}
use Rattle.std.specs.FinMap as map
use Rattle.transit.proofs.Climb.{arrived, goes_on}
use Rattle.transit.proofs.climbs_to.Goals as goal

pub returns-then-at-port : goal.returns-then-at-port
returns-then-at-port c =
    let left : ℕ = map.len c.args.state.now.current.ports - c.loop-hop._hop in
    let is = c.loop-hop.invariant left (omega arith) in
    sym (is ∙ arrived c.args.state.now.current c.args.port left c.loop-hop.at c.if-at-port.true)

pub returns-in_default : goal.returns-in_default
returns-in_default c =
    let left : ℕ = map.len c.args.state.now.current.ports - c.loop-hop._hop - 1 in
    let is = c.loop-hop.invariant (suc left) (omega arith) in
    sym (is ∙ goes_on c.args.state.now.current c.args.port left c.loop-hop.at None
    (ne_eqb c.loop-hop.at c.args.port c.if-at-port.false) (sym c.carrier.ensures ∙ c.in_default.is))

pub loop-hop-preserved : goal.loop-hop-preserved
loop-hop-preserved c = λ (left : ℕ) (e : _).
    let is = c.loop-hop.invariant (suc left) (omega arith) in
    is ∙ goes_on c.args.state.now.current c.args.port left c.loop-hop.at (Some c.in-Some.carrier)
    (ne_eqb c.loop-hop.at c.args.port c.if-at-port.false) (sym c.carrier.ensures ∙ c.in-Some.is)

pub returns : goal.returns
returns c = sym (c.loop-hop.invariant 0 (omega arith))
