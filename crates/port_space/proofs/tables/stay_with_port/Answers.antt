use Rattle.std.proofs.Common.{ℕ, Option, sym, ap, ◌∙◌}
use Rattle.std.specs.FinMap as map
use Rattle.port_space.specs.Alongside.{with_port}
use Rattle.port_space.proofs.Staying.{stands}
use Rattle.port_space.proofs.tables.stay_with_port.Goals as goal

pub returns-then-contains_key-clause-ok : goal.returns-then-contains_key-clause-ok
returns-then-contains_key-clause-ok c =
    let numbers = c.args.by_port.now.current in
    stands numbers c.port_key-key.result (sym c.contains_key.ensures ∙ c.if-contains_key.true) ∙ ap
    (λ (k : ℕ). map.insert numbers k tt) c.port_key-key.ensures.key ∙ ap
    (λ (p : Option ℕ). with_port numbers p c.args.name) (sym c.in-Some.is)
