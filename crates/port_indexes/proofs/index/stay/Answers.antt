use Rattle.std.proofs.Common.{ℕ, Option, sym, ap, ◌∙◌}
use Rattle.std.specs.FinMap as map
use Rattle.port_indexes.specs.Places.{with_place}
use Rattle.port_indexes.proofs.Staying.{stands}
use Rattle.port_indexes.proofs.index.stay.Goals as goal

pub returns-then-contains_key-clause-ok : goal.returns-then-contains_key-clause-ok
returns-then-contains_key-clause-ok c =
    let places = c.args.places.now.current in
    stands places c.key-key.result (sym c.contains_key.ensures ∙ c.if-contains_key.true) ∙ ap
    (λ (k : ℕ). map.insert places k tt) c.key-key.ensures.key ∙ ap
    (λ (n : Option ℕ). with_place places n c.args.place) (sym c.in-Some.is)
