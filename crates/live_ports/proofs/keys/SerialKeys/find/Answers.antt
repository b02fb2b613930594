use Rattle.std.proofs.Common.{sym, ◌∙◌, ap}
use Rattle.std.specs.FinMap as map
use Rattle.live_ports.specs.Recent.{Places, at, place_of}
use Rattle.live_ports.specs.Slabbed.{Keys}
use Rattle.live_ports.proofs.keys.SerialKeys.find.Goals as goal

pub returns-in-Some-clause-found : goal.returns-in-Some-clause-found
returns-in-Some-clause-found c =
    sym (c.self.invariant.0.found (c.args.serial, c.in-Some.key)
    (ap (λ (l : Places). at l (place_of c.args.serial)) (sym c.deref.ensures.value) ∙ c.in-Some.ensures))
    ∙ ap (λ (m : Keys). map.get m c.args.serial) c.self.view_is
