use Rattle.std.proofs.Common.{◌≡◌, Option, None, Some, ap, sym, ◌∙◌, arith, refl}
use Rattle.std.specs.FinMap as map
use Rattle.ipc_model.specs.declared.entry.Entry.{Entry}
use Rattle.tracked_map.specs.Tracked.{Tracked}
use Rattle.port_space.proofs.space.PortSpace.next_entry.Goals as goal

pub returns-in_default-clause-next : goal.returns-in_default-clause-next
returns-in_default-clause-next c =
    λ key from. elim (map.get c.args.self.now.current key)
    as (λ (o : Option Entry). map.get c.args.self.now.current key ≡ o → o ≡ None) [
      | None ↦ λ (_ : _). refl
      | Some entry ↦ λ (is : _).
          let here = ap (λ (t : Tracked Entry). map.get t.current key) c.self.view_is ∙ is in
          let small = (c.self.invariant.1.bounded.each key entry here).0 in
          absurd (cc (sym here ∙ c.in_default.ensures key (omega (arith, c.from.ensures, from)) (omega (arith, small))))
    ] refl

pub overflow_cast-result : goal.overflow_cast-result
overflow_cast-result c =
    let small = (c.self.invariant.1.bounded.each c.in-Some.name c.in-Some.entry.now c.in-Some.ensures.1).0 in
    omega (arith, small)

pub returns-clause-fits : goal.returns-clause-fits
returns-clause-fits c =
    let small = (c.self.invariant.1.bounded.each c.in-Some.name c.in-Some.entry.now c.in-Some.ensures.1).0 in
    omega (arith, small)
