use Rattle.std.proofs.Common.{◌≡◌, ◌&&◌, if◌then◌else◌, ℕ, Bool, true, false, not, None, Some, refl, ap, sym, ◌∙◌}
use Rattle.std.specs.Bool.{then_some}
use Rattle.ipc_model.specs.state.Circular.{is_circular}
use Rattle.ipc_model.specs.state.Ipc.{lives}
use Rattle.death.specs.Taking.{taker}
use Rattle.death.proofs.receive.taker.Goals as goal
use Rattle.death.proofs.receive.taker.Goals.{then-has_port, else-has_port}

same_if : (b : Bool) (target : ℕ) → then_some b target ≡ (if b then Some target else None)
same_if true target = refl
same_if false target = refl

pub returns : goal.returns
returns c =
    let state = c.args.state.now.current in
    let target = c.in_ok-target.target in
    let back : Bool = not (is_circular state c.args.serial target) in
    let takes : c.if-has_port.then_some ≡ (lives state target && back) = elim c.if-has_port.branch [
      | then-has_port w ↦ w.then_some-is
          ∙ (ap not w.would_circle.ensures ∙ ap (λ (b : Bool). b && back) (sym w.if-has_port.true ∙ c.has_port.ensures))
      | else-has_port w ↦ w.then_some-is
          ∙ (w.if-has_port.false ∙ ap (λ (b : Bool). b && back) (sym w.if-has_port.false ∙ c.has_port.ensures))
    ] in
    c.then_some.ensures ∙ (ap (λ (b : Bool). then_some b target) takes
    ∙ (same_if (lives state target && back) target ∙ ap (taker state c.args.serial) (sym c.in_ok-target.was)))
