use Rattle.std.proofs.Common.{◌==◌, ℕ, Some, ap, sym, ◌∙◌}
use Rattle.ipc_model.specs.declared.call.Call.{Call}
use Rattle.calls.proofs.RequestLaws.{short_call, nothing_behind}
use Rattle.calls.proofs.call_bytes.unnumberable_of.Goals as goal

pub returns-then-is_empty-clause-only : goal.returns-then-is_empty-clause-only
returns-then-is_empty-clause-only c = λ call kept is.
    ap (λ (k : Call). Some k) (sym (short_call call c.args.arguments.now c.requires is))

pub returns-else-is_empty-clause-only : goal.returns-else-is_empty-clause-only
returns-else-is_empty-clause-only c = λ call kept is.
    absurd (cc (sym c.if-is_empty.false ∙ c.is_empty.ensures
    ∙ ap (λ (n : ℕ). n == 0) (nothing_behind call c.args.arguments.now c.requires is)))
