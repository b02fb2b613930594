use Rattle.std.specs.Prelude.{Bool, if◌then◌else◌}
use Rattle.std.proofs.Common.{sym, ap, ◌∙◌}
use Rattle.server.proofs.alone.space_after.Goals as goal

pub returns-then-is_success : goal.returns-then-is_success
returns-then-is_success c =
    ap (λ (b : Bool). if b then c.args.attached else c.args.space)
    (sym c.if-is_success.true ∙ c.is_success.ensures)

pub returns-else-is_success : goal.returns-else-is_success
returns-else-is_success c =
    ap (λ (b : Bool). if b then c.args.attached else c.args.space)
    (sym c.if-is_success.false ∙ c.is_success.ensures)
