use Rattle.std.proofs.Common.{sym, ◌∙◌}
use Rattle.relay.proofs.shell.Joins.{chosen, not_chosen}
use Rattle.relay.proofs.shell.turn.space_after.Goals as goal

pub returns-then-is_success : goal.returns-then-is_success
returns-then-is_success c =
    c.attached_by.ensures ∙ chosen _ _ _ (sym c.is_success.ensures ∙ c.if-is_success.true)

pub returns-else-is_success : goal.returns-else-is_success
returns-else-is_success c = not_chosen _ _ _ (sym c.is_success.ensures ∙ c.if-is_success.false)
