use Rattle.std.proofs.Common.{ap, sym, ◌∙◌}
use Rattle.frame_service.specs.Asking.{is_sent}
use Rattle.frame_service.specs.declared.asking.PendingFrame.TheVariants.{Settled}
use Rattle.frame_service.proofs.taking.is_sent.Goals as goal

pub returns-in-Made : goal.returns-in-Made
returns-in-Made g c =
    λ call. c.is_done.ensures ∙ ap
    (λ r. is_sent g.A.Asker.answer g.A.Asker.makes g.A.Asker.lacks call (Settled r)) (sym c.in-Made.is)
