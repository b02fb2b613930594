use Rattle.std.proofs.Common.{◌≡◌, ◌∙◌, ap, false}
use Rattle.ipc_model.specs.calls.Step.{has_record}
use Rattle.ipc_model.specs.declared.reply.Reply.{Reply}
use Rattle.system.proofs.Making.{at_ok}
use Rattle.system.proofs.kernel_half.apply_with_witness.Goals as goal

pub returns-clause-recorded : goal.returns-clause-recorded
returns-clause-recorded g c = rw c.take_out-taken.ensures.taken at c.apply_recorded-made.ensures.written

pub returns-clause-unrecorded : goal.returns-clause-unrecorded
returns-clause-unrecorded g c =
    at_ok _ _ c.apply_recorded-made.result
    (λ reply same is. (ap (λ w. w.log) (same is) ∙ c.take_out-taken.ensures.taken, ap (λ w. w.witness) (same is)))
    c.apply_recorded-made.ensures.unwritten
