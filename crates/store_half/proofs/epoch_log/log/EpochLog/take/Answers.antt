use Rattle.std.proofs.Common.{ap, ◌∙◌}
use Rattle.journal.specs.Batch.{empty_batch}
use Rattle.store_half.specs.epoch_log.Logs.{EpochLogValue}
use Rattle.store_half.proofs.epoch_log.log.EpochLog.take.Goals as goal

pub returns-clause-left : goal.returns-clause-left
returns-clause-left c =
    (λ i. record {
      length = c.self.inside.length;
      made = c.self.inside.made;
      waiting = (c.replace-batch.ensures.after ∙ c.requires) i;
    })
    ∙ ap (λ (r : EpochLogValue). record r { waiting = empty_batch }) c.self.view_is
