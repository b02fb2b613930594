use Rattle.std.proofs.Common.{rules, ◌+◌, ap, ◌∙◌}
use Rattle.store_half.specs.epoch_log.Logs.{EpochLogValue, entry_of, with_record}
use Rattle.store_half.proofs.epoch_log.log.EpochLog.push.Goals as goal

pub returns-clause-ok : goal.returns-clause-ok
returns-clause-ok c =
    let inside = c.self.inside in
    let entry = entry_of c.args.space c.args.call.now c.args.reply.now in (
      (λ i. record {
        length = inside.length + 1;
        made = inside.made + 1;
        waiting = c.in_ok-size.ensures.ok i;
      }) ∙ ap
          (λ (r : EpochLogValue). with_record r entry) c.self.view_is,
      search rules,
    )
