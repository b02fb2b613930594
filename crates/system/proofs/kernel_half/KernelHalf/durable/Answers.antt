use Rattle.std.proofs.Common.{◌+◌, ap, ◌∙◌}
use Rattle.std.specs.Prelude.{is_none}
use Rattle.system.specs.Halves.{KernelValue, with_receipt}
use Rattle.system.proofs.kernel_half.KernelHalf.durable.Goals as goal

pub returns : goal.returns
returns c =
    let inside = c.self.inside in
    (λ i. record {
      kernel = inside.kernel;
      epoch = inside.epoch;
      older = inside.older.batch;
      log = inside.log;
      handed = inside.handed + (c.from.ensures ∙ c.count.ensures) i;
      is_out = is_none (c.replace.ensures.after i);
      is_cut = inside.is_cut;
    })
    ∙ ap (λ (k : KernelValue). with_receipt k c.args.receipt) c.self.view_is
