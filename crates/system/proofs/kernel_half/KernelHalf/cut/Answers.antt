use Rattle.std.proofs.Common.{rules, ◌≡◌, ◌+◌, ◌-◌, ◌<◌, ◌^◌, refl, true, ap, subst, ◌∙◌}
use Rattle.std.specs.Prelude.{is_none}
use Rattle.codes.specs.StoreVersion.{current}
use Rattle.store_half.specs.epoch_log.Logs.{next_log}
use Rattle.ipc_model.specs.state.State.{State}
use Rattle.ipc_model.specs.store.Recovery.{IsImageOf}
use Rattle.image.specs.Rows.{snapshot_encoding}
use Rattle.store_half.specs.Values.{CutValue}
use Rattle.system.specs.Halves.{KernelValue}
use Rattle.system.proofs.Making.{can_cut, with_fault}
use Rattle.system.proofs.kernel_half.KernelHalf.cut.Goals as goal

pub returns-in_err-snapshot-clause-err : goal.returns-in_err-snapshot-clause-err
returns-in_err-snapshot-clause-err c =
    let old = c.self.view_is in
    let next : c.self.inside.epoch < 2 ^ 64 - 1 = search rules in
    let can =
    can_cut c.self.inside.is_cut c.self.inside.epoch c.self.inside.older.batch.count c.args.self.now
    (ap (λ (k : KernelValue). k.is_cut) old) (ap (λ (k : KernelValue). k.epoch) old)
    (ap (λ (k : KernelValue). k.older.count) old)
    c.if-self.false next c.count.result c.count.ensures c.if-count-gt0.false in
    with_fault _ c.from_residual.result (can, refl)

pub returns-clause-cut : goal.returns-clause-cut
returns-clause-cut c =
    let old = c.self.view_is in
    let next : c.self.inside.epoch < 2 ^ 64 - 1 = search rules in
    let can =
    can_cut c.self.inside.is_cut c.self.inside.epoch c.self.inside.older.batch.count c.args.self.now
    (ap (λ (k : KernelValue). k.is_cut) old) (ap (λ (k : KernelValue). k.epoch) old)
    (ap (λ (k : KernelValue). k.older.count) old)
    c.if-self.false next c.count.result c.count.ensures c.if-count-gt0.false in
    let image : IsImageOf c.new.result.encoding c.self.inside.kernel = record {
      encoding_is =
          ap (λ (v : CutValue). v.encoding) c.new.ensures ∙ ap snapshot_encoding c.in_ok-snapshot.ensures
          ∙ c.image_is_of_state.ensures current c.self.inside.kernel;
      lawful = c.show_image.ensures.lawful;
      acyclic = c.show_image.ensures.acyclic;
      short = c.show_image.ensures.short;
      limits = λ serial port at. tt;
      kept = tt;
    } in
    let made : c.new.result.epoch ≡ c.self.inside.epoch + 1 = ap (λ (v : CutValue). v.epoch) c.new.ensures in
    let log : c.new.result.log ≡ c.self.inside.log.length =
    ap (λ (v : CutValue). v.log) c.new.ensures ∙ c.len-log.ensures in
    record {
      can = can;
      epoch = made ∙ ap (λ (k : KernelValue). k.epoch + 1) old;
      log = log ∙ ap (λ (k : KernelValue). k.log.length) old;
      image = subst (λ (s : State). IsImageOf c.new.result.encoding s) (ap (λ (k : KernelValue). k.kernel) old) image;
      rest =
          (λ i. record {
            kernel = c.self.inside.kernel;
            epoch = c.self.inside.epoch + 1;
            older = (c.end.ensures.taken i).batch;
            log = c.end.ensures.left i;
            handed = c.self.inside.handed;
            is_out = is_none c.self.inside.spare;
            is_cut = true;
          })
          ∙ ap (λ (k : KernelValue). record k
          { epoch = k.epoch + 1; older = k.log.waiting; log = next_log k.log; is_cut = true }) old;
    }
