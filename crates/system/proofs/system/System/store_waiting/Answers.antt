use Rattle.system.proofs.Calls.{if_err_from, match_true, stores_failed}
use Rattle.system.proofs.system.System.store_waiting.Goals as goal

pub returns-in_err-append-clause-faults : goal.returns-in_err-append-clause-faults
returns-in_err-append-clause-faults g c =
    if_err_from c.from_residual.result c.in_err-append.field-0.0 _ c.from_residual.ensures.1
    (stores_failed g.D.Disk.honest g.D.Disk.view c.args.self.now c.take.new.self c.append.new.self
    c.in_err-append.field-0.0
    (record {
      none_older = c.requires.none_older;
      epoch = c.requires.epoch;
      room = c.requires.room;
      finished = c.requires.finished;
    }) c.requires.unfailed c.if-not-take.ensures.taken
    c.in_err-append.ensures.faults)

pub returns-clause-stored : goal.returns-clause-stored
returns-clause-stored g c = λ _. record {
  taken = c.take.new.self;
  stored = c.append.new.self;
  takes = c.if-not-take.ensures.taken;
  stores = match_true _ _ c.in_ok-append.field-0 c.if-not-branch.false c.in_ok-append.ensures.done;
  hands = c.if-not-durable.ensures;
}
