use Rattle.std.proofs.Common.{sym, ◌∙◌}
use Rattle.tracked_map.specs.Tracked.{shown}
use Rattle.tracked_map.proofs.Laws.{is_written, last_among, rest_among, over_none}
use Rattle.tracked_map.proofs.put_back.Goals as goal

pub write-requires : goal.write-requires
write-requires g c =
    let last = c.in-Some.field-0-0.now in
    c.loop-key.invariant.kept last.0
    (last_among c.loop-key.rest.now c.in-Some.before.now last.0 last.1 c.in-Some.ensures.cases.0)

pub loop-key-preserved : goal.loop-key-preserved
loop-key-preserved g c =
    let last = c.in-Some.field-0-0.now in
    let done =
    is_written c.loop-key.slots c.write.new.slots c.args.former.now c.loop-key.rest.now c.in-Some.before.now last.0
    last.1 c.write.ensures c.in-Some.ensures.cases.0 c.loop-key.invariant.kept c.loop-key.invariant.marked
    c.loop-key.invariant.within in
    record {
      shows = done.shows ∙ c.loop-key.invariant.shows;
      kept = done.kept;
      marked = done.marked;
      within =
          λ key among. c.loop-key.invariant.within key
          (rest_among c.loop-key.rest.now c.in-Some.before.now last.0 last.1 key c.in-Some.ensures.cases.0 among);
    }

pub returns-clause-shown : goal.returns-clause-shown
returns-clause-shown g c =
    sym (over_none (shown c.loop-key.slots) c.loop-key.rest.now c.in_default.ensures.cases) ∙ c.loop-key.invariant.shows
