use Rattle.std.proofs.Common.{sym, ◌∙◌}
use Rattle.tracked_map.proofs.Laws.{is_unmarked, none_marked}
use Rattle.tracked_map.proofs.forget_marks.Goals as goal

pub loop-key-preserved : goal.loop-key-preserved
loop-key-preserved g c =
    let last = c.in-Some.field-0-0.now in
    let done =
    is_unmarked c.loop-key.slots c.forget_mark.new.slots c.loop-key.rest.now c.in-Some.before.now last.0 last.1
    c.forget_mark.ensures c.in-Some.ensures.cases.0 c.loop-key.invariant.marked in
    record { shows = done.shows ∙ c.loop-key.invariant.shows; marked = done.marked }

pub returns-then-len-clause-none : goal.returns-then-len-clause-none
returns-then-len-clause-none g c =
    none_marked c.args.slots.now c.args.len (sym c.len.ensures ∙ c.if-len.true) c.requires.counted
