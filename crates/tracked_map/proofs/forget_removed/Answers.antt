use Rattle.std.proofs.Common.{refl, ◌∙◌}
use Rattle.tracked_map.proofs.Laws.{all_left, is_gone, none_left}
use Rattle.tracked_map.proofs.forget_removed.Goals as goal

pub loop-key-init : goal.loop-key-init
loop-key-init g c = record { shows = refl; left = all_left c.args.slots.now c.args.removed.now c.requires }

pub loop-key-preserved : goal.loop-key-preserved
loop-key-preserved g c =
    let done =
    is_gone c.loop-key.slots c.remove.new.self c.loop-key.rest.now c.in-Some.before.now c.in-Some.key.now
    c.remove.ensures.removed c.in-Some.ensures.cases.0 c.loop-key.invariant.left in
    record { shows = done.shows ∙ c.loop-key.invariant.shows; left = done.left }

pub returns-clause-none : goal.returns-clause-none
returns-clause-none g c =
    none_left c.loop-key.slots c.loop-key.rest.now c.in_default.ensures.cases c.loop-key.invariant.left
