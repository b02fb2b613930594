use Rattle.std.proofs.Common.{sym}
use Rattle.tracked_map.proofs.Laws.{taken_out}
use Rattle.tracked_map.proofs.take_value.Goals as goal

pub returns-in-Some-clause-slots : goal.returns-in-Some-clause-slots
returns-in-Some-clause-slots g c =
    taken_out c.args.slots.now c.args.key c.in-Some.slot.now c.take.new.self c.take.result
    (sym c.in-Some.ensures.value) c.take.ensures.value c.take.ensures.after
