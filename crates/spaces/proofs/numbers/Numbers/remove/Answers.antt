use Rattle.spaces.specs.Numbers.{removed_taken, removed_outside}
use Rattle.spaces.proofs.numbers.Numbers.remove.Goals as goal

pub returns-in-Some : goal.returns-in-Some
returns-in-Some c =
    λ spaces taken. removed_taken c.args.self.now c.leave.new.self c.args.number c.in-Some.place c.in-Some.ensures.1
    c.leave.ensures.others spaces taken c.leave.ensures.free

pub returns-in_default : goal.returns-in_default
returns-in_default c = λ spaces taken. removed_outside c.args.self.now c.args.number c.in_default.ensures spaces taken
