use Rattle.std.specs.FinMap.{empty}
use Rattle.spaces.specs.Numbers.{added_taken, added_outside}
use Rattle.spaces.proofs.numbers.Numbers.add.Goals as goal

pub returns-in-Some : goal.returns-in-Some
returns-in-Some c =
    λ spaces taken. added_taken c.args.self.now c.take.new.self c.args.number c.in-Some.place c.in-Some.ensures.1
    c.take.ensures.others spaces taken empty c.take.ensures.taken

pub returns-in_default : goal.returns-in_default
returns-in_default c =
    λ spaces taken. added_outside c.args.self.now c.args.number c.in_default.ensures spaces taken empty
