use Rattle.std.proofs.Common.{sym, ◌∙◌}
use Rattle.rights.proofs.Leaving.{moved_if}
use Rattle.rights.proofs.copy_in.reset_port.Goals as goal

pub returns-clause-moved : goal.returns-clause-moved
returns-clause-moved c =
    moved_if c.set_numbers.result c.args.state.now c.set_numbers.new.self c.args.serial c.in-Some.numbers
    (sym c.in-Some.is ∙ c.numbers.ensures) c.set_numbers.ensures.ok
