use Rattle.ipc_state.proofs.Taking.{taken_and_counted}
use Rattle.ipc_state.proofs.carried.take_and_count.Goals as goal

pub returns-clause-ok : goal.returns-clause-ok
returns-clause-ok c =
    taken_and_counted c.args.ports.now c.take.new.self c.set_numbers.new.self c.args.serial c.in-Some.numbers
    c.count_on-counted.result c.in-Some.ensures c.count_on-counted.ensures c.in_ok-take.ensures.ok
    c.in_ok-set_numbers.ensures.ok
