use Rattle.snapshot_loading.specs.FillLaws.{opened_by}
use Rattle.snapshot_loading.proofs.filling.open_port.Goals as goal

pub returns : goal.returns
returns c =
    opened_by c.args.state.now c.set_next_serial.new.self c.add_port.new.self c.set_numbers.new.self c.args.row.now
    c.numbers_of.result c.numbers_of.ensures
    c.set_next_serial.ensures c.in_ok-add_port.ensures.ok c.in_ok-set_numbers.ensures.ok
