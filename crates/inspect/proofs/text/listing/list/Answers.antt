use Rattle.inspect.proofs.text.Listed.{list_from_rows}
use Rattle.inspect.proofs.text.listing.list.Goals as goal

pub returns : goal.returns
returns c =
    λ state is. list_from_rows c.push_rows.result c.push_rows.new.out.items c.args.out.now.items c.args.epoch
    c.args.records c.args.snapshot.now state is c.push_rows.ensures
