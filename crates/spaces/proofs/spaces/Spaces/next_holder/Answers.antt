use Rattle.std.proofs.Common.{sym, subst}
use Rattle.spaces.specs.Indexes.{IsNextAt}
use Rattle.spaces.specs.Looking.{port_named}
use Rattle.spaces.proofs.Holding.{next_of_both}
use Rattle.spaces.proofs.spaces.Spaces.next_holder.Goals as goal

pub returns : goal.returns
returns c =
    subst (IsNextAt port_named c.args.self.now.current c.args.port c.args.from) (sym c.lesser.ensures)
    (next_of_both c.args.self.now.current c.args.port c.args.from c.next_sharer.result c.next_receiver.result
    c.next_sharer.ensures c.next_receiver.ensures)
