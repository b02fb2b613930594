use Rattle.std.proofs.Common.{rules}
use Rattle.keepers.proofs.store_keeper.StoreKeeper.can_begin.Goals as goal

pub returns-then-epoch-lt18446744073709551615 : goal.returns-then-epoch-lt18446744073709551615
returns-then-epoch-lt18446744073709551615 g c = search rules
