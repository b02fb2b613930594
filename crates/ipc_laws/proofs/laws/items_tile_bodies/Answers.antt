use Rattle.ipc_laws.specs.ItemLaws.{items_tile_bodies}
use Rattle.ipc_laws.proofs.laws.items_tile_bodies.Goals as goal

pub returns : goal.returns
returns c = items_tile_bodies
