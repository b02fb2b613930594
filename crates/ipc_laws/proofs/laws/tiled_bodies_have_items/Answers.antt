use Rattle.ipc_laws.specs.ItemLaws.{tiled_bodies_have_items}
use Rattle.ipc_laws.proofs.laws.tiled_bodies_have_items.Goals as goal

pub returns : goal.returns
returns c = tiled_bodies_have_items
