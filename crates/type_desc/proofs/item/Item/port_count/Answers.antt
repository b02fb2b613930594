use Rattle.std.proofs.Common.{sym, ◌∙◌}
use Rattle.type_desc.specs.Names.{names_of_ports}
use Rattle.type_desc.specs.Values.{item_value}
use Rattle.type_desc.proofs.item.Item.port_count.Goals as goal

pub returns-then-is_port : goal.returns-then-is_port
returns-then-is_port c = sym (names_of_ports (item_value c.args.self.now) (sym c.is_port.ensures ∙ c.if-is_port.true))
