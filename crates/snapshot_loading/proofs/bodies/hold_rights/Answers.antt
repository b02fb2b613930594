use Rattle.std.proofs.Common.{map, refl, arith}
use Rattle.snapshot_loading.specs.KindLaws.{port_among, values_all}
use Rattle.type_desc.specs.Values.{item_value}
use Rattle.snapshot_loading.proofs.bodies.hold_rights.Goals as goal

pub returns-then-not-are_stored : goal.returns-then-not-are_stored
returns-then-not-are_stored c = (
  (λ no. absurd (cc no)),
  (λ holds. c.if-not-are_stored.ensures.1 ((values_all c.args.items.now).1 holds.stored)),
)

pub returns : goal.returns
returns c = (
  (λ yes. record {
    has_port = port_among (map item_value c.args.items.now) (cc (c.if-not-have_port.ensures, c.if-not-have_port.false));
    stored = (values_all c.args.items.now).0 (c.if-not-are_stored.ensures.0 refl);
    kinds = c.have_kinds.ensures.0 yes;
    few = omega (arith, c.if-rights-gt-MAX_MESSAGE_PORTS.false);
  }),
  (λ holds. c.have_kinds.ensures.1 holds.kinds),
)
