use Rattle.std.proofs.Common.{ℕ, Some, sym, ap, subst, ◌≡◌, ◌∙◌}
use Rattle.std.specs.FinMap.{insert}
use Rattle.slab.specs.Slab.{Slab, Updates}
use Rattle.live_ports.specs.PortSlot.{PortSlot}
use Rattle.live_ports.specs.Slabbed.{Keys, by_serial, AreKeyed}
use Rattle.live_ports.proofs.Slabbed.{added_is, added_keyed, same_values}
use Rattle.live_ports.proofs.slots.add_to_both.Goals as goal

pub returns-clause-ok : goal.returns-clause-ok
returns-clause-ok c =
    let ports = c.args.ports.now in
    let keys = c.args.keys.now in
    let room = c.reserve.new.self in
    let more = c.insert_reserved.new.self in
    let kept = c.reserve.ensures.rest_kept in
    let keyed = same_values ports room keys (ap (λ (s : Slab PortSlot). s.slots) kept) c.requires.keyed in
    let key : c.insert_reserved.result ≡ c.vacant_key.result =
    c.insert_reserved.ensures.key ∙ sym c.vacant_key.ensures.value in
    let updates = subst (λ (k : ℕ). Updates room more k (Some c.args.port)) key c.insert_reserved.ensures.updates in
    ap (by_serial more) c.in_ok-insert.ensures.ok
    ∙ added_is room more keys c.args.serial c.vacant_key.result c.args.port keyed c.requires.absent
    c.vacant_key.ensures.vacant updates
    ∙ ap (λ (s : Slab PortSlot). insert (by_serial s keys) c.args.serial c.args.port) kept

pub returns-clause-keyed : goal.returns-clause-keyed
returns-clause-keyed c =
    let ports = c.args.ports.now in
    let keys = c.args.keys.now in
    let room = c.reserve.new.self in
    let more = c.insert_reserved.new.self in
    let keyed =
    same_values ports room keys (ap (λ (s : Slab PortSlot). s.slots) c.reserve.ensures.rest_kept) c.requires.keyed
    in
    let key : c.insert_reserved.result ≡ c.vacant_key.result =
    c.insert_reserved.ensures.key ∙ sym c.vacant_key.ensures.value in
    let updates = subst (λ (k : ℕ). Updates room more k (Some c.args.port)) key c.insert_reserved.ensures.updates in
    subst (λ (k : Keys). AreKeyed more k) (sym c.in_ok-insert.ensures.ok)
    (added_keyed room more keys c.args.serial c.vacant_key.result c.args.port keyed c.requires.absent
    c.vacant_key.ensures.vacant updates)
