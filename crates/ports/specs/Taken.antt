-- The indexes after a port's oldest message is taken.
use Rattle.std.proofs.Common.{◌≡◌, ℕ, ◌+◌, ◌^◌, ◌<◌, Bool, true, false, cond, ◌||◌, List, [], ◌∷◌, take, drop, Option, None, Some, is_some, refl, sym, ◌∙◌, ap, subst, arith}
use Rattle.std.specs.List.{list_any}
use Rattle.std.specs.Ordering.{nat_cmp, eq_by_cmp}
use Rattle.std.specs.FinMap.{get}
use Rattle.ipc_laws.specs.MapSums.{key_is, weigh, weight, total-insert}
use Rattle.ipc_laws.specs.Weights.{Weight, message_weigh, port_weigh}
use Rattle.ipc_model.specs.declared.message.Message.{Message}
use Rattle.ipc_model.specs.declared.port.PortState.{PortState}
use Rattle.live_ports.specs.Changed.{changed, messages_at, messages_in, without_first}
use Rattle.live_ports.specs.PortTable.{PortTable}
use Rattle.live_ports.specs.Seen.{Ports, mentions}
use Rattle.port_indexes.specs.Counts.{Counts, count_at, eq_cmp}
use Rattle.port_indexes.specs.Rights.{AreCounted, counted_same, turned}
use Rattle.port_indexes.specs.Indexed.{IsIndexed, alike_indexed}
use Rattle.ports.specs.Counting.{Fit, in_queue, received, carried_in, messages_counted_fewer, queue_carried_fewer}
use Rattle.ports.specs.IndexLaws.{changed_there, target_changed, target_there, carried_changed, carried_there, small_changed}
use Rattle.ports.specs.Indexes.{AreIndexed, AreOfFewer, present_parts, no_senders_of, destroyed_of, target_at, carried_by, carried_at, weighed}
use Rattle.ports.specs.declared.indexes.PortIndexes.{PortIndexes}

weigh_parted : (f : Message → ℕ) (messages : List Message)
    → weigh f messages ≡ weigh f (drop 1 messages) + weigh f (take 1 messages)
weigh_parted f [] = refl
weigh_parted f (first ∷ messages) = omega arith

front_holds : (a b : Bool) → a ≡ true → (a || b) ≡ true
front_holds true b e = refl
front_holds false b e = absurd (cc e)

back_holds : (a b : Bool) → b ≡ true → (a || b) ≡ true
back_holds true b e = refl
back_holds false b e = e

last_true : (b : Bool) → (b || false) ≡ true → b ≡ true
last_true true e = refl
last_true false e = absurd (cc e)

after_fit : (messages : List Message) → Fit (λ s. list_any (mentions s) messages)
    → Fit (λ s. list_any (mentions s) (drop 1 messages))
after_fit [] fit s to = fit s to
after_fit (first ∷ messages) fit s to = fit s (back_holds (mentions s first) (list_any (mentions s) messages) to)

first_fit : (messages : List Message) → Fit (λ s. list_any (mentions s) messages)
    → Fit (λ s. list_any (mentions s) (take 1 messages))
first_fit [] fit s to = fit s to
first_fit (first ∷ messages) fit s to =
    fit s (front_holds (mentions s first) (list_any (mentions s) messages) (last_true (mentions s first) to))

taken_at : (table : PortTable) (old new : PortIndexes) (serial : ℕ) (port : PortState)
    → get table.ports serial ≡ Some port → serial < 2 ^ 64 → AreOfFewer old new serial (take 1 port.messages)
    → AreIndexed table (present_parts old)
    → AreIndexed (record table { ports = changed table.ports serial without_first }) (present_parts new)
taken_at table old new serial port there fits done are = record {
  counted = subst (AreCounted (weighed (changed table.ports serial without_first))) (sym done.counts)
      (messages_counted_fewer (weighed (changed table.ports serial without_first)) old.counts.current serial
      (take 1 port.messages) fits (first_fit port.messages (are.small.mentioned serial port there))
      (counted_same (weighed table.ports)
      (λ (w : Weight). weighed (changed table.ports serial without_first) w + weigh (message_weigh w serial)
      (take 1 port.messages)) old.counts.current fewer are.counted));
  carried = λ inner outer small.
      ap (λ (c : Counts). count_at c inner outer) done.carriers
      ∙ queue_carried_fewer (carried_at (changed table.ports serial without_first)) old.carriers.current serial
      (take 1 port.messages) fits (λ i o other. are.carried i o other
      ∙ carries i o (eq_by_cmp nat_cmp o serial) refl) inner outer small;
  no_senders =
      subst (IsIndexed (target_at no_senders_of (changed table.ports serial without_first))) (sym done.no_senders)
      (alike_indexed (target_at no_senders_of table.ports) _ old.no_senders.current
      (λ q _. sym (same no_senders_of refl q)) are.no_senders);
  destroyed = subst (IsIndexed (target_at destroyed_of (changed table.ports serial without_first))) (sym done.destroyed)
      (alike_indexed (target_at destroyed_of table.ports) _ old.port_destroyed.current
      (λ q _. sym (same destroyed_of refl q)) are.destroyed);
  small =
      small_changed table serial without_first port there
      (after_fit port.messages (are.small.mentioned serial port there)) are.small;
}
  where
    fewer : (w : Weight) → weighed table.ports w
        ≡ weighed (changed table.ports serial without_first) w + weigh (message_weigh w serial) (take 1 port.messages)
    fewer w = omega (
      arith,
      total-insert (port_weigh w) table.ports serial (without_first port),
      ap (weight (port_weigh w) serial) there,
      weigh_parted (message_weigh w serial) port.messages,
      ap (λ (m : Ports). weighed m w) (changed_there table.ports serial without_first port there),
    )

    carries : (inner outer : ℕ) (b : Bool) → eq_by_cmp nat_cmp outer serial ≡ b
        → carried_at table.ports inner outer
        ≡ carried_at (changed table.ports serial without_first) inner outer + in_queue serial outer
        (carried_in inner (take 1 port.messages))
    carries inner outer true same = omega (
      arith,
      carried_there table.ports serial port inner outer there same,
      weigh_parted (λ (m : Message). received inner m.rights) port.messages,
      carried_changed table.ports serial without_first port inner outer there ∙ ap
          (λ (b : Bool). cond b (carried_by inner (without_first port)) (carried_at table.ports inner outer)) same,
      ap (λ (b : Bool). cond {A = ℕ} b (carried_in inner (take 1 port.messages)) 0)
          (turned serial outer ∙ sym (eq_cmp outer serial) ∙ same),
    )
    carries inner outer false same = omega (
      arith,
      carried_changed table.ports serial without_first port inner outer there ∙ ap
          (λ (b : Bool). cond b (carried_by inner (without_first port)) (carried_at table.ports inner outer)) same,
      ap (λ (b : Bool). cond {A = ℕ} b (carried_in inner (take 1 port.messages)) 0)
          (turned serial outer ∙ sym (eq_cmp outer serial) ∙ same),
    )

    same : (look : PortState → Option ℕ) → look (without_first port) ≡ look port → (q : ℕ)
        → target_at look (changed table.ports serial without_first) q ≡ target_at look table.ports q
    same look alike q =
        target_changed look table.ports serial without_first port q there ∙ go (eq_by_cmp nat_cmp q serial) refl
      where
        go : (b : Bool) → eq_by_cmp nat_cmp q serial ≡ b
            → cond b (look (without_first port)) (target_at look table.ports q) ≡ target_at look table.ports q
        go true at =
            alike ∙ sym (ap (target_at look table.ports) (key_is q serial at)
            ∙ target_there look table.ports serial port there)
        go false at = refl

pub taken_indexed : (table after : PortTable) (old new : PortIndexes) (serial : ℕ)
    → is_some (get table.ports serial) ≡ true → serial < 2 ^ 64
    → after ≡ record table { ports = changed table.ports serial without_first }
    → AreOfFewer old new serial (take 1 (messages_at table.ports serial)) → AreIndexed table (present_parts old)
    → AreIndexed after (present_parts new)
taken_indexed table after old new serial lives fits is done are =
    subst (λ (t : PortTable). AreIndexed t (present_parts new)) (sym is) (by (get table.ports serial) refl lives)
  where
    by : (o : Option PortState) → get table.ports serial ≡ o → is_some o ≡ true
        → AreIndexed (record table { ports = changed table.ports serial without_first }) (present_parts new)
    by None none some = absurd (cc some)
    by (Some port) there some =
        taken_at table old new serial port there fits
        (subst (λ (o : Option PortState). AreOfFewer old new serial (take 1 (messages_in o))) there done) are
