-- The indexes of the rights in queues and requests of ports.
use Rattle.std.proofs.Common.{◌≡◌, ℕ, ◌^◌, ◌<◌, true, List, Option, Some, is_some, option_and_then}
use Rattle.std.specs.List.{list_any}
use Rattle.std.specs.FinMap.{get}
use Rattle.ipc_laws.specs.MapSums.{weight, total}
use Rattle.ipc_laws.specs.Weights.{Weight, port_weigh}
use Rattle.ipc_model.specs.declared.message.Message.{Message}
use Rattle.ipc_model.specs.declared.port.PortState.{PortState}
use Rattle.live_ports.specs.declared.port.PortNumbers.{PortNumbers}
use Rattle.live_ports.specs.PortTable.{PortTable}
use Rattle.live_ports.specs.Seen.{Ports, mentions}
use Rattle.port_indexes.specs.Counts.{Counts}
use Rattle.port_indexes.specs.Rights.{AreCounted}
use Rattle.port_indexes.specs.Places.{Numbers, moved}
use Rattle.port_indexes.specs.Indexed.{IsIndexed}
use Rattle.ports.specs.Counting.{Fit, TargetFits, AreCarried, carried_in, carriers_more, message_more, messages_fewer, queue_fewer, target_fewer, target_more}
use Rattle.ports.specs.declared.indexes.PortIndexes.{PortIndexes}
use Rattle.tracked_map.specs.Tracked.{at_rest}

abbrev pub no_senders_of : PortState → Option ℕ
no_senders_of port = port.no_senders_target

abbrev pub destroyed_of : PortState → Option ℕ
destroyed_of port = port.port_destroyed_target

-- the target of a port's request, if the port is live and has a request
abbrev pub target_at : (PortState → Option ℕ) → Ports → ℕ → Option ℕ
target_at look ports serial = option_and_then look (get ports serial)

-- the number of receive rights to a port in another port's queue
abbrev pub carried_by : ℕ → PortState → ℕ
carried_by inner port = carried_in inner port.messages

abbrev pub carried_at : Ports → ℕ → ℕ → ℕ
carried_at ports inner outer = weight (λ _ port. carried_by inner port) outer (get ports outer)

-- the weight of all rights in queues and requests
abbrev pub weighed : Ports → Weight → ℕ
weighed ports w = total (port_weigh w) ports

-- the four indexes of one state
pub record Parts : Type 0 where
  pub counts : Counts
  pub carriers : Counts
  pub no_senders : Numbers
  pub destroyed : Numbers

abbrev pub former_parts : PortIndexes → Parts
former_parts i =
    record {
      counts = i.counts.before;
      carriers = i.carriers.before;
      no_senders = i.no_senders.before;
      destroyed = i.port_destroyed.before;
    }

abbrev pub present_parts : PortIndexes → Parts
present_parts i =
    record {
      counts = i.counts.current;
      carriers = i.carriers.current;
      no_senders = i.no_senders.current;
      destroyed = i.port_destroyed.current;
    }

-- serials are below the next one, and the next serial and all mentioned ports fit 64 bits
pub record AreSmall (table : PortTable) : Type 0 where
  pub below : (key : ℕ) → is_some (get table.ports key) ≡ true → key < table.next
  pub mentioned : (key : ℕ) (port : PortState) → get table.ports key ≡ Some port
      → Fit (λ s. list_any (mentions s) port.messages)
  pub fits : table.next < 2 ^ 64

pub record AreIndexed (table : PortTable) (parts : Parts) : Type 0 where
  pub counted : AreCounted (weighed table.ports) parts.counts
  pub carried : AreCarried (carried_at table.ports) parts.carriers
  pub no_senders : IsIndexed (target_at no_senders_of table.ports) parts.no_senders
  pub destroyed : IsIndexed (target_at destroyed_of table.ports) parts.destroyed
  pub small : AreSmall table

-- the indexes before the changes are the same
pub record SameBefore (old new : PortIndexes) : Type 0 where
  pub counts : new.counts.before ≡ old.counts.before
  pub carriers : new.carriers.before ≡ old.carriers.before
  pub no_senders : new.no_senders.before ≡ old.no_senders.before
  pub destroyed : new.port_destroyed.before ≡ old.port_destroyed.before

-- no changes to commit or roll back
pub record AreAtRest (new : PortIndexes) (parts : Parts) : Type 0 where
  pub counts : new.counts ≡ at_rest parts.counts
  pub carriers : new.carriers ≡ at_rest parts.carriers
  pub no_senders : new.no_senders ≡ at_rest parts.no_senders
  pub destroyed : new.port_destroyed ≡ at_rest parts.destroyed

-- the numbers of a port were replaced
pub record AreRetargeted (old new : PortIndexes) (serial : ℕ) (former numbers : PortNumbers) : Type 0 where
  pub counts : new.counts.current
      ≡ target_more (target_fewer (target_more
      (target_fewer old.counts.current former.no_senders_target) numbers.no_senders_target)
      former.port_destroyed_target) numbers.port_destroyed_target
  pub carriers : new.carriers.current ≡ old.carriers.current
  pub no_senders : new.no_senders.current
      ≡ moved old.no_senders.current serial former.no_senders_target numbers.no_senders_target
  pub destroyed : new.port_destroyed.current
      ≡ moved old.port_destroyed.current serial former.port_destroyed_target numbers.port_destroyed_target

-- one message was added to a queue
pub record AreOfMore (old new : PortIndexes) (queue : ℕ) (message : Message) : Type 0 where
  pub counts : new.counts.current ≡ message_more old.counts.current queue message
  pub carriers : new.carriers.current ≡ carriers_more old.carriers.current queue message.rights
  pub no_senders : new.no_senders.current ≡ old.no_senders.current
  pub destroyed : new.port_destroyed.current ≡ old.port_destroyed.current

-- messages were removed from a queue
pub record AreOfFewer (old new : PortIndexes) (queue : ℕ) (messages : List Message) : Type 0 where
  pub counts : new.counts.current ≡ messages_fewer old.counts.current queue messages
  pub carriers : new.carriers.current ≡ queue_fewer old.carriers.current queue messages
  pub no_senders : new.no_senders.current ≡ old.no_senders.current
  pub destroyed : new.port_destroyed.current ≡ old.port_destroyed.current

-- the targets of a port's requests have 64 bits
pub record TargetsFit (numbers : PortNumbers) : Type 0 where
  pub no_senders : TargetFits numbers.no_senders_target
  pub destroyed : TargetFits numbers.port_destroyed_target
