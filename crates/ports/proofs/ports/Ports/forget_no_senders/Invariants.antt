use Rattle.std.proofs.Common.{◌≡◌, ℕ, ◌<◌, false}
use Rattle.ipc_model.specs.effects.Effects.{map_values}
use Rattle.ipc_model.specs.state.Ipc.{is_number}
use Rattle.ports.specs.Indexes.{no_senders_of, target_at}
use Rattle.ports.specs.Requests.{no_senders_forgotten, requests}
use Rattle.ports.proofs.ports.Ports.forget_no_senders.Given as goal

abbrev pub invariant-loop-other : goal.invariant-loop-other
invariant-loop-other l = record {
  settles : map_values (no_senders_forgotten l.target) l.self.current.ports
      ≡ map_values (no_senders_forgotten l.target) l.initial.self.current.ports;
  before : l.self.before ≡ l.initial.self.before;
  next : l.self.current.next ≡ l.initial.self.current.next;
  passed : (q : ℕ) → q < l.at → is_number (target_at no_senders_of l.self.current.ports q) l.target ≡ false;
}

abbrev pub decreases-loop-other : goal.decreases-loop-other
decreases-loop-other l = requests no_senders_of l.target l.self.current.ports
