-- Requests whose target is a dying port are cleared one after another.
use Rattle.std.proofs.Common.{◌≡◌, ℕ, ◌+◌, ◌<◌, ◌≤◌, ◌==◌, Bool, true, false, cond, nat_lt, Option, None, Some, MatchOption, option_map, option_and_then, refl, sym, ◌∙◌, ap, arith}
use Rattle.std.proofs.lemmas.Bool.{ltb-false, ltb-true}
use Rattle.std.specs.Cmp.{nat_cmp_total}
use Rattle.std.specs.Ordering.{nat_cmp, eq_by_cmp}
use Rattle.std.specs.FinMap.{get, insert, remove, get-remove, same_map, nat_cmp-IsAntisymmetric}
use Rattle.ipc_laws.specs.MapLaws.{get-map_values}
use Rattle.ipc_laws.specs.MapSums.{key_is, same_key, weight, total, total-insert}
use Rattle.ipc_model.specs.declared.port.PortState.{PortState}
use Rattle.ipc_model.specs.effects.Effects.{map_values, port_after_death, without_target}
use Rattle.ipc_model.specs.state.Ipc.{is_number}
use Rattle.live_ports.specs.Changed.{changed}
use Rattle.live_ports.specs.PortTable.{TrackedPorts}
use Rattle.live_ports.specs.Seen.{Ports, queue_after_death}
use Rattle.live_ports.specs.SeenLaws.{get_changed}
use Rattle.ports.specs.Indexes.{no_senders_of, destroyed_of, target_at}

-- a port with its no-senders request, or its port-destroyed request, cleared
abbrev pub no_senders_cleared : PortState → PortState
no_senders_cleared port = record port { no_senders_target = None }

abbrev pub destroyed_cleared : PortState → PortState
destroyed_cleared port = record port { port_destroyed_target = None }

abbrev pub requests_cleared : PortState → PortState
requests_cleared port = record port { no_senders_target = None; port_destroyed_target = None }

-- a port with its request cleared if the request has this target
abbrev pub no_senders_forgotten : ℕ → PortState → PortState
no_senders_forgotten target port = record port { no_senders_target = without_target target port.no_senders_target }

abbrev pub destroyed_forgotten : ℕ → PortState → PortState
destroyed_forgotten target port =
    record port { port_destroyed_target = without_target target port.port_destroyed_target }

-- the first port from a given one on whose request has this target, if there is one
abbrev pub IsNextRequester : (PortState → Option ℕ) → Ports → ℕ → ℕ → Option ℕ → Type 0
IsNextRequester look ports target from found =
    MatchOption found ((q : ℕ) → from ≤ q → is_number (target_at look ports q) target ≡ false)
    (λ first. (is_number (target_at look ports first) target ≡ true)
    × ((q : ℕ) → from ≤ q → q < first → is_number (target_at look ports q) target ≡ false))

-- no request has the port as its target, and the port has no requests
pub record IsUntargeted (serial : ℕ) (ports : Ports) : Type 0 where
  pub no_senders : (q : ℕ) → is_number (target_at no_senders_of ports q) serial ≡ false
  pub destroyed : (q : ℕ) → is_number (target_at destroyed_of ports q) serial ≡ false
  pub none_asked : target_at no_senders_of ports serial ≡ None
  pub none_notified : target_at destroyed_of ports serial ≡ None

same : (m n : Ports) → ((q : ℕ) → get m q ≡ get n q) → m ≡ n
same m n alike = same_map nat_cmp_total nat_cmp-IsAntisymmetric m n alike

-- Forgetting has the same result after a request with this target was cleared, and leaves a port without such a request
-- unchanged.
pub record IsForgetting (look : PortState → Option ℕ) (clear forget : PortState → PortState) (target : ℕ) : Type 0 where
  pub cleared : (port : PortState) → look (clear port) ≡ None
  pub settles : (port : PortState) → is_number (look port) target ≡ true → forget (clear port) ≡ forget port
  pub stays : (port : PortState) → is_number (look port) target ≡ false → forget port ≡ port

forgot : (target : ℕ) (o : Option ℕ) → is_number o target ≡ true → None ≡ without_target target o
forgot target None is = absurd (cc is)
forgot target (Some t) is = sym (ap (λ (b : Bool). cond b None (Some t)) is)

kept : (target : ℕ) (o : Option ℕ) → is_number o target ≡ false → without_target target o ≡ o
kept target None is = refl
kept target (Some t) is = ap (λ (b : Bool). cond b None (Some t)) is

pub forgets_no_senders : (target : ℕ)
    → IsForgetting no_senders_of no_senders_cleared (no_senders_forgotten target) target
forgets_no_senders target = record {
  cleared = λ port. refl;
  settles =
      λ port is. ap (λ (o : Option ℕ). record port { no_senders_target = o }) (forgot target port.no_senders_target is);
  stays =
      λ port is. ap (λ (o : Option ℕ). record port { no_senders_target = o }) (kept target port.no_senders_target is);
}

pub forgets_destroyed : (target : ℕ) → IsForgetting destroyed_of destroyed_cleared (destroyed_forgotten target) target
forgets_destroyed target = record {
  cleared = λ port. refl;
  settles =
      λ port is. ap (λ (o : Option ℕ). record port { port_destroyed_target = o })
      (forgot target port.port_destroyed_target is);
  stays =
      λ port is. ap (λ (o : Option ℕ). record port { port_destroyed_target = o })
      (kept target port.port_destroyed_target is);
}

-- the number of requests with this target
abbrev pub requests : (PortState → Option ℕ) → ℕ → Ports → ℕ
requests look target ports = total (λ _ port. cond (is_number (look port) target) 1 0) ports

module _ (look : PortState → Option ℕ) (clear forget : PortState → PortState) (target : ℕ)
    (forgets : IsForgetting look clear forget target) where
  -- after one request is cleared, forgetting all has the same result
  pub cleared_settles : (ports : Ports) (serial : ℕ) → is_number (target_at look ports serial) target ≡ true
      → map_values forget (changed ports serial clear) ≡ map_values forget ports
  cleared_settles ports serial is = same _ _ (λ q.
      get-map_values forget (changed ports serial clear) q ∙ ap (option_map forget) (get_changed ports serial clear q)
      ∙ at q (eq_by_cmp nat_cmp q serial) refl ∙ sym (get-map_values forget ports q))
    where
      here : (o : Option PortState) → is_number (option_and_then look o) target ≡ true
          → option_map forget (option_map clear o) ≡ option_map forget o
      here None e = absurd (cc e)
      here (Some port) e = ap Some (forgets.settles port e)

      at : (q : ℕ) (b : Bool) → eq_by_cmp nat_cmp q serial ≡ b
          → option_map forget (cond b (option_map clear (get ports serial)) (get ports q))
          ≡ option_map forget (get ports q)
      at q true e =
          here (get ports serial) is ∙ ap (λ (k : ℕ). option_map forget (get ports k)) (sym (key_is q serial e))
      at q false e = refl

  -- after one request is cleared, there is one less
  pub cleared_fewer : (ports : Ports) (serial : ℕ) → is_number (target_at look ports serial) target ≡ true
      → requests look target (changed ports serial clear) < requests look target ports
  cleared_fewer ports serial is = by (get ports serial) refl is
    where
      by : (o : Option PortState) → get ports serial ≡ o → is_number (option_and_then look o) target ≡ true
          → requests look target (elim o as (λ _. Ports)
          [ None ↦ ports | Some port ↦ insert ports serial (clear port) ]) < requests look target ports
      by None none e = absurd (cc e)
      by (Some port) there e = omega (
        arith,
        total-insert (λ _ port. cond {A = ℕ} (is_number (look port) target) 1 0) ports serial (clear port),
        ap (weight (λ _ port. cond {A = ℕ} (is_number (look port) target) 1 0) serial) there,
        ap (λ (b : Bool). cond {A = ℕ} b 1 0) e,
        ap (λ (o : Option ℕ). cond {A = ℕ} (is_number o target) 1 0) (forgets.cleared port),
      )

  -- no request up to and including this serial has the target
  pub cleared_passed : (ports : Ports) (at serial : ℕ)
      → ((q : ℕ) → q < at → is_number (target_at look ports q) target ≡ false)
      → ((q : ℕ) → at ≤ q → q < serial → is_number (target_at look ports q) target ≡ false)
      → (q : ℕ) → q < serial + 1 → is_number (target_at look (changed ports serial clear) q) target ≡ false
  cleared_passed ports at serial before between q less =
      ap (λ (o : Option PortState). is_number (option_and_then look o) target) (get_changed ports serial clear q)
      ∙ by (eq_by_cmp nat_cmp q serial) refl
    where
      none : (o : Option PortState) → is_number (option_and_then look (option_map clear o)) target ≡ false
      none None = refl
      none (Some port) = ap (λ (o : Option ℕ). is_number o target) (forgets.cleared port)

      other : eq_by_cmp nat_cmp q serial ≡ false → q < serial
      other e = elim (nat_lt q serial) as (λ (b : Bool). nat_lt q serial ≡ b → q < serial) [
        | true ↦ λ (lt : _). ltb-true q serial lt
        | false ↦ λ (more : _). absurd
            (cc (sym e ∙ ap (λ (n : ℕ). eq_by_cmp nat_cmp n serial) (omega (arith, less, ltb-false q serial more))
            ∙ same_key serial))
      ] refl

      passed : q < serial → is_number (target_at look ports q) target ≡ false
      passed lt =
          elim (nat_lt q at) as (λ (b : Bool). nat_lt q at ≡ b → is_number (target_at look ports q) target ≡ false) [
            | true ↦ λ (e : _). before q (ltb-true q at e)
            | false ↦ λ (e : _). between q (ltb-false q at e) lt
          ] refl

      by : (b : Bool) → eq_by_cmp nat_cmp q serial ≡ b
          → is_number (option_and_then look (cond b (option_map clear (get ports serial)) (get ports q))) target ≡ false
      by true e = none (get ports serial)
      by false e = passed (other e)

  -- no request is left, neither below `at` nor from there on
  pub none_requests : (ports : Ports) (at : ℕ) → ((q : ℕ) → q < at → is_number (target_at look ports q) target ≡ false)
      → ((q : ℕ) → at ≤ q → is_number (target_at look ports q) target ≡ false) → (q : ℕ)
      → is_number (target_at look ports q) target ≡ false
  none_requests ports at before beyond q =
      elim (nat_lt q at) as (λ (b : Bool). nat_lt q at ≡ b → is_number (target_at look ports q) target ≡ false) [
        | true ↦ λ (e : _). before q (ltb-true q at e)
        | false ↦ λ (e : _). beyond q (ltb-false q at e)
      ] refl

  -- nothing is left to forget
  pub all_forgotten : (ports : Ports) → ((q : ℕ) → is_number (target_at look ports q) target ≡ false)
      → map_values forget ports ≡ ports
  all_forgotten ports none = same _ _ (λ q. get-map_values forget ports q ∙ each (get ports q) (none q))
    where
      each : (o : Option PortState) → is_number (option_and_then look o) target ≡ false → option_map forget o ≡ o
      each None e = refl
      each (Some port) e = ap Some (forgets.stays port e)

-- after both are forgotten, no request has the port as its target
without_is : (serial : ℕ) (o : Option ℕ) → is_number (without_target serial o) serial ≡ false
without_is serial None = refl
without_is serial (Some t) =
    elim (t == serial) as (λ (b : Bool). (t == serial) ≡ b → is_number (cond b None (Some t)) serial ≡ false)
    [ true ↦ λ (e : _). refl | false ↦ λ (e : _). e ] refl

-- the ports without requests whose target is this port, and without its own requests
abbrev pub disconnected : ℕ → Ports → Ports
disconnected serial ports =
    changed (map_values (destroyed_forgotten serial) (map_values (no_senders_forgotten serial) ports)) serial
    requests_cleared

get_forgotten : (serial : ℕ) (ports : Ports) (q : ℕ)
    → get (map_values (destroyed_forgotten serial) (map_values (no_senders_forgotten serial) ports)) q ≡ option_map
    (λ port. destroyed_forgotten serial (no_senders_forgotten serial port)) (get ports q)
get_forgotten serial ports q =
    get-map_values (destroyed_forgotten serial) (map_values (no_senders_forgotten serial) ports) q
    ∙ ap (option_map (destroyed_forgotten serial)) (get-map_values (no_senders_forgotten serial) ports q)
    ∙ twice (get ports q)
  where
    twice : (o : Option PortState)
        → option_map (destroyed_forgotten serial) (option_map (no_senders_forgotten serial) o) ≡ option_map
        (λ port. destroyed_forgotten serial (no_senders_forgotten serial port)) o
    twice None = refl
    twice (Some port) = refl

get_disconnected : (serial : ℕ) (ports : Ports) (q : ℕ)
    → get (disconnected serial ports) q
    ≡ cond (eq_by_cmp nat_cmp q serial) (option_map requests_cleared (get ports serial))
    (option_map (λ port. destroyed_forgotten serial (no_senders_forgotten serial port)) (get ports q))
get_disconnected serial ports q =
    get_changed (map_values (destroyed_forgotten serial) (map_values (no_senders_forgotten serial) ports)) serial
    requests_cleared q
    ∙ (λ i. cond (eq_by_cmp nat_cmp q serial) (option_map requests_cleared (get_forgotten serial ports serial i))
    (get_forgotten serial ports q i))
    ∙ ap (λ (o : Option PortState). cond (eq_by_cmp nat_cmp q serial) o
    (option_map (λ port. destroyed_forgotten serial (no_senders_forgotten serial port)) (get ports q)))
    (over (get ports serial))
  where
    over : (o : Option PortState) → option_map requests_cleared
        (option_map (λ port. destroyed_forgotten serial (no_senders_forgotten serial port)) o)
        ≡ option_map requests_cleared o
    over None = refl
    over (Some port) = refl

pub disconnected_untargeted : (serial : ℕ) (ports : Ports) → IsUntargeted serial (disconnected serial ports)
disconnected_untargeted serial ports = record {
  no_senders =
      λ q. ap (λ (o : Option PortState). is_number (option_and_then no_senders_of o) serial)
      (get_disconnected serial ports q) ∙ asked q (eq_by_cmp nat_cmp q serial);
  destroyed =
      λ q. ap (λ (o : Option PortState). is_number (option_and_then destroyed_of o) serial)
      (get_disconnected serial ports q) ∙ notified q (eq_by_cmp nat_cmp q serial);
  none_asked =
      ap (option_and_then no_senders_of) (get_disconnected serial ports serial) ∙ ap
      (λ (b : Bool). option_and_then no_senders_of
      (cond b (option_map requests_cleared (get ports serial))
      (option_map (λ port. destroyed_forgotten serial (no_senders_forgotten serial port))
      (get ports serial)))) (same_key serial) ∙ nothing no_senders_of (λ _. refl) (get ports serial);
  none_notified =
      ap (option_and_then destroyed_of) (get_disconnected serial ports serial) ∙ ap
      (λ (b : Bool). option_and_then destroyed_of
      (cond b (option_map requests_cleared (get ports serial))
      (option_map (λ port. destroyed_forgotten serial (no_senders_forgotten serial port))
      (get ports serial)))) (same_key serial) ∙ nothing destroyed_of (λ _. refl) (get ports serial);
}
  where
    nothing : (look : PortState → Option ℕ) → ((p : PortState) → look (requests_cleared p) ≡ None)
        → (o : Option PortState) → option_and_then look (option_map requests_cleared o) ≡ None
    nothing look none None = refl
    nothing look none (Some port) = none port

    asked : (q : ℕ) (b : Bool) → is_number
        (option_and_then no_senders_of
        (cond b (option_map requests_cleared (get ports serial))
        (option_map (λ port. destroyed_forgotten serial (no_senders_forgotten serial port)) (get ports q))))
        serial ≡ false
    asked q true = ap (λ (o : Option ℕ). is_number o serial) (nothing no_senders_of (λ _. refl) (get ports serial))
    asked q false = each (get ports q)
      where
        each : (o : Option PortState) → is_number
            (option_and_then no_senders_of
            (option_map (λ port. destroyed_forgotten serial (no_senders_forgotten serial port)) o)) serial ≡ false
        each None = refl
        each (Some port) = without_is serial port.no_senders_target

    notified : (q : ℕ) (b : Bool) → is_number
        (option_and_then destroyed_of (cond b (option_map requests_cleared (get ports serial))
        (option_map (λ port. destroyed_forgotten serial (no_senders_forgotten serial port)) (get ports q)))) serial
        ≡ false
    notified q true = ap (λ (o : Option ℕ). is_number o serial) (nothing destroyed_of (λ _. refl) (get ports serial))
    notified q false = each (get ports q)
      where
        each : (o : Option PortState) → is_number
            (option_and_then destroyed_of (option_map
            (λ port. destroyed_forgotten serial (no_senders_forgotten serial port)) o)) serial ≡ false
        each None = refl
        each (Some port) = without_is serial port.port_destroyed_target

-- the death of a disconnected port is its death
pub disconnected_dies : (serial : ℕ) (ports : Ports)
    → map_values (queue_after_death serial) (remove (disconnected serial ports) serial)
    ≡ map_values (port_after_death serial) (remove ports serial)
disconnected_dies serial ports = same _ _ (λ q.
    get-map_values (queue_after_death serial) (remove (disconnected serial ports) serial) q
    ∙ ap (option_map (queue_after_death serial))
    (get-remove nat_cmp_total (disconnected serial ports) serial q
    ∙ ap (cond (eq_by_cmp nat_cmp q serial) None) (get_disconnected serial ports q))
    ∙ at q (eq_by_cmp nat_cmp q serial)
    ∙ sym (get-map_values (port_after_death serial) (remove ports serial) q
    ∙ ap (option_map (port_after_death serial)) (get-remove nat_cmp_total ports serial q)))
  where
    each : (o : Option PortState) → option_map (queue_after_death serial)
        (option_map (λ port. destroyed_forgotten serial (no_senders_forgotten serial port)) o)
        ≡ option_map (port_after_death serial) o
    each None = refl
    each (Some port) = refl

    at : (q : ℕ) (b : Bool)
        → option_map (queue_after_death serial)
        (cond b None (cond b (option_map requests_cleared (get ports serial))
        (option_map (λ port. destroyed_forgotten serial (no_senders_forgotten serial port)) (get ports q))))
        ≡ option_map (port_after_death serial) (cond b None (get ports q))
    at q true = refl
    at q false = each (get ports q)

-- only the ports have changed
pub table_is : (old new : TrackedPorts) (ports : Ports) → new.before ≡ old.before → new.current.next ≡ old.current.next
    → new.current.ports ≡ ports → new ≡ record old { current = record old.current { ports = ports } }
table_is old new ports before next at =
    λ i. record { before = before i; current = record { ports = at i; next = next i } }

-- the ports after the requests are cleared and the port is removed
pub disconnected_is : (old first second third : TrackedPorts) (serial : ℕ)
    → first ≡ record old {
      current = record old.current
          { ports = map_values (no_senders_forgotten serial) old.current.ports };
    }
    → second ≡ record first {
      current = record first.current
          { ports = map_values (destroyed_forgotten serial) first.current.ports };
    }
    → third ≡ record second {
      current = record second.current
          { ports = changed second.current.ports serial requests_cleared };
    }
    → third ≡ record old { current = record old.current { ports = disconnected serial old.current.ports } }
disconnected_is old first second third serial a b c =
    c ∙ ap (λ (t : TrackedPorts). record t
    { current = record t.current { ports = changed t.current.ports serial requests_cleared } })
    (b ∙ ap (λ (t : TrackedPorts). record t
    { current = record t.current { ports = map_values (destroyed_forgotten serial) t.current.ports } }) a)

pub buried_is : (old third new : TrackedPorts) (serial : ℕ)
    → third ≡ record old { current = record old.current { ports = disconnected serial old.current.ports } }
    → new ≡ record third {
      current = record third.current
          { ports = map_values (queue_after_death serial) (remove third.current.ports serial) };
    }
    → new ≡ record old {
      current = record old.current
          { ports = map_values (port_after_death serial) (remove old.current.ports serial) };
    }
buried_is old third new serial a b =
    b ∙ ap (λ (t : TrackedPorts). record t {
      current = record t.current {
        ports = map_values (queue_after_death serial)
            (remove t.current.ports serial);
      };
    }) a
    ∙ ap (λ (m : Ports). record old { current = record old.current { ports = m } })
    (disconnected_dies serial old.current.ports)
