-- How worked examples are computed: what the maps of a state hold that is written out.
use Rattle.std.specs.Prelude.{◌≡◌, ℕ, Bool, false, if◌then◌else◌, List, [], ◌∷◌, ◌++◌, Option, None, Some, option_map, option_and_then, refl}
use Rattle.std.proofs.Common.{sym, ◌∙◌, ap, subst}
use Rattle.std.specs.FinMap as finmap
use Rattle.ipc_model.specs.declared.entry.Entry.{Entry}
use Rattle.ipc_model.specs.calls.Actions.{request_set_under, lacks_senders, make_send_count_of, port_request_set}
use Rattle.ipc_model.specs.state.Circular.{carrier_of, meets}
use Rattle.ipc_model.specs.rights.CopyIn.{Taken, copy_in, with_left, moved_port, taken_leaving}
use Rattle.ipc_model.specs.rights.Dispositions.{Disposition, received_kind}
use Rattle.ipc_model.specs.effects.Effects.{queued, notified, send_released, notified_no_senders, receive_released_to, sent_to_target, after_death, died, effects_of_death, dead_name_notices, released_if_live, map_values, entry_after_death, Effect, effect, Settles, next_effect}
use Rattle.ipc_laws.specs.MapLaws.{get-map_values, map_rules}
use Rattle.ipc_model.specs.state.Placed.{count_of, send_count, send_once_count, receive_count}
use Rattle.ipc_model.specs.calls.PortCalls.{names_in, is_in_some_set, name_is, is_in_use, is_no_name, references_under, stands_elsewhere}
use Rattle.ipc_model.specs.calls.PortCalls as port_calls
use Rattle.ipc_model.specs.messages.Receiving.{port_under, oldest_under, is_in_set, all_empty, without_oldest}
use Rattle.ipc_model.specs.messages.Sending.{is_full, tests_of_queue, TakenRights, passed, take_rights, take_right, goes_in_circle}
use Rattle.ipc_model.specs.state.Ipc.{Ipc, Names, is_null_or_dead, entry_at, with_names, with_changed, with_entry, without_name, with_port, lives, ports_are_used_up, name_of_port, is_member, members_of}

-- what a name stands for once a port has died
pub entry-after_death : (state : Ipc) (serial space name : ℕ)
    → entry_at (after_death state serial) space name ≡ option_map (entry_after_death serial) (entry_at state space name)
entry-after_death state serial space name =
    let look : Names → Option Entry = λ names. finmap.get names name in
    ap (option_and_then look) (get-map_values (map_values (entry_after_death serial)) state.spaces space)
    ∙ elim (finmap.get state.spaces space)
    as (λ o. option_and_then look (option_map (map_values (entry_after_death serial)) o)
    ≡ option_map (entry_after_death serial) (option_and_then look o)) [
      | None ↦ refl
      | Some names ↦ get-map_values (entry_after_death serial) names name
    ]

-- one of a body's names is copied in, and then the others
pub take_one : (space name : ℕ) (d : Disposition) (names : List ℕ) (start : TakenRights) (taken : Taken)
    → is_null_or_dead name ≡ false → copy_in start.state space name d ≡ Some taken
    → take_rights space d (name ∷ names) start
    ≡ take_rights space d names
    (record {
      rights = start.rights ++ taken.right ∷ [];
      state = taken.state;
      notices = start.notices ++ taken.notices;
    })
take_one space name d names start taken named copied =
    let later : Option TakenRights → Option TakenRights =
    λ o. elim o as (λ _. Option TakenRights) [ None ↦ None | Some next ↦ take_rights space d names next ] in
    let passed_on : Option TakenRights =
    Some (record start { rights = start.rights ++ (record { kind = received_kind d; port = passed name }) ∷ [] }) in
    let add : Option Taken → Option TakenRights =
    option_map (λ (next : Taken). record {
      rights = start.rights ++ next.right ∷ [];
      state = next.state;
      notices = start.notices ++ next.notices;
    }) in
    ap (λ (b : Bool). later (if b then passed_on else add (copy_in start.state space name d))) named ∙ ap
    (λ (o : Option Taken). later (add o)) copied

-- an effect adds these to the list, which is then drained
pub settles_adding : {state end : Ipc} {first : Effect} {rest : List Effect} (added : List Effect)
    → (effect state first).1 ≡ added → Settles (effect state first).0 (rest ++ added) end
    → Settles state (first ∷ rest) end
settles_adding {state} {end} {first} {rest} added is later =
    next_effect (subst (λ (l : List Effect). Settles (effect state first).0 (rest ++ l) end) (sym is) later)

-- and what examples ask of such a state, or change in it
pub ruleset state_rules = (
  entry_at,
  with_names,
  with_changed,
  with_entry,
  without_name,
  with_port,
  lives,
  ports_are_used_up,
  name_of_port,
  is_member,
  members_of,
)

pub ruleset call_rules = (
  names_in,
  is_in_some_set,
  name_is,
  is_in_use,
  is_no_name,
  references_under,
  stands_elsewhere,
  port_calls.names_are_used_up,
  with_left,
  moved_port,
  taken_leaving,
  request_set_under,
  lacks_senders,
  make_send_count_of,
  port_request_set,
)

pub ruleset message_rules =
    (port_under, oldest_under, is_in_set, all_empty, without_oldest, is_full, tests_of_queue, carrier_of, meets)

pub ruleset send_rules = (goes_in_circle, take_right)

pub ruleset effect_rules = (
  queued,
  notified,
  send_released,
  notified_no_senders,
  receive_released_to,
  sent_to_target,
  after_death,
  died,
  effects_of_death,
  dead_name_notices,
  released_if_live,
)

pub ruleset count_rules = (count_of, send_count, send_once_count, receive_count)

pub ruleset rows = (map_rules, state_rules, call_rules, message_rules, send_rules, effect_rules, count_rules)
