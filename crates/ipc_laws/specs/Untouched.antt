-- A call's own action changes only the names of its caller's space, and number 20 makes a space.
use Rattle.std.specs.Prelude.{◌≡◌, ◌≢◌, ℕ, ◌+◌, ◌-◌, Bool, true, false, ◌==◌, List, [], ◌∷◌, Option, None, Some, is_some, option_and_then, if◌then◌else◌, IfSome, refl}
use Rattle.std.proofs.Common.{sym, ◌∙◌, ap, subst, inl, inr}
use Rattle.std.specs.Ordering.{nat_cmp}
use Rattle.std.specs.FinMap as finmap
use Rattle.ipc_model.specs.declared.plain_call.PlainCall.{PlainCall}
use Rattle.ipc_model.specs.declared.plain_call.PlainCall.TheVariants as call
use Rattle.ipc_model.specs.declared.plain_reply.PlainReply.{PlainReply}
use Rattle.ipc_model.specs.declared.entry.Entry.{Entry}
use Rattle.ipc_model.specs.declared.entry.Entry.TheVariants.{Port, SendOnce, Set, Dead}
use Rattle.ipc_model.specs.declared.entry.PortRights.{PortRights}
use Rattle.ipc_model.specs.declared.port.PortState.{PortState}
use Rattle.ipc_model.specs.calls.Actions as actions
use Rattle.ipc_model.specs.calls.Step.{removes_space}
use Rattle.ipc_model.specs.calls.Actions.{Action, Acts, ActsOn, Done}
use Rattle.ipc_model.specs.rights.CopyIn.{Taken, copy_in, taken_of_entry, taken_of_port, taken_of_send_once, taken_of_dead, with_left, moved_port}
use Rattle.ipc_model.specs.rights.Dispositions.{Disposition, MoveReceive, MoveSend, MoveSendOnce, CopySend, MakeSend, MakeSendOnce}
use Rattle.ipc_model.specs.effects.Effects.{Effect, notify}
use Rattle.ipc_model.specs.messages.Notices as notice
use Rattle.ipc_laws.specs.MapLaws.{get-here, get-there, get-left}
use Rattle.ipc_laws.specs.Others.{number_decided, with_port_spaces}
use Rattle.codes.specs.declared.right.Right.TheVariants as right
use Rattle.ipc_model.specs.calls.PortCalls.{is_right, sum_of, minus_one, target_under, names_in, notify_disposition}
use Rattle.ipc_model.specs.rights.CopyOut.{names_after}
use Rattle.ipc_model.specs.rights.Dispositions.{disposition_of}
use Rattle.codes.specs.declared.name.TheConstants.{MACH_PORT_NULL}
use Rattle.ipc_model.specs.state.Ipc.{new_port, Ipc, Names, with_names, with_changed, with_entry, without_name, with_port, entry_at, is_empty_entry, received_port}

some_none : {X : Type 0} {x : X} → Some x ≡ None → ⊥
some_none e = cc e

-- other existing spaces stay as they are
pub record Untouched (old new : Ipc) (space : ℕ) : Type 0 where
  pub others : (other : ℕ) → other ≢ space → (names : Names) → finmap.get old.spaces other ≡ Some names
      → finmap.get new.spaces other ≡ Some names

-- and no new space comes
pub record Outside (old new : Ipc) (space : ℕ) : Type 0 where
  pub others : (other : ℕ) → other ≢ space → (names : Names) → finmap.get old.spaces other ≡ Some names
      → finmap.get new.spaces other ≡ Some names
  pub absent : (other : ℕ) → other ≢ space → finmap.get old.spaces other ≡ None → finmap.get new.spaces other ≡ None

-- and the space itself stays
abbrev pub is_there : Ipc → ℕ → Bool
is_there state space = is_some (finmap.get state.spaces space)

pub record Confined (old new : Ipc) (space : ℕ) : Type 0 where
  pub others : (other : ℕ) → other ≢ space → (names : Names) → finmap.get old.spaces other ≡ Some names
      → finmap.get new.spaces other ≡ Some names
  pub absent : (other : ℕ) → other ≢ space → finmap.get old.spaces other ≡ None → finmap.get new.spaces other ≡ None
  pub own : is_there old space ≡ true → is_there new space ≡ true

pub untouched_of : (old new : Ipc) (space : ℕ) → Confined old new space → Untouched old new space
untouched_of old new space confined = record { others = confined.others }

pub nothing : (state : Ipc) (space : ℕ) → Confined state state space
nothing state space =
    record {
      others = λ (other : ℕ) (apart : _) (names : Names) (there : _). there;
      absent = λ (other : ℕ) (apart : _) (none : _). none;
      own = λ (there : _). there;
    }

pub follow : (old mid new : Ipc) (space : ℕ) → Confined old mid space → Confined mid new space
    → Confined old new space
follow old mid new space first second =
    record {
      others = λ (other : ℕ) (apart : _) (names : Names) (there : _). second.others other apart names
          (first.others other apart names there);
      absent = λ (other : ℕ) (apart : _) (none : _). second.absent other apart (first.absent other apart none);
      own = λ (there : _). second.own (first.own there);
    }

same_spaces : (old new : Ipc) (space : ℕ) → new.spaces ≡ old.spaces → Confined old new space
same_spaces old new space same = record {
  others =
      λ (other : ℕ) (apart : _) (names : Names) (there : _). ap
      (λ (s : finmap.FinMap nat_cmp Names). finmap.get s other) same ∙ there;
  absent =
      λ (other : ℕ) (apart : _) (none : _). ap (λ (s : finmap.FinMap nat_cmp Names). finmap.get s other) same ∙ none;
  own = λ (there : _). ap (λ (s : finmap.FinMap nat_cmp Names). is_some (finmap.get s space)) same ∙ there;
}

pub own_names : (state : Ipc) (space : ℕ) (names : Names) → Confined state (with_names state space names) space
own_names state space names = record {
  others =
      λ (other : ℕ) (apart : _) (before : Names) (there : _). get-there state.spaces space names other apart ∙ there;
  absent = λ (other : ℕ) (apart : _) (none : _). get-there state.spaces space names other apart ∙ none;
  own = λ (there : _). ap is_some (get-here state.spaces space names);
}

own_change : (state : Ipc) (space : ℕ) (change : Names → Names)
    → Confined state (with_changed state space change) space
own_change state space change =
    elim (finmap.get state.spaces space)
    as (λ (o : Option Names). Confined state
    (elim o as (λ _. Ipc) [ None ↦ state | Some names ↦ with_names state space (change names) ]) space) [
      | None ↦ nothing state space
      | Some names ↦ own_names state space (change names)
    ]

pub port_change : (state : Ipc) (space serial : ℕ) (change : PortState → PortState)
    → Confined state (with_port state serial change) space
port_change state space serial change =
    same_spaces state (with_port state serial change) space (with_port_spaces state serial change)

ports_change : (state : Ipc) (space : ℕ) (serials : List ℕ) (change : PortState → PortState)
    → Confined state (actions.with_ports state serials change) space
ports_change state space [] change = nothing state space
ports_change state space (serial ∷ serials) change =
    follow state (with_port state serial change) _ space (port_change state space serial change)
    (ports_change (with_port state serial change) space serials change)

-- copy in

left_change : (state : Ipc) (space name : ℕ) (entry : Entry) → Confined state (with_left state space name entry) space
left_change state space name entry =
    elim (is_empty_entry entry) as (λ (b : Bool). Confined state
    (if b then without_name state space name else with_entry state space name entry) space) [
      | true ↦ own_change state space (λ (names : Names). finmap.remove names name)
      | false ↦ own_change state space (λ (names : Names). finmap.insert names name entry)
    ]

abbrev pub TakenConfined : Ipc → ℕ → Option Taken → Type 0
TakenConfined state space taken = IfSome taken (λ (t : Taken). Confined state t.state space)

if_taken : (state : Ipc) (space : ℕ) (b : Bool) (one other : Option Taken) → TakenConfined state space one
    → TakenConfined state space other → TakenConfined state space (if b then one else other)
if_taken state space true one other first second = first
if_taken state space false one other first second = second

port_taken : (state : Ipc) (space name : ℕ) (disposition : Disposition) (rights : PortRights)
    → TakenConfined state space (taken_of_port state space name disposition rights)
port_taken state space name MoveReceive rights =
    if_taken state space rights.receive _ None
    (follow state (moved_port state rights.port) _ space (port_change state space rights.port _)
    (left_change _ space name (Port (record rights { receive = false })))) tt
port_taken state space name MoveSend rights =
    if_taken state space (rights.send == 0) None _ tt
    (left_change state space name (Port (record rights { send = rights.send - 1 })))
port_taken state space name MoveSendOnce rights = tt
port_taken state space name CopySend rights = if_taken state space (rights.send == 0) None _ tt (nothing state space)
port_taken state space name MakeSend rights =
    if_taken state space rights.receive _ None (port_change state space rights.port _) tt
port_taken state space name MakeSendOnce rights = if_taken state space rights.receive _ None (nothing state space) tt

once_taken : (state : Ipc) (space name : ℕ) (disposition : Disposition) (port : ℕ) (target : Option ℕ)
    → TakenConfined state space (taken_of_send_once state space name disposition port target)
once_taken state space name MoveReceive port target = tt
once_taken state space name MoveSend port target = tt
once_taken state space name MoveSendOnce port target =
    own_change state space (λ (names : Names). finmap.remove names name)
once_taken state space name CopySend port target = tt
once_taken state space name MakeSend port target = tt
once_taken state space name MakeSendOnce port target = tt

dead_taken : (state : Ipc) (space name : ℕ) (disposition : Disposition) (references : ℕ)
    → TakenConfined state space (taken_of_dead state space name disposition references)
dead_taken state space name MoveReceive references = tt
dead_taken state space name MoveSend references = left_change state space name (Dead (references - 1))
dead_taken state space name MoveSendOnce references = left_change state space name (Dead (references - 1))
dead_taken state space name CopySend references = nothing state space
dead_taken state space name MakeSend references = tt
dead_taken state space name MakeSendOnce references = tt

entry_taken : (state : Ipc) (space name : ℕ) (disposition : Disposition) (entry : Entry)
    → TakenConfined state space (taken_of_entry state space name disposition entry)
entry_taken state space name disposition (Port rights) = port_taken state space name disposition rights
entry_taken state space name disposition (SendOnce port target) = once_taken state space name disposition port target
entry_taken state space name disposition Set = tt
entry_taken state space name disposition (Dead references) = dead_taken state space name disposition references

some_entry_taken : (state : Ipc) (space name : ℕ) (disposition : Disposition) (o : Option Entry)
    → TakenConfined state space (option_and_then (taken_of_entry state space name disposition) o)
some_entry_taken state space name disposition None = tt
some_entry_taken state space name disposition (Some entry) = entry_taken state space name disposition entry

pub copied_in : (state : Ipc) (space name : ℕ) (disposition : Disposition)
    → TakenConfined state space (copy_in state space name disposition)
unfolding copy_in
copied_in state space name disposition = some_entry_taken state space name disposition (entry_at state space name)

-- a call on names and ports

by_option : {X : Type 0} (state : Ipc) (space : ℕ) (o : Option X) (some : X → Ipc)
    → ((x : X) → Confined state (some x) space)
    → Confined state (elim o as (λ _. Ipc) [ None ↦ state | Some x ↦ some x ]) space
by_option state space None some each = nothing state space
by_option state space (Some x) some each = each x

if_either : (state one other : Ipc) (space : ℕ) (b : Bool) → Confined state one space → Confined state other space
    → Confined state (if b then one else other) space
if_either state one other space true first second = first
if_either state one other space false first second = second

if_action : (state : Ipc) (space : ℕ) (one other : Action) (b : Bool) → Confined state one.state space
    → Confined state other.state space → Confined state (if b then one else other).state space
if_action state space one other true first second = first
if_action state space one other false first second = second

if_pair : (state : Ipc) (space : ℕ) (one other : Ipc × List Effect) (b : Bool) → Confined state one.0 space
    → Confined state other.0 space → Confined state (if b then one else other).0 space
if_pair state space one other true first second = first
if_pair state space one other false first second = second

by_action : (old : Ipc) (space : ℕ) (action : Action) (answer : PlainReply) (new : Ipc) (effects : List Effect)
    → Confined old action.state space → Acts action answer new effects → Confined old new space
by_action old space action answer new effects stays acts =
    subst (λ (s : Ipc). Confined old s space) (sym acts.1) stays

by_entry : (old : Ipc) (space : ℕ) (o : Option Entry) (action : Entry → Action) (answer : PlainReply) (new : Ipc)
    (effects : List Effect) → ((entry : Entry) → Confined old (action entry).state space)
    → ActsOn o action answer new effects → Confined old new space
by_entry old space None action answer new effects each acts = absurd acts
by_entry old space (Some entry) action answer new effects each acts =
    by_action old space (action entry) answer new effects (each entry) acts

moved_members : (state : Ipc) (space : ℕ) (names : Names) (set : ℕ) (other : Option ℕ) (entry : Entry)
    → Confined state (actions.members_moved state names set other entry) space
moved_members state space names set other (Port rights) = nothing state space
moved_members state space names set other (SendOnce port target) = nothing state space
moved_members state space names set other Set =
    ports_change state space (actions.serials_of_members state names set)
    (λ (port : PortState). record port { set = other })
moved_members state space names set other (Dead references) = nothing state space

new_names : (old mid : Ipc) (space : ℕ) (names : Names) → Confined old mid space
    → Confined old (with_names mid space names) space
new_names old mid space names first =
    follow old mid (with_names mid space names) space first (own_names mid space names)

allocated_there : (state : Ipc) (space : ℕ) (names : Names) (kind name : ℕ)
    → Confined state (actions.allocated state space names kind name) space
allocated_there state space names kind name =
    let inserted : Names = finmap.insert names name (actions.allocated_entry state.next kind) in
    let named : Ipc = with_names state space inserted in
    if_either state (record named { ports = finmap.insert state.ports state.next new_port; next = state.next + 1 })
    named space (is_right kind right.Receive)
    (follow state named _ space (own_names state space inserted) (same_spaces named _ space refl))
    (own_names state space inserted)

send_left_there : (state : Ipc) (space name : ℕ) (rights : PortRights) (left number : ℕ)
    → Confined state (actions.send_left state space name rights left number).state space
send_left_there state space name rights left number =
    left_change state space name (Port (record rights { send = left }))

deallocated_there : (state : Ipc) (space : ℕ) (names : Names) (name : ℕ) (entry : Entry)
    → Confined state (actions.deallocated state space names name entry).state space
deallocated_there state space names name (Port rights) = send_left_there state space name rights (rights.send - 1) 7
deallocated_there state space names name (SendOnce port target) =
    own_change state space (λ (n : Names). finmap.remove n name)
deallocated_there state space names name Set = nothing state space
deallocated_there state space names name (Dead references) = left_change state space name (Dead (references - 1))

modified_there : (state : Ipc) (space : ℕ) (names : Names) (name : ℕ) (entry : Entry) (kind delta : ℕ)
    → Confined state (actions.modified state space names name entry kind delta).state space
modified_there state space names name (Port rights) kind delta =
    if_action state space (actions.send_left state space name rights (sum_of rights.send delta) 9)
    (if delta == minus_one then actions.receive_gone state space name rights else actions.done_with 9 state [])
    (is_right kind right.Send)
    (send_left_there state space name rights (sum_of rights.send delta) 9)
    (if_action state space (actions.receive_gone state space name rights) (actions.done_with 9 state [])
    (delta == minus_one) (left_change state space name (Port (record rights { receive = false })))
    (nothing state space))
modified_there state space names name (SendOnce port target) kind delta =
    if_action state space (actions.send_once_gone state space name port target 9) (actions.done_with 9 state [])
    (delta == minus_one) (own_change state space (λ (n : Names). finmap.remove n name)) (nothing state space)
modified_there state space names name Set kind delta =
    if_action state space (actions.done_with 9
    (with_names (actions.members_in state names name None) space (finmap.remove names name)) [])
    (actions.done_with 9 state []) (delta == minus_one)
    (new_names state (actions.members_in state names name None) space (finmap.remove names name)
    (ports_change state space (actions.serials_of_members state names name)
    (λ (port : PortState). record port { set = None })))
    (nothing state space)
modified_there state space names name (Dead references) kind delta =
    left_change state space name (Dead (sum_of references delta))

received_there : (state : Ipc) (space : ℕ) (entry : Entry) (change : PortState → PortState)
    → Confined state (actions.with_received state entry change) space
received_there state space entry change =
    by_option state space (received_port entry) (λ (serial : ℕ). with_port state serial change)
    (λ (serial : ℕ). port_change state space serial change)

-- requests
port_request_there : (state : Ipc) (space variant sync serial : ℕ) (target : Option ℕ)
    → Confined state (actions.port_request_set state variant sync serial target).0 space
port_request_there state space variant sync serial None =
    port_change state space serial
    (λ (port : PortState). if variant == 69 then record port { port_destroyed_target = None }
    else record port { no_senders_target = None })
port_request_there state space variant sync serial (Some target) =
    if_pair state space (
      with_port state serial
          (λ (port : PortState). record port { port_destroyed_target = Some target }),
      [],
    )
    (if actions.lacks_senders state sync serial
    then (
      with_port state serial (λ (port : PortState). record port { no_senders_target = None }),
      notify target (notice.NoSenders (actions.make_send_count_of state serial)) ∷ [],
    )
    else (with_port state serial (λ (port : PortState). record port { no_senders_target = Some target }), []))
    (variant == 69)
    (port_change state space serial (λ (port : PortState). record port { port_destroyed_target = Some target }))
    (if_pair state space (
      with_port state serial (λ (port : PortState). record port { no_senders_target = None }),
      notify target (notice.NoSenders (actions.make_send_count_of state serial)) ∷ [],
    )
    (with_port state serial (λ (port : PortState). record port { no_senders_target = Some target }), [])
    (actions.lacks_senders state sync serial)
    (port_change state space serial (λ (port : PortState). record port { no_senders_target = None }))
    (port_change state space serial (λ (port : PortState). record port { no_senders_target = Some target })))

name_request_there : (state : Ipc) (space name : ℕ) (target : Option ℕ) (entry : Entry)
    → Confined state (actions.dead_name_request_set state space name target entry).0 space
name_request_there state space name target (Port rights) =
    own_change state space (λ (n : Names). finmap.insert n name (Port (record rights { dead_name_target = target })))
name_request_there state space name target (SendOnce port former) =
    own_change state space (λ (n : Names). finmap.insert n name (SendOnce port target))
name_request_there state space name target Set = nothing state space
name_request_there state space name None (Dead references) = nothing state space
name_request_there state space name (Some target) (Dead references) =
    own_change state space (λ (n : Names). finmap.insert n name (Dead (references + 1)))

request_there : (state : Ipc) (space name variant sync : ℕ) (target : Option ℕ) (entry : Entry)
    → Confined state (actions.request_set state space name variant sync target entry).0 space
request_there state space name variant sync target entry =
    if_pair state space (actions.dead_name_request_set state space name target entry)
    (elim (received_port entry) as (λ _. Ipc × List Effect)
    [ None ↦ (state, []) | Some serial ↦ actions.port_request_set state variant sync serial target ])
    (variant == 72)
    (name_request_there state space name target entry)
    (elim (received_port entry) as (λ (o : Option ℕ). Confined state
    (elim o as (λ _. Ipc × List Effect)
    [ None ↦ (state, []) | Some serial ↦ actions.port_request_set state variant sync serial target ]).0 space) [
      | None ↦ nothing state space
      | Some serial ↦ port_request_there state space variant sync serial target
    ])

request_under_there : (state : Ipc) (space name variant sync : ℕ) (target : Option ℕ)
    → Confined state (actions.request_set_under state space name variant sync target).0 space
request_under_there state space name variant sync target =
    elim (entry_at state space name)
    as (λ (o : Option Entry). Confined state
    (elim o as (λ _. Ipc × List Effect)
    [ None ↦ (state, []) | Some entry ↦ actions.request_set state space name variant sync target entry ]).0
    space) [
      | None ↦ nothing state space
      | Some entry ↦ request_there state space name variant sync target entry
    ]

gives_back_there : (old state : Ipc) (space : ℕ) (former : Option ℕ) (given : ℕ) (new : Ipc)
    → Confined old state space → actions.GivesBack state space former given new → Confined old new space
gives_back_there old state space None given new first gives =
    subst (λ (s : Ipc). Confined old s space) (sym gives.1) first
gives_back_there old state space (Some target) given new first gives =
    subst (λ (s : Ipc). Confined old s space) (sym gives.1)
    (follow old state _ space first
    (own_change state space (λ (n : Names). finmap.insert n given (SendOnce target None))))

-- what was copied in for a call
pub taken_there : (state : Ipc) (space name disposition : ℕ)
    → TakenConfined state space (actions.taken_by state space name disposition)
taken_there state space name disposition =
    elim (disposition_of disposition)
    as (λ (o : Option Disposition). TakenConfined state space (option_and_then (copy_in state space name) o)) [
      | None ↦ tt
      | Some d ↦ copied_in state space name d
    ]

target_there : (state : Ipc) (space : ℕ) (taken : Option Taken) → TakenConfined state space taken
    → Confined state (actions.taken_target state taken).state space
target_there state space None stays = nothing state space
target_there state space (Some taken) stays = stays

target_for_there : (state : Ipc) (space notify_name disposition : ℕ)
    → Confined state (actions.target_for state space notify_name disposition).state space
target_for_there state space notify_name disposition =
    elim (notify_name == MACH_PORT_NULL)
    as (λ (b : Bool). Confined state
    (if b then actions.taken_target state None
    else actions.taken_target state
    (option_and_then (copy_in state space notify_name) (notify_disposition disposition))).state space) [
      | true ↦ nothing state space
      | false ↦ elim (notify_disposition disposition)
          as (λ (o : Option Disposition). Confined state
          (actions.taken_target state (option_and_then (copy_in state space notify_name) o)).state space) [
            | None ↦ nothing state space
            | Some d ↦ target_there state space (copy_in state space notify_name d)
                (copied_in state space notify_name d)
          ]
    ]

inserted_there : (old : Ipc) (space name : ℕ) (taken : Option Taken) (new : Ipc) (effects : List Effect)
    → TakenConfined old space taken → actions.Inserted taken space name new effects → Confined old new space
inserted_there old space name None new effects stays inserted = absurd inserted
inserted_there old space name (Some taken) new effects stays inserted =
    subst (λ (s : Ipc). Confined old s space) (sym inserted.0)
    (new_names old taken.state space
    (names_after (names_in taken.state space) taken.right.kind taken.right.port name) stays)

extracted_there : (old : Ipc) (space : ℕ) (taken : Option Taken) (answer : PlainReply) (new : Ipc)
    (effects : List Effect) → TakenConfined old space taken → actions.Extracted taken space answer new effects
    → Confined old new space
extracted_there old space None answer new effects stays extracted = absurd extracted
extracted_there old space (Some taken) answer new effects stays extracted =
    subst (λ (s : Ipc). Confined old s space) (sym extracted.2.1)
    (new_names old taken.state space
    (names_after (names_in taken.state space) taken.right.kind taken.right.port extracted.0) stays)

-- the space that number 20 makes wasn't there before
created_there : (old : Ipc) (space : ℕ) (taken : Option Taken) (answer : PlainReply) (new : Ipc) (effects : List Effect)
    → TakenConfined old space taken → actions.Created taken answer new effects → Untouched old new space
created_there old space None answer new effects stays created = absurd created
created_there old space (Some taken) answer new effects stays created =
    subst (λ (s : Ipc). Untouched old s space) (sym created.5) (record {
      others = λ (other : ℕ) (apart : _) (names : Names) (there : _).
          let here : finmap.get taken.state.spaces other ≡ Some names = stays.others other apart names there in
          get-there taken.state.spaces created.0
          (names_after finmap.empty taken.right.kind taken.right.port created.1) other
          (λ (same : _). some_none (sym here ∙ ap (λ (k : ℕ). finmap.get taken.state.spaces k) same ∙ created.2.free))
          ∙ here;
    })

-- and its caller's stays
inserted_stays : (m : finmap.FinMap nat_cmp Names) (k : ℕ) (names : Names) (space : ℕ)
    → is_some (finmap.get m space) ≡ true → is_some (finmap.get (finmap.insert m k names) space) ≡ true
inserted_stays m k names space there =
    elim (number_decided space k) as (λ _. is_some (finmap.get (finmap.insert m k names) space) ≡ true) [
      | inl apart ↦ ap is_some (get-there m k names space apart) ∙ there
      | inr same ↦ ap (λ (s : ℕ). is_some (finmap.get (finmap.insert m k names) s)) same
          ∙ ap is_some (get-here m k names)
    ]

created_own : (old : Ipc) (space : ℕ) (taken : Option Taken) (answer : PlainReply) (new : Ipc) (effects : List Effect)
    → TakenConfined old space taken → actions.Created taken answer new effects → is_there old space ≡ true
    → is_there new space ≡ true
created_own old space None answer new effects stays created there = absurd created
created_own old space (Some taken) answer new effects stays created there =
    subst (λ (s : Ipc). is_there s space ≡ true) (sym created.5)
    (inserted_stays taken.state.spaces created.0
    (names_after finmap.empty taken.right.kind taken.right.port created.1) space (stays.own there))

pub destroyed_there : (state : Ipc) (space : ℕ) (names : Names)
    → Outside state (actions.space_destroyed state space names).state space
destroyed_there state space names =
    let outside : Ipc =
    actions.with_ports state (actions.received_serials names) (λ (port : PortState). record port { set = None }) in
    record {
      others = λ (other : ℕ) (apart : _) (before : Names) (there : _).
          get-left state.spaces space other apart ∙ there;
      absent = λ (other : ℕ) (apart : _) (none : _). get-left state.spaces space other apart ∙ none;
    }

status_there : (state : Ipc) (space : ℕ) (o : Option ℕ)
    → Confined state (actions.status_action_of state o).state space
status_there state space None = nothing state space
status_there state space (Some serial) =
    elim (finmap.get state.ports serial)
    as (λ (o : Option PortState). Confined state (actions.status_action state o serial).state space)
    [ None ↦ nothing state space | Some port ↦ nothing state space ]

-- the calls that make and remove a space
abbrev pub changes_spaces : PlainCall → Bool
changes_spaces (call.SpaceCreate name disposition) = true
changes_spaces call.SpaceDestroy = true
changes_spaces c = false

pub done_confined : (old : Ipc) (space : ℕ) (names : Names) (c : PlainCall) (answer : PlainReply) (new : Ipc)
    (effects : List Effect) → changes_spaces c ≡ false → Done old space names c answer new effects → Confined old new space
unfolding Done
done_confined old space names (call.Attach other) answer new effects stay done =
    by_action old space _ answer new effects (nothing old space) done
done_confined old space names call.Names answer new effects stay done =
    by_action old space _ answer new effects (nothing old space) done
done_confined old space names (call.Type name) answer new effects stay done =
    by_entry old space _ _ answer new effects (λ (entry : Entry). nothing old space) done
done_confined old space names (call.Rename from to) answer new effects stay done =
    by_entry old space (finmap.get names from)
    (λ (entry : Entry). actions.done_with 3 (actions.renamed old space names from to entry) []) answer new effects
    (λ (entry : Entry). new_names old (actions.members_moved old names from (Some to) entry) space
    (finmap.insert (finmap.remove names from) to entry) (moved_members old space names from (Some to) entry)) done
done_confined old space names (call.AllocateName kind name) answer new effects stay done =
    by_action old space (actions.done_with 4 (actions.allocated old space names kind name) []) answer new effects
    (allocated_there old space names kind name) done
done_confined old space names (call.Allocate kind) answer new effects stay done =
    subst (λ (s : Ipc). Confined old s space) (sym done.3) (allocated_there old space names kind done.0)
done_confined old space names (call.Destroy name) answer new effects stay done =
    by_entry old space (finmap.get names name) (actions.destroyed old space names name) answer new effects
    (λ (entry : Entry). new_names old (actions.members_moved old names name None entry) space (finmap.remove names name)
    (moved_members old space names name None entry)) done
done_confined old space names (call.Deallocate name) answer new effects stay done =
    by_entry old space (finmap.get names name) (actions.deallocated old space names name) answer new effects
    (deallocated_there old space names name) done
done_confined old space names (call.GetRefs name kind) answer new effects stay done =
    by_entry old space _ _ answer new effects (λ (entry : Entry). nothing old space) done
done_confined old space names (call.ModRefs name kind delta) answer new effects stay done =
    by_entry old space (finmap.get names name)
    (λ (entry : Entry). actions.modified old space names name entry kind delta) answer new effects
    (λ (entry : Entry). modified_there old space names name entry kind delta) done
done_confined old space names (call.SetQlimit name limit) answer new effects stay done =
    by_entry old space (finmap.get names name)
    (λ (entry : Entry). actions.done_with 10
    (actions.with_received old entry (λ (port : PortState). record port { limit = limit })) []) answer new
    effects (λ (entry : Entry). received_there old space entry
    (λ (port : PortState). record port { limit = limit })) done
done_confined old space names (call.SetMscount name count) answer new effects stay done =
    by_entry old space (finmap.get names name)
    (λ (entry : Entry). actions.done_with 11
    (actions.with_received old entry (λ (port : PortState). record port { make_send_count = count })) []) answer
    new effects (λ (entry : Entry). received_there old space entry
    (λ (port : PortState). record port { make_send_count = count })) done
done_confined old space names (call.SetSeqno name seqno) answer new effects stay done =
    by_entry old space (finmap.get names name)
    (λ (entry : Entry). actions.done_with 12
    (actions.with_received old entry (λ (port : PortState). record port { sequence_number = seqno })) []) answer
    new effects (λ (entry : Entry). received_there old space entry
    (λ (port : PortState). record port { sequence_number = seqno })) done
done_confined old space names (call.GetReceiveStatus name) answer new effects stay done =
    by_entry old space (finmap.get names name)
    (λ (entry : Entry). actions.status_action_of old (received_port entry)) answer new effects
    (λ (entry : Entry). status_there old space (received_port entry)) done
done_confined old space names (call.GetSetStatus name) answer new effects stay done =
    by_action old space _ answer new effects (nothing old space) done
done_confined old space names (call.MoveMember member after) answer new effects stay done =
    by_entry old space (finmap.get names member)
    (λ (entry : Entry). actions.done_with 15
    (actions.with_received old entry (λ (port : PortState). record port { set = actions.set_named after })) [])
    answer new effects (λ (entry : Entry). received_there old space entry
    (λ (port : PortState). record port { set = actions.set_named after })) done
done_confined old space names (call.RequestNotification name variant sync notify_name disposition) answer new effects
    stay done =
    let taken : actions.TakenTarget = actions.target_for old space notify_name disposition in
    gives_back_there old (actions.request_set_under taken.state space name variant sync taken.target).0 space
    (target_under taken.state (names_in taken.state space) variant name) done.0 new
    (follow old taken.state _ space (target_for_there old space notify_name disposition)
    (request_under_there taken.state space name variant sync taken.target)) done.2
done_confined old space names (call.InsertRight name right_name disposition) answer new effects stay done =
    inserted_there old space name (actions.taken_by old space right_name disposition) new effects
    (taken_there old space right_name disposition) done.1
done_confined old space names (call.ExtractRight name disposition) answer new effects stay done =
    extracted_there old space (actions.taken_by old space name disposition) answer new effects
    (taken_there old space name disposition) done
done_confined old space names (call.Send message) answer new effects stay done = absurd done
done_confined old space names (call.Receive limit large name waited) answer new effects stay done = absurd done
done_confined old space names (call.SpaceCreate name disposition) answer new effects stay done =
    absurd (cc stay)
done_confined old space names call.SpaceDestroy answer new effects stay done = absurd (cc stay)

-- what number 21 leaves of the other spaces
pub destroy_outside : (old : Ipc) (space : ℕ) (names : Names) (answer : PlainReply) (new : Ipc) (effects : List Effect)
    → Done old space names call.SpaceDestroy answer new effects → Outside old new space
unfolding Done
destroy_outside old space names answer new effects done =
    subst (λ (s : Ipc). Outside old s space) (sym done.1) (destroyed_there old space names)

pub destroy_done : (old : Ipc) (space : ℕ) (names : Names) (answer : PlainReply) (new : Ipc) (effects : List Effect)
    → Done old space names call.SpaceDestroy answer new effects → removes_space call.SpaceDestroy answer ≡ true
unfolding Done
destroy_done old space names answer new effects done = ap (removes_space call.SpaceDestroy) done.0

-- number 20 leaves its caller's space
pub create_own : (old : Ipc) (space name disposition : ℕ) (names : Names) (answer : PlainReply) (new : Ipc)
    (effects : List Effect) → Done old space names (call.SpaceCreate name disposition) answer new effects
    → is_there old space ≡ true → is_there new space ≡ true
unfolding Done
create_own old space name disposition names answer new effects done there =
    created_own old space (actions.taken_by old space name disposition) answer new effects
    (taken_there old space name disposition) done there

pub done_there : (old : Ipc) (space : ℕ) (names : Names) (c : PlainCall) (answer : PlainReply) (new : Ipc)
    (effects : List Effect) → Done old space names c answer new effects → Untouched old new space
unfolding Done
done_there old space names (call.SpaceCreate name disposition) answer new effects done =
    created_there old space (actions.taken_by old space name disposition) answer new effects
    (taken_there old space name disposition) done
done_there old space names call.SpaceDestroy answer new effects done =
    record { others = (destroy_outside old space names answer new effects done).others }
done_there old space names c answer new effects done =
    untouched_of old new space (done_confined old space names c answer new effects refl done)
