-- Copy in neither creates nor removes spaces.
use Rattle.std.specs.Prelude.{◌≡◌, ℕ, ◌+◌, ◌-◌, Bool, true, false, cond, ◌==◌, List, Option, None, Some, is_some, IsSome, option_and_then, if◌then◌else◌, IfSome, refl}
use Rattle.std.proofs.Common.{sym, ◌∙◌, ap, subst}
use Rattle.std.specs.Cmp.{nat_cmp_total}
use Rattle.std.specs.Ordering.{nat_cmp, eq_by_cmp}
use Rattle.std.specs.FinMap as finmap
use Rattle.std.specs.FinMap.{FinMap, get-insert, len-insert}
use Rattle.ipc_model.specs.declared.entry.Entry.{Entry}
use Rattle.ipc_model.specs.declared.entry.Entry.TheVariants.{Port, SendOnce, Set, Dead}
use Rattle.ipc_model.specs.declared.entry.PortRights.{PortRights}
use Rattle.ipc_model.specs.declared.port.PortState.{PortState}
use Rattle.ipc_model.specs.rights.CopyIn.{Taken, copy_in, taken_of_entry, taken_of_port, taken_of_send_once, taken_of_dead, with_left, moved_port}
use Rattle.ipc_model.specs.declared.message.CarriedRight.{CarriedRight}
use Rattle.ipc_model.specs.effects.Effects.{Effect}
use Rattle.rights.specs.Taking.{Takes}
use Rattle.ipc_model.specs.rights.Dispositions.{Disposition, MoveReceive, MoveSend, MoveSendOnce, CopySend, MakeSend, MakeSendOnce}
use Rattle.ipc_laws.specs.MapSums.{key_is}
use Rattle.ipc_laws.specs.Others.{with_port_spaces}
use Rattle.ipc_model.specs.state.Ipc.{Ipc, Names, with_names, with_changed, with_entry, without_name, with_port, entry_at, is_empty_entry}

abbrev Spaces : Type 0
Spaces = FinMap nat_cmp Names

-- The same spaces exist; their names may differ.
pub record KeepsSpaces (old new : Ipc) : Type 0 where
  pub there : (space : ℕ) → is_some (finmap.get new.spaces space) ≡ is_some (finmap.get old.spaces space)
  pub count : finmap.len new.spaces ≡ finmap.len old.spaces

nothing : (state : Ipc) → KeepsSpaces state state
nothing state = record { there = λ (space : ℕ). refl; count = refl }

follow : (old mid new : Ipc) → KeepsSpaces old mid → KeepsSpaces mid new → KeepsSpaces old new
follow old mid new first second =
    record { there = λ (space : ℕ). second.there space ∙ first.there space; count = second.count ∙ first.count }

own_names : (state : Ipc) (space : ℕ) (before names : Names) → finmap.get state.spaces space ≡ Some before
    → KeepsSpaces state (with_names state space names)
own_names state space before names at = record {
  there = λ (other : ℕ).
      ap is_some (get-insert nat_cmp_total state.spaces space names other)
      ∙ elim (eq_by_cmp nat_cmp other space)
      as (λ (b : Bool). eq_by_cmp nat_cmp other space ≡ b
      → is_some (cond b (Some names) (finmap.get state.spaces other)) ≡ is_some (finmap.get state.spaces other)) [
        | true ↦ λ (e : _). sym (ap (λ (k : ℕ). is_some (finmap.get state.spaces k)) (key_is other space e)
            ∙ ap is_some at)
        | false ↦ λ (e : _). refl
      ] refl;
  count =
      len-insert nat_cmp_total state.spaces space names ∙ ap
      (λ (o : Option Names). cond (is_some o) (finmap.len state.spaces) (finmap.len state.spaces + 1)) at;
}

own_change : (state : Ipc) (space : ℕ) (change : Names → Names) → KeepsSpaces state (with_changed state space change)
own_change state space change =
    elim (finmap.get state.spaces space)
    as (λ (o : Option Names). finmap.get state.spaces space ≡ o
    → KeepsSpaces state (elim o as (λ _. Ipc)
    [ None ↦ state | Some names ↦ with_names state space (change names) ])) [
      | None ↦ λ (gone : _). nothing state
      | Some names ↦ λ (at : _). own_names state space names (change names) at
    ] refl

port_change : (state : Ipc) (serial : ℕ) (change : PortState → PortState)
    → KeepsSpaces state (with_port state serial change)
port_change state serial change = record {
  there =
      λ (space : ℕ). ap (λ (spaces : Spaces). is_some (finmap.get spaces space)) (with_port_spaces state serial change);
  count = ap (λ (spaces : Spaces). finmap.len spaces) (with_port_spaces state serial change);
}

left_change : (state : Ipc) (space name : ℕ) (entry : Entry) → KeepsSpaces state (with_left state space name entry)
left_change state space name entry =
    elim (is_empty_entry entry) as (λ (b : Bool). KeepsSpaces state
    (if b then without_name state space name else with_entry state space name entry)) [
      | true ↦ own_change state space (λ (names : Names). finmap.remove names name)
      | false ↦ own_change state space (λ (names : Names). finmap.insert names name entry)
    ]

abbrev TakenKeeps : Ipc → Option Taken → Type 0
TakenKeeps state taken = IfSome taken (λ (t : Taken). KeepsSpaces state t.state)

if_taken : (state : Ipc) (b : Bool) (one other : Option Taken) → TakenKeeps state one → TakenKeeps state other
    → TakenKeeps state (if b then one else other)
if_taken state true one other first second = first
if_taken state false one other first second = second

port_taken : (state : Ipc) (space name : ℕ) (disposition : Disposition) (rights : PortRights)
    → TakenKeeps state (taken_of_port state space name disposition rights)
port_taken state space name MoveReceive rights =
    if_taken state rights.receive _ None
    (follow state (moved_port state rights.port) _ (port_change state rights.port _)
    (left_change _ space name (Port (record rights { receive = false })))) tt
port_taken state space name MoveSend rights =
    if_taken state (rights.send == 0) None _ tt
    (left_change state space name (Port (record rights { send = rights.send - 1 })))
port_taken state space name MoveSendOnce rights = tt
port_taken state space name CopySend rights = if_taken state (rights.send == 0) None _ tt (nothing state)
port_taken state space name MakeSend rights = if_taken state rights.receive _ None (port_change state rights.port _) tt
port_taken state space name MakeSendOnce rights = if_taken state rights.receive _ None (nothing state) tt

once_taken : (state : Ipc) (space name : ℕ) (disposition : Disposition) (port : ℕ) (target : Option ℕ)
    → TakenKeeps state (taken_of_send_once state space name disposition port target)
once_taken state space name MoveReceive port target = tt
once_taken state space name MoveSend port target = tt
once_taken state space name MoveSendOnce port target =
    own_change state space (λ (names : Names). finmap.remove names name)
once_taken state space name CopySend port target = tt
once_taken state space name MakeSend port target = tt
once_taken state space name MakeSendOnce port target = tt

dead_taken : (state : Ipc) (space name : ℕ) (disposition : Disposition) (references : ℕ)
    → TakenKeeps state (taken_of_dead state space name disposition references)
dead_taken state space name MoveReceive references = tt
dead_taken state space name MoveSend references = left_change state space name (Dead (references - 1))
dead_taken state space name MoveSendOnce references = left_change state space name (Dead (references - 1))
dead_taken state space name CopySend references = nothing state
dead_taken state space name MakeSend references = tt
dead_taken state space name MakeSendOnce references = tt

entry_taken : (state : Ipc) (space name : ℕ) (disposition : Disposition) (entry : Entry)
    → TakenKeeps state (taken_of_entry state space name disposition entry)
entry_taken state space name disposition (Port rights) = port_taken state space name disposition rights
entry_taken state space name disposition (SendOnce port target) = once_taken state space name disposition port target
entry_taken state space name disposition Set = tt
entry_taken state space name disposition (Dead references) = dead_taken state space name disposition references

some_entry_taken : (state : Ipc) (space name : ℕ) (disposition : Disposition) (o : Option Entry)
    → TakenKeeps state (option_and_then (taken_of_entry state space name disposition) o)
some_entry_taken state space name disposition None = tt
some_entry_taken state space name disposition (Some entry) = entry_taken state space name disposition entry

copied_in : (state : Ipc) (space name : ℕ) (disposition : Disposition)
    → TakenKeeps state (copy_in state space name disposition)
unfolding copy_in
copied_in state space name disposition = some_entry_taken state space name disposition (entry_at state space name)

-- copy in keeps the spaces
pub copy_in_keeps_spaces : (state : Ipc) (space name : ℕ) (disposition : Disposition) (taken : Taken)
    → copy_in state space name disposition ≡ Some taken → KeepsSpaces state taken.state
copy_in_keeps_spaces state space name disposition taken is =
    subst (TakenKeeps state) is (copied_in state space name disposition)

pub copy_in_keeps : (state : Ipc) (space name : ℕ) (disposition : Disposition) (taken : Taken)
    → IsSome (finmap.get state.spaces space) → copy_in state space name disposition ≡ Some taken
    → IsSome (finmap.get taken.state.spaces space)
copy_in_keeps state space name disposition taken there is =
    (copy_in_keeps_spaces state space name disposition taken is).there space ∙ there

-- copy in keeps the number of spaces, whether it takes a right or is refused
pub spaces_counted : (state : Ipc) (space name : ℕ) (disposition : Disposition) (waiting : List Effect)
    (right : Option CarriedRight) (new : Ipc) (after : List Effect)
    → Takes (copy_in state space name disposition) state waiting right new after
    → finmap.len new.spaces ≡ finmap.len state.spaces
spaces_counted state space name disposition waiting right new after takes =
    elim (copy_in state space name disposition)
    as (λ (o : Option Taken). copy_in state space name disposition ≡ o → Takes o state waiting right new after
    → finmap.len new.spaces ≡ finmap.len state.spaces) [
      | None ↦ λ (_ : _) (none : _). ap (λ (s : Ipc). finmap.len s.spaces) none.1
      | Some taken ↦ λ (is : _) (some : _). ap (λ (s : Ipc). finmap.len s.spaces) some.1
          ∙ (copy_in_keeps_spaces state space name disposition taken is).count
    ] refl takes
