-- mach_port_deallocate, and mach_port_mod_refs of a name that is no set: references that go leave a state that is
-- lawful with the effects.
use Rattle.std.specs.Prelude.{◌≡◌, ◌⊎◌, ℕ, zero, suc, ◌+◌, ◌<◌, ◌≤◌, Bool, true, false, not, ◌&&◌, ◌==◌, List, [], ◌∷◌, ◌++◌, Option, None, Some, if◌then◌else◌, refl}
use Rattle.std.proofs.Common.{sym, ◌∙◌, ap, subst, inl, inr, arith}
use Rattle.std.specs.FinMap as finmap
use Rattle.codes.specs.declared.limits.TheConstants.{MAX_SEND_REFERENCES, MAX_DEAD_REFERENCES}
use Rattle.ipc_model.specs.declared.entry.Entry.{Entry}
use Rattle.ipc_model.specs.declared.entry.Entry.TheVariants.{Port, SendOnce, Set, Dead}
use Rattle.ipc_model.specs.declared.entry.PortRights.{PortRights}
use Rattle.ipc_model.specs.declared.message.RightKind.TheVariants as kind
use Rattle.ipc_model.specs.declared.port.PortState.{PortState}
use Rattle.ipc_model.specs.calls.Actions as actions
use Rattle.ipc_laws.specs.CallsKeep.{Kept}
use Rattle.ipc_model.specs.state.Circular.{Acyclic}
use Rattle.ipc_model.specs.rights.CopyIn.{with_left, notices_of_left}
use Rattle.ipc_model.specs.effects.Effects.{Effect, release, port_deleted}
use Rattle.ipc_laws.specs.EntryChanges.{EntryMove, changed, entry_moves, under, received_under}
use Rattle.ipc_model.specs.state.Lawful.{LawfulNames, LawfulEntry, AllWaiting, IsReleased}
use Rattle.ipc_laws.specs.LawfulLaws.{LawfulAtRest}
use Rattle.ipc_laws.specs.ListLaws.{some_same}
use Rattle.ipc_laws.specs.MapSums.{weigh, weigh-append}
use Rattle.ipc_laws.specs.NameChanges.{names_move_lawfully, insert_lawful, remove_lawful}
use Rattle.ipc_model.specs.state.Ipc.{Ipc, Names, with_names, with_changed, port_held, is_empty_entry, request_of}
use Rattle.ipc_laws.specs.Weights.{Weight, target_weigh, entry_weigh, effect_weigh, receive_of, any_of}

-- another entry under a name, or none, keeps the state lawful with the effects
pub entry_kept : (old : Ipc) (space name : ℕ) (names : Names) (before after : Option Entry) (later : List Effect)
    → LawfulAtRest old → Acyclic old → EntryMove old space name names before after [] later
    → LawfulNames (changed names name after)
    → Kept (with_names old space (changed names name after)) later
entry_kept old space name names before after later lawful acyclic move fits = record {
  lawful =
      names_move_lawfully old space names (changed names name after) [] later
      (entry_moves old space name names before after [] later move fits) lawful;
  acyclic = acyclic;
}

pub changed_space : (old : Ipc) (space : ℕ) (names : Names) (change : Names → Names)
    → finmap.get old.spaces space ≡ Some names → with_changed old space change ≡ with_names old space (change names)
changed_space old space names change there =
    ap (λ (o : Option Names). elim o as (λ _. Ipc) [ None ↦ old | Some n ↦ with_names old space (change n) ]) there

-- what is left of a name: the entry, or nothing where it is empty
abbrev pub left_of : Entry → Option Entry
left_of entry = if is_empty_entry entry then None else Some entry

pub left_state : (old : Ipc) (space name : ℕ) (names : Names) (entry : Entry)
    → finmap.get old.spaces space ≡ Some names
    → with_left old space name entry ≡ with_names old space (changed names name (left_of entry))
left_state old space name names entry there =
    elim (is_empty_entry entry) as (λ (b : Bool).
    (if b then with_changed old space (λ (n : Names). finmap.remove n name) else with_changed old space
    (λ (n : Names). finmap.insert n name entry))
    ≡ with_names old space (changed names name (if b then None else Some entry))) [
      | true ↦ changed_space old space names (λ (n : Names). finmap.remove n name) there
      | false ↦ changed_space old space names (λ (n : Names). finmap.insert n name entry) there
    ]

-- notices of names that cease to be carry no receive right, and wait
pub deleted_receive : (q name : ℕ) (target : Option ℕ)
    → weigh (effect_weigh (receive_of q)) (port_deleted name target) ≡ 0
deleted_receive q name None = refl
deleted_receive q name (Some target) = refl

pub deleted_waits : (name : ℕ) (target : Option ℕ) → AllWaiting (port_deleted name target)
deleted_waits name None = tt
deleted_waits name (Some target) = (tt, tt)

pub left_receive : (q name : ℕ) (entry : Entry) → weigh (effect_weigh (receive_of q)) (notices_of_left name entry) ≡ 0
left_receive q name entry =
    elim (is_empty_entry entry) as (λ (b : Bool). weigh (effect_weigh (receive_of q))
    (if b then port_deleted name (request_of entry) else []) ≡ 0)
    [ true ↦ deleted_receive q name (request_of entry) | false ↦ refl ]

pub left_waits : (name : ℕ) (entry : Entry) → AllWaiting (notices_of_left name entry)
left_waits name entry =
    elim (is_empty_entry entry) as (λ (b : Bool). AllWaiting (if b then port_deleted name (request_of entry) else []))
    [ true ↦ deleted_waits name (request_of entry) | false ↦ tt ]

-- references of a send right

send_waits : (b : Bool) (serial : ℕ) (rest : List Effect) → AllWaiting rest
    → AllWaiting ((if b then release kind.Send serial ∷ [] else []) ++ rest)
send_waits true serial rest waits = (tt, waits)
send_waits false serial rest waits = waits

send_weighs : (q : ℕ) (b : Bool) (serial : ℕ) (rest : List Effect)
    → weigh (effect_weigh (receive_of q)) ((if b then release kind.Send serial ∷ [] else []) ++ rest)
    ≡ weigh (effect_weigh (receive_of q)) rest
send_weighs q true serial rest = omega arith
send_weighs q false serial rest = refl

-- an entry that is left weighs the same by receive rights, even if it is empty
pub no_target : (q : ℕ) (target : Option ℕ) → target_weigh (receive_of q) target ≡ 0
no_target q None = refl
no_target q (Some serial) = refl

-- (the entry with any receive right and any references)
pub left_weighs : (q port send : ℕ) (receive : Bool) (target : Option ℕ)
    → under (receive_of q) (left_of
    (Port (record { port = port; receive = receive; send = send; dead_name_target = target })))
    ≡ (if receive then receive_of q kind.Receive port else 0)
left_weighs q port send true target =
    elim (send == 0) as (λ (b : Bool). receive_of q kind.Receive port +
    ((if b then 0 else receive_of q kind.Send port) + target_weigh (receive_of q) target)
    ≡ receive_of q kind.Receive port) [
      | true ↦ omega (arith, no_target q target)
      | false ↦ omega (arith, no_target q target)
    ]
left_weighs q port send false target =
    elim (send == 0) as (λ (b : Bool). under (receive_of q)
    (if b then None else Some (Port
    (record { port = port; receive = false; send = send; dead_name_target = target }))) ≡ 0) [
      | true ↦ refl
      | false ↦ elim (send == 0) as (λ (b : Bool). 0 +
          ((if b then 0 else receive_of q kind.Send port) + target_weigh (receive_of q) target) ≡ 0)
          [ true ↦ omega (arith, no_target q target) | false ↦ omega (arith, no_target q target) ]
    ]

pub port_weighs : (q port send : ℕ) (receive : Bool) (target : Option ℕ)
    → entry_weigh (receive_of q) (Port
    (record { port = port; receive = receive; send = send; dead_name_target = target }))
    ≡ (if receive then receive_of q kind.Receive port else 0)
port_weighs q port send receive target =
    elim (send == 0) as (λ (b : Bool). (if receive then receive_of q kind.Receive port else 0) +
    ((if b then 0 else receive_of q kind.Send port) + target_weigh (receive_of q) target)
    ≡ (if receive then receive_of q kind.Receive port else 0)) [
      | true ↦ omega (arith, no_target q target)
      | false ↦ omega (arith, no_target q target)
    ]

-- fewer references don't make more rights
pub fewer_weigh : (w : Weight) (port send left : ℕ) (receive : Bool) (target : Option ℕ) → (send == 0) ≡ false
    → under w (left_of (Port (record { port = port; receive = receive; send = left; dead_name_target = target })))
    ≤ entry_weigh w (Port (record { port = port; receive = receive; send = send; dead_name_target = target }))
fewer_weigh w port send left receive target some =
    elim (not receive && left == 0)
    as (λ (b : Bool). under w (if b then None
    else Some (Port (record { port = port; receive = receive; send = left; dead_name_target = target })))
    ≤ (if receive then w kind.Receive port else 0) +
    ((if send == 0 then 0 else w kind.Send port) + target_weigh w target)) [
      | true ↦ omega arith
      | false ↦ elim (left == 0) as (λ (b : Bool). (if receive then w kind.Receive port else 0) +
          ((if b then 0 else w kind.Send port) + target_weigh w target)
          ≤ (if receive then w kind.Receive port else 0) +
          ((if send == 0 then 0 else w kind.Send port) + target_weigh w target)) [
            | true ↦ omega arith
            | false ↦ omega (arith, ap (λ (b : Bool). if b then 0 else w kind.Send port) some)
          ]
    ]

-- the receive right stays where it is
held_still : (port send left serial : ℕ) (receive : Bool) (target : Option ℕ)
    → received_under (Some (Port (record { port = port; receive = receive; send = send; dead_name_target = target })))
    ≡ Some serial
    → received_under (left_of (Port
    (record { port = port; receive = receive; send = left; dead_name_target = target }))) ≡ Some serial
held_still port send left serial true target is = is
held_still port send left serial false target is = absurd (cc is)

pub not_set : (rights : PortRights) → Some (Port rights) ≡ Some Set → ⊥
not_set rights e = cc e

pub none_released : (serial : ℕ) → IsReleased [] serial → ⊥
none_released serial (k, less, is) = absurd (omega (arith, less))

pub not_empty : (receive : Bool) (left : ℕ) → (not receive && left == 0) ≡ false → (receive ≡ true) ⊎ (0 < left)
not_empty true left e = inl refl
not_empty false zero e = absurd (cc e)
not_empty false (suc left) e = inr (omega arith)

-- the names with fewer references under one
pub left_lawful : (names : Names) (name : ℕ) (rights : PortRights) (entry : Entry) → LawfulNames names
    → finmap.get names name ≡ Some (Port rights) → port_held entry ≡ Some rights.port
    → (is_empty_entry entry ≡ false → LawfulEntry entry) → LawfulNames (changed names name (left_of entry))
left_lawful names name rights entry lawful at same fits =
    elim (is_empty_entry entry) as (λ (b : Bool). is_empty_entry entry ≡ b
    → LawfulNames (changed names name (if b then None else Some entry))) [
      | true ↦ λ (_ : _). remove_lawful names name lawful
      | false ↦ λ (some : _).
          let own = lawful.named name (Port rights) at in
          insert_lawful names name entry lawful own.0 own.1 (fits some) (λ (none : _). absurd (cc (sym none ∙ at)))
          (λ (other serial : ℕ) (e : Entry) (apart : _) (there : _) (held : _) (held_too : _). apart
          (lawful.one_name other name serial e (Port rights) there at held_too (sym same ∙ held)))
    ] refl

-- Fewer references of a send right, and its release where none are left.
pub send_left_kept : (old : Ipc) (space name : ℕ) (names : Names) (rights : PortRights) (left number : ℕ)
    → LawfulAtRest old → Acyclic old → finmap.get old.spaces space ≡ Some names
    → finmap.get names name ≡ Some (Port rights)
    → (rights.send == 0) ≡ false → left ≤ MAX_SEND_REFERENCES
    → Kept (actions.send_left old space name rights left number).state
    (actions.send_left old space name rights left number).effects
send_left_kept old space name names rights left number lawful acyclic there at some fits =
    let entry : Entry = Port (record rights { send = left }) in
    let later : List Effect =
    (if left == 0 then release kind.Send rights.port ∷ [] else []) ++ notices_of_left name entry in
    let move : EntryMove old space name names (Some (Port rights)) (left_of entry) [] later = record {
      there = there;
      at = at;
      receives = λ (q : ℕ). omega (
        arith,
        left_weighs q rights.port left rights.receive rights.dead_name_target,
        port_weighs q rights.port rights.send rights.receive rights.dead_name_target,
        send_weighs q (left == 0) rights.port (notices_of_left name entry),
        left_receive q name entry,
      );
      none_dead =
          λ (q : ℕ) (dead : _). fewer_weigh
          (any_of q) rights.port rights.send left rights.receive rights.dead_name_target some;
      waits = send_waits (left == 0) rights.port (notices_of_left name entry) (left_waits name entry);
      held =
          λ (serial : ℕ) (is : _). inl (held_still rights.port rights.send left serial rights.receive
          rights.dead_name_target is);
      set = λ (e : _). absurd (not_set rights e);
      released = λ (serial set : ℕ) (port : PortState) (_ : _) (_ : _) (r : _). absurd (none_released serial r);
    } in
    let own = lawful.spaces space names there in
    let lawful_names : LawfulNames (changed names name (left_of entry)) =
    left_lawful names name rights entry own.2 at refl
    (λ (some_left : _). (not_empty rights.receive left some_left, fits)) in
    subst (λ (s : Ipc). Kept s later) (sym (left_state old space name names entry there))
    (entry_kept old space name names (Some (Port rights)) (left_of entry) later lawful acyclic move lawful_names)

-- Fewer or more references of a dead name, which goes with the last.

pub dead_weighs : (w : Weight) (left : ℕ) → under w (left_of (Dead left)) ≡ 0
dead_weighs w left =
    elim (left == 0) as (λ (b : Bool). under w (if b then None else Some (Dead left)) ≡ 0)
    [ true ↦ refl | false ↦ refl ]

pub above_zero : (n : ℕ) → (n == 0) ≡ false → 0 < n
above_zero zero e = absurd (cc e)
above_zero (suc n) e = omega arith

-- the names with a dead name's references
pub dead_lawful : (names : Names) (name references left : ℕ) → LawfulNames names
    → finmap.get names name ≡ Some (Dead references) → left ≤ MAX_DEAD_REFERENCES
    → LawfulNames (changed names name (left_of (Dead left)))
dead_lawful names name references left lawful at fits =
    elim (left == 0) as (λ (b : Bool). (left == 0) ≡ b
    → LawfulNames (changed names name (if b then None else Some (Dead left)))) [
      | true ↦ λ (_ : _). remove_lawful names name lawful
      | false ↦ λ (some : _).
          let own = lawful.named name (Dead references) at in
          insert_lawful names name (Dead left) lawful own.0 own.1 (above_zero left some, fits)
          (λ (none : _). absurd (cc (sym none ∙ at)))
          (λ (other serial : ℕ) (e : Entry) (apart : _) (there : _) (held : _) (held_too : _). absurd (cc held))
    ] refl

pub dead_left_kept : (old : Ipc) (space name : ℕ) (names : Names) (references left number : ℕ) → LawfulAtRest old
    → Acyclic old → finmap.get old.spaces space ≡ Some names → finmap.get names name ≡ Some (Dead references)
    → left ≤ MAX_DEAD_REFERENCES → Kept (actions.dead_left old space name left number).state
    (actions.dead_left old space name left number).effects
dead_left_kept old space name names references left number lawful acyclic there at fits =
    let move : EntryMove old space name names (Some (Dead references)) (left_of (Dead left)) [] [] = record {
      there = there;
      at = at;
      receives = λ (q : ℕ). omega (arith, dead_weighs (receive_of q) left);
      none_dead = λ (q : ℕ) (dead : _). omega (arith, dead_weighs (any_of q) left);
      waits = tt;
      held = λ (serial : ℕ) (is : _). absurd (cc is);
      set = λ (e : _). absurd (cc e);
      released = λ (serial set : ℕ) (port : PortState) (_ : _) (_ : _) (r : _). r;
    } in
    subst (λ (s : Ipc). Kept s []) (sym (left_state old space name names (Dead left) there))
    (entry_kept old space name names (Some (Dead references)) (left_of (Dead left)) [] lawful acyclic move
    (dead_lawful names name references left (lawful.spaces space names there).2 at fits))

-- A name that goes with all that it stands for, and no set: its rights are released.

abbrev pub is_no_set : Entry → Type 0
is_no_set (Port rights) = Unit {0}
is_no_set (SendOnce port target) = Unit {0}
is_no_set Set = ⊥
is_no_set (Dead references) = Unit {0}

if_released : (w : Weight) (b : Bool) (first : Effect)
    → weigh (effect_weigh w) (actions.release_if b first) ≡ (if b then effect_weigh w first else 0)
if_released w true first = omega arith
if_released w false first = refl

zero_either : (b : Bool) → ◌≡◌ {A = ℕ} (if b then 0 else 0) 0
zero_either true = refl
zero_either false = refl

-- by receive rights, what goes weighs as much as its effects
pub name_weighs : (q name : ℕ) (entry : Entry)
    → weigh (effect_weigh (receive_of q)) (actions.effects_of_name name entry) ≡ entry_weigh (receive_of q) entry
name_weighs q name (Port rights) =
    omega (
      arith,
      weigh-append (effect_weigh (receive_of q))
          (actions.release_if (not (rights.send == 0)) (release kind.Send rights.port))
          (actions.release_if rights.receive (release kind.Receive rights.port)
          ++ port_deleted name rights.dead_name_target),
      weigh-append (effect_weigh (receive_of q)) (actions.release_if rights.receive (release kind.Receive rights.port))
          (port_deleted name rights.dead_name_target),
      if_released (receive_of q) (not (rights.send == 0)) (release kind.Send rights.port),
      if_released (receive_of q) rights.receive (release kind.Receive rights.port),
      deleted_receive q name rights.dead_name_target,
      zero_either (not (rights.send == 0)),
      zero_either (rights.send == 0),
      no_target q rights.dead_name_target,
    )
name_weighs q name (SendOnce port target) = omega (arith, deleted_receive q name target, no_target q target)
name_weighs q name Set = refl
name_weighs q name (Dead references) = refl

release_waits : (b : Bool) (first : Effect) (rest : List Effect) → AllWaiting (first ∷ []) → AllWaiting rest
    → AllWaiting (actions.release_if b first ++ rest)
release_waits true first rest one waits = (one.0, waits)
release_waits false first rest one waits = waits

pub name_waits : (name : ℕ) (entry : Entry) → AllWaiting (actions.effects_of_name name entry)
name_waits name (Port rights) =
    release_waits (not (rights.send == 0)) (release kind.Send rights.port) _ (tt, tt)
    (release_waits rights.receive (release kind.Receive rights.port) (port_deleted name rights.dead_name_target)
    (tt, tt) (deleted_waits name rights.dead_name_target))
name_waits name (SendOnce port target) = (tt, deleted_waits name target)
name_waits name Set = tt
name_waits name (Dead references) = tt

later_released : (xs rest : List Effect) (serial : ℕ) → IsReleased rest serial → IsReleased (xs ++ rest) serial
later_released [] rest serial r = r
later_released (x ∷ xs) rest serial r =
    let later = later_released xs rest serial r in (suc later.0, omega (arith, later.1), later.2)

pub first_released : (serial : ℕ) (rest : List Effect) → IsReleased (release kind.Receive serial ∷ rest) serial
first_released serial rest = (zero, omega arith, refl)

name_releases : (name serial : ℕ) (entry : Entry) → received_under (Some entry) ≡ Some serial
    → IsReleased (actions.effects_of_name name entry) serial
name_releases name serial (Port rights) is =
    later_released (actions.release_if (not (rights.send == 0)) (release kind.Send rights.port)) _ serial
    (elim rights.receive as (λ (b : Bool). (if b then Some rights.port else None) ≡ Some serial
    → IsReleased (actions.release_if b (release kind.Receive rights.port)
    ++ port_deleted name rights.dead_name_target) serial) [
      | true ↦ λ (e : _). subst
          (λ (s : ℕ). IsReleased (release kind.Receive s ∷ port_deleted name rights.dead_name_target) serial)
          (sym (some_same rights.port serial e)) (first_released serial (port_deleted name rights.dead_name_target))
      | false ↦ λ (e : _). absurd (cc e)
    ] is)
name_releases name serial (SendOnce port target) is = absurd (cc is)
name_releases name serial Set is = absurd (cc is)
name_releases name serial (Dead references) is = absurd (cc is)

no_set_is : (entry : Entry) → is_no_set entry → Some entry ≡ Some Set → ⊥
no_set_is (Port rights) other e = cc e
no_set_is (SendOnce port target) other e = cc e
no_set_is Set other e = absurd other
no_set_is (Dead references) other e = cc e

pub gone_kept : (old : Ipc) (space name : ℕ) (names : Names) (entry : Entry) → LawfulAtRest old → Acyclic old
    → finmap.get old.spaces space ≡ Some names → finmap.get names name ≡ Some entry → is_no_set entry
    → Kept (with_names old space (finmap.remove names name)) (actions.effects_of_name name entry)
gone_kept old space name names entry lawful acyclic there at other =
    let later : List Effect = actions.effects_of_name name entry in
    let move : EntryMove old space name names (Some entry) None [] later = record {
      there = there;
      at = at;
      receives = λ (q : ℕ). omega (arith, name_weighs q name entry);
      none_dead = λ (q : ℕ) (dead : _). omega arith;
      waits = name_waits name entry;
      held = λ (serial : ℕ) (is : _). inr (name_releases name serial entry is);
      set = λ (e : _). absurd (no_set_is entry other e);
      released = λ (serial set : ℕ) (port : PortState) (_ : _) (_ : _) (r : _). absurd (none_released serial r);
    } in
    entry_kept old space name names (Some entry) None later lawful acyclic move
    (remove_lawful names name (lawful.spaces space names there).2)
