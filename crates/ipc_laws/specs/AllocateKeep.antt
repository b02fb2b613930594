-- mach_port_allocate and mach_port_allocate_name leave lawful and acyclic states.
use Rattle.std.specs.Prelude.{◌≡◌, ◌≢◌, ◌⊎◌, ℕ, zero, suc, ◌+◌, ◌-◌, ◌^◌, ◌<◌, ◌≤◌, Bool, true, false, cond, nat_le, ◌&&◌, ◌||◌, ◌==◌, List, [], ◌∷◌, Option, None, Some, is_some, if◌then◌else◌, refl}
use Rattle.std.proofs.Common.{sym, ◌∙◌, ap, subst, inl, inr, arith}
use Rattle.std.proofs.lemmas.Bool.{eq-eqb, eqb-false, leb-false}
use Rattle.std.specs.Cmp.{nat_cmp_total}
use Rattle.std.specs.FinMap as finmap
use Rattle.std.specs.FinMap.{len-insert}
use Rattle.codes.specs.declared.limits.TheConstants.{MAX_NAMES, MAX_PORTS}
use Rattle.codes.specs.declared.name.TheConstants.{MACH_PORT_DEAD}
use Rattle.ipc_model.specs.declared.entry.Entry.{Entry}
use Rattle.ipc_model.specs.declared.entry.Entry.TheVariants.{Port, SendOnce, Set, Dead}
use Rattle.ipc_model.specs.declared.message.Message.{Message}
use Rattle.ipc_model.specs.declared.message.RightKind.{RightKind}
use Rattle.ipc_model.specs.declared.message.RightKind.TheVariants as kind
use Rattle.ipc_model.specs.declared.port.PortState.{PortState}
use Rattle.codes.specs.declared.right.Right.TheVariants as right
use Rattle.ipc_model.specs.calls.Actions as actions
use Rattle.ipc_laws.specs.CallsKeep.{Kept}
use Rattle.ipc_model.specs.calls.PortCalls.{is_right, names_are_used_up, is_in_use}
use Rattle.ipc_model.specs.state.Circular.{Acyclic, Carries, carries}
use Rattle.ipc_laws.specs.Dangling.{not_equal}
use Rattle.ipc_laws.specs.EffectRanks.{fewer_edges, state_less, receive_is_any}
use Rattle.ipc_model.specs.effects.Effects.{Effect, release}
use Rattle.ipc_laws.specs.EffectsKeep.{dangles_none, entry_part, serial_of}
use Rattle.ipc_laws.specs.EntryChanges.{EntryMove, entry_moves}
use Rattle.ipc_model.specs.state.Lawful.{rights_count, LawfulBut, LawfulNames, LawfulEntry, LawfulPort, IsHeldAlongsideSet, IsReleased}
use Rattle.ipc_laws.specs.LawfulLaws.{LawfulAtRest}
use Rattle.ipc_laws.specs.ListLaws.{some_same}
use Rattle.ipc_laws.specs.MapLaws.{get-here, get-there}
use Rattle.ipc_laws.specs.MapSums.{total-new}
use Rattle.ipc_laws.specs.NameChanges.{names_move_lawfully, insert_lawful}
use Rattle.ipc_laws.specs.Others.{number_decided}
use Rattle.ipc_model.specs.state.Ipc.{Ipc, Names, IsUnused, new_port, with_names, lives, port_held, ports_are_used_up, is_null_or_dead}
use Rattle.ipc_laws.specs.Weights.{Weight, entry_weigh, target_weigh, port_weigh, state_weigh, receive_of, any_of, count-receive, count-any}

-- the state with one more port, whose only right is the one that waits
abbrev pub with_new_port : Ipc → Ipc
with_new_port state = record state { ports = finmap.insert state.ports state.next new_port; next = state.next + 1 }

new_serial : (state : Ipc) (effects : List Effect) → LawfulBut state effects
    → finmap.get state.ports state.next ≡ None
new_serial state effects lawful =
    elim (finmap.get state.ports state.next)
    as (λ (o : Option PortState). finmap.get state.ports state.next ≡ o → o ≡ None) [
      | None ↦ λ (_ : _). refl
      | Some port ↦ λ (there : _). absurd (omega (arith, (lawful.ports state.next port there).1))
    ] refl

same_total : (w : Weight) (state : Ipc) → finmap.get state.ports state.next ≡ None
    → state_weigh w (with_new_port state) ≡ state_weigh w state
unfolding state_weigh
same_total w state fresh = omega (arith, total-new (port_weigh w) state.ports state.next new_port fresh)

apart_receive : (q serial : ℕ) → serial ≢ q → receive_of q kind.Receive serial ≡ 0
apart_receive q serial apart = ap {B = ℕ} (λ (b : Bool). cond b 1 0) (not_equal serial q apart)

own_receive : (q : ℕ) → receive_of q kind.Receive q ≡ 1
own_receive q = ap {B = ℕ} (λ (b : Bool). cond b 1 0) (eq-eqb q q refl)

new_port_lawful : LawfulPort new_port
new_port_lawful =
    record {
      limit = omega arith;
      sequence_number = omega arith;
      make_send_count = omega arith;
      messages = λ (k : ℕ) (d : Message) (less : _). absurd (omega (arith, less));
    }

none_released : (serial : ℕ) → IsReleased [] serial → ⊥
none_released serial (k, less, is) = absurd (omega (arith, less))

-- A port exists before its receive right has a name: the right waits.
pub new_port_kept : (old : Ipc) → LawfulAtRest old → Acyclic old → finmap.len old.ports < MAX_PORTS
    → old.next < 2 ^ 64 - 1 → Kept (with_new_port old) (release kind.Receive old.next ∷ [])
new_port_kept old lawful acyclic few next =
    let fresh : finmap.get old.ports old.next ≡ None = new_serial old [] lawful in
    let not_live : lives old old.next ≡ false = ap is_some fresh in
    record {
      lawful = record {
        first_space = lawful.first_space;
        spaces = lawful.spaces;
        ports =
            λ (serial : ℕ) (port : PortState) (at : _). elim (number_decided serial old.next)
            as (λ _. (0 < serial) × (serial < old.next + 1) × LawfulPort port) [
              | inl apart ↦
                  let before = lawful.ports serial port (sym (get-there old.ports old.next new_port serial apart)
                  ∙ at) in
                  (before.0, omega (arith, before.1), before.2)
              | inr same ↦
                  let is : new_port ≡ port =
                  some_same new_port port (sym (get-here old.ports old.next new_port)
                  ∙ ap (finmap.get (finmap.insert old.ports old.next new_port)) (sym same) ∙ at) in
                  (omega (arith, lawful.next.0, same), omega (arith, same), subst LawfulPort is new_port_lawful)
            ];
        few_ports =
            omega (
              arith,
              few,
              len-insert nat_cmp_total old.ports old.next new_port ∙ ap
                  (λ (b : Bool). cond b (finmap.len old.ports) (finmap.len old.ports + 1)) not_live,
            );
        next = (omega arith, omega (arith, next));
        one_receive = λ (q : ℕ) (live : _).
            count-receive (with_new_port old) (release kind.Receive old.next ∷ []) q
            ∙ (elim (number_decided q old.next)
            as (λ _. state_weigh (receive_of q) (with_new_port old) + (receive_of q kind.Receive old.next + 0)
            ≡ 1) [
              | inl apart ↦
                  let before : lives old q ≡ true =
                  sym (ap is_some (get-there old.ports old.next new_port q apart)) ∙ live in
                  omega (
                    arith,
                    same_total (receive_of q) old fresh,
                    count-receive old [] q,
                    lawful.one_receive q before,
                    apart_receive q old.next (λ (e : _). apart (sym e)),
                  )
              | inr same ↦
                  let none : state_weigh (any_of q) old ≡ 0 =
                  dangles_none old [] lawful q (ap (lives old) same ∙ not_live) in
                  omega (
                    arith,
                    same_total (receive_of q) old fresh,
                    none,
                    state_less (receive_of q) (any_of q) (receive_is_any q) old,
                    ap (receive_of q kind.Receive) (sym same) ∙ own_receive q,
                  )
            ]);
        live = λ (q : ℕ) (dead : _). elim (number_decided q old.next) as (λ _. rights_count (with_new_port old) q ≡ 0) [
          | inl apart ↦ count-any (with_new_port old) q ∙ same_total (any_of q) old fresh
              ∙ dangles_none old [] lawful q (sym (ap is_some (get-there old.ports old.next new_port q apart)) ∙ dead)
          | inr same ↦ absurd (cc (sym dead ∙ ap
              (λ (k : ℕ). is_some (finmap.get (finmap.insert old.ports old.next new_port) k)) same
              ∙ ap is_some (get-here old.ports old.next new_port)))
        ];
        waits = (tt, tt);
        sets =
            λ (serial set : ℕ) (port : PortState) (at : _) (is : _). elim (number_decided serial old.next)
            as (λ _. IsHeldAlongsideSet old serial set ⊎ IsReleased (release kind.Receive old.next ∷ []) serial) [
              | inl apart ↦ elim (lawful.sets serial set port
                  (sym (get-there old.ports old.next new_port serial apart) ∙ at) is)
                  as (λ _. IsHeldAlongsideSet old serial set ⊎ IsReleased (release kind.Receive old.next ∷ []) serial) [
                    | inl held ↦ inl held
                    | inr waits ↦ absurd (none_released serial waits)
                  ]
              | inr same ↦
                  let new : new_port ≡ port =
                  some_same new_port port (sym (get-here old.ports old.next new_port)
                  ∙ ap (finmap.get (finmap.insert old.ports old.next new_port)) (sym same) ∙ at) in
                  absurd (cc (ap (λ (p : PortState). p.set) new ∙ is))
            ];
      };
      acyclic =
          fewer_edges old (with_new_port old)
          (λ (outer inner : ℕ) (edge : Carries (with_new_port old) outer inner).
          elim (number_decided outer old.next) as (λ _. Carries old outer inner) [
            | inl apart ↦ (edge.0, sym (get-there old.ports old.next new_port outer apart) ∙ edge.1, edge.2)
            | inr same ↦
                let new : new_port ≡ edge.0 =
                some_same new_port edge.0 (sym (get-here old.ports old.next new_port)
                ∙ ap (finmap.get (finmap.insert old.ports old.next new_port)) (sym same) ∙ edge.1) in
                absurd (cc (ap (carries inner) new ∙ edge.2))
          ]) acyclic;
    }

-- The new name, by what it stands for.

-- one more name, which holds no port that has a name already
pub unnamed_lawful : (names : Names) (name : ℕ) (entry : Entry) → LawfulNames names → IsUnused names name
    → finmap.len names < MAX_NAMES → LawfulEntry entry
    → ((other serial : ℕ) (e : Entry) → finmap.get names other ≡ Some e → port_held entry ≡ Some serial
    → port_held e ≡ Some serial → ⊥) → LawfulNames (finmap.insert names name entry)
unnamed_lawful names name entry lawful unused few fits alone =
    insert_lawful names name entry lawful unused.least unused.below_dead fits (λ (_ : _). few)
    (λ (other serial : ℕ) (e : Entry) (_ : _) (there : _) (held : _) (held_too : _). alone other serial e there held
    held_too)

-- a set or a dead name
plain_kept : (old : Ipc) (space name : ℕ) (names : Names) (entry : Entry) → LawfulAtRest old → Acyclic old
    → finmap.get old.spaces space ≡ Some names → IsUnused names name → finmap.len names < MAX_NAMES
    → LawfulEntry entry → port_held entry ≡ None → ((w : Weight) → entry_weigh w entry ≡ 0)
    → Kept (with_names old space (finmap.insert names name entry)) []
plain_kept old space name names entry lawful acyclic there unused few fits none weightless =
    let move : EntryMove old space name names None (Some entry) [] [] = record {
      there = there;
      at = unused.free;
      receives = λ (q : ℕ). omega (arith, weightless (receive_of q));
      none_dead = λ (q : ℕ) (dead : _). omega (arith, weightless (any_of q));
      waits = tt;
      held = λ (serial : ℕ) (is : _). absurd (cc is);
      set = λ (e : _). absurd (cc e);
      released = λ (serial set : ℕ) (port : PortState) (_ : _) (_ : _) (r : _). r;
    } in
    record {
      lawful =
          names_move_lawfully old space names (finmap.insert names name entry) [] []
          (entry_moves old space name names None (Some entry) [] [] move
          (unnamed_lawful names name entry (lawful.spaces space names there).2 unused few fits
          (λ (other serial : ℕ) (e : Entry) (_ : _) (held : _) (_ : _). cc (sym none ∙ held)))) lawful;
      acyclic = acyclic;
    }

-- a receive right: the port's right waits, and then stands under the name
abbrev pub receive_entry : ℕ → Entry
receive_entry serial = Port (record { port = serial; receive = true; send = 0; dead_name_target = None })

apart_any : (q serial : ℕ) → serial ≢ q → any_of q kind.Receive serial ≡ 0
apart_any q serial apart = ap {B = ℕ} (λ (b : Bool). cond b 1 0) (not_equal serial q apart)

own_any : (q : ℕ) (what : RightKind) → any_of q what q ≡ 1
own_any q what = ap {B = ℕ} (λ (b : Bool). cond b 1 0) (eq-eqb q q refl)

-- a lawful entry that holds a port weighs by it
pub held_weighs : (serial : ℕ) (entry : Entry) → LawfulEntry entry → port_held entry ≡ Some serial
    → 1 ≤ entry_weigh (any_of serial) entry
held_weighs serial (Port rights) lawful is =
    let port : rights.port ≡ serial = some_same rights.port serial is in
    let receive : any_of serial kind.Receive rights.port ≡ 1 =
    ap (any_of serial kind.Receive) port ∙ own_any serial kind.Receive in
    let send : any_of serial kind.Send rights.port ≡ 1 = ap (any_of serial kind.Send) port ∙ own_any serial kind.Send in
    elim lawful.0 as (λ _. 1 ≤ (if rights.receive then any_of serial kind.Receive rights.port else 0) +
    ((if rights.send == 0 then 0 else any_of serial kind.Send rights.port) + target_weigh
    (any_of serial) rights.dead_name_target)) [
      | inl holds ↦ omega (
        arith,
        ap (λ (b : Bool). if b then any_of serial kind.Receive rights.port else 0) holds,
        receive,
      )
      | inr some ↦ omega (
        arith,
        ap
            (λ (b : Bool). if b then 0 else any_of serial kind.Send rights.port)
            (not_equal rights.send 0 (λ (e : _). absurd (omega (arith, e, some)))),
        send,
      )
    ]
held_weighs serial (SendOnce port target) lawful is = absurd (cc is)
held_weighs serial Set lawful is = absurd (cc is)
held_weighs serial (Dead references) lawful is = absurd (cc is)

-- the port whose right waits is in no set
new_in_no_set : (old : Ipc) (serial set : ℕ) (port : PortState)
    → finmap.get (with_new_port old).ports serial ≡ Some port → port.set ≡ Some set
    → IsReleased (release kind.Receive old.next ∷ []) serial → ⊥
unfolding serial_of
new_in_no_set old serial set port at is (zero, less, same) =
    let here : serial ≡ old.next = sym (ap serial_of same) in
    let new : new_port ≡ port =
    some_same new_port port (sym (get-here old.ports old.next new_port)
    ∙ ap (finmap.get (finmap.insert old.ports old.next new_port)) (sym here) ∙ at) in
    cc (ap (λ (p : PortState). p.set) new ∙ is)
new_in_no_set old serial set port at is (suc k, less, same) = absurd (omega (arith, less))

held_live : (old : Ipc) (space other serial : ℕ) (names : Names) (e : Entry) → LawfulAtRest old
    → finmap.get old.spaces space ≡ Some names → finmap.get names other ≡ Some e → port_held e ≡ Some serial
    → lives old serial ≡ true
held_live old space other serial names e lawful there at held =
    elim (lives old serial) as (λ (b : Bool). lives old serial ≡ b → b ≡ true) [
      | true ↦ λ (_ : _). refl
      | false ↦ λ (dead : _). absurd
          (omega (
            arith,
            dangles_none old [] lawful serial dead,
            entry_part (any_of serial) old space other names e there at,
            held_weighs serial e ((lawful.spaces space names there).2.named other e at).2 held,
          ))
    ] refl

receive_kept : (old : Ipc) (space name : ℕ) (names : Names) → LawfulAtRest old → Acyclic old
    → finmap.get old.spaces space ≡ Some names → IsUnused names name → finmap.len names < MAX_NAMES
    → finmap.len old.ports < MAX_PORTS → old.next < 2 ^ 64 - 1
    → Kept (with_names (with_new_port old) space (finmap.insert names name (receive_entry old.next))) []
receive_kept old space name names lawful acyclic there unused few few_ports next =
    let with_port = new_port_kept old lawful acyclic few_ports next in
    let entry : Entry = receive_entry old.next in
    let later_live : lives (with_new_port old) old.next ≡ true = ap is_some (get-here old.ports old.next new_port) in
    let move : EntryMove (with_new_port old) space name names None (Some entry) (release kind.Receive old.next ∷ [])
    [] = record {
      there = there;
      at = unused.free;
      receives = λ (q : ℕ). omega arith;
      none_dead =
          λ (q : ℕ) (dead : _). omega (
            arith,
            apart_any q old.next (λ (e : _). absurd (cc (sym later_live ∙ ap (lives (with_new_port old)) e ∙ dead))),
          );
      waits = tt;
      held = λ (serial : ℕ) (is : _). absurd (cc is);
      set = λ (e : _). absurd (cc e);
      released =
          λ (serial set : ℕ) (port : PortState) (at : _) (is : _) (r : _). absurd
          (new_in_no_set old serial set port at is r);
    } in
    record {
      lawful =
          names_move_lawfully (with_new_port old) space names (finmap.insert names name entry)
          (release kind.Receive old.next ∷ []) []
          (entry_moves (with_new_port old) space name names None (Some entry)
          (release kind.Receive old.next ∷ []) [] move
          (unnamed_lawful names name entry (lawful.spaces space names there).2 unused few (inl refl, omega arith)
          (λ (other serial : ℕ) (e : Entry) (at : _) (held : _) (held_too : _). absurd
          (cc (sym (held_live old space other serial names e lawful there at held_too)
          ∙ ap (lives old) (sym (some_same old.next serial held)) ∙ ap is_some (new_serial old [] lawful))))))
          with_port.lawful;
      acyclic = with_port.acyclic;
    }

pub neither : (b c : Bool) → (b || c) ≡ false → (b ≡ false) × (c ≡ false)
neither true c e = absurd (cc e)
neither false c e = (refl, e)

abbrev other_entry : ℕ → Entry
other_entry which = if is_right which right.PortSet then Set else Dead 1

-- whichever right is allocated
pub allocated_kept : (old : Ipc) (space : ℕ) (names : Names) (which name : ℕ) → LawfulAtRest old → Acyclic old
    → finmap.get old.spaces space ≡ Some names → IsUnused names name → names_are_used_up names ≡ false
    → (is_right which right.Receive && ports_are_used_up old) ≡ false
    → Kept (actions.allocated old space names which name) []
allocated_kept old space names which name lawful acyclic there unused room ports =
    let few : finmap.len names < MAX_NAMES = leb-false MAX_NAMES (finmap.len names) room in
    elim (is_right which right.Receive) as (λ (b : Bool). (b && ports_are_used_up old) ≡ false
    → Kept (if b then record (with_names old space
    (finmap.insert names name (if b then receive_entry old.next else other_entry which)))
    { ports = finmap.insert old.ports old.next new_port; next = old.next + 1 }
    else with_names old space (finmap.insert names name (if b then receive_entry old.next else other_entry which)))
    []) [
      | true ↦ λ (free : _).
          let both = neither (nat_le MAX_PORTS (finmap.len old.ports)) (old.next == 2 ^ 64 - 1) free in
          receive_kept old space name names lawful acyclic there unused few
          (leb-false MAX_PORTS (finmap.len old.ports) both.0)
          (omega (arith, lawful.next.1, eqb-false old.next (2 ^ 64 - 1) both.1))
      | false ↦ λ (_ : _).
          elim (is_right which right.PortSet)
          as (λ (b : Bool). Kept (with_names old space (finmap.insert names name (if b then Set else Dead 1))) []) [
            | true ↦ plain_kept old space name names Set lawful acyclic there unused few tt refl (λ (w : Weight). refl)
            | false ↦ plain_kept old space name names (Dead 1) lawful acyclic there unused few
                (omega arith, omega arith) refl (λ (w : Weight). refl)
          ]
    ] ports

-- a name that a task chose, and that may be handed out
pub chosen_unused : (names : Names) (name : ℕ) → is_null_or_dead name ≡ false → is_in_use names name ≡ false
    → name < 2 ^ 32 → IsUnused names name
chosen_unused names name real free fits =
    let both = neither (name == 0) (name == MACH_PORT_DEAD) real in
    record {
      least = omega (arith, eqb-false name 0 both.0);
      below_dead = omega (arith, fits, eqb-false name MACH_PORT_DEAD both.1);
      free =
          elim (finmap.get names name) as (λ (o : Option Entry). is_some o ≡ false → o ≡ None)
          [ None ↦ λ (_ : _). refl | Some entry ↦ λ (e : _). absurd (cc e) ] free;
    }
