-- Copy in takes a right into a call's hand, and leaves the rest lawful.
use Rattle.std.specs.Prelude.{◌≡◌, ℕ, ◌+◌, ◌-◌, ◌^◌, ◌<◌, ◌≤◌, Bool, true, false, cond, ◌==◌, List, [], ◌++◌, Option, None, Some, option_and_then, if◌then◌else◌, refl}
use Rattle.std.proofs.Common.{sym, ◌∙◌, ap, subst, arith}
use Rattle.std.proofs.lemmas.Bool.{eq-eqb, eqb-false}
use Rattle.std.specs.FinMap as finmap
use Rattle.ipc_model.specs.declared.entry.Entry.{Entry}
use Rattle.ipc_model.specs.declared.entry.Entry.TheVariants.{Port, SendOnce, Set, Dead}
use Rattle.ipc_model.specs.declared.entry.PortRights.{PortRights}
use Rattle.ipc_model.specs.declared.message.CarriedRight.{CarriedRight}
use Rattle.ipc_model.specs.declared.message.PortInMessage.TheVariants.{Live}
use Rattle.ipc_model.specs.declared.message.PortInMessage.TheVariants as in_message
use Rattle.ipc_model.specs.declared.message.RightKind.{RightKind}
use Rattle.ipc_model.specs.declared.message.RightKind.TheVariants as kind
use Rattle.ipc_model.specs.declared.port.PortState.{PortState}
use Rattle.ipc_laws.specs.AllocateKeep.{held_weighs}
use Rattle.ipc_model.specs.rights.CopyIn.{Taken, copy_in, taken_leaving, taken_keeping, taken_of_entry, moved_port, with_left, notices_of_left}
use Rattle.ipc_laws.specs.Dangling.{live_apart, apart_zero}
use Rattle.ipc_model.specs.rights.Dispositions.{Disposition, MoveReceive, MoveSend, MoveSendOnce, CopySend, MakeSend, MakeSendOnce, received_kind}
use Rattle.ipc_model.specs.effects.Effects.{Effect, port_deleted}
use Rattle.ipc_laws.specs.EffectParts.{with_port_there}
use Rattle.ipc_laws.specs.EffectRanks.{fewer_edges, changed_edges}
use Rattle.ipc_laws.specs.EffectWeights.{lives_some}
use Rattle.ipc_laws.specs.EffectsKeep.{entry_part, waiting-append, held_port}
use Rattle.ipc_laws.specs.EntryChanges.{changed, under, received_under}
use Rattle.ipc_laws.specs.Hands.{Hand, MidCall, mid_hand, mid_entry, mid_port}
use Rattle.ipc_model.specs.state.Lawful.{LawfulPort, AllWaiting}
use Rattle.ipc_laws.specs.ListLaws.{some_same}
use Rattle.ipc_laws.specs.MapLaws.{get-here}
use Rattle.ipc_laws.specs.MapSums.{weigh, weigh-append}
use Rattle.ipc_laws.specs.NameChanges.{remove_lawful}
use Rattle.ipc_laws.specs.Others.{with_port_spaces}
use Rattle.ipc_laws.specs.ReferencesKeep.{left_of, left_state, left_receive, left_waits, deleted_receive, deleted_waits, no_target, left_weighs, port_weighs, fewer_weigh, left_lawful, dead_weighs, dead_lawful, not_set, not_empty, changed_space}
use Rattle.ipc_model.specs.state.Ipc.{Ipc, Names, with_names, with_port, without_name, lives, next_count, entry_at, is_empty_entry}
use Rattle.ipc_laws.specs.Weights.{Weight, entry_weigh, carried_weigh, effect_weigh, receive_of, any_of}

-- effects that hold no receive right, and wait
pub record Quiet (effects : List Effect) : Type 0 where
  pub waits : AllWaiting effects
  pub receives : (q : ℕ) → weigh (effect_weigh (receive_of q)) effects ≡ 0

pub quiet_none : Quiet []
quiet_none = record { waits = tt; receives = λ (q : ℕ). refl }

pub quiet_both : (xs ys : List Effect) → Quiet xs → Quiet ys → Quiet (xs ++ ys)
quiet_both xs ys first second = record {
  waits = waiting-append xs ys first.waits second.waits;
  receives =
      λ (q : ℕ). omega (arith, weigh-append (effect_weigh (receive_of q)) xs ys, first.receives q, second.receives q);
}

pub quiet_deleted : (name : ℕ) (target : Option ℕ) → Quiet (port_deleted name target)
quiet_deleted name target =
    record { waits = deleted_waits name target; receives = λ (q : ℕ). deleted_receive q name target }

pub quiet_left : (name : ℕ) (entry : Entry) → Quiet (notices_of_left name entry)
quiet_left name entry = record { waits = left_waits name entry; receives = λ (q : ℕ). left_receive q name entry }

-- one more right in hand
abbrev pub with_right : Hand → CarriedRight → Hand
with_right hand right w = hand w + carried_weigh w right

-- what is shown of a right that is taken: it is in hand, the notices hold no receive right, and the space still exists
pub record MidTaken (space : ℕ) (hand : Hand) (taken : Taken) : Type 0 where
  pub mid : MidCall taken.state (with_right hand taken.right)
  pub quiet : Quiet taken.notices
  pub names : Names
  pub there : finmap.get taken.state.spaces space ≡ Some names

-- a right that an entry holds names a live port
pub weighs_live : (state : Ipc) (hand : Hand) (space name serial : ℕ) (names : Names) (entry : Entry)
    → MidCall state hand → finmap.get state.spaces space ≡ Some names → finmap.get names name ≡ Some entry
    → 1 ≤ entry_weigh (any_of serial) entry → lives state serial ≡ true
weighs_live state hand space name serial names entry mid there at weighs =
    elim (lives state serial) as (λ (b : Bool). lives state serial ≡ b → b ≡ true) [
      | true ↦ λ (_ : _). refl
      | false ↦ λ (dead : _). absurd
          (omega (
            arith,
            mid.none_dangles serial dead,
            entry_part (any_of serial) state space name names entry there at,
            weighs,
          ))
    ] refl

pub own_weight : (q : ℕ) (what : RightKind) → any_of q what q ≡ 1
own_weight q what = ap {B = ℕ} (λ (b : Bool). cond b 1 0) (eq-eqb q q refl)

pub port_live : (state : Ipc) (hand : Hand) (space name : ℕ) (names : Names) (rights : PortRights)
    → MidCall state hand → finmap.get state.spaces space ≡ Some names → finmap.get names name ≡ Some (Port rights)
    → lives state rights.port ≡ true
port_live state hand space name names rights mid there at =
    weighs_live state hand space name rights.port names (Port rights) mid there at
    (held_weighs rights.port (Port rights)
    ((mid.parts.spaces space names there).2.named name (Port rights) at).2 refl)

once_live : (state : Ipc) (hand : Hand) (space name port : ℕ) (target : Option ℕ) (names : Names) → MidCall state hand
    → finmap.get state.spaces space ≡ Some names → finmap.get names name ≡ Some (SendOnce port target)
    → lives state port ≡ true
once_live state hand space name port target names mid there at =
    weighs_live state hand space name port names (SendOnce port target) mid there at
    (omega (arith, own_weight port kind.SendOnce))

-- a right to a live port weighs nothing for a dead one
pub live_zero : (state : Ipc) (serial q : ℕ) (what : RightKind) → lives state serial ≡ true → lives state q ≡ false
    → any_of q what serial ≡ 0
live_zero state serial q what live dead = apart_zero q serial what (live_apart state serial q live dead)

-- a name that is left with an entry, or goes
leaving_taken : (state : Ipc) (space name : ℕ) (names : Names) (hand : Hand) (right : CarriedRight) (entry : Entry)
    → finmap.get state.spaces space ≡ Some names
    → MidCall (with_names state space (changed names name (left_of entry))) (with_right hand right)
    → MidTaken space hand (taken_leaving state space name right entry)
leaving_taken state space name names hand right entry there mid =
    let same : with_left state space name entry ≡ with_names state space (changed names name (left_of entry)) =
    left_state state space name names entry there in
    record {
      mid = subst (λ (s : Ipc). MidCall s (with_right hand right)) (sym same) mid;
      quiet = quiet_left name entry;
      names = changed names name (left_of entry);
      there =
          ap (λ (s : Ipc). finmap.get s.spaces space) same
          ∙ get-here state.spaces space (changed names name (left_of entry));
    }

keeping_taken : (state : Ipc) (space : ℕ) (names : Names) (hand : Hand) (right : CarriedRight)
    → finmap.get state.spaces space ≡ Some names → MidCall state (with_right hand right)
    → MidTaken space hand (taken_keeping state right)
keeping_taken state space names hand right there mid =
    record { mid = mid; quiet = quiet_none; names = names; there = there }

-- an entry that is left weighs no more than itself
left_less : (w : Weight) (entry : Entry) → under w (left_of entry) ≤ entry_weigh w entry
left_less w entry =
    elim (is_empty_entry entry) as (λ (b : Bool). under w (if b then None else Some entry) ≤ entry_weigh w entry)
    [ true ↦ omega arith | false ↦ omega arith ]

-- a copied or made right: one more right in hand, to a live port
more_in_hand : (state : Ipc) (hand : Hand) (what : RightKind) (serial : ℕ) → ((q : ℕ) → receive_of q what serial ≡ 0)
    → lives state serial ≡ true → MidCall state hand
    → MidCall state (with_right hand (record { kind = what; port = Live serial }))
more_in_hand state hand what serial none live mid =
    mid_hand state hand (with_right hand (record { kind = what; port = Live serial })) mid
    (λ (q : ℕ). omega (arith, none q))
    (λ (q : ℕ) (dead : _). omega (arith, live_zero state serial q what live dead))

-- MACH_MSG_TYPE_MOVE_RECEIVE

abbrev moved : PortState → PortState
moved p = record p { set = None; sequence_number = 0; make_send_count = 0 }

moved_mid : (state : Ipc) (serial : ℕ) (hand : Hand) → lives state serial ≡ true → MidCall state hand
    → MidCall (moved_port state serial) hand
moved_mid state serial hand live mid =
    let at = lives_some state serial live in
    let lawful : LawfulPort at.0 = (mid.parts.ports serial at.0 at.1).2 in
    mid_port state serial moved hand hand (record {
      port = at.0;
      there = at.1;
      lawful =
          record {
            limit = lawful.limit;
            sequence_number = omega arith;
            make_send_count = omega arith;
            messages = lawful.messages;
          };
      receives = λ (q : ℕ). refl;
      none_dead = λ (q : ℕ) (dead : _). omega arith;
      set = λ (set : ℕ) (is : _). absurd (cc is);
      acyclic =
          fewer_edges state (with_port state serial moved)
          (changed_edges state serial moved (λ (inner : ℕ) (p : PortState) (e : _). e)) mid.acyclic;
    }) mid

-- a moved port is in no set
moved_out_of_set : (state : Ipc) (serial set : ℕ) (port : PortState) → lives state serial ≡ true
    → finmap.get (moved_port state serial).ports serial ≡ Some port → port.set ≡ Some set → ⊥
moved_out_of_set state serial set port live at is =
    let before = lives_some state serial live in
    let same : moved before.0 ≡ port =
    some_same (moved before.0) port
    (sym (get-here state.ports serial (moved before.0)) ∙ ap
    (λ (s : Ipc). finmap.get s.ports serial) (sym (with_port_there state serial moved before.0 before.1))
    ∙ at) in
    cc (ap (λ (p : PortState). p.set) same ∙ is)

take_receive : (state : Ipc) (hand : Hand) (space name : ℕ) (names : Names) (rights : PortRights) → MidCall state hand
    → finmap.get state.spaces space ≡ Some names → finmap.get names name ≡ Some (Port rights) → rights.receive ≡ true
    → MidTaken space hand (taken_leaving (moved_port state rights.port) space name
    (record { kind = kind.Receive; port = Live rights.port }) (Port (record rights { receive = false })))
take_receive state hand space name names rights mid there at holds =
    let live : lives state rights.port ≡ true = port_live state hand space name names rights mid there at in
    let out : Ipc = moved_port state rights.port in
    let there_out : finmap.get out.spaces space ≡ Some names =
    ap (λ (s : finmap.FinMap _ Names). finmap.get s space) (with_port_spaces state rights.port moved) ∙ there in
    let entry : Entry = Port (record rights { receive = false }) in
    let right : CarriedRight = record { kind = kind.Receive; port = Live rights.port } in
    let own = (mid.parts.spaces space names there).2 in
    let bounded = (own.named name (Port rights) at).2 in
    let weight : (w : Weight) → (if rights.receive then w kind.Receive rights.port else 0)
    ≡ w kind.Receive rights.port = λ (w : Weight). ap
    (λ (b : Bool). if b then w kind.Receive rights.port else 0) holds in
    leaving_taken out space name names hand right entry there_out
    (mid_entry out space name names (Some (Port rights)) (left_of entry) hand (with_right hand right) (record {
      there = there_out;
      at = at;
      lawful =
          left_lawful names name rights entry own at refl (λ (some : _). (not_empty false rights.send some, bounded.1));
      receives = λ (q : ℕ). omega (
        arith,
        left_weighs q rights.port rights.send false rights.dead_name_target,
        port_weighs q rights.port rights.send rights.receive rights.dead_name_target,
        weight (receive_of q),
      );
      none_dead = λ (q : ℕ) (dead : _). omega (arith, left_less (any_of q) entry, weight (any_of q));
      held = λ (serial set : ℕ) (port : PortState) (live_port : _) (is_in : _) (is : _).
          absurd (moved_out_of_set state rights.port set port live
          (ap (finmap.get out.ports) (held_port rights serial is) ∙ live_port) is_in);
      set = λ (e : _). absurd (not_set rights e);
    }) (moved_mid state rights.port hand live mid))

-- the other dispositions

-- the receive right stays where it is
still_received : (port send left serial : ℕ) (receive : Bool) (target : Option ℕ)
    → received_under (Some (Port (record { port = port; receive = receive; send = send; dead_name_target = target })))
    ≡ Some serial
    → received_under (left_of (Port
    (record { port = port; receive = receive; send = left; dead_name_target = target }))) ≡ Some serial
still_received port send left serial true target is = is
still_received port send left serial false target is = absurd (cc is)

take_send : (state : Ipc) (hand : Hand) (space name : ℕ) (names : Names) (rights : PortRights) → MidCall state hand
    → finmap.get state.spaces space ≡ Some names → finmap.get names name ≡ Some (Port rights)
    → (rights.send == 0) ≡ false
    → MidTaken space hand (taken_leaving state space name (record { kind = kind.Send; port = Live rights.port })
    (Port (record rights { send = rights.send - 1 })))
take_send state hand space name names rights mid there at some =
    let live : lives state rights.port ≡ true = port_live state hand space name names rights mid there at in
    let entry : Entry = Port (record rights { send = rights.send - 1 }) in
    let right : CarriedRight = record { kind = kind.Send; port = Live rights.port } in
    let own = (mid.parts.spaces space names there).2 in
    let bounded = (own.named name (Port rights) at).2 in
    leaving_taken state space name names hand right entry there
    (mid_entry state space name names (Some (Port rights)) (left_of entry) hand (with_right hand right) (record {
      there = there;
      at = at;
      lawful =
          left_lawful names name rights entry own at refl
          (λ (left : _). (not_empty rights.receive (rights.send - 1) left, omega (arith, bounded.1)));
      receives = λ (q : ℕ). omega (
        arith,
        left_weighs q rights.port (rights.send - 1) rights.receive rights.dead_name_target,
        port_weighs q rights.port rights.send rights.receive rights.dead_name_target,
      );
      none_dead =
          λ (q : ℕ) (dead : _). omega (
            arith,
            fewer_weigh (any_of q) rights.port rights.send
                (rights.send - 1) rights.receive rights.dead_name_target some,
            live_zero state rights.port q kind.Send live dead,
          );
      held =
          λ (serial set : ℕ) (port : PortState) (_ : _) (_ : _) (is : _). still_received rights.port rights.send
          (rights.send - 1) serial rights.receive rights.dead_name_target is;
      set = λ (e : _). absurd (not_set rights e);
    }) mid)

take_copy : (state : Ipc) (hand : Hand) (space name : ℕ) (names : Names) (rights : PortRights) → MidCall state hand
    → finmap.get state.spaces space ≡ Some names → finmap.get names name ≡ Some (Port rights)
    → MidTaken space hand (taken_keeping state (record { kind = kind.Send; port = Live rights.port }))
take_copy state hand space name names rights mid there at =
    keeping_taken state space names hand (record { kind = kind.Send; port = Live rights.port }) there
    (more_in_hand state hand kind.Send rights.port
    (λ (q : ℕ). refl) (port_live state hand space name names rights mid there at) mid)

take_make_once : (state : Ipc) (hand : Hand) (space name : ℕ) (names : Names) (rights : PortRights)
    → MidCall state hand → finmap.get state.spaces space ≡ Some names → finmap.get names name ≡ Some (Port rights)
    → MidTaken space hand (taken_keeping state (record { kind = kind.SendOnce; port = Live rights.port }))
take_make_once state hand space name names rights mid there at =
    keeping_taken state space names hand (record { kind = kind.SendOnce; port = Live rights.port }) there
    (more_in_hand state hand kind.SendOnce rights.port
    (λ (q : ℕ). refl) (port_live state hand space name names rights mid there at) mid)

abbrev counted : PortState → PortState
counted p = record p { make_send_count = next_count p.make_send_count }

pub next_fits : (n : ℕ) → n < 2 ^ 32 → next_count n < 2 ^ 32
next_fits n fits = elim (n == 2 ^ 32 - 1) as (λ (b : Bool). (n == 2 ^ 32 - 1) ≡ b → (if b then 0 else n + 1) < 2 ^ 32) [
  | true ↦ λ (_ : _). omega arith
  | false ↦ λ (e : _). omega (arith, eqb-false n (2 ^ 32 - 1) e)
] refl

counted_mid : (state : Ipc) (serial : ℕ) (hand : Hand) → lives state serial ≡ true → MidCall state hand
    → MidCall (with_port state serial counted) hand
counted_mid state serial hand live mid =
    let at = lives_some state serial live in
    let lawful : LawfulPort at.0 = (mid.parts.ports serial at.0 at.1).2 in
    mid_port state serial counted hand hand (record {
      port = at.0;
      there = at.1;
      lawful =
          record {
            limit = lawful.limit;
            sequence_number = lawful.sequence_number;
            make_send_count = next_fits at.0.make_send_count lawful.make_send_count;
            messages = lawful.messages;
          };
      receives = λ (q : ℕ). refl;
      none_dead = λ (q : ℕ) (dead : _). omega arith;
      set = λ (set : ℕ) (is : _). is;
      acyclic =
          fewer_edges state (with_port state serial counted)
          (changed_edges state serial counted (λ (inner : ℕ) (p : PortState) (e : _). e)) mid.acyclic;
    }) mid

take_make : (state : Ipc) (hand : Hand) (space name : ℕ) (names : Names) (rights : PortRights) → MidCall state hand
    → finmap.get state.spaces space ≡ Some names → finmap.get names name ≡ Some (Port rights)
    → MidTaken space hand (taken_keeping (with_port state rights.port counted)
    (record { kind = kind.Send; port = Live rights.port }))
take_make state hand space name names rights mid there at =
    let live : lives state rights.port ≡ true = port_live state hand space name names rights mid there at in
    let made : Ipc = with_port state rights.port counted in
    let there_made : finmap.get made.spaces space ≡ Some names =
    ap (λ (s : finmap.FinMap _ Names). finmap.get s space) (with_port_spaces state rights.port counted) ∙ there in
    let after : MidCall made hand = counted_mid state rights.port hand live mid in
    keeping_taken made space names hand (record { kind = kind.Send; port = Live rights.port }) there_made
    (more_in_hand made hand kind.Send rights.port
    (λ (q : ℕ). refl) (port_live made hand space name names rights after there_made at) after)

take_once : (state : Ipc) (hand : Hand) (space name port : ℕ) (target : Option ℕ) (names : Names) → MidCall state hand
    → finmap.get state.spaces space ≡ Some names → finmap.get names name ≡ Some (SendOnce port target)
    → MidTaken space hand (record {
      right = record { kind = kind.SendOnce; port = Live port };
      state = without_name state space name;
      notices = port_deleted name target;
    })
take_once state hand space name port target names mid there at =
    let right : CarriedRight = record { kind = kind.SendOnce; port = Live port } in
    let live : lives state port ≡ true = once_live state hand space name port target names mid there at in
    let same : without_name state space name ≡ with_names state space (finmap.remove names name) =
    changed_space state space names (λ (n : Names). finmap.remove n name) there in
    let after : MidCall (with_names state space (finmap.remove names name)) (with_right hand right) =
    mid_entry state space name names (Some (SendOnce port target)) None hand (with_right hand right) (record {
      there = there;
      at = at;
      lawful = remove_lawful names name (mid.parts.spaces space names there).2;
      receives = λ (q : ℕ). omega (arith, no_target q target);
      none_dead = λ (q : ℕ) (dead : _). omega (arith, live_zero state port q kind.SendOnce live dead);
      held = λ (serial set : ℕ) (_ : PortState) (_ : _) (_ : _) (is : _). absurd (cc is);
      set = λ (e : _). absurd (cc e);
    }) mid in
    record {
      mid = subst (λ (s : Ipc). MidCall s (with_right hand right)) (sym same) after;
      quiet = quiet_deleted name target;
      names = finmap.remove names name;
      there =
          ap (λ (s : Ipc). finmap.get s.spaces space) same ∙ get-here state.spaces space (finmap.remove names name);
    }

-- a dead name arrives as MACH_PORT_DEAD, which weighs nothing
take_dead : (state : Ipc) (hand : Hand) (space name references : ℕ) (what : RightKind) (names : Names)
    → MidCall state hand → finmap.get state.spaces space ≡ Some names → finmap.get names name ≡ Some (Dead references)
    → MidTaken space hand (taken_leaving state space name (record { kind = what; port = in_message.Dead })
    (Dead (references - 1)))
take_dead state hand space name references what names mid there at =
    let right : CarriedRight = record { kind = what; port = in_message.Dead } in
    let own = (mid.parts.spaces space names there).2 in
    let bounded = (own.named name (Dead references) at).2 in
    leaving_taken state space name names hand right (Dead (references - 1)) there
    (mid_entry state space name names (Some (Dead references)) (left_of (Dead (references - 1))) hand
    (with_right hand right) (record {
      there = there;
      at = at;
      lawful = dead_lawful names name references (references - 1) own at (omega (arith, bounded.1));
      receives = λ (q : ℕ). omega (arith, dead_weighs (receive_of q) (references - 1));
      none_dead = λ (q : ℕ) (dead : _). omega (arith, dead_weighs (any_of q) (references - 1));
      held = λ (serial set : ℕ) (_ : PortState) (_ : _) (_ : _) (is : _). absurd (cc is);
      set = λ (e : _). absurd (cc e);
    }) mid)

nothing_in_hand : (state : Ipc) (hand : Hand) (what : RightKind) → MidCall state hand
    → MidCall state (with_right hand (record { kind = what; port = in_message.Dead }))
nothing_in_hand state hand what mid =
    mid_hand state hand (with_right hand (record { kind = what; port = in_message.Dead })) mid (λ (q : ℕ). omega arith)
    (λ (q : ℕ) (dead : _). omega arith)

-- whichever is asked for

same_taken : (space : ℕ) (hand : Hand) (one taken : Taken) → Some one ≡ Some taken → MidTaken space hand one
    → MidTaken space hand taken
same_taken space hand one taken is mid = subst (MidTaken space hand) (some_same one taken is) mid

pub entry_taken : (state : Ipc) (hand : Hand) (space name : ℕ) (names : Names) (disposition : Disposition)
    (entry : Entry) (taken : Taken) → MidCall state hand → finmap.get state.spaces space ≡ Some names
    → finmap.get names name ≡ Some entry
    → taken_of_entry state space name disposition entry ≡ Some taken → MidTaken space hand taken
entry_taken state hand space name names MoveReceive (Port rights) taken mid there at is =
    let whole : Taken =
    taken_leaving (moved_port state rights.port) space name
    (record { kind = kind.Receive; port = Live rights.port }) (Port (record rights { receive = false })) in
    elim rights.receive as (λ (b : Bool). rights.receive ≡ b → (if b then Some whole else None) ≡ Some taken
    → MidTaken space hand taken) [
      | true ↦ λ (holds : _) (e : _). same_taken space hand whole taken e
          (take_receive state hand space name names rights mid there at holds)
      | false ↦ λ (_ : _) (e : _). absurd (cc e)
    ] refl is
entry_taken state hand space name names MoveSend (Port rights) taken mid there at is =
    let whole : Taken =
    taken_leaving state space name (record { kind = kind.Send; port = Live rights.port })
    (Port (record rights { send = rights.send - 1 })) in
    elim (rights.send == 0) as (λ (b : Bool). (rights.send == 0) ≡ b → (if b then None else Some whole) ≡ Some taken
    → MidTaken space hand taken) [
      | true ↦ λ (_ : _) (e : _). absurd (cc e)
      | false ↦ λ (some : _) (e : _). same_taken space hand whole taken e
          (take_send state hand space name names rights mid there at some)
    ] refl is
entry_taken state hand space name names MoveSendOnce (Port rights) taken mid there at is = absurd (cc is)
entry_taken state hand space name names CopySend (Port rights) taken mid there at is =
    let whole : Taken = taken_keeping state (record { kind = kind.Send; port = Live rights.port }) in
    elim (rights.send == 0) as (λ (b : Bool). (if b then None else Some whole) ≡ Some taken
    → MidTaken space hand taken) [
      | true ↦ λ (e : _). absurd (cc e)
      | false ↦ λ (e : _). same_taken space hand whole taken e
          (take_copy state hand space name names rights mid there at)
    ] is
entry_taken state hand space name names MakeSend (Port rights) taken mid there at is =
    let whole : Taken =
    taken_keeping (with_port state rights.port counted) (record { kind = kind.Send; port = Live rights.port }) in
    elim rights.receive as (λ (b : Bool). (if b then Some whole else None) ≡ Some taken → MidTaken space hand taken) [
      | true ↦ λ (e : _). same_taken space hand whole taken e
          (take_make state hand space name names rights mid there at)
      | false ↦ λ (e : _). absurd (cc e)
    ] is
entry_taken state hand space name names MakeSendOnce (Port rights) taken mid there at is =
    let whole : Taken = taken_keeping state (record { kind = kind.SendOnce; port = Live rights.port }) in
    elim rights.receive as (λ (b : Bool). (if b then Some whole else None) ≡ Some taken → MidTaken space hand taken) [
      | true ↦ λ (e : _). same_taken space hand whole taken e
          (take_make_once state hand space name names rights mid there at)
      | false ↦ λ (e : _). absurd (cc e)
    ] is
entry_taken state hand space name names MoveSendOnce (SendOnce port target) taken mid there at is =
    same_taken space hand (record {
      right = record { kind = kind.SendOnce; port = Live port };
      state = without_name state space name;
      notices = port_deleted name target;
    }) taken is
    (take_once state hand space name port target names mid there at)
entry_taken state hand space name names MoveReceive (SendOnce port target) taken mid there at is = absurd (cc is)
entry_taken state hand space name names MoveSend (SendOnce port target) taken mid there at is = absurd (cc is)
entry_taken state hand space name names CopySend (SendOnce port target) taken mid there at is = absurd (cc is)
entry_taken state hand space name names MakeSend (SendOnce port target) taken mid there at is = absurd (cc is)
entry_taken state hand space name names MakeSendOnce (SendOnce port target) taken mid there at is = absurd (cc is)
entry_taken state hand space name names disposition Set taken mid there at is = absurd (cc is)
entry_taken state hand space name names CopySend (Dead references) taken mid there at is =
    same_taken space hand (taken_keeping state (record { kind = kind.Send; port = in_message.Dead })) taken is
    (keeping_taken state space names hand (record { kind = kind.Send; port = in_message.Dead }) there
    (nothing_in_hand state hand kind.Send mid))
entry_taken state hand space name names MoveSend (Dead references) taken mid there at is =
    same_taken space hand (taken_leaving state space name (record { kind = kind.Send; port = in_message.Dead })
    (Dead (references - 1))) taken is (take_dead state hand space name references kind.Send names mid there at)
entry_taken state hand space name names MoveSendOnce (Dead references) taken mid there at is =
    same_taken space hand (taken_leaving state space name (record { kind = kind.SendOnce; port = in_message.Dead })
    (Dead (references - 1))) taken is (take_dead state hand space name references kind.SendOnce names mid there at)
entry_taken state hand space name names MoveReceive (Dead references) taken mid there at is = absurd (cc is)
entry_taken state hand space name names MakeSend (Dead references) taken mid there at is = absurd (cc is)
entry_taken state hand space name names MakeSendOnce (Dead references) taken mid there at is = absurd (cc is)

-- What copy in takes comes to hand, and the rest stays lawful.
pub taken_mid : (state : Ipc) (hand : Hand) (space name : ℕ) (names : Names) (disposition : Disposition)
    (taken : Taken) → MidCall state hand → finmap.get state.spaces space ≡ Some names
    → copy_in state space name disposition ≡ Some taken
    → MidTaken space hand taken
unfolding copy_in
taken_mid state hand space name names disposition taken mid there is =
    let under_name : entry_at state space name ≡ finmap.get names name =
    ap (λ (o : Option Names). option_and_then (λ n. finmap.get n name) o) there in
    elim (finmap.get names name) as (λ (o : Option Entry). finmap.get names name ≡ o
    → option_and_then (taken_of_entry state space name disposition) o ≡ Some taken → MidTaken space hand taken) [
      | None ↦ λ (_ : _) (e : _). absurd (cc e)
      | Some entry ↦ λ (at : _) (e : _). entry_taken state hand space name names disposition entry taken mid there at e
    ] refl (ap (option_and_then (taken_of_entry state space name disposition)) (sym under_name) ∙ is)

-- the kind of what is taken is the one that the disposition says

same_kind_taken : (what : RightKind) (one taken : Taken) → one.right.kind ≡ what → Some one ≡ Some taken
    → taken.right.kind ≡ what
same_kind_taken what one taken is same = ap (λ (t : Taken). t.right.kind) (sym (some_same one taken same)) ∙ is

kind_if : (b : Bool) (what : RightKind) (one taken : Taken) → one.right.kind ≡ what
    → (if b then Some one else None) ≡ Some taken → taken.right.kind ≡ what
kind_if true what one taken is same = same_kind_taken what one taken is same
kind_if false what one taken is same = absurd (cc same)

kind_unless : (b : Bool) (what : RightKind) (one taken : Taken) → one.right.kind ≡ what
    → (if b then None else Some one) ≡ Some taken → taken.right.kind ≡ what
kind_unless true what one taken is same = absurd (cc same)
kind_unless false what one taken is same = same_kind_taken what one taken is same

entry_kind : (state : Ipc) (space name : ℕ) (disposition : Disposition) (entry : Entry) (taken : Taken)
    → taken_of_entry state space name disposition entry ≡ Some taken → taken.right.kind ≡ received_kind disposition
entry_kind state space name MoveReceive (Port rights) taken is =
    kind_if rights.receive kind.Receive
    (taken_leaving (moved_port state rights.port) space name
    (record { kind = kind.Receive; port = Live rights.port }) (Port (record rights { receive = false }))) taken
    refl is
entry_kind state space name MoveSend (Port rights) taken is =
    kind_unless (rights.send == 0) kind.Send
    (taken_leaving state space name (record { kind = kind.Send; port = Live rights.port })
    (Port (record rights { send = rights.send - 1 }))) taken refl is
entry_kind state space name MoveSendOnce (Port rights) taken is = absurd (cc is)
entry_kind state space name CopySend (Port rights) taken is =
    kind_unless (rights.send == 0) kind.Send
    (taken_keeping state (record { kind = kind.Send; port = Live rights.port })) taken refl is
entry_kind state space name MakeSend (Port rights) taken is =
    kind_if rights.receive kind.Send
    (taken_keeping (with_port state rights.port counted) (record { kind = kind.Send; port = Live rights.port }))
    taken refl is
entry_kind state space name MakeSendOnce (Port rights) taken is =
    kind_if rights.receive kind.SendOnce
    (taken_keeping state (record { kind = kind.SendOnce; port = Live rights.port })) taken refl is
entry_kind state space name MoveSendOnce (SendOnce port target) taken is =
    same_kind_taken kind.SendOnce
    (record {
      right = record { kind = kind.SendOnce; port = Live port };
      state = without_name state space name;
      notices = port_deleted name target;
    }) taken refl is
entry_kind state space name MoveReceive (SendOnce port target) taken is = absurd (cc is)
entry_kind state space name MoveSend (SendOnce port target) taken is = absurd (cc is)
entry_kind state space name CopySend (SendOnce port target) taken is = absurd (cc is)
entry_kind state space name MakeSend (SendOnce port target) taken is = absurd (cc is)
entry_kind state space name MakeSendOnce (SendOnce port target) taken is = absurd (cc is)
entry_kind state space name disposition Set taken is = absurd (cc is)
entry_kind state space name CopySend (Dead references) taken is =
    same_kind_taken kind.Send (taken_keeping state (record { kind = kind.Send; port = in_message.Dead })) taken refl is
entry_kind state space name MoveSend (Dead references) taken is =
    same_kind_taken kind.Send (taken_leaving state space name (record { kind = kind.Send; port = in_message.Dead })
    (Dead (references - 1))) taken refl is
entry_kind state space name MoveSendOnce (Dead references) taken is =
    same_kind_taken kind.SendOnce (taken_leaving state space name
    (record { kind = kind.SendOnce; port = in_message.Dead }) (Dead (references - 1))) taken refl is
entry_kind state space name MoveReceive (Dead references) taken is = absurd (cc is)
entry_kind state space name MakeSend (Dead references) taken is = absurd (cc is)
entry_kind state space name MakeSendOnce (Dead references) taken is = absurd (cc is)

pub kind_taken : (state : Ipc) (space name : ℕ) (disposition : Disposition) (taken : Taken)
    → copy_in state space name disposition ≡ Some taken → taken.right.kind ≡ received_kind disposition
unfolding copy_in
kind_taken state space name disposition taken is =
    elim (entry_at state space name)
    as (λ (o : Option Entry). option_and_then (taken_of_entry state space name disposition) o ≡ Some taken
    → taken.right.kind ≡ received_kind disposition) [
      | None ↦ λ (e : _). absurd (cc e)
      | Some entry ↦ λ (e : _). entry_kind state space name disposition entry taken e
    ] is
