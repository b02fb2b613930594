-- Rights that arrive in a space go from a call's hand to names, and leave the state lawful.
use Rattle.std.specs.Prelude.{◌≡◌, ◌≢◌, ℕ, ◌+◌, ◌<◌, ◌≤◌, min, Bool, true, false, cond, not, ◌&&◌, ◌==◌, find, [], Option, None, Some, is_some, is_none, option_map, MatchOption, if◌then◌else◌, refl}
use Rattle.std.proofs.Common.{sym, ◌∙◌, ap, subst, inl, inr, arith}
use Rattle.std.proofs.lemmas.Bool.{eq-eqb}
use Rattle.std.specs.Cmp.{nat_cmp_total}
use Rattle.std.specs.FinMap as finmap
use Rattle.std.specs.FinMap.{entries_sorted, get-entries, len-insert}
use Rattle.codes.specs.declared.limits.TheConstants.{MAX_NAMES, MAX_SEND_REFERENCES}
use Rattle.ipc_model.specs.declared.entry.Entry.{Entry}
use Rattle.ipc_model.specs.declared.entry.Entry.TheVariants.{Port, SendOnce, Set, Dead}
use Rattle.ipc_model.specs.declared.entry.PortRights.{PortRights}
use Rattle.ipc_model.specs.declared.message.PortInMessage.{PortInMessage}
use Rattle.ipc_model.specs.declared.message.PortInMessage.TheVariants as in_message
use Rattle.ipc_model.specs.declared.message.RightKind.{RightKind}
use Rattle.ipc_model.specs.declared.message.RightKind.TheVariants as kind
use Rattle.ipc_model.specs.declared.port.PortState.{PortState}
use Rattle.ipc_laws.specs.AllocateKeep.{unnamed_lawful}
use Rattle.ipc_model.specs.rights.CopyOut.{MayArrive, new_entry, merged_rights, merged_entry, names_after, wants_name}
use Rattle.ipc_laws.specs.EffectsKeep.{not_received, own_weight}
use Rattle.ipc_laws.specs.Hands.{Hand, MidCall, mid_hand, mid_entry}
use Rattle.ipc_model.specs.state.Lawful.{LawfulNames, LawfulEntry}
use Rattle.ipc_laws.specs.ListLaws.{some_same}
use Rattle.ipc_laws.specs.MapLaws.{get-here, get-there}
use Rattle.ipc_laws.specs.MapSums.{insert-same}
use Rattle.ipc_laws.specs.NameChanges.{insert_lawful}
use Rattle.ipc_laws.specs.Others.{number_same, number_decided}
use Rattle.ipc_laws.specs.Ranks.{found_by, finds_one}
use Rattle.ipc_laws.specs.ReferencesKeep.{not_set}
use Rattle.ipc_model.specs.state.Ipc.{Ipc, Names, IsUnused, with_names, lives, port_held, name_of_port, is_number}
use Rattle.ipc_laws.specs.Takes.{with_right, port_live}
use Rattle.ipc_laws.specs.Weights.{Weight, target_weigh, entry_weigh, carried_weigh, receive_of, any_of}

-- a hand with a right of a port
abbrev pub with_one : Hand → RightKind → ℕ → Hand
with_one hand what serial w = hand w + w what serial

-- A right under a new name.

new_weighs : (w : Weight) (what : RightKind) (serial : ℕ) → entry_weigh w (new_entry what serial) ≡ w what serial
new_weighs w kind.Receive serial = omega arith
new_weighs w kind.Send serial = omega arith
new_weighs w kind.SendOnce serial = omega arith

new_lawful : (what : RightKind) (serial : ℕ) → LawfulEntry (new_entry what serial)
new_lawful kind.Receive serial = (inl refl, omega arith)
new_lawful kind.Send serial = (inr (omega arith), omega arith)
new_lawful kind.SendOnce serial = tt

new_is_no_set : (what : RightKind) (serial : ℕ) → None ≡ Some Set → Some (new_entry what serial) ≡ Some Set
new_is_no_set what serial e = absurd (cc e)

pub fresh_mid : (state : Ipc) (hand : Hand) (space name : ℕ) (names : Names) (what : RightKind) (serial : ℕ)
    → MidCall state (with_one hand what serial) → finmap.get state.spaces space ≡ Some names → IsUnused names name
    → finmap.len names < MAX_NAMES
    → ((other port : ℕ) (e : Entry) → finmap.get names other ≡ Some e → port_held (new_entry what serial) ≡ Some port
    → port_held e ≡ Some port → ⊥)
    → MidCall (with_names state space (finmap.insert names name (new_entry what serial))) hand
fresh_mid state hand space name names what serial mid there unused few alone =
    mid_entry state space name names None (Some (new_entry what serial)) (with_one hand what serial) hand (record {
      there = there;
      at = unused.free;
      lawful =
          unnamed_lawful names name (new_entry what serial) (mid.parts.spaces space names there).2 unused few
          (new_lawful what serial) alone;
      receives = λ (q : ℕ). omega (arith, new_weighs (receive_of q) what serial);
      none_dead = λ (q : ℕ) (dead : _). omega (arith, new_weighs (any_of q) what serial);
      held = λ (held_serial set : ℕ) (_ : PortState) (_ : _) (_ : _) (is : _). absurd (cc is);
      set = new_is_no_set what serial;
    }) mid

-- A right under the name that its port has.

same_held : (names : Names) (name : ℕ) (rights : PortRights) (entry : Entry) → LawfulNames names
    → finmap.get names name ≡ Some (Port rights) → port_held entry ≡ Some rights.port → LawfulEntry entry
    → LawfulNames (finmap.insert names name entry)
same_held names name rights entry lawful at same fits =
    let own = lawful.named name (Port rights) at in
    insert_lawful names name entry lawful own.0 own.1 fits (λ (none : _). absurd (cc (sym none ∙ at)))
    (λ (other serial : ℕ) (e : Entry) (apart : _) (there : _) (held : _) (held_too : _). apart
    (lawful.one_name other name serial e (Port rights) there at held_too (sym same ∙ held)))

merged_receive_mid : (state : Ipc) (hand : Hand) (space name : ℕ) (names : Names) (rights : PortRights)
    → MidCall state (with_one hand kind.Receive rights.port) → finmap.get state.spaces space ≡ Some names
    → finmap.get names name ≡ Some (Port rights)
    → MidCall (with_names state space (finmap.insert names name (Port (merged_rights kind.Receive rights)))) hand
merged_receive_mid state hand space name names rights mid there at =
    let entry : Entry = Port (merged_rights kind.Receive rights) in
    let own = (mid.parts.spaces space names there).2 in
    let bounded = (own.named name (Port rights) at).2 in
    let live : lives state rights.port ≡ true =
    port_live state (with_one hand kind.Receive rights.port) space name names rights mid there at in
    let none : rights.receive ≡ false =
    not_received state rights.port
    (omega (arith, mid.one_receive rights.port live, own_weight rights.port)) space name names rights there at
    refl in
    let weight : (w : Weight) → (if rights.receive then w kind.Receive rights.port else 0) ≡ 0 =
    λ (w : Weight). ap (λ (b : Bool). if b then w kind.Receive rights.port else 0) none in
    mid_entry state space name names (Some (Port rights)) (Some entry) (with_one hand kind.Receive rights.port) hand
    (record {
      there = there;
      at = at;
      lawful = same_held names name rights entry own at refl (inl refl, bounded.1);
      receives = λ (q : ℕ). omega (arith, weight (receive_of q));
      none_dead = λ (q : ℕ) (dead : _). omega (arith, weight (any_of q));
      held =
          λ (serial set : ℕ) (_ : PortState) (_ : _) (_ : _) (is : _). absurd
          (cc (sym (ap (λ (b : Bool). if b then Some rights.port else None) none) ∙ is));
      set = λ (e : _). absurd (not_set rights e);
    }) mid

-- one more reference weighs at most one right
reference_weighs : (w : Weight) (rights : PortRights)
    → entry_weigh w (Port (merged_rights kind.Send rights)) ≤ entry_weigh w (Port rights) + w kind.Send rights.port
reference_weighs w rights =
    elim (min MAX_SEND_REFERENCES (rights.send + 1) == 0) as (λ (b : Bool).
    (if rights.receive then w kind.Receive rights.port else 0) +
    ((if b then 0 else w kind.Send rights.port) + target_weigh w rights.dead_name_target)
    ≤ entry_weigh w (Port rights) + w kind.Send rights.port) [
      | true ↦ elim (rights.send == 0)
          as (λ (b : Bool). (if rights.receive then w kind.Receive rights.port else 0) +
          (0 + target_weigh w rights.dead_name_target)
          ≤ (if rights.receive then w kind.Receive rights.port else 0) +
          ((if b then 0 else w kind.Send rights.port) + target_weigh w rights.dead_name_target) + w kind.Send
          rights.port) [ true ↦ omega arith | false ↦ omega arith ]
      | false ↦ elim (rights.send == 0)
          as (λ (b : Bool). (if rights.receive then w kind.Receive rights.port else 0) +
          (w kind.Send rights.port + target_weigh w rights.dead_name_target)
          ≤ (if rights.receive then w kind.Receive rights.port else 0) +
          ((if b then 0 else w kind.Send rights.port) + target_weigh w rights.dead_name_target) + w kind.Send
          rights.port) [ true ↦ omega arith | false ↦ omega arith ]
    ]

send_none : (q : ℕ) (b : Bool) (serial : ℕ) → (if b then 0 else receive_of q kind.Send serial) ≡ 0
send_none q true serial = refl
send_none q false serial = refl

merged_send_mid : (state : Ipc) (hand : Hand) (space name : ℕ) (names : Names) (rights : PortRights)
    → MidCall state (with_one hand kind.Send rights.port) → finmap.get state.spaces space ≡ Some names
    → finmap.get names name ≡ Some (Port rights)
    → MidCall (with_names state space (finmap.insert names name (Port (merged_rights kind.Send rights)))) hand
merged_send_mid state hand space name names rights mid there at =
    let entry : Entry = Port (merged_rights kind.Send rights) in
    let own = (mid.parts.spaces space names there).2 in
    mid_entry state space name names (Some (Port rights)) (Some entry) (with_one hand kind.Send rights.port) hand
    (record {
      there = there;
      at = at;
      lawful = same_held names name rights entry own at refl (inr (omega arith), omega arith);
      receives =
          λ (q : ℕ). omega (
            arith,
            send_none q (min MAX_SEND_REFERENCES (rights.send + 1) == 0) rights.port,
            send_none q (rights.send == 0) rights.port,
          );
      none_dead = λ (q : ℕ) (dead : _). omega (arith, reference_weighs (any_of q) rights);
      held = λ (serial set : ℕ) (_ : PortState) (_ : _) (_ : _) (is : _). is;
      set = λ (e : _). absurd (not_set rights e);
    }) mid

-- the name of a port in a space

pub record HasName (names : Names) (serial : ℕ) : Type 0 where
  pub name : ℕ
  pub entry : Entry
  pub at : finmap.get names name ≡ Some entry
  pub held : port_held entry ≡ Some serial

is_that_number : (o : Option ℕ) (n : ℕ) → is_number o n ≡ true → o ≡ Some n
is_that_number None n e = absurd (cc e)
is_that_number (Some m) n e = ap (λ k. Some k) (number_same m n e)

that_number : (o : Option ℕ) (n : ℕ) → o ≡ Some n → is_number o n ≡ true
that_number o n e = ap (λ (o : Option ℕ). is_number o n) e ∙ eq-eqb n n refl

pub named_there : (names : Names) (serial name : ℕ) → name_of_port names serial ≡ Some name → (entry : Entry)
    × (finmap.get names name ≡ Some entry) × (port_held entry ≡ Some serial)
named_there names serial name is =
    let test : ℕ × Entry → Bool = λ e. is_number (port_held e.1) serial in
    elim (find test (finmap.entries names))
    as (λ (o : Option (ℕ × Entry)). find test (finmap.entries names) ≡ o → option_map (λ e. e.0) o ≡ Some name
    → (entry : Entry) × (finmap.get names name ≡ Some entry) × (port_held entry ≡ Some serial)) [
      | None ↦ λ (_ : _) (e : _). absurd (cc e)
      | Some found ↦ λ (search : _) (e : _).
          let at = found_by test (finmap.entries names) found (entries_sorted names) search in (
            found.1,
            ap (finmap.get names) (sym (some_same found.0 name e)) ∙ get-entries names found.0 ∙ at.0,
            is_that_number (port_held found.1) serial at.1,
          )
    ] refl is

pub not_unnamed : (names : Names) (serial : ℕ) → HasName names serial → name_of_port names serial ≡ None → ⊥
not_unnamed names serial has none =
    let test : ℕ × Entry → Bool = λ e. is_number (port_held e.1) serial in
    let found =
    finds_one test (finmap.entries names) has.name has.entry
    (λ (q : ℕ) (_ : _). that_number (port_held has.entry) serial has.held)
    (sym (get-entries names has.name) ∙ has.at) in
    cc (sym none ∙ ap (option_map (λ (e : ℕ × Entry). e.0)) found.1)

-- a port keeps its name when another entry is put under an unused name, or under one that holds the same port
named_still : (names : Names) (name serial : ℕ) (entry : Entry)
    → ((e : Entry) → finmap.get names name ≡ Some e → port_held e ≡ Some serial → port_held entry ≡ Some serial)
    → HasName names serial → HasName (finmap.insert names name entry) serial
named_still names name serial entry keeps has =
    elim (number_decided has.name name) as (λ _. HasName (finmap.insert names name entry) serial) [
      | inl apart ↦ record {
        name = has.name;
        entry = has.entry;
        at = get-there names name entry has.name apart ∙ has.at;
        held = has.held;
      }
      | inr same ↦ record {
        name = name;
        entry = entry;
        at = get-here names name entry;
        held = keeps has.entry (ap (finmap.get names) (sym same) ∙ has.at) has.held;
      }
    ]

-- One right arrives.

not_alone : (names : Names) (what : RightKind) (serial other port : ℕ) (e : Entry) → finmap.get names other ≡ Some e
    → port_held (new_entry what serial) ≡ Some port → port_held e ≡ Some port
    → (what ≢ kind.SendOnce → HasName names serial → ⊥) → ⊥
not_alone names kind.Receive serial other port e at held held_too alone =
    alone (λ (is : _). cc is) (record { name = other; entry = e; at = at; held = held_too ∙ sym held })
not_alone names kind.Send serial other port e at held held_too alone =
    alone (λ (is : _). cc is) (record { name = other; entry = e; at = at; held = held_too ∙ sym held })
not_alone names kind.SendOnce serial other port e at held held_too alone = cc held

merged_holds : (what : RightKind) (rights : PortRights)
    → port_held (Port (merged_rights what rights)) ≡ Some rights.port
merged_holds kind.Receive rights = refl
merged_holds kind.Send rights = refl
merged_holds kind.SendOnce rights = refl

merged_mid : (state : Ipc) (hand : Hand) (space name : ℕ) (names : Names) (what : RightKind) (rights : PortRights)
    → what ≢ kind.SendOnce → MidCall state (with_one hand what rights.port) → finmap.get state.spaces space ≡ Some names
    → finmap.get names name ≡ Some (Port rights)
    → MidCall (with_names state space (finmap.insert names name (Port (merged_rights what rights)))) hand
merged_mid state hand space name names kind.Receive rights apart mid there at =
    merged_receive_mid state hand space name names rights mid there at
merged_mid state hand space name names kind.Send rights apart mid there at =
    merged_send_mid state hand space name names rights mid there at
merged_mid state hand space name names kind.SendOnce rights apart mid there at = absurd (apart refl)

-- what is shown of it: it has left the hand, ports keep their names, and its own port has one; there is one more name
-- only where its port had none
pub record MidArrived (state : Ipc) (space : ℕ) (names after : Names) (hand : Hand) (what : RightKind)
    (port : PortInMessage) : Type 0 where
  pub mid : MidCall (with_names state space after) hand
  pub still : (serial : ℕ) → HasName names serial → HasName after serial
  pub own : (serial : ℕ) → port ≡ in_message.Live serial → what ≢ kind.SendOnce → HasName after serial
  pub more : finmap.len after ≤ finmap.len names + 1
  pub same : ((serial : ℕ) → port ≡ in_message.Live serial → (what ≢ kind.SendOnce) × HasName names serial)
      → finmap.len after ≡ finmap.len names

one_more : (names : Names) (name : ℕ) (entry : Entry)
    → finmap.len (finmap.insert names name entry) ≤ finmap.len names + 1
one_more names name entry =
    subst (λ (n : ℕ). n ≤ finmap.len names + 1) (sym (len-insert nat_cmp_total names name entry))
    (elim (finmap.contains_key names name)
    as (λ (b : Bool). cond b (finmap.len names) (finmap.len names + 1) ≤ finmap.len names + 1)
    [ true ↦ omega arith | false ↦ omega arith ])

no_more : (names : Names) (name : ℕ) (entry before : Entry) → finmap.get names name ≡ Some before
    → finmap.len (finmap.insert names name entry) ≡ finmap.len names
no_more names name entry before at =
    len-insert nat_cmp_total names name entry ∙ ap
    (λ (b : Bool). cond b (finmap.len names) (finmap.len names + 1)) (ap is_some at)

live_serial : PortInMessage → ℕ
live_serial in_message.Null = 0
live_serial in_message.Dead = 0
live_serial (in_message.Live serial) = serial

pub same_live : (one other : ℕ) → in_message.Live one ≡ in_message.Live other → one ≡ other
unfolding live_serial
same_live one other e = ap live_serial e

held_new : (what : RightKind) (serial : ℕ) → what ≢ kind.SendOnce → port_held (new_entry what serial) ≡ Some serial
held_new kind.Receive serial apart = refl
held_new kind.Send serial apart = refl
held_new kind.SendOnce serial apart = absurd (apart refl)

not_used : (names : Names) (name : ℕ) (what : RightKind) (serial : ℕ) → finmap.get names name ≡ None
    → (other : ℕ) (e : Entry) → finmap.get names name ≡ Some e → port_held e ≡ Some other
    → port_held (new_entry what serial) ≡ Some other
not_used names name what serial free other e at held = absurd (cc (sym free ∙ at))

pub fresh_arrived : (state : Ipc) (space : ℕ) (names : Names) (hand : Hand) (what : RightKind) (serial name : ℕ)
    → MidCall state (with_one hand what serial) → finmap.get state.spaces space ≡ Some names → IsUnused names name
    → finmap.len names < MAX_NAMES
    → (what ≢ kind.SendOnce → HasName names serial → ⊥)
    → MidArrived state space names (finmap.insert names name (new_entry what serial)) hand what (in_message.Live serial)
fresh_arrived state space names hand what serial name mid there unused few alone = record {
  mid =
      fresh_mid state hand space name names what serial mid there unused few
      (λ (other port : ℕ) (e : Entry) (at : _) (held : _) (held_too : _). not_alone names what serial other port e
      at held held_too alone);
  still =
      λ (other : ℕ) (has : _). named_still names name other (new_entry what serial)
      (not_used names name what serial unused.free other) has;
  own =
      λ (other : ℕ) (is : _) (apart : _).
      record {
        name = name;
        entry = new_entry what serial;
        at = get-here names name (new_entry what serial);
        held = held_new what serial apart ∙ ap (λ k. Some k) (same_live serial other is);
      };
  more = one_more names name (new_entry what serial);
  same = λ (has : _). absurd (alone (has serial refl).0 (has serial refl).1);
}

pub merged_arrived : (state : Ipc) (space : ℕ) (names : Names) (hand : Hand) (what : RightKind) (name : ℕ)
    (rights : PortRights) → what ≢ kind.SendOnce → MidCall state (with_one hand what rights.port)
    → finmap.get state.spaces space ≡ Some names
    → finmap.get names name ≡ Some (Port rights)
    → MidArrived state space names (finmap.insert names name (Port (merged_rights what rights))) hand what
    (in_message.Live rights.port)
merged_arrived state space names hand what name rights apart mid there at =
    let held : port_held (Port (merged_rights what rights)) ≡ Some rights.port = merged_holds what rights in
    record {
      mid = merged_mid state hand space name names what rights apart mid there at;
      still =
          λ (other : ℕ) (has : _). named_still names name other (Port (merged_rights what rights))
          (λ (e : Entry) (at_too : _) (held_too : _). held
          ∙ sym (ap port_held (some_same e (Port rights) (sym at_too ∙ at))) ∙ held_too) has;
      own =
          λ (other : ℕ) (is : _) (_ : _).
          record {
            name = name;
            entry = Port (merged_rights what rights);
            at = get-here names name (Port (merged_rights what rights));
            held = held ∙ ap (λ k. Some k) (same_live rights.port other is);
          };
      more = one_more names name (Port (merged_rights what rights));
      same = λ (_ : _). no_more names name (Port (merged_rights what rights)) (Port rights) at;
    }

entry_of_port : (entry : Entry) (serial : ℕ) → port_held entry ≡ Some serial → (rights : PortRights)
    × (entry ≡ Port rights) × (rights.port ≡ serial)
entry_of_port (Port rights) serial is = (rights, refl, some_same rights.port serial is)
entry_of_port (SendOnce port target) serial is = absurd (cc is)
entry_of_port Set serial is = absurd (cc is)
entry_of_port (Dead references) serial is = absurd (cc is)

abbrev pub after_of : Names → RightKind → ℕ → ℕ → Names
after_of names what serial name = finmap.insert names name (merged_entry what serial (finmap.get names name))

fresh_after : (state : Ipc) (space : ℕ) (names : Names) (hand : Hand) (what : RightKind) (serial name : ℕ)
    → MidCall state (with_one hand what serial) → finmap.get state.spaces space ≡ Some names → IsUnused names name
    → finmap.len names < MAX_NAMES
    → (what ≢ kind.SendOnce → HasName names serial → ⊥)
    → MidArrived state space names (after_of names what serial name) hand what (in_message.Live serial)
fresh_after state space names hand what serial name mid there unused few alone =
    subst (λ (o : Option Entry). MidArrived state space names
    (finmap.insert names name (merged_entry what serial o)) hand what (in_message.Live serial)) (sym unused.free)
    (fresh_arrived state space names hand what serial name mid there unused few alone)

-- a right that isn't send-once comes under a name that holds its port
pub merged_after : (state : Ipc) (space : ℕ) (names : Names) (hand : Hand) (what : RightKind) (serial name : ℕ)
    (entry : Entry) → what ≢ kind.SendOnce → MidCall state (with_one hand what serial)
    → finmap.get state.spaces space ≡ Some names
    → finmap.get names name ≡ Some entry → port_held entry ≡ Some serial
    → MidArrived state space names (after_of names what serial name) hand what (in_message.Live serial)
merged_after state space names hand what serial name entry apart mid there at held =
    let (rights, is, port) = entry_of_port entry serial held in
    let at_rights : finmap.get names name ≡ Some (Port rights) = at ∙ ap (λ e. Some e) is in
    subst (λ (o : Option Entry). MidArrived state space names
    (finmap.insert names name (merged_entry what serial o)) hand what (in_message.Live serial)) (sym at_rights)
    (subst (λ (k : ℕ). MidArrived state space names
    (finmap.insert names name (Port (merged_rights what rights))) hand what (in_message.Live k)) port
    (merged_arrived state space names hand what name rights apart
    (subst (λ (k : ℕ). MidCall state (with_one hand what k)) (sym port) mid) there at_rights))

port_after : (state : Ipc) (space : ℕ) (names : Names) (hand : Hand) (what : RightKind) (serial name : ℕ)
    → what ≢ kind.SendOnce → MidCall state (with_one hand what serial) → finmap.get state.spaces space ≡ Some names
    → MatchOption (name_of_port names serial) (IsUnused names name) (λ there. name ≡ there)
    → (is_none (name_of_port names serial) ≡ true → finmap.len names < MAX_NAMES)
    → MidArrived state space names (after_of names what serial name) hand what (in_message.Live serial)
port_after state space names hand what serial name apart mid there may room =
    elim (name_of_port names serial)
    as (λ (o : Option ℕ). name_of_port names serial ≡ o
    → MatchOption o (IsUnused names name) (λ there. name ≡ there)
    → (is_none o ≡ true → finmap.len names < MAX_NAMES)
    → MidArrived state space names (after_of names what serial name) hand what (in_message.Live serial)) [
      | None ↦ λ (none : _) (unused : _) (few : _). fresh_after state space names hand what serial name mid there unused
          (few refl) (λ (_ : _) (has : _). not_unnamed names serial has none)
      | Some known ↦ λ (is : _) (same : _) (_ : _).
          let at = named_there names serial known is in
          merged_after state space names hand what serial name at.0 apart mid there
          (ap (finmap.get names) same ∙ at.1) at.2
    ] refl may room

nothing_arrived : (state : Ipc) (space : ℕ) (names : Names) (hand : Hand) (what : RightKind) (port : PortInMessage)
    → ((serial : ℕ) → port ≡ in_message.Live serial → ⊥) → MidCall state hand
    → finmap.get state.spaces space ≡ Some names
    → MidArrived state space names names hand what port
nothing_arrived state space names hand what port none mid there = record {
  mid =
      subst (λ (s : finmap.FinMap _ Names). MidCall (record state { spaces = s }) hand)
      (sym (insert-same state.spaces space names there)) mid;
  still = λ (serial : ℕ) (has : _). has;
  own = λ (serial : ℕ) (is : _) (_ : _). absurd (none serial is);
  more = omega arith;
  same = λ (_ : _). refl;
}

lighter : (state : Ipc) (hand : Hand) (what : RightKind) (port : PortInMessage)
    → ((w : Weight) → carried_weigh w (record { kind = what; port = port }) ≡ 0)
    → MidCall state (with_right hand (record { kind = what; port = port })) → MidCall state hand
lighter state hand what port none mid =
    mid_hand state (with_right hand (record { kind = what; port = port })) hand mid
    (λ (q : ℕ). omega (arith, none (receive_of q))) (λ (q : ℕ) (dead : _). omega arith)

-- One right arrives in a space that has room for the name that it needs.
pub arrived_mid : (state : Ipc) (space : ℕ) (names : Names) (hand : Hand) (what : RightKind) (port : PortInMessage)
    (name : ℕ) → MidCall state (with_right hand (record { kind = what; port = port }))
    → finmap.get state.spaces space ≡ Some names
    → MayArrive names what port name → (wants_name names [] what port ≡ true → finmap.len names < MAX_NAMES)
    → MidArrived state space names (names_after names what port name) hand what port
arrived_mid state space names hand what in_message.Null name mid there may room =
    nothing_arrived state space names hand what in_message.Null
    (λ (serial : ℕ) (is : _). cc is) (lighter state hand what in_message.Null (λ (w : Weight). refl) mid) there
arrived_mid state space names hand what in_message.Dead name mid there may room =
    nothing_arrived state space names hand what in_message.Dead
    (λ (serial : ℕ) (is : _). cc is) (lighter state hand what in_message.Dead (λ (w : Weight). refl) mid) there
arrived_mid state space names hand kind.SendOnce (in_message.Live serial) name mid there may room =
    fresh_after state space names hand kind.SendOnce serial name mid there may (room refl)
    (λ (apart : _) (_ : _). apart refl)
arrived_mid state space names hand kind.Send (in_message.Live serial) name mid there may room =
    port_after state space names hand kind.Send serial name (λ (is : _). cc is) mid there may
    (λ (none : _). room (ap (λ (b : Bool). b && not false) none))
arrived_mid state space names hand kind.Receive (in_message.Live serial) name mid there may room =
    port_after state space names hand kind.Receive serial name (λ (is : _). cc is) mid there may
    (λ (none : _). room (ap (λ (b : Bool). b && not false) none))
