-- A change of the names of one space keeps a state lawful with its effects, if rights only move between names and
-- effects.
use Rattle.std.specs.Prelude.{◌≡◌, ◌≢◌, ◌⊎◌, ℕ, ◌+◌, ◌<◌, ◌≤◌, false, cond, List, Option, None, Some, is_some, refl}
use Rattle.std.proofs.Common.{sym, ◌∙◌, ap, subst, inl, inr, arith}
use Rattle.std.specs.Cmp.{nat_cmp_total}
use Rattle.std.specs.FinMap as finmap
use Rattle.std.specs.FinMap.{len-insert}
use Rattle.codes.specs.declared.limits.TheConstants.{MAX_NAMES, MAX_SPACES}
use Rattle.codes.specs.declared.name.TheConstants.{MACH_PORT_DEAD}
use Rattle.ipc_model.specs.declared.entry.Entry.{Entry}
use Rattle.ipc_model.specs.declared.port.PortState.{PortState}
use Rattle.ipc_laws.specs.Dangling.{left_apart}
use Rattle.ipc_model.specs.effects.Effects.{Effect}
use Rattle.ipc_laws.specs.EffectParts.{fewer_left}
use Rattle.ipc_laws.specs.EffectsKeep.{dangles_none}
use Rattle.ipc_model.specs.state.Lawful.{LawfulBut, LawfulNames, LawfulEntry, AllWaiting, IsHeldAlongsideSet, IsReleased}
use Rattle.ipc_laws.specs.ListLaws.{some_same}
use Rattle.ipc_laws.specs.MapLaws.{get-here, get-there, get-left}
use Rattle.ipc_laws.specs.MapSums.{weigh, total, weight, total-insert}
use Rattle.ipc_laws.specs.Others.{number_decided}
use Rattle.ipc_model.specs.state.Ipc.{Ipc, Names, with_names, lives, port_held}
use Rattle.ipc_laws.specs.Weights.{Weight, names_weigh, state_weigh, effect_weigh, receive_of, any_of, count-receive, count-any}

-- other names in an existing space
pub names_change : (w : Weight) (state : Ipc) (space : ℕ) (names after : Names)
    → finmap.get state.spaces space ≡ Some names
    → state_weigh w (with_names state space after) + names_weigh w names ≡ state_weigh w state + names_weigh w after
unfolding state_weigh
names_change w state space names after there =
    let inserted : total (λ s n. names_weigh w n) (finmap.insert state.spaces space after) + names_weigh w names ≡ total
    (λ s n. names_weigh w n) state.spaces + names_weigh w after =
    subst (λ (o : Option Names). total (λ s n. names_weigh w n) (finmap.insert state.spaces space after) + weight
    (λ s n. names_weigh w n) space o ≡ total (λ s n. names_weigh w n) state.spaces + names_weigh w after) there
    (total-insert (λ s n. names_weigh w n) state.spaces space after) in
    omega (arith, inserted)

-- What has to be shown of such a change: the names are lawful; receive rights only move between names and effects; no
-- right is new to a port that isn't live; members stay in the spaces of their sets, or their receive rights wait.
pub record NamesMove (state : Ipc) (space : ℕ) (names after : Names) (effects later : List Effect) : Type 0 where
  pub there : finmap.get state.spaces space ≡ Some names
  pub lawful : LawfulNames after
  pub receives : (q : ℕ) → names_weigh (receive_of q) after + weigh (effect_weigh (receive_of q)) later
      ≡ names_weigh (receive_of q) names + weigh (effect_weigh (receive_of q)) effects
  pub none_dead : (q : ℕ) → lives state q ≡ false → names_weigh (any_of q) after ≤ names_weigh (any_of q) names
  pub waits : AllWaiting later
  pub members : (serial set : ℕ) (port : PortState) → finmap.get state.ports serial ≡ Some port → port.set ≡ Some set
      → IsHeldAlongsideSet state serial set ⊎ IsReleased effects serial
      → IsHeldAlongsideSet (with_names state space after) serial set ⊎ IsReleased later serial

pub one_space : (state : Ipc) (space other : ℕ) (after names : Names)
    → finmap.get (finmap.insert state.spaces space after) other ≡ Some names
    → ((other ≡ space) × (after ≡ names)) ⊎ (finmap.get state.spaces other ≡ Some names)
one_space state space other after names at =
    elim (number_decided other space)
    as (λ _. ((other ≡ space) × (after ≡ names)) ⊎ (finmap.get state.spaces other ≡ Some names)) [
      | inl apart ↦ inr (sym (get-there state.spaces space after other apart) ∙ at)
      | inr same ↦ inl (
        same,
        some_same after names
            (sym (get-here state.spaces space after) ∙ ap (finmap.get (finmap.insert state.spaces space after))
            (sym same)
            ∙ at),
      )
    ]

-- the first space still exists
pub first_there : (state : Ipc) (space : ℕ) (after names : Names) → finmap.get state.spaces 1 ≡ Some names
    → (n : Names) × (finmap.get (finmap.insert state.spaces space after) 1 ≡ Some n)
first_there state space after names first =
    elim (number_decided 1 space) as (λ _. (n : Names)
    × (finmap.get (finmap.insert state.spaces space after) 1 ≡ Some n)) [
      | inl apart ↦ (names, get-there state.spaces space after 1 apart ∙ first)
      | inr same ↦ (
        after,
        ap (finmap.get (finmap.insert state.spaces space after)) same
            ∙ get-here state.spaces space after,
      )
    ]

-- Such a change keeps the state lawful.
abbrev pub NamesMoveLawfully : Type 0
NamesMoveLawfully =
    (state : Ipc) (space : ℕ) (names after : Names) (effects later : List Effect)
    → NamesMove state space names after effects later → LawfulBut state effects
    → LawfulBut (with_names state space after) later

pub names_move_lawfully : NamesMoveLawfully
names_move_lawfully state space names after effects later move lawful = record {
  first_space = first_there state space after lawful.first_space.0 lawful.first_space.1;
  spaces =
      λ (other : ℕ) (n : Names) (at : _). elim (one_space state space other after n at)
      as (λ _. (0 < other) × (other ≤ MAX_SPACES) × LawfulNames n) [
        | inl here ↦
            let own = lawful.spaces space names move.there in (
              subst (λ (k : ℕ). 0 < k) (sym here.0) own.0,
              subst (λ (k : ℕ). k ≤ MAX_SPACES) (sym here.0) own.1,
              subst LawfulNames here.1 move.lawful,
            )
        | inr before ↦ lawful.spaces other n before
      ];
  ports = lawful.ports;
  few_ports = lawful.few_ports;
  next = lawful.next;
  one_receive = λ (q : ℕ) (live : _).
      let before : state_weigh (receive_of q) state + weigh (effect_weigh (receive_of q)) effects ≡ 1 =
      sym (count-receive state effects q) ∙ lawful.one_receive q live in
      count-receive (with_names state space after) later q
      ∙ omega (arith, before, move.receives q, names_change (receive_of q) state space names after move.there);
  live = λ (q : ℕ) (dead : _).
      count-any (with_names state space after) q
      ∙ omega (
        arith,
        dangles_none state effects lawful q dead,
        move.none_dead q dead,
        names_change (any_of q) state space names after move.there,
      );
  waits = move.waits;
  sets =
      λ (serial set : ℕ) (port : PortState) (at : _) (is : _). move.members serial set port at is
      (lawful.sets serial set port at is);
}

-- one more name, or another entry under it

room_for : (names : Names) (name : ℕ) → finmap.len names ≤ MAX_NAMES
    → (finmap.get names name ≡ None → finmap.len names < MAX_NAMES)
    → cond (finmap.contains_key names name) (finmap.len names) (finmap.len names + 1) ≤ MAX_NAMES
room_for names name few room =
    elim (finmap.get names name) as (λ (o : Option Entry). finmap.get names name ≡ o
    → cond (is_some o) (finmap.len names) (finmap.len names + 1) ≤ MAX_NAMES) [
      | None ↦ λ (none : _). omega (arith, room none)
      | Some e ↦ λ (there : _). few
    ] refl

pub insert_lawful : (names : Names) (name : ℕ) (entry : Entry) → LawfulNames names → 0 < name → name < MACH_PORT_DEAD
    → LawfulEntry entry
    → (finmap.get names name ≡ None → finmap.len names < MAX_NAMES)
    → ((other serial : ℕ) (e : Entry) → other ≢ name → finmap.get names other ≡ Some e → port_held entry ≡ Some serial
    → port_held e ≡ Some serial → ⊥)
    → LawfulNames (finmap.insert names name entry)
insert_lawful names name entry lawful least below fits room alone = record {
  few =
      subst (λ (n : ℕ). n ≤ MAX_NAMES) (sym (len-insert nat_cmp_total names name entry))
      (room_for names name lawful.few room);
  named =
      λ (other : ℕ) (e : Entry) (at : _). elim (number_decided other name)
      as (λ _. (0 < other) × (other < MACH_PORT_DEAD) × LawfulEntry e) [
        | inl apart ↦ lawful.named other e (sym (get-there names name entry other apart) ∙ at)
        | inr same ↦
            let is : entry ≡ e =
            some_same entry e (sym (get-here names name entry)
            ∙ ap (finmap.get (finmap.insert names name entry)) (sym same) ∙ at) in (
              subst (λ (k : ℕ). 0 < k) (sym same) least,
              subst (λ (k : ℕ). k < MACH_PORT_DEAD) (sym same) below,
              subst LawfulEntry is fits,
            )
      ];
  one_name = λ (one other serial : ℕ) (first second : Entry) (at : _) (at_too : _) (held : _) (held_too : _).
      elim (number_decided one name) as (λ _. one ≡ other) [
        | inl apart ↦ elim (number_decided other name) as (λ _. one ≡ other) [
          | inl apart_too ↦ lawful.one_name one other serial first second
              (sym (get-there names name entry one apart) ∙ at)
              (sym (get-there names name entry other apart_too) ∙ at_too) held held_too
          | inr same ↦
              let is : entry ≡ second =
              some_same entry second (sym (get-here names name entry)
              ∙ ap (finmap.get (finmap.insert names name entry)) (sym same) ∙ at_too) in
              absurd (alone one serial first apart (sym (get-there names name entry one apart) ∙ at)
              (ap port_held is ∙ held_too) held)
        ]
        | inr same ↦
            let is : entry ≡ first =
            some_same entry first (sym (get-here names name entry)
            ∙ ap (finmap.get (finmap.insert names name entry)) (sym same) ∙ at) in
            elim (number_decided other name) as (λ _. one ≡ other) [
              | inl apart ↦ absurd (alone other serial second apart
                  (sym (get-there names name entry other apart) ∙ at_too) (ap port_held is ∙ held) held_too)
              | inr same_too ↦ same ∙ sym same_too
            ]
      ];
}

-- one name less

still_there : (names : Names) (name other : ℕ) (e : Entry) → finmap.get (finmap.remove names name) other ≡ Some e
    → finmap.get names other ≡ Some e
still_there names name other e at = sym (get-left names name other (left_apart names name other e at)) ∙ at

pub remove_lawful : (names : Names) (name : ℕ) → LawfulNames names → LawfulNames (finmap.remove names name)
remove_lawful names name lawful = record {
  few = omega (arith, lawful.few, fewer_left names name);
  named = λ (other : ℕ) (e : Entry) (at : _). lawful.named other e (still_there names name other e at);
  one_name = λ (one other serial : ℕ) (first second : Entry) (at : _) (at_too : _) (held : _) (held_too : _).
      lawful.one_name one other serial first second (still_there names name one first at)
      (still_there names name other second at_too) held held_too;
}
