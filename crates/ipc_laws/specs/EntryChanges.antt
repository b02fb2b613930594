-- A change of one name keeps a state lawful with its effects: another entry under it, or none.
use Rattle.std.specs.Prelude.{◌≡◌, ◌≢◌, ◌⊎◌, ℕ, ◌+◌, ◌≤◌, false, List, Option, None, Some, refl}
use Rattle.std.proofs.Common.{sym, ◌∙◌, ap, inl, inr, arith}
use Rattle.std.specs.FinMap as finmap
use Rattle.ipc_model.specs.declared.entry.Entry.{Entry}
use Rattle.ipc_model.specs.declared.entry.Entry.TheVariants.{Set}
use Rattle.ipc_model.specs.declared.port.PortState.{PortState}
use Rattle.ipc_model.specs.effects.Effects.{Effect}
use Rattle.ipc_model.specs.state.Lawful.{LawfulNames, AllWaiting, IsHeldAlongsideSet, IsReleased}
use Rattle.ipc_laws.specs.ListLaws.{some_same}
use Rattle.ipc_laws.specs.MapLaws.{get-here, get-there, get-gone, get-left}
use Rattle.ipc_laws.specs.MapSums.{weigh, weight, total-insert, total-remove}
use Rattle.ipc_laws.specs.NameChanges.{NamesMove}
use Rattle.ipc_laws.specs.Others.{number_decided}
use Rattle.ipc_model.specs.state.Ipc.{Ipc, Names, with_names, lives, received_port}
use Rattle.ipc_laws.specs.Weights.{Weight, entry_weigh, names_weigh, effect_weigh, receive_of, any_of}

-- the weight of what stands under a name
abbrev pub under : Weight → Option Entry → ℕ
under w None = 0
under w (Some entry) = entry_weigh w entry

-- the port whose receive right stands there
abbrev pub received_under : Option Entry → Option ℕ
received_under None = None
received_under (Some entry) = received_port entry

-- What has to be shown of another entry under a name: rights only move between the entry and effects, no right is new
-- to a port that isn't live, its receive right stays or waits, and a set stays a set.
pub record EntryMove (state : Ipc) (space name : ℕ) (names : Names) (before after : Option Entry)
    (effects later : List Effect) : Type 0 where
  pub there : finmap.get state.spaces space ≡ Some names
  pub at : finmap.get names name ≡ before
  pub receives : (q : ℕ) → under (receive_of q) after + weigh (effect_weigh (receive_of q)) later
      ≡ under (receive_of q) before + weigh (effect_weigh (receive_of q)) effects
  pub none_dead : (q : ℕ) → lives state q ≡ false → under (any_of q) after ≤ under (any_of q) before
  pub waits : AllWaiting later
  pub held : (serial : ℕ) → received_under before ≡ Some serial → (received_under after ≡ Some serial)
      ⊎ IsReleased later serial
  pub set : before ≡ Some Set → after ≡ Some Set
  pub released : (serial set : ℕ) (port : PortState) → finmap.get state.ports serial ≡ Some port → port.set ≡ Some set
      → IsReleased effects serial → IsReleased later serial

under_weight : (w : Weight) (name : ℕ) (o : Option Entry) → weight (λ n e. entry_weigh w e) name o ≡ under w o
under_weight w name None = refl
under_weight w name (Some entry) = refl

inserted_weight : (w : Weight) (names : Names) (name : ℕ) (entry : Entry) (before : Option Entry)
    → finmap.get names name ≡ before
    → names_weigh w (finmap.insert names name entry) + under w before ≡ names_weigh w names + entry_weigh w entry
inserted_weight w names name entry before at =
    omega (
      arith,
      total-insert (λ n e. entry_weigh w e) names name entry,
      under_weight w name (finmap.get names name),
      ap (under w) at,
    )

removed_weight : (w : Weight) (names : Names) (name : ℕ) (before : Option Entry) → finmap.get names name ≡ before
    → names_weigh w (finmap.remove names name) + under w before ≡ names_weigh w names
removed_weight w names name before at =
    omega (
      arith,
      total-remove (λ n e. entry_weigh w e) names name,
      under_weight w name (finmap.get names name),
      ap (under w) at,
    )

-- the names with another entry, or none
abbrev pub changed : Names → ℕ → Option Entry → Names
changed names name None = finmap.remove names name
changed names name (Some entry) = finmap.insert names name entry

pub changed_weight : (w : Weight) (names : Names) (name : ℕ) (before after : Option Entry)
    → finmap.get names name ≡ before
    → names_weigh w (changed names name after) + under w before ≡ names_weigh w names + under w after
changed_weight w names name before None at = omega (arith, removed_weight w names name before at)
changed_weight w names name before (Some entry) at = inserted_weight w names name entry before at

pub changed_here : (names : Names) (name : ℕ) (after : Option Entry)
    → finmap.get (changed names name after) name ≡ after
changed_here names name None = get-gone names name
changed_here names name (Some entry) = get-here names name entry

pub changed_there : (names : Names) (name other : ℕ) (after : Option Entry) → other ≢ name
    → finmap.get (changed names name after) other ≡ finmap.get names other
changed_there names name other None apart = get-left names name other apart
changed_there names name other (Some entry) apart = get-there names name entry other apart

pub entry_of : (o : Option Entry) (serial : ℕ) → received_under o ≡ Some serial → (entry : Entry) × (o ≡ Some entry)
    × (received_port entry ≡ Some serial)
entry_of None serial is = absurd (cc is)
entry_of (Some entry) serial is = (entry, refl, is)

-- a member is still held in its set's space, or its receive right waits
still_alongside : (state : Ipc) (space name : ℕ) (names : Names) (before after : Option Entry)
    (effects later : List Effect) → EntryMove state space name names before after effects later
    → (serial set : ℕ) → IsHeldAlongsideSet state serial set
    → IsHeldAlongsideSet (with_names state space (changed names name after)) serial set ⊎ IsReleased later serial
still_alongside state space name names before after effects later move serial set
    (other, held_names, held_name, entry, there, at, is, alongside) =
    elim (number_decided other space)
    as (λ _. IsHeldAlongsideSet (with_names state space (changed names name after)) serial set
    ⊎ IsReleased later serial) [
      | inl apart ↦ inl (
        other,
        held_names,
        held_name,
        entry,
        get-there state.spaces space (changed names name after) other apart ∙ there,
        at,
        is,
        alongside,
      )
      | inr same ↦
          let same_names : held_names ≡ names =
          some_same held_names names (sym there ∙ ap (finmap.get state.spaces) same ∙ move.there) in
          let alongside_here : finmap.get names set ≡ Some Set =
          ap (λ (n : Names). finmap.get n set) (sym same_names) ∙ alongside in
          let at_here : finmap.get names held_name ≡ Some entry =
          ap (λ (n : Names). finmap.get n held_name) (sym same_names) ∙ at in
          let space_there : finmap.get (finmap.insert state.spaces space (changed names name after)) space
          ≡ Some (changed names name after) = get-here state.spaces space (changed names name after) in
          let set_stays : finmap.get (changed names name after) set ≡ Some Set =
          elim (number_decided set name) as (λ _. finmap.get (changed names name after) set ≡ Some Set) [
            | inl apart ↦ changed_there names name set after apart ∙ alongside_here
            | inr named ↦ ap (finmap.get (changed names name after)) named ∙ changed_here names name after
                ∙ move.set (sym move.at ∙ ap (finmap.get names) (sym named) ∙ alongside_here)
          ] in
          elim (number_decided held_name name)
          as (λ _. IsHeldAlongsideSet (with_names state space (changed names name after)) serial set
          ⊎ IsReleased later serial) [
            | inl apart ↦ inl (
              space,
              changed names name after,
              held_name,
              entry,
              space_there,
              changed_there names name held_name after apart ∙ at_here,
              is,
              set_stays,
            )
            | inr named ↦
                let was : before ≡ Some entry = sym move.at ∙ ap (finmap.get names) (sym named) ∙ at_here in
                elim (move.held serial (ap received_under was ∙ is))
                as (λ _. IsHeldAlongsideSet (with_names state space (changed names name after)) serial set
                ⊎ IsReleased later serial) [
                  | inl stays ↦
                      let now = entry_of after serial stays in
                      inl (
                        space,
                        changed names name after,
                        name,
                        now.0,
                        space_there,
                        changed_here names name after ∙ now.1,
                        now.2,
                        set_stays,
                      )
                  | inr waits ↦ inr waits
                ]
          ]
    ]

-- Such a change is a lawful move of names.
pub entry_moves : (state : Ipc) (space name : ℕ) (names : Names) (before after : Option Entry)
    (effects later : List Effect) → EntryMove state space name names before after effects later
    → LawfulNames (changed names name after)
    → NamesMove state space names (changed names name after) effects later
entry_moves state space name names before after effects later move lawful = record {
  there = move.there;
  lawful = lawful;
  receives = λ (q : ℕ). omega (arith, changed_weight (receive_of q) names name before after move.at, move.receives q);
  none_dead =
      λ (q : ℕ) (dead : _). omega (
        arith,
        changed_weight (any_of q) names name before after move.at,
        move.none_dead q dead,
      );
  waits = move.waits;
  members =
      λ (serial set : ℕ) (port : PortState) (live : _) (is : _) (member : _). elim member
      as (λ _. IsHeldAlongsideSet (with_names state space (changed names name after)) serial set
      ⊎ IsReleased later serial) [
        | inl alongside ↦ still_alongside state space name names before after effects later move serial set alongside
        | inr waits ↦ inr (move.released serial set port live is waits)
      ];
}
