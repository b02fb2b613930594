-- When a set goes, its members are taken out first: then no port is in it, and its name can go.
use Rattle.std.specs.Prelude.{◌≡◌, ◌≢◌, ◌⊎◌, ℕ, Bool, true, false, cond, filter, filter_map, List, [], ◌∷◌, Option, None, Some, option_and_then, refl}
use Rattle.std.proofs.Common.{sym, ◌∙◌, ap, subst, inl, inr, arith}
use Rattle.std.proofs.lemmas.Bool.{eq-eqb}
use Rattle.std.specs.Ordering.{nat_cmp, eq_by_cmp}
use Rattle.std.specs.List.{cons_option}
use Rattle.std.specs.FinMap as finmap
use Rattle.std.specs.FinMap.{find, get-entries}
use Rattle.ipc_model.specs.declared.entry.Entry.{Entry}
use Rattle.ipc_model.specs.declared.entry.Entry.TheVariants.{Port, SendOnce, Set, Dead}
use Rattle.ipc_model.specs.declared.port.PortState.{PortState}
use Rattle.ipc_model.specs.calls.Actions as actions
use Rattle.ipc_laws.specs.CallsKeep.{Kept}
use Rattle.ipc_model.specs.state.Circular.{Acyclic}
use Rattle.ipc_model.specs.state.Lawful.{LawfulNames, IsHeldAlongsideSet, IsReleased}
use Rattle.ipc_laws.specs.LawfulLaws.{LawfulAtRest}
use Rattle.ipc_laws.specs.ListLaws.{some_same}
use Rattle.ipc_laws.specs.MapLaws.{get-here, get-there, get-left}
use Rattle.ipc_laws.specs.MapSums.{weight, total-remove}
use Rattle.ipc_laws.specs.NameChanges.{NamesMove, names_move_lawfully, remove_lawful}
use Rattle.ipc_laws.specs.Others.{number_decided, with_port_spaces}
use Rattle.ipc_laws.specs.PortChanges.{PortMove, port_moves_lawfully}
use Rattle.ipc_laws.specs.ReferencesKeep.{gone_kept}
use Rattle.ipc_model.specs.state.Ipc.{Ipc, Names, with_names, with_port, received_port, is_member, is_number}
use Rattle.ipc_laws.specs.Weights.{Weight, entry_weigh, receive_of, any_of}

-- a port is taken out of its set
abbrev pub taken_out : PortState → PortState
taken_out p = record p { set = None }

out_kept : (state : Ipc) (serial : ℕ) → LawfulAtRest state → Acyclic state
    → Kept (with_port state serial taken_out) []
out_kept state serial lawful acyclic =
    elim (finmap.get state.ports serial)
    as (λ (o : Option PortState). finmap.get state.ports serial ≡ o → Kept (with_port state serial taken_out) []) [
      | None ↦ λ (none : _). subst (λ (s : Ipc). Kept s [])
          (sym (ap (λ (o : Option PortState). elim o as (λ _. Ipc)
          [ None ↦ state | Some p ↦ record state { ports = finmap.insert state.ports serial (taken_out p) } ])
          none)) (record { lawful = lawful; acyclic = acyclic })
      | Some port ↦ λ (there : _).
          let move : PortMove state [] serial taken_out = record {
            port = port;
            there = there;
            lawful =
                λ (p : PortState) (l : _). record {
                  limit = l.limit;
                  sequence_number = l.sequence_number;
                  make_send_count = l.make_send_count;
                  messages = l.messages;
                };
            rights = λ (w : Weight). refl;
            carried = λ (inner : ℕ) (p : PortState) (e : _). e;
            member = λ (set : ℕ) (is : _). absurd (cc is);
          } in
          let kept = port_moves_lawfully state [] serial taken_out move lawful acyclic in
          record { lawful = kept.0; acyclic = kept.1 }
    ] refl

pub all_out_kept : (state : Ipc) (serials : List ℕ) → LawfulAtRest state → Acyclic state
    → Kept (actions.with_ports state serials taken_out) []
all_out_kept state [] lawful acyclic = record { lawful = lawful; acyclic = acyclic }
all_out_kept state (serial ∷ serials) lawful acyclic =
    let first = out_kept state serial lawful acyclic in
    all_out_kept (with_port state serial taken_out) serials first.lawful first.acyclic

-- spaces stay
pub all_out_spaces : (state : Ipc) (serials : List ℕ)
    → (actions.with_ports state serials taken_out).spaces ≡ state.spaces
all_out_spaces state [] = refl
all_out_spaces state (serial ∷ serials) =
    all_out_spaces (with_port state serial taken_out) serials ∙ with_port_spaces state serial taken_out

-- A port that is still in a set was in it before, and wasn't taken out.

abbrev pub Among : ℕ → List ℕ → Type 0
Among n [] = ⊥
Among n (m ∷ ms) = (n ≡ m) ⊎ Among n ms

-- what a port keeps after one was taken out
one_out : (state : Ipc) (serial other set : ℕ) (port : PortState)
    → finmap.get (with_port state serial taken_out).ports other ≡ Some port → port.set ≡ Some set → (other ≢ serial)
    × (finmap.get state.ports other ≡ Some port)
one_out state serial other set port at is =
    elim (finmap.get state.ports serial) as (λ (o : Option PortState). finmap.get state.ports serial ≡ o
    → finmap.get (elim o as (λ _. Ipc)
    [ None ↦ state | Some p ↦ record state { ports = finmap.insert state.ports serial (taken_out p) } ]).ports other
    ≡ Some port → (other ≢ serial) × (finmap.get state.ports other ≡ Some port)) [
      | None ↦ λ (none : _) (there : _).
          ((λ (same : other ≡ serial). cc (sym none ∙ ap (finmap.get state.ports) (sym same) ∙ there)), there)
      | Some p ↦ λ (before : _) (there : finmap.get (finmap.insert state.ports serial (taken_out p)) other ≡ Some port).
          elim (number_decided other serial) as (λ _. (other ≢ serial) × (finmap.get state.ports other ≡ Some port)) [
            | inl apart ↦ (apart, sym (get-there state.ports serial (taken_out p) other apart) ∙ there)
            | inr same ↦
                let out : taken_out p ≡ port =
                some_same (taken_out p) port (sym (get-here state.ports serial (taken_out p))
                ∙ ap (finmap.get (finmap.insert state.ports serial (taken_out p))) (sym same) ∙ there) in
                absurd (cc (ap (λ (q : PortState). q.set) out ∙ is))
          ]
    ] refl at

pub still_in : (state : Ipc) (serials : List ℕ) (other set : ℕ) (port : PortState)
    → finmap.get (actions.with_ports state serials taken_out).ports other ≡ Some port → port.set ≡ Some set
    → (Among other serials → ⊥) × (finmap.get state.ports other ≡ Some port)
still_in state [] other set port at is = ((λ (a : _). a), at)
still_in state (serial ∷ serials) other set port at is =
    let later = still_in (with_port state serial taken_out) serials other set port at is in
    let first = one_out state serial other set port later.1 is in (
      (λ (a : Among other (serial ∷ serials)). elim a as (λ _. ⊥)
          [ inl same ↦ first.0 same | inr among ↦ later.0 among ]),
      first.1,
    )

pub among_more : (n : ℕ) (o : Option ℕ) (ms : List ℕ) → Among n ms → Among n (cons_option o ms)
among_more n None ms among = among
among_more n (Some m) ms among = inr among

-- an entry that holds the receive right of a port in the set is one of a member
pub member_of : (old : Ipc) (set other : ℕ) (entry : Entry) (port : PortState) → received_port entry ≡ Some other
    → finmap.get old.ports other ≡ Some port → port.set ≡ Some set → is_member old set entry ≡ true
member_of old set other entry port held there is =
    ap (λ (o : Option ℕ). elim (option_and_then (λ serial. finmap.get old.ports serial) o) as (λ _. Bool)
    [ None ↦ false | Some p ↦ is_number p.set set ]) held
    ∙ ap (λ (o : Option PortState). elim o as (λ _. Bool) [ None ↦ false | Some p ↦ is_number p.set set ]) there
    ∙ ap (λ (o : Option ℕ). is_number o set) is ∙ eq-eqb set set refl

-- Every member that a name of the space holds is among those that are taken out.
pub found_among : (test : Entry → Bool) (es : List (ℕ × Entry)) (name serial : ℕ) (entry : Entry)
    → find nat_cmp name es ≡ Some entry → test entry ≡ true → received_port entry ≡ Some serial
    → Among serial (filter_map (λ e. received_port e.1) (filter (λ e. test e.1) es))
found_among test [] name serial entry there passes is = absurd (cc there)
found_among test (e ∷ es) name serial entry there passes is =
    elim (eq_by_cmp nat_cmp name e.0)
    as (λ (b : Bool). cond b (Some e.1) (find nat_cmp name es) ≡ Some entry
    → Among serial (filter_map (λ x. received_port x.1) (filter (λ x. test x.1) (e ∷ es)))) [
      | true ↦ λ (same : _).
          let here : e.1 ≡ entry = some_same e.1 entry same in
          subst (λ (b : Bool). Among serial
          (filter_map (λ x. received_port x.1)
          (cond b (e ∷ filter (λ x. test x.1) es) (filter (λ x. test x.1) es)))) (sym (ap test here ∙ passes))
          (subst (λ (o : Option ℕ). Among serial
          (cons_option o (filter_map (λ x. received_port x.1) (filter (λ x. test x.1) es))))
          (sym (ap received_port here ∙ is)) (inl refl))
      | false ↦ λ (later : _).
          let rest : Among serial (filter_map (λ x. received_port x.1) (filter (λ x. test x.1) es)) =
          found_among test es name serial entry later passes is in
          elim (test e.1) as (λ (b : Bool). Among serial
          (filter_map (λ x. received_port x.1)
          (cond b (e ∷ filter (λ x. test x.1) es) (filter (λ x. test x.1) es)))) [
            | true ↦ among_more serial (received_port e.1)
                (filter_map (λ x. received_port x.1) (filter (λ x. test x.1) es)) rest
            | false ↦ rest
          ]
    ] there

-- No port of which a name of the space holds the receive right is still in the set.
pub none_in_set : (old : Ipc) (names : Names) (set : ℕ) (other : ℕ) (name : ℕ) (entry : Entry) (port : PortState)
    → finmap.get names name ≡ Some entry → received_port entry ≡ Some other
    → finmap.get (actions.members_in old names set None).ports other ≡ Some port → port.set ≡ Some set → ⊥
none_in_set old names set other name entry port at held there is =
    let before = still_in old (actions.serials_of_members old names set) other set port there is in
    before.0 (found_among (is_member old set) (finmap.entries names) name other entry
    (sym (get-entries names name) ∙ at) (member_of old set other entry port held before.1 is) held)

-- A set goes: its members are taken out, and its name ceases to be.

-- a member that is held in another set's space is still held there
alongside_left : (state : Ipc) (space name : ℕ) (names : Names) (serial set : ℕ) (port : PortState)
    → finmap.get state.spaces space ≡ Some names → finmap.get names name ≡ Some Set
    → ((member : ℕ) (entry : Entry) (p : PortState) → finmap.get names member ≡ Some entry
    → received_port entry ≡ Some serial → finmap.get state.ports serial ≡ Some p → p.set ≡ Some name → ⊥)
    → finmap.get state.ports serial ≡ Some port → port.set ≡ Some set → IsHeldAlongsideSet state serial set
    → IsHeldAlongsideSet (with_names state space (finmap.remove names name)) serial set
alongside_left state space name names serial set port there at_set empty live is_in
    (other, held_names, member, entry, at_space, at, is, alongside) =
    elim (number_decided other space)
    as (λ _. IsHeldAlongsideSet (with_names state space (finmap.remove names name)) serial set) [
      | inl apart ↦ (
        other,
        held_names,
        member,
        entry,
        get-there state.spaces space (finmap.remove names name) other apart ∙ at_space,
        at,
        is,
        alongside,
      )
      | inr same ↦
          let same_names : held_names ≡ names =
          some_same held_names names (sym at_space ∙ ap (finmap.get state.spaces) same ∙ there) in
          let at_here : finmap.get names member ≡ Some entry =
          ap (λ (n : Names). finmap.get n member) (sym same_names) ∙ at in
          let alongside_here : finmap.get names set ≡ Some Set =
          ap (λ (n : Names). finmap.get n set) (sym same_names) ∙ alongside in
          let member_apart : member ≢ name =
          λ (e : member ≡ name). cc (sym
          (ap received_port (some_same entry Set (sym at_here ∙ ap (finmap.get names) e ∙ at_set))) ∙ is) in
          let set_apart : set ≢ name =
          λ (e : set ≡ name). empty member entry port at_here is live (is_in ∙ ap (λ (k : ℕ). Some k) e) in (
            space,
            finmap.remove names name,
            member,
            entry,
            get-here state.spaces space (finmap.remove names name),
            get-left names name member member_apart ∙ at_here,
            is,
            get-left names name set set_apart ∙ alongside_here,
          )
    ]

set_move : (cleared : Ipc) (space name : ℕ) (names : Names) → finmap.get cleared.spaces space ≡ Some names
    → finmap.get names name ≡ Some Set → LawfulNames names
    → ((other member : ℕ) (entry : Entry) (port : PortState) → finmap.get names member ≡ Some entry
    → received_port entry ≡ Some other → finmap.get cleared.ports other ≡ Some port → port.set ≡ Some name → ⊥)
    → NamesMove cleared space names (finmap.remove names name) [] []
set_move cleared space name names there at lawful empty = record {
  there = there;
  lawful = remove_lawful names name lawful;
  receives =
      λ (q : ℕ). omega (
        arith,
        total-remove (λ n e. entry_weigh (receive_of q) e) names name,
        ap (weight (λ n e. entry_weigh (receive_of q) e) name) at,
      );
  none_dead = λ (q : ℕ) (dead : _). omega (arith, total-remove (λ n e. entry_weigh (any_of q) e) names name);
  waits = tt;
  members =
      λ (serial set : ℕ) (port : PortState) (live : _) (is : _) (member : _). elim member
      as (λ _. IsHeldAlongsideSet (with_names cleared space (finmap.remove names name)) serial set
      ⊎ IsReleased [] serial) [
        | inl held ↦ inl (alongside_left cleared space name names serial set port there at (empty serial) live is held)
        | inr waits ↦ inr waits
      ];
}

pub set_gone_kept : (old : Ipc) (space name : ℕ) (names : Names) → LawfulAtRest old → Acyclic old
    → finmap.get old.spaces space ≡ Some names → finmap.get names name ≡ Some Set
    → Kept (with_names (actions.members_in old names name None) space (finmap.remove names name)) []
set_gone_kept old space name names lawful acyclic there at =
    let serials : List ℕ = actions.serials_of_members old names name in
    let cleared : Ipc = actions.with_ports old serials taken_out in
    let kept = all_out_kept old serials lawful acyclic in
    let there_still : finmap.get cleared.spaces space ≡ Some names =
    ap (λ (s : finmap.FinMap nat_cmp Names). finmap.get s space) (all_out_spaces old serials) ∙ there in
    record {
      lawful =
          names_move_lawfully cleared space names (finmap.remove names name) [] []
          (set_move cleared space name names there_still at (lawful.spaces space names there).2
          (λ (other member : ℕ) (entry : Entry) (port : PortState) (at_member : _) (held : _) (live : _) (is : _).
          none_in_set old names name other member entry port at_member held live is)) kept.lawful;
      acyclic = kept.acyclic;
    }

-- mach_port_destroy: a set, or any other name
pub destroyed_kept : (old : Ipc) (space name : ℕ) (names : Names) (entry : Entry) → LawfulAtRest old → Acyclic old
    → finmap.get old.spaces space ≡ Some names → finmap.get names name ≡ Some entry
    → Kept (actions.destroyed old space names name entry).state (actions.destroyed old space names name entry).effects
destroyed_kept old space name names (Port rights) lawful acyclic there at =
    gone_kept old space name names (Port rights) lawful acyclic there at tt
destroyed_kept old space name names (SendOnce port target) lawful acyclic there at =
    gone_kept old space name names (SendOnce port target) lawful acyclic there at tt
destroyed_kept old space name names Set lawful acyclic there at =
    set_gone_kept old space name names lawful acyclic there at
destroyed_kept old space name names (Dead references) lawful acyclic there at =
    gone_kept old space name names (Dead references) lawful acyclic there at tt
