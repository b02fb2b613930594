-- mach_port_rename leaves lawful and acyclic states: an entry goes under another name, and a set takes its members
-- along.
use Rattle.std.specs.Prelude.{◌≡◌, ◌≢◌, ◌⊎◌, ℕ, ◌-◌, ◌^◌, ◌<◌, Bool, true, false, cond, T, List, [], ◌∷◌, Option, None, Some, is_some, filter, filter_map, refl}
use Rattle.std.proofs.Common.{sym, ◌∙◌, ap, subst, inl, inr, arith}
use Rattle.std.specs.Cmp.{nat_cmp_total}
use Rattle.std.specs.List.{cons_option}
use Rattle.std.specs.Ordering.{nat_cmp}
use Rattle.std.specs.FinMap as finmap
use Rattle.std.specs.FinMap.{find, get-entries, len-remove, entries_sorted, is_sorted}
use Rattle.std.specs.FinMap.Entries.{below_all}
use Rattle.codes.specs.declared.kern_return.KernReturn.TheVariants.{InvalidName, InvalidValue, NameExists}
use Rattle.ipc_model.specs.declared.plain_call.PlainCall.TheVariants as call
use Rattle.ipc_model.specs.declared.plain_reply.PlainReply.{PlainReply}
use Rattle.ipc_model.specs.declared.entry.Entry.{Entry}
use Rattle.ipc_model.specs.declared.entry.Entry.TheVariants.{Port, SendOnce, Set, Dead}
use Rattle.ipc_model.specs.declared.port.PortState.{PortState}
use Rattle.ipc_model.specs.calls.Actions as actions
use Rattle.ipc_model.specs.calls.Actions.{Done, ActsOn}
use Rattle.ipc_laws.specs.AllocateKeep.{chosen_unused}
use Rattle.ipc_laws.specs.CallsKeep.{Kept, first_passes}
use Rattle.ipc_model.specs.state.Circular.{Acyclic, Carries}
use Rattle.ipc_laws.specs.Dangling.{left_apart, later_found, front_of, back_of}
use Rattle.ipc_model.specs.effects.Effects.{Effect}
use Rattle.ipc_laws.specs.EffectParts.{Parts, any_changed_parts}
use Rattle.ipc_laws.specs.EffectRanks.{fewer_edges, changed_edges}
use Rattle.ipc_laws.specs.EffectWeights.{with_port_weigh, no_port, still_lives}
use Rattle.ipc_laws.specs.EntryChanges.{changed_weight}
use Rattle.ipc_laws.specs.Hands.{MidCall, empty_hand, mid_of, mid_names, named_parts, kept_of_mid}
use Rattle.ipc_model.specs.state.Lawful.{LawfulNames, IsHeldAlongsideSet}
use Rattle.ipc_laws.specs.LawfulLaws.{LawfulAtRest}
use Rattle.ipc_laws.specs.ListLaws.{some_same}
use Rattle.ipc_laws.specs.MapLaws.{get-here, get-there, get-left}
use Rattle.ipc_laws.specs.MapSums.{same_key}
use Rattle.ipc_laws.specs.NameChanges.{names_change, insert_lawful, remove_lawful}
use Rattle.ipc_laws.specs.Others.{number_decided, with_port_lives, with_port_spaces}
use Rattle.ipc_model.specs.calls.PortCalls.{tests_of, is_no_name, is_in_use}
use Rattle.ipc_laws.specs.SetsKeep.{Among, found_among, member_of}
use Rattle.ipc_model.specs.state.Ipc.{Ipc, Names, IsUnused, is_null_or_dead, with_names, with_port, lives, received_port, is_member}
use Rattle.ipc_model.specs.calls.Tests.{Tests, first_failing}
use Rattle.ipc_laws.specs.Weights.{Weight, names_weigh, state_weigh, receive_of, any_of}

-- One entry goes under another name.

abbrev moved_names : Names → ℕ → ℕ → Entry → Names
moved_names names from to entry = finmap.insert (finmap.remove names from) to entry

other_name : (names : Names) (from to : ℕ) (entry : Entry) → finmap.get names from ≡ Some entry
    → finmap.get names to ≡ None → to ≢ from
other_name names from to entry at free same = cc (sym free ∙ ap (finmap.get names) same ∙ at)

still_free : (names : Names) (from to : ℕ) (entry : Entry) → finmap.get names from ≡ Some entry
    → finmap.get names to ≡ None → finmap.get (finmap.remove names from) to ≡ None
still_free names from to entry at free = get-left names from to (other_name names from to entry at free) ∙ free

moved_lawful : (names : Names) (from to : ℕ) (entry : Entry) → LawfulNames names → finmap.get names from ≡ Some entry
    → IsUnused names to → LawfulNames (moved_names names from to entry)
moved_lawful names from to entry lawful at unused =
    insert_lawful (finmap.remove names from) to entry (remove_lawful names from lawful) unused.least unused.below_dead
    (lawful.named from entry at).2
    (λ (_ : _). omega (
      arith,
      lawful.few,
      len-remove nat_cmp_total names from ∙ ap
          (λ (b : Bool). cond b (finmap.len names - 1) (finmap.len names)) (ap is_some at),
    ))
    (λ (other serial : ℕ) (e : Entry) (_ : _) (there : _) (held : _) (held_too : _).
    let apart : other ≢ from = left_apart names from other e there in
    apart (lawful.one_name other from serial e entry (sym (get-left names from other apart) ∙ there) at held_too held))

moved_weigh : (w : Weight) (names : Names) (from to : ℕ) (entry : Entry) → finmap.get names from ≡ Some entry
    → finmap.get names to ≡ None → names_weigh w (moved_names names from to entry) ≡ names_weigh w names
moved_weigh w names from to entry at free =
    omega (
      arith,
      changed_weight w names from (Some entry) None at,
      changed_weight w (finmap.remove names from) to None (Some entry) (still_free names from to entry at free),
    )

-- every other name stands as it did
others_stand : (names : Names) (from to name : ℕ) (entry e : Entry) → finmap.get names to ≡ None
    → finmap.get names name ≡ Some e → name ≢ from → finmap.get (moved_names names from to entry) name ≡ Some e
others_stand names from to name entry e free at apart =
    let not_to : name ≢ to = λ (same : _). cc (sym free ∙ ap (finmap.get names) (sym same) ∙ at) in
    get-there (finmap.remove names from) to entry name not_to ∙ get-left names from name apart ∙ at

-- a member is held in its set's space, whatever its name, if the set itself keeps its name
alongside_moved : (state : Ipc) (space from to serial set : ℕ) (names : Names) (entry : Entry)
    → finmap.get state.spaces space ≡ Some names → finmap.get names from ≡ Some entry → finmap.get names to ≡ None
    → (finmap.get names set ≡ Some Set → set ≢ from) → IsHeldAlongsideSet state serial set
    → IsHeldAlongsideSet (with_names state space (moved_names names from to entry)) serial set
alongside_moved state space from to serial set names entry there at free set_apart
    (other, held_names, name, e, at_space, at_name, is, alongside) =
    let after : Names = moved_names names from to entry in
    elim (number_decided other space) as (λ _. IsHeldAlongsideSet (with_names state space after) serial set) [
      | inl apart ↦ (
        other,
        held_names,
        name,
        e,
        get-there state.spaces space after other apart ∙ at_space,
        at_name,
        is,
        alongside,
      )
      | inr same ↦
          let same_names : held_names ≡ names =
          some_same held_names names (sym at_space ∙ ap (finmap.get state.spaces) same ∙ there) in
          let alongside_here : finmap.get names set ≡ Some Set =
          ap (λ (n : Names). finmap.get n set) (sym same_names) ∙ alongside in
          let at_here : finmap.get names name ≡ Some e =
          ap (λ (n : Names). finmap.get n name) (sym same_names) ∙ at_name in
          let set_stands : finmap.get after set ≡ Some Set =
          others_stand names from to set entry Set free alongside_here (set_apart alongside_here) in
          let space_there : finmap.get (finmap.insert state.spaces space after) space ≡ Some after =
          get-here state.spaces space after in
          elim (number_decided name from) as (λ _. IsHeldAlongsideSet (with_names state space after) serial set) [
            | inl apart ↦ (
              space,
              after,
              name,
              e,
              space_there,
              others_stand names from to name entry e free at_here apart,
              is,
              set_stands,
            )
            | inr named ↦
                let was : entry ≡ e = some_same entry e (sym at ∙ ap (finmap.get names) (sym named) ∙ at_here) in (
                  space,
                  after,
                  to,
                  entry,
                  space_there,
                  get-here (finmap.remove names from) to entry,
                  ap received_port was ∙ is,
                  set_stands,
                )
          ]
    ]

entry_moved : (old : Ipc) (space from to : ℕ) (names : Names) (entry : Entry) → (entry ≡ Set → ⊥) → LawfulAtRest old
    → Acyclic old → finmap.get old.spaces space ≡ Some names → finmap.get names from ≡ Some entry → IsUnused names to
    → Kept (with_names old space (moved_names names from to entry)) []
entry_moved old space from to names entry no_set lawful acyclic there at unused =
    let mid : MidCall old empty_hand = mid_of old lawful acyclic in
    kept_of_mid (with_names old space (moved_names names from to entry)) empty_hand []
    (mid_names old space names (moved_names names from to entry) empty_hand empty_hand (record {
      there = there;
      lawful = moved_lawful names from to entry (lawful.spaces space names there).2 at unused;
      receives = λ (q : ℕ). omega (arith, moved_weigh (receive_of q) names from to entry at unused.free);
      none_dead = λ (q : ℕ) (dead : _). omega (arith, moved_weigh (any_of q) names from to entry at unused.free);
      members = λ (serial set : ℕ) (port : PortState) (_ : _) (_ : _) (held : _).
          alongside_moved old space from to serial set names entry there at unused.free
          (λ (is_set : _) (same : _). no_set
          (some_same entry Set (sym at ∙ ap (finmap.get names) (sym same) ∙ is_set))) held;
    }) mid) tt (λ (q : ℕ). refl)

-- A set takes its members along.

abbrev put_in : ℕ → PortState → PortState
put_in set p = record p { set = Some set }

-- ports are put in a set, and nothing else changes
record PutIn (old new : Ipc) (serials : List ℕ) (set : ℕ) : Type 0 where
  parts : Parts old → Parts new
  spaces : new.spaces ≡ old.spaces
  weights : (w : Weight) → state_weigh w new ≡ state_weigh w old
  lives : (q : ℕ) → lives new q ≡ lives old q
  edges : (outer inner : ℕ) → Carries new outer inner → Carries old outer inner
  members : (serial s : ℕ) (port : PortState) → finmap.get new.ports serial ≡ Some port → port.set ≡ Some s
      → (Among serial serials × (s ≡ set))
      ⊎ ((Among serial serials → ⊥) × (p : PortState) × (finmap.get old.ports serial ≡ Some p) × (p.set ≡ Some s))

same_lives : (state : Ipc) (serial q set : ℕ) → lives (with_port state serial (put_in set)) q ≡ lives state q
same_lives state serial q set =
    elim (lives state q) as (λ (b : Bool). lives state q ≡ b → lives (with_port state serial (put_in set)) q ≡ b) [
      | true ↦ λ (live : _). still_lives state serial q (put_in set) live
      | false ↦ λ (dead : _). with_port_lives state serial (put_in set) q dead
    ] refl

one_weighs : (w : Weight) (state : Ipc) (serial set : ℕ)
    → state_weigh w (with_port state serial (put_in set)) ≡ state_weigh w state
one_weighs w state serial set =
    elim (finmap.get state.ports serial)
    as (λ (o : Option PortState). finmap.get state.ports serial ≡ o
    → state_weigh w (with_port state serial (put_in set)) ≡ state_weigh w state) [
      | None ↦ λ (none : _). ap (state_weigh w) (no_port state serial (put_in set) none)
      | Some port ↦ λ (there : _). omega (arith, with_port_weigh w state serial (put_in set) port there)
    ] refl

one_members : (state : Ipc) (serial set other s : ℕ) (port : PortState)
    → finmap.get (with_port state serial (put_in set)).ports other ≡ Some port → port.set ≡ Some s
    → ((other ≡ serial) × (s ≡ set)) ⊎ ((other ≢ serial) × (finmap.get state.ports other ≡ Some port))
one_members state serial set other s port at is =
    elim (finmap.get state.ports serial) as (λ (o : Option PortState). finmap.get state.ports serial ≡ o
    → finmap.get (elim o as (λ _. Ipc)
    [ None ↦ state | Some p ↦ record state { ports = finmap.insert state.ports serial (put_in set p) } ]).ports
    other ≡ Some port → ((other ≡ serial) × (s ≡ set))
    ⊎ ((other ≢ serial) × (finmap.get state.ports other ≡ Some port))) [
      | None ↦ λ (none : _) (there : _). inr
          ((λ (same : other ≡ serial). cc (sym none ∙ ap (finmap.get state.ports) (sym same) ∙ there)), there)
      | Some p ↦ λ (before : _) (there : finmap.get (finmap.insert state.ports serial (put_in set p)) other
          ≡ Some port). elim (number_decided other serial)
          as (λ _. ((other ≡ serial) × (s ≡ set)) ⊎ ((other ≢ serial) × (finmap.get state.ports other ≡ Some port))) [
            | inl apart ↦ inr (apart, sym (get-there state.ports serial (put_in set p) other apart) ∙ there)
            | inr same ↦
                let now : put_in set p ≡ port =
                some_same (put_in set p) port (sym (get-here state.ports serial (put_in set p))
                ∙ ap (finmap.get (finmap.insert state.ports serial (put_in set p))) (sym same) ∙ there) in
                inl (same, some_same s set (sym is ∙ sym (ap (λ (q : PortState). q.set) now)))
          ]
    ] refl at

all_put_in : (state : Ipc) (serials : List ℕ) (set : ℕ)
    → PutIn state (actions.with_ports state serials (put_in set)) serials set
all_put_in state [] set = record {
  parts = λ (p : _). p;
  spaces = refl;
  weights = λ (w : Weight). refl;
  lives = λ (q : ℕ). refl;
  edges = λ (outer inner : ℕ) (e : _). e;
  members = λ (serial s : ℕ) (port : PortState) (at : _) (is : _). inr ((λ (a : _). a), port, at, is);
}
all_put_in state (serial ∷ serials) set =
    let one : Ipc = with_port state serial (put_in set) in
    let rest : PutIn one (actions.with_ports one serials (put_in set)) serials set = all_put_in one serials set in
    record {
      parts =
          λ (p : _). rest.parts (any_changed_parts state serial (put_in set)
          (λ (port : PortState) (l : _).
          record {
            limit = l.limit;
            sequence_number = l.sequence_number;
            make_send_count = l.make_send_count;
            messages = l.messages;
          }) p);
      spaces = rest.spaces ∙ with_port_spaces state serial (put_in set);
      weights = λ (w : Weight). rest.weights w ∙ one_weighs w state serial set;
      lives = λ (q : ℕ). rest.lives q ∙ same_lives state serial q set;
      edges =
          λ (outer inner : ℕ) (e : _). changed_edges state serial (put_in set)
          (λ (i : ℕ) (p : PortState) (c : _). c) outer inner (rest.edges outer inner e);
      members = λ (other s : ℕ) (port : PortState) (at : _) (is : _).
          elim (rest.members other s port at is)
          as (λ _. (Among other (serial ∷ serials) × (s ≡ set))
          ⊎ ((Among other (serial ∷ serials) → ⊥) × (p : PortState) × (finmap.get state.ports other ≡ Some p)
          × (p.set ≡ Some s))) [
            | inl later ↦ inl (inr later.0, later.1)
            | inr before ↦ elim (one_members state serial set other s before.1 before.2 before.3)
                as (λ _. (Among other (serial ∷ serials) × (s ≡ set))
                ⊎ ((Among other (serial ∷ serials) → ⊥) × (p : PortState) × (finmap.get state.ports other ≡ Some p)
                × (p.set ≡ Some s))) [
                  | inl here ↦ inl (inl here.0, here.1)
                  | inr apart ↦ inr (
                    (λ (a : Among other (serial ∷ serials)). elim a as (λ _. ⊥)
                        [ inl same ↦ apart.0 same | inr among ↦ before.0 among ]),
                    before.1,
                    apart.1,
                    before.3,
                  )
                ]
          ];
    }

-- a port that is among the members is held in the space
record HeldIn (es : List (ℕ × Entry)) (serial : ℕ) : Type 0 where
  name : ℕ
  entry : Entry
  at : find nat_cmp name es ≡ Some entry
  is : received_port entry ≡ Some serial

held_later : (e : ℕ × Entry) (es : List (ℕ × Entry)) (serial : ℕ) → T (is_sorted nat_cmp (e ∷ es)) → HeldIn es serial
    → HeldIn (e ∷ es) serial
held_later e es serial sorted held = record {
  name = held.name;
  entry = held.entry;
  at =
      later_found held.name held.entry e es (front_of (below_all nat_cmp e.0 es) (is_sorted nat_cmp es) sorted) held.at;
  is = held.is;
}

among_held : (test : Entry → Bool) (es : List (ℕ × Entry)) (serial : ℕ) → T (is_sorted nat_cmp es)
    → Among serial (filter_map (λ e. received_port e.1) (filter (λ e. test e.1) es)) → HeldIn es serial
among_held test [] serial sorted among = absurd among
among_held test (e ∷ es) serial sorted among =
    let rest : List ℕ = filter_map (λ x. received_port x.1) (filter (λ x. test x.1) es) in
    let sorted_rest : T (is_sorted nat_cmp es) = back_of (below_all nat_cmp e.0 es) (is_sorted nat_cmp es) sorted in
    elim (test e.1) as (λ (b : Bool). Among serial
    (filter_map (λ x. received_port x.1) (cond b (e ∷ filter (λ x. test x.1) es) (filter (λ x. test x.1) es)))
    → HeldIn (e ∷ es) serial) [
      | true ↦ elim (received_port e.1)
          as (λ (o : Option ℕ). received_port e.1 ≡ o → Among serial (cons_option o rest) → HeldIn (e ∷ es) serial) [
            | None ↦ λ (_ : _) (a : _). held_later e es serial sorted (among_held test es serial sorted_rest a)
            | Some m ↦ λ (held : _) (a : (serial ≡ m) ⊎ Among serial rest). elim a as (λ _. HeldIn (e ∷ es) serial) [
              | inl same ↦ record {
                name = e.0;
                entry = e.1;
                at = ap (λ (b : Bool). cond b (Some e.1) (find nat_cmp e.0 es)) (same_key e.0);
                is = held ∙ ap (λ k. Some k) (sym same);
              }
              | inr later ↦ held_later e es serial sorted (among_held test es serial sorted_rest later)
            ]
          ] refl
      | false ↦ λ (a : _). held_later e es serial sorted (among_held test es serial sorted_rest a)
    ] among

-- a member goes along with its set
moved_alongside : (state : Ipc) (space from to serial set : ℕ) (names : Names)
    → finmap.get state.spaces space ≡ Some names → finmap.get names from ≡ Some Set → finmap.get names to ≡ None
    → HeldIn (finmap.entries names) serial → set ≡ to
    → IsHeldAlongsideSet (with_names state space (moved_names names from to Set)) serial set
moved_alongside state space from to serial set names there at free held is_to =
    let after : Names = moved_names names from to Set in
    let at_name : finmap.get names held.name ≡ Some held.entry = get-entries names held.name ∙ held.at in
    let apart : held.name ≢ from =
    λ (same : _). cc (sym (ap received_port
    (some_same held.entry Set (sym at_name ∙ ap (finmap.get names) same ∙ at))) ∙ held.is) in (
      space,
      after,
      held.name,
      held.entry,
      get-here state.spaces space after,
      others_stand names from to held.name Set held.entry free at_name apart,
      held.is,
      ap (finmap.get after) is_to ∙ get-here (finmap.remove names from) to Set,
    )

-- and any other stays where it was
not_moved_alongside : (state : Ipc) (space from to serial set : ℕ) (names : Names)
    → finmap.get state.spaces space ≡ Some names → finmap.get names from ≡ Some Set → finmap.get names to ≡ None
    → ((name : ℕ) (entry : Entry) → finmap.get names name ≡ Some entry → received_port entry ≡ Some serial → set ≢ from)
    → IsHeldAlongsideSet state serial set
    → IsHeldAlongsideSet (with_names state space (moved_names names from to Set)) serial set
not_moved_alongside state space from to serial set names there at free apart
    (other, held_names, name, e, at_space, at_name, is, alongside) =
    let after : Names = moved_names names from to Set in
    elim (number_decided other space) as (λ _. IsHeldAlongsideSet (with_names state space after) serial set) [
      | inl away ↦ (
        other,
        held_names,
        name,
        e,
        get-there state.spaces space after other away ∙ at_space,
        at_name,
        is,
        alongside,
      )
      | inr same ↦
          let same_names : held_names ≡ names =
          some_same held_names names (sym at_space ∙ ap (finmap.get state.spaces) same ∙ there) in
          let at_here : finmap.get names name ≡ Some e =
          ap (λ (n : Names). finmap.get n name) (sym same_names) ∙ at_name in
          alongside_moved state space from to serial set names Set there at free
          (λ (_ : _). apart name e at_here is) (other, held_names, name, e, at_space, at_name, is, alongside)
    ]

set_moved : (old : Ipc) (space from to : ℕ) (names : Names) → LawfulAtRest old → Acyclic old
    → finmap.get old.spaces space ≡ Some names → finmap.get names from ≡ Some Set → IsUnused names to
    → Kept (with_names (actions.members_in old names from (Some to)) space (moved_names names from to Set)) []
set_moved old space from to names lawful acyclic there at unused =
    let mid : MidCall old empty_hand = mid_of old lawful acyclic in
    let serials : List ℕ = actions.serials_of_members old names from in
    let along : Ipc = actions.with_ports old serials (put_in to) in
    let put : PutIn old along serials to = all_put_in old serials to in
    let after : Names = moved_names names from to Set in
    let there_along : finmap.get along.spaces space ≡ Some names =
    ap (λ (s : finmap.FinMap nat_cmp Names). finmap.get s space) put.spaces ∙ there in
    let weighs : (w : Weight) → state_weigh w (with_names along space after) ≡ state_weigh w old =
    λ (w : Weight). omega (
      arith,
      names_change w along space names after there_along,
      moved_weigh w names from to Set at unused.free,
      put.weights w,
    ) in
    kept_of_mid (with_names along space after) empty_hand [] (record {
      parts =
          named_parts along space names after there_along
          (moved_lawful names from to Set (lawful.spaces space names there).2 at unused) (put.parts mid.parts);
      one_receive =
          λ (q : ℕ) (live : _). omega (arith, mid.one_receive q (sym (put.lives q) ∙ live), weighs (receive_of q));
      none_dangles = λ (q : ℕ) (dead : _). weighs (any_of q) ∙ mid.none_dangles q (sym (put.lives q) ∙ dead);
      in_hand = λ (q : ℕ) (dead : _). refl;
      members = λ (serial set : ℕ) (port : PortState) (live : _) (is : _).
          elim (put.members serial set port live is)
          as (λ _. IsHeldAlongsideSet (with_names along space after) serial set) [
            | inl moved ↦ moved_alongside along space from to serial set names there_along at unused.free
                (among_held (is_member old from) (finmap.entries names) serial (entries_sorted names) moved.0) moved.1
            | inr before ↦
                let held : IsHeldAlongsideSet old serial set = mid.members serial set before.1 before.2 before.3 in
                let held_along : IsHeldAlongsideSet along serial set =
                subst (λ (s : finmap.FinMap nat_cmp Names). IsHeldAlongsideSet
                (record old { spaces = s }) serial set) (sym put.spaces) held in
                not_moved_alongside along space from to serial set names there_along at unused.free
                (λ (name : ℕ) (entry : Entry) (named : _) (receives : _) (same : set ≡ from).
                before.0 (found_among (is_member old from) (finmap.entries names) name serial entry
                (sym (get-entries names name) ∙ named)
                (member_of old from serial entry before.1 receives before.2 (before.3 ∙ ap (λ k. Some k) same))
                receives)) held_along
          ];
      acyclic = fewer_edges old (with_names along space after) put.edges mid.acyclic;
    }) tt (λ (q : ℕ). refl)

renamed_kept : (old : Ipc) (space from to : ℕ) (names : Names) (entry : Entry) → LawfulAtRest old → Acyclic old
    → finmap.get old.spaces space ≡ Some names → finmap.get names from ≡ Some entry → IsUnused names to
    → Kept (actions.renamed old space names from to entry) []
renamed_kept old space from to names (Port rights) lawful acyclic there at unused =
    entry_moved old space from to names (Port rights) (λ (e : _). cc e) lawful acyclic there at unused
renamed_kept old space from to names (SendOnce port target) lawful acyclic there at unused =
    entry_moved old space from to names (SendOnce port target) (λ (e : _). cc e) lawful acyclic there at unused
renamed_kept old space from to names Set lawful acyclic there at unused =
    set_moved old space from to names lawful acyclic there at unused
renamed_kept old space from to names (Dead references) lawful acyclic there at unused =
    entry_moved old space from to names (Dead references) (λ (e : _). cc e) lawful acyclic there at unused

pub rename_kept : (old : Ipc) (space from to : ℕ) (names : Names) (answer : PlainReply) (new : Ipc)
    (effects : List Effect) → to < 2 ^ 32 → LawfulAtRest old → Acyclic old → finmap.get old.spaces space ≡ Some names
    → first_failing (tests_of old space names (call.Rename from to)) ≡ None
    → Done old space names (call.Rename from to) answer new effects → Kept new effects
unfolding Done tests_of
rename_kept old space from to names answer new effects fits lawful acyclic there passes done =
    let last : Tests = (is_in_use names to, NameExists) ∷ [] in
    let named = first_passes (is_no_name names from, InvalidName) ((is_null_or_dead to, InvalidValue) ∷ last) passes in
    let real = first_passes (is_null_or_dead to, InvalidValue) last named.1 in
    let free = first_passes (is_in_use names to, NameExists) [] real.1 in
    elim (finmap.get names from) as (λ (o : Option Entry). finmap.get names from ≡ o
    → ActsOn o (λ entry. actions.done_with 3 (actions.renamed old space names from to entry) []) answer new effects
    → Kept new effects) [
      | None ↦ λ (_ : _) (acts : _). absurd acts
      | Some entry ↦ λ (at : _) (acts : _).
          subst (λ (s : Ipc). Kept s effects) (sym acts.1)
          (subst (λ (l : List Effect). Kept (actions.renamed old space names from to entry) l) (sym acts.2)
          (renamed_kept old space from to names entry lawful acyclic there at
          (chosen_unused names to real.0 free.0 fits)))
    ] refl done
