-- Calls whose own action is shown to leave an acyclic state that is lawful with its effects: every call that is refused
-- or changes nothing, and those that set what a port keeps.
use Rattle.std.specs.Prelude.{◌≡◌, ◌⊎◌, ℕ, ◌+◌, ◌^◌, ◌<◌, ◌≤◌, Bool, true, false, cond, not, nat_lt, ◌==◌, List, [], ◌∷◌, Option, None, Some, is_some, if◌then◌else◌, refl}
use Rattle.std.proofs.Common.{sym, ◌∙◌, ap, subst, inl, arith}
use Rattle.std.proofs.lemmas.Bool.{ltb-false, eq-eqb}
use Rattle.std.specs.FinMap as finmap
use Rattle.codes.specs.declared.kern_return.KernReturn.{KernReturn}
use Rattle.codes.specs.declared.kern_return.KernReturn.TheVariants.{InvalidName, InvalidRight, InvalidValue, NotInSet}
use Rattle.codes.specs.declared.limits.TheConstants.{MAX_QUEUE_LIMIT}
use Rattle.codes.specs.declared.name.TheConstants.{MACH_PORT_NULL}
use Rattle.ipc_model.specs.declared.plain_call.PlainCall.{PlainCall}
use Rattle.ipc_model.specs.declared.plain_call.PlainCall.TheVariants as call
use Rattle.ipc_model.specs.declared.plain_reply.PlainReply.{PlainReply}
use Rattle.ipc_model.specs.declared.entry.Entry.{Entry}
use Rattle.ipc_model.specs.declared.entry.Entry.TheVariants.{Port, SendOnce, Set, Dead}
use Rattle.ipc_model.specs.declared.message.RightKind.TheVariants as kind
use Rattle.ipc_model.specs.declared.port.PortState.{PortState}
use Rattle.ipc_model.specs.calls.Actions as actions
use Rattle.ipc_model.specs.calls.Actions.{Action, Acts, ActsOn, Done}
use Rattle.ipc_model.specs.state.Circular.{Acyclic}
use Rattle.ipc_model.specs.effects.Effects.{Effect}
use Rattle.ipc_laws.specs.EffectsKeep.{dangles_none, entry_part}
use Rattle.ipc_model.specs.state.Lawful.{LawfulBut, IsHeldAlongsideSet, IsReleased}
use Rattle.ipc_laws.specs.LawfulLaws.{LawfulAtRest}
use Rattle.ipc_laws.specs.ListLaws.{some_same}
use Rattle.ipc_model.specs.calls.PortCalls.{tests_of, name_is, entry_is, is_set, is_no_name, has_receive, is_in_some_set}
use Rattle.ipc_laws.specs.PortChanges.{PortMove, port_moves_lawfully}
use Rattle.ipc_model.specs.state.Ipc.{Ipc, Names, with_port, received_port}
use Rattle.ipc_model.specs.calls.Tests.{Tests, first_failing}
use Rattle.ipc_model.specs.encodings.PlainCalls.{FitsCall}
use Rattle.ipc_laws.specs.Weights.{Weight, target_weigh, entry_weigh, any_of}

-- what is shown: the state that a call's own action leaves is lawful with the effects, and acyclic
pub record Kept (new : Ipc) (effects : List Effect) : Type 0 where
  pub lawful : LawfulBut new effects
  pub acyclic : Acyclic new

pub kept_as : (old new : Ipc) (effects : List Effect) → LawfulAtRest old → Acyclic old → new ≡ old → effects ≡ []
    → Kept new effects
kept_as old new effects lawful acyclic same none =
    subst (λ (s : Ipc). Kept s effects) (sym same)
    (subst (λ (l : List Effect). Kept old l) (sym none) (record { lawful = lawful; acyclic = acyclic }))

-- a port whose receive right stands under a name is live

pub received_weighs : (serial : ℕ) (entry : Entry) → received_port entry ≡ Some serial
    → 1 ≤ entry_weigh (any_of serial) entry
received_weighs serial (Port rights) is =
    elim rights.receive as (λ (b : Bool). (if b then Some rights.port else None) ≡ Some serial
    → 1 ≤ (if b then any_of serial kind.Receive rights.port else 0) +
    ((if rights.send == 0 then 0 else any_of serial kind.Send rights.port) + target_weigh
    (any_of serial) rights.dead_name_target)) [
      | true ↦ λ (e : _). omega (
        arith,
        ap {B = ℕ} (λ (b : Bool). cond b 1 0) (eq-eqb rights.port serial (some_same rights.port serial e)),
      )
      | false ↦ λ (e : _). absurd (cc e)
    ] is
received_weighs serial (SendOnce port target) is = absurd (cc is)
received_weighs serial Set is = absurd (cc is)
received_weighs serial (Dead references) is = absurd (cc is)

pub received_lives : (state : Ipc) (effects : List Effect) (space name serial : ℕ) (names : Names) (entry : Entry)
    → LawfulBut state effects → finmap.get state.spaces space ≡ Some names → finmap.get names name ≡ Some entry
    → received_port entry ≡ Some serial → (port : PortState) × (finmap.get state.ports serial ≡ Some port)
received_lives state effects space name serial names entry lawful there at is =
    elim (finmap.get state.ports serial)
    as (λ (o : Option PortState). finmap.get state.ports serial ≡ o → (port : PortState) × (o ≡ Some port)) [
      | None ↦ λ (none : _). absurd (omega (
        arith,
        received_weighs serial entry is,
        entry_part (any_of serial) state space name names entry there at,
        dangles_none state effects lawful serial (ap is_some none),
      ))
      | Some port ↦ λ (here : _). (port, refl)
    ] refl

-- a call that sets what the port keeps whose receive right a name holds
set_kept : (old new : Ipc) (space name : ℕ) (names : Names) (entry : Entry) (change : PortState → PortState)
    (effects : List Effect) → LawfulAtRest old → Acyclic old
    → finmap.get old.spaces space ≡ Some names → finmap.get names name ≡ Some entry
    → ((serial : ℕ) (port : PortState) → received_port entry ≡ Some serial → finmap.get old.ports serial ≡ Some port
    → PortMove old [] serial change)
    → new ≡ actions.with_received old entry change → effects ≡ [] → Kept new effects
set_kept old new space name names entry change effects lawful acyclic there at moves is none =
    elim (received_port entry) as (λ (o : Option ℕ). received_port entry ≡ o
    → new ≡ (elim o as (λ _. Ipc) [ None ↦ old | Some serial ↦ with_port old serial change ]) → Kept new effects) [
      | None ↦ λ (absent : _) (same : _). kept_as old new effects lawful acyclic same none
      | Some serial ↦ λ (held : _) (same : _).
          let live = received_lives old [] space name serial names entry lawful there at held in
          let kept = port_moves_lawfully old [] serial change (moves serial live.0 held live.1) lawful acyclic in
          subst (λ (s : Ipc). Kept s effects) (sym same)
          (subst (λ (l : List Effect). Kept (with_port old serial change) l) (sym none)
          (record { lawful = kept.0; acyclic = kept.1 }))
    ] refl is

-- tests that pass

pub first_passes : (test : Bool × KernReturn) (tests : Tests) → first_failing (test ∷ tests) ≡ None → (test.0 ≡ false)
    × (first_failing tests ≡ None)
first_passes test tests none =
    elim test.0 as (λ (b : Bool). (if b then Some test.1 else first_failing tests) ≡ None → (b ≡ false)
    × (first_failing tests ≡ None)) [
      | true ↦ λ (e : _). absurd (cc e)
      | false ↦ λ (e : _). (refl, e)
    ] none

limit_fits : (limit : ℕ) → nat_lt MAX_QUEUE_LIMIT limit ≡ false → limit ≤ MAX_QUEUE_LIMIT
limit_fits limit passes = ltb-false MAX_QUEUE_LIMIT limit passes

by_entry_kept : (old new : Ipc) (space name : ℕ) (names : Names) (change : PortState → PortState) (number : ℕ)
    (answer : PlainReply) (effects : List Effect) → LawfulAtRest old → Acyclic old → finmap.get old.spaces space ≡ Some names
    → ((entry : Entry) (serial : ℕ) (port : PortState) → finmap.get names name ≡ Some entry
    → received_port entry ≡ Some serial → finmap.get old.ports serial ≡ Some port → PortMove old [] serial change)
    → ActsOn (finmap.get names name)
    (λ entry. actions.done_with number (actions.with_received old entry change) []) answer new effects
    → Kept new effects
by_entry_kept old new space name names change number answer effects lawful acyclic there moves acts =
    elim (finmap.get names name) as (λ (o : Option Entry). finmap.get names name ≡ o
    → ActsOn o (λ entry. actions.done_with number (actions.with_received old entry change) []) answer new effects
    → Kept new effects) [
      | None ↦ λ (none : _) (a : _). absurd a
      | Some entry ↦ λ (at : _) (a : _). set_kept old new space name names entry change effects lawful acyclic there at
          (λ (serial : ℕ) (port : PortState) (held : _) (live : _). moves entry serial port at held live) a.1 a.2
    ] refl acts

-- each of the calls that set what a port keeps

limit_move : (old : Ipc) (serial limit : ℕ) (port : PortState) → LawfulAtRest old
    → finmap.get old.ports serial ≡ Some port → limit ≤ MAX_QUEUE_LIMIT
    → PortMove old [] serial (λ p. record p { limit = limit })
limit_move old serial limit port lawful there fits = record {
  port = port;
  there = there;
  lawful =
      λ (p : PortState) (l : _). record {
        limit = fits;
        sequence_number = l.sequence_number;
        make_send_count = l.make_send_count;
        messages = l.messages;
      };
  rights = λ (w : Weight). refl;
  carried = λ (inner : ℕ) (p : PortState) (e : _). e;
  member = λ (set : ℕ) (is : _). lawful.sets serial set port there is;
}

make_send_move : (old : Ipc) (serial count : ℕ) (port : PortState) → LawfulAtRest old
    → finmap.get old.ports serial ≡ Some port → count < 2 ^ 32
    → PortMove old [] serial (λ p. record p { make_send_count = count })
make_send_move old serial count port lawful there fits = record {
  port = port;
  there = there;
  lawful =
      λ (p : PortState) (l : _). record {
        limit = l.limit;
        sequence_number = l.sequence_number;
        make_send_count = fits;
        messages = l.messages;
      };
  rights = λ (w : Weight). refl;
  carried = λ (inner : ℕ) (p : PortState) (e : _). e;
  member = λ (set : ℕ) (is : _). lawful.sets serial set port there is;
}

sequence_move : (old : Ipc) (serial seqno : ℕ) (port : PortState) → LawfulAtRest old
    → finmap.get old.ports serial ≡ Some port → seqno < 2 ^ 32
    → PortMove old [] serial (λ p. record p { sequence_number = seqno })
sequence_move old serial seqno port lawful there fits = record {
  port = port;
  there = there;
  lawful =
      λ (p : PortState) (l : _). record {
        limit = l.limit;
        sequence_number = fits;
        make_send_count = l.make_send_count;
        messages = l.messages;
      };
  rights = λ (w : Weight). refl;
  carried = λ (inner : ℕ) (p : PortState) (e : _). e;
  member = λ (set : ℕ) (is : _). lawful.sets serial set port there is;
}

-- the port gets a set that stands in the space which holds its receive right, or none
set_move : (old : Ipc) (space member serial after : ℕ) (names : Names) (entry : Entry) (port : PortState)
    → LawfulAtRest old → finmap.get old.spaces space ≡ Some names → finmap.get names member ≡ Some entry
    → received_port entry ≡ Some serial
    → finmap.get old.ports serial ≡ Some port → ((after == MACH_PORT_NULL) ≡ false → finmap.get names after ≡ Some Set)
    → PortMove old [] serial (λ p. record p { set = actions.set_named after })
set_move old space member serial after names entry port lawful there at held live is_set = record {
  port = port;
  there = live;
  lawful =
      λ (p : PortState) (l : _). record {
        limit = l.limit;
        sequence_number = l.sequence_number;
        make_send_count = l.make_send_count;
        messages = l.messages;
      };
  rights = λ (w : Weight). refl;
  carried = λ (inner : ℕ) (p : PortState) (e : _). e;
  member =
      λ (set : ℕ) (is : _). elim (after == MACH_PORT_NULL)
      as (λ (b : Bool). (after == MACH_PORT_NULL) ≡ b → (if b then None else Some after) ≡ Some set
      → IsHeldAlongsideSet old serial set ⊎ IsReleased [] serial) [
        | true ↦ λ (null : _) (e : _). absurd (cc e)
        | false ↦ λ (named : _) (e : _). inl (
          space,
          names,
          member,
          entry,
          there,
          at,
          held,
          ap (finmap.get names) (sym (some_same after set e)) ∙ is_set named,
        )
      ] refl is;
}

is_set_entry : (o : Option Entry) → entry_is is_set o ≡ true → o ≡ Some Set
is_set_entry None e = absurd (cc e)
is_set_entry (Some (Port rights)) e = absurd (cc e)
is_set_entry (Some (SendOnce port target)) e = absurd (cc e)
is_set_entry (Some Set) e = refl
is_set_entry (Some (Dead references)) e = absurd (cc e)

not_not : (b : Bool) → not b ≡ false → b ≡ true
not_not true e = refl
not_not false e = absurd (cc e)

-- The calls that change nothing, or only what a port keeps besides its rights.
abbrev pub is_simple : PlainCall → Bool
is_simple (call.Attach space) = true
is_simple call.Names = true
is_simple (call.Type name) = true
is_simple (call.GetRefs name kind) = true
is_simple (call.GetReceiveStatus name) = true
is_simple (call.GetSetStatus name) = true
is_simple (call.SetQlimit name limit) = true
is_simple (call.SetMscount name count) = true
is_simple (call.SetSeqno name seqno) = true
is_simple (call.MoveMember member after) = true
is_simple c = false

same_kept : (old new : Ipc) (action : Action) (answer : PlainReply) (effects : List Effect) → LawfulAtRest old
    → Acyclic old → action.state ≡ old → action.effects ≡ [] → Acts action answer new effects → Kept new effects
same_kept old new action answer effects lawful acyclic same none acts =
    kept_as old new effects lawful acyclic (acts.1 ∙ same) (acts.2 ∙ none)

same_on_kept : (old new : Ipc) (o : Option Entry) (action : Entry → Action) (answer : PlainReply) (effects : List Effect)
    → LawfulAtRest old → Acyclic old → ((e : Entry) → (action e).state ≡ old) → ((e : Entry) → (action e).effects ≡ [])
    → ActsOn o action answer new effects → Kept new effects
same_on_kept old new None action answer effects lawful acyclic same none acts = absurd acts
same_on_kept old new (Some entry) action answer effects lawful acyclic same none acts =
    same_kept old new (action entry) answer effects lawful acyclic (same entry) (none entry) acts

status_same : (old : Ipc) (o : Option ℕ) → (actions.status_action_of old o).state ≡ old
status_same old None = refl
status_same old (Some serial) =
    elim (finmap.get old.ports serial) as (λ (o : Option PortState). (actions.status_action old o serial).state ≡ old)
    [ None ↦ refl | Some port ↦ refl ]

status_none : (old : Ipc) (o : Option ℕ) → (actions.status_action_of old o).effects ≡ []
status_none old None = refl
status_none old (Some serial) =
    elim (finmap.get old.ports serial) as (λ (o : Option PortState). (actions.status_action old o serial).effects ≡ [])
    [ None ↦ refl | Some port ↦ refl ]

tests_of_after : Ipc → Names → ℕ → Bool → ℕ → Tests
tests_of_after old names member null after =
    if null then (not (name_is (is_in_some_set old) names member), NotInSet) ∷ []
    else (is_no_name names after, InvalidName) ∷ (not (name_is is_set names after), InvalidRight) ∷ []

after_is_set : (old : Ipc) (names : Names) (member after : ℕ)
    → first_failing ((is_no_name names member, InvalidName) ∷
    (not (name_is has_receive names member), InvalidRight) ∷ tests_of_after old names member
    (after == MACH_PORT_NULL) after) ≡ None
    → (after == MACH_PORT_NULL) ≡ false → finmap.get names after ≡ Some Set
unfolding tests_of_after
after_is_set old names member after passes named =
    let rest =
    (first_passes (not (name_is has_receive names member), InvalidRight)
    (tests_of_after old names member (after == MACH_PORT_NULL) after)
    (first_passes (is_no_name names member, InvalidName)
    ((not (name_is has_receive names member), InvalidRight) ∷ tests_of_after old names member
    (after == MACH_PORT_NULL) after) passes).1).1 in
    let named_tests : first_failing (tests_of_after old names member false after) ≡ None =
    ap (λ (b : Bool). first_failing (tests_of_after old names member b after)) (sym named) ∙ rest in
    let second =
    (first_passes (is_no_name names after, InvalidName)
    ((not (name_is is_set names after), InvalidRight) ∷ []) named_tests).1 in
    is_set_entry (finmap.get names after)
    (not_not (name_is is_set names after)
    (first_passes (not (name_is is_set names after), InvalidRight) [] second).0)

-- Such a call's own action leaves a state that is lawful with its effects, and acyclic.
pub simple_kept : (old : Ipc) (space : ℕ) (names : Names) (c : PlainCall) (answer : PlainReply) (new : Ipc)
    (effects : List Effect) → is_simple c ≡ true → FitsCall c → LawfulAtRest old → Acyclic old
    → finmap.get old.spaces space ≡ Some names
    → first_failing (tests_of old space names c) ≡ None → Done old space names c answer new effects → Kept new effects
unfolding Done tests_of tests_of_after
simple_kept old space names (call.Attach other) answer new effects shown fits lawful acyclic there passes done =
    same_kept old new _ answer effects lawful acyclic refl refl done
simple_kept old space names call.Names answer new effects shown fits lawful acyclic there passes done =
    same_kept old new _ answer effects lawful acyclic refl refl done
simple_kept old space names (call.Type name) answer new effects shown fits lawful acyclic there passes done =
    same_on_kept old new _ _ answer effects lawful acyclic (λ (e : Entry). refl) (λ (e : Entry). refl) done
simple_kept old space names (call.GetRefs name kind) answer new effects shown fits lawful acyclic there passes done =
    same_on_kept old new _ _ answer effects lawful acyclic (λ (e : Entry). refl) (λ (e : Entry). refl) done
simple_kept old space names (call.GetReceiveStatus name) answer new effects shown fits lawful acyclic there passes
    done =
    same_on_kept old new (finmap.get names name)
    (λ (entry : Entry). actions.status_action_of old (received_port entry)) answer effects lawful acyclic
    (λ (e : Entry). status_same old (received_port e)) (λ (e : Entry). status_none old (received_port e)) done
simple_kept old space names (call.GetSetStatus name) answer new effects shown fits lawful acyclic there passes done =
    same_kept old new _ answer effects lawful acyclic refl refl done
simple_kept old space names (call.SetQlimit name limit) answer new effects shown fits lawful acyclic there passes done =
    let small : limit ≤ MAX_QUEUE_LIMIT =
    limit_fits limit (first_passes (nat_lt MAX_QUEUE_LIMIT limit, InvalidValue)
    ((is_no_name names name, InvalidName) ∷ (not (name_is has_receive names name), InvalidRight) ∷ []) passes).0
    in
    by_entry_kept old new space name names
    (λ (p : PortState). record p { limit = limit }) 10 answer effects lawful acyclic there
    (λ (entry : Entry) (serial : ℕ) (port : PortState) (at : _) (held : _) (live : _). limit_move old serial
    limit port lawful live small) done
simple_kept old space names (call.SetMscount name count) answer new effects shown fits lawful acyclic there passes
    done =
    by_entry_kept old new space name names
    (λ (p : PortState). record p { make_send_count = count }) 11 answer effects lawful acyclic there
    (λ (entry : Entry) (serial : ℕ) (port : PortState) (at : _) (held : _) (live : _). make_send_move old serial
    count port lawful live fits.1) done
simple_kept old space names (call.SetSeqno name seqno) answer new effects shown fits lawful acyclic there passes done =
    by_entry_kept old new space name names
    (λ (p : PortState). record p { sequence_number = seqno }) 12 answer effects lawful acyclic there
    (λ (entry : Entry) (serial : ℕ) (port : PortState) (at : _) (held : _) (live : _). sequence_move old serial
    seqno port lawful live fits.1) done
simple_kept old space names (call.MoveMember member after) answer new effects shown fits lawful acyclic there passes
    done =
    by_entry_kept old new space member names
    (λ (p : PortState). record p { set = actions.set_named after }) 15 answer effects lawful acyclic there
    (λ (entry : Entry) (serial : ℕ) (port : PortState) (at : _) (held : _) (live : _). set_move old space member serial
    after names entry port lawful there at held live (after_is_set old names member after passes)) done
simple_kept old space names c answer new effects shown fits lawful acyclic there passes done = absurd (cc shown)
