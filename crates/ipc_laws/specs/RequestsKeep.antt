-- mach_port_request_notification leaves a state that is lawful with the effects.
use Rattle.std.specs.Prelude.{◌≡◌, ℕ, ◌+◌, ◌<◌, Bool, true, false, not, ◌&&◌, ◌||◌, ◌==◌, nat_le, List, [], ◌∷◌, ◌++◌, Option, None, Some, is_some, is_none, option_and_then, if◌then◌else◌, refl}
use Rattle.std.proofs.Common.{sym, ◌∙◌, ap, subst, arith}
use Rattle.std.proofs.lemmas.Bool.{leb-false}
use Rattle.std.specs.Cmp.{nat_cmp_total}
use Rattle.std.specs.FinMap as finmap
use Rattle.std.specs.FinMap.{len-insert}
use Rattle.codes.specs.declared.kern_return.KernReturn.TheVariants.{InvalidName, InvalidRight, InvalidValue, InvalidArgument, InvalidCapability, UrefsOverflow, NoSpace}
use Rattle.codes.specs.declared.limits.TheConstants.{MAX_NAMES, MAX_DEAD_REFERENCES}
use Rattle.codes.specs.declared.name.TheConstants.{MACH_PORT_NULL}
use Rattle.ipc_model.specs.declared.plain_call.PlainCall.TheVariants as call
use Rattle.ipc_model.specs.declared.plain_reply.PlainReply.{PlainReply}
use Rattle.ipc_model.specs.declared.entry.Entry.{Entry}
use Rattle.ipc_model.specs.declared.entry.Entry.TheVariants.{Port, SendOnce, Set, Dead}
use Rattle.ipc_model.specs.declared.message.PortInMessage.{PortInMessage}
use Rattle.ipc_model.specs.declared.message.PortInMessage.TheVariants as in_message
use Rattle.ipc_model.specs.declared.message.RightKind.{RightKind}
use Rattle.ipc_model.specs.declared.message.RightKind.TheVariants as kind
use Rattle.ipc_model.specs.declared.port.PortState.{PortState}
use Rattle.ipc_model.specs.calls.Actions.{Done, Requested, TakenTarget, taken_target, GivesBack, request_set, request_set_under, port_request_set, dead_name_request_set, lacks_senders, make_send_count_of}
use Rattle.ipc_laws.specs.Arrivals.{fresh_mid}
use Rattle.ipc_laws.specs.CallsKeep.{Kept, first_passes, received_weighs}
use Rattle.ipc_model.specs.state.Circular.{Acyclic}
use Rattle.ipc_model.specs.rights.CopyIn.{Taken, copy_in}
use Rattle.ipc_model.specs.rights.Dispositions.{Disposition, MoveSendOnce, MakeSendOnce, received_kind}
use Rattle.ipc_model.specs.effects.Effects.{Effect, notify}
use Rattle.ipc_laws.specs.EffectRanks.{fewer_edges, changed_edges}
use Rattle.ipc_laws.specs.EffectWeights.{lives_some}
use Rattle.ipc_laws.specs.Hands.{Hand, MidCall, PortStep, empty_hand, mid_of, mid_hand, mid_entry, mid_port, kept_of_mid}
use Rattle.ipc_model.specs.state.Lawful.{LawfulNames, LawfulEntry, LawfulPort}
use Rattle.ipc_laws.specs.LawfulLaws.{LawfulAtRest}
use Rattle.ipc_laws.specs.ListLaws.{some_same}
use Rattle.ipc_laws.specs.MapLaws.{get-here}
use Rattle.ipc_laws.specs.NameChanges.{insert_lawful}
use Rattle.ipc_model.specs.messages.Notices as notice
use Rattle.ipc_laws.specs.Others.{number_same, with_port_spaces}
use Rattle.ipc_model.specs.calls.PortCalls.{tests_of, tests_of_copy_in, tests_of_notify, tests_of_request, tests_of_variant, names_in, is_no_name, names_are_used_up, is_variant, name_is, entry_is, is_set, is_dead, dead_references, notify_disposition, target_under, target_now, target_of_port}
use Rattle.ipc_laws.specs.ReferencesKeep.{changed_space}
use Rattle.ipc_laws.specs.RightsKeep.{copied_in, names_are}
use Rattle.ipc_model.specs.messages.Sending.{live_port}
use Rattle.ipc_model.specs.state.Ipc.{Ipc, Names, IsUnused, with_names, with_entry, with_port, port_held, received_port, request_of, entry_at}
use Rattle.ipc_laws.specs.Takes.{Quiet, quiet_none, quiet_both, MidTaken, taken_mid, kind_taken, with_right, weighs_live}
use Rattle.ipc_model.specs.calls.Tests.{Tests, first_failing}
use Rattle.ipc_laws.specs.Weights.{Weight, target_weigh, entry_weigh, receive_of, any_of}

-- the target of a request in hand, if there is one: a send-once right
abbrev target_hand : Option ℕ → Hand
target_hand target w = target_weigh w target

-- What is shown where a request is set: the former target is in hand, the effects hold no receive right, and the space
-- has as many names.
record MidRequest (space : ℕ) (names : Names) (after : Ipc × List Effect) (former : Option ℕ) : Type 0 where
  mid : MidCall after.0 (target_hand former)
  quiet : Quiet after.1
  later : Names
  there : finmap.get after.0.spaces space ≡ Some later
  long : finmap.len later ≡ finmap.len names

no_receive : (q : ℕ) (target : Option ℕ) → target_weigh (receive_of q) target ≡ 0
no_receive q None = refl
no_receive q (Some serial) = refl

-- a target that isn't kept leaves the hand
let_go : (state : Ipc) (target : Option ℕ) → MidCall state (target_hand target) → MidCall state (target_hand None)
let_go state target mid =
    mid_hand state (target_hand target) (target_hand None) mid (λ (q : ℕ). sym (no_receive q target))
    (λ (q : ℕ) (dead : _). omega arith)

unchanged : (state : Ipc) (space : ℕ) (names : Names) (target : Option ℕ) → MidCall state (target_hand target)
    → finmap.get state.spaces space ≡ Some names → MidRequest space names (state, []) None
unchanged state space names target mid there =
    record { mid = let_go state target mid; quiet = quiet_none; later = names; there = there; long = refl }

-- a dead-name request, kept with the name

kept_with_name : (state : Ipc) (space name : ℕ) (names : Names) (before after : Entry) (target former : Option ℕ)
    (effects : List Effect) → Quiet effects → MidCall state (target_hand target)
    → finmap.get state.spaces space ≡ Some names → finmap.get names name ≡ Some before
    → LawfulEntry after → ((serial : ℕ) → port_held after ≡ Some serial → port_held before ≡ Some serial)
    → ((w : Weight) → entry_weigh w after + target_weigh w former ≡ entry_weigh w before + target_weigh w target)
    → received_port after ≡ received_port before
    → (before ≡ Set → ⊥) → MidRequest space names (with_entry state space name after, effects) former
kept_with_name state space name names before after target former effects quiet mid there at fits holds weighs receives
    not_a_set =
    let own = (mid.parts.spaces space names there).2 in
    let bounds = own.named name before at in
    let lawful : LawfulNames (finmap.insert names name after) =
    insert_lawful names name after own bounds.0 bounds.1 fits (λ (none : _). absurd (cc (sym none ∙ at)))
    (λ (other serial : ℕ) (e : Entry) (apart : _) (at_other : _) (held : _) (held_too : _). apart
    (own.one_name other name serial e before at_other at held_too (holds serial held))) in
    let same : with_entry state space name after ≡ with_names state space (finmap.insert names name after) =
    changed_space state space names (λ (n : Names). finmap.insert n name after) there in
    let step : MidCall (with_names state space (finmap.insert names name after)) (target_hand former) =
    mid_entry state space name names (Some before) (Some after) (target_hand target) (target_hand former) (record {
      there = there;
      at = at;
      lawful = lawful;
      receives = λ (q : ℕ). weighs (receive_of q);
      none_dead = λ (q : ℕ) (dead : _). omega (arith, weighs (any_of q));
      held = λ (serial set : ℕ) (_ : PortState) (_ : _) (_ : _) (is : _). receives ∙ is;
      set = λ (e : _). absurd (not_a_set (some_same before Set e));
    }) mid in
    record {
      mid = subst (λ (s : Ipc). MidCall s (target_hand former)) (sym same) step;
      quiet = quiet;
      later = finmap.insert names name after;
      there =
          ap (λ (s : Ipc). finmap.get s.spaces space) same
          ∙ get-here state.spaces space (finmap.insert names name after);
      long =
          len-insert nat_cmp_total names name after ∙ ap
          (λ (b : Bool). if b then finmap.len names else finmap.len names + 1) (ap is_some at);
    }

set_of_name : (state : Ipc) (space name : ℕ) (names : Names) (entry : Entry) (target : Option ℕ)
    → MidCall state (target_hand target) → finmap.get state.spaces space ≡ Some names
    → finmap.get names name ≡ Some entry
    → ((references : ℕ) → entry ≡ Dead references → is_some target ≡ true → references < MAX_DEAD_REFERENCES)
    → MidRequest space names (dead_name_request_set state space name target entry) (request_of entry)
set_of_name state space name names (Port rights) target mid there at room =
    kept_with_name state space name names (Port rights)
    (Port (record rights { dead_name_target = target })) target rights.dead_name_target [] quiet_none mid there at
    ((mid.parts.spaces space names there).2.named name (Port rights) at).2
    (λ (serial : ℕ) (held : _). held) (λ (w : Weight). omega arith) refl (λ (e : _). cc e)
set_of_name state space name names (SendOnce port former) target mid there at room =
    kept_with_name state space name names (SendOnce port former) (SendOnce port target) target former
    [] quiet_none mid there at tt (λ (serial : ℕ) (held : _). held) (λ (w : Weight). omega arith) refl
    (λ (e : _). cc e)
set_of_name state space name names Set target mid there at room = unchanged state space names target mid there
set_of_name state space name names (Dead references) None mid there at room = unchanged state space names None mid there
set_of_name state space name names (Dead references) (Some target) mid there at room =
    kept_with_name state space name names (Dead references) (Dead (references + 1)) None None
    (notify target (notice.DeadName name) ∷ []) (record { waits = (tt, tt); receives = λ (q : ℕ). refl })
    (let_go state (Some target) mid) there at
    (omega arith, omega (arith, room references refl refl)) (λ (serial : ℕ) (held : _). absurd (cc held))
    (λ (w : Weight). refl) refl (λ (e : _). cc e)

-- a request that the port keeps

abbrev with_destroyed : Option ℕ → PortState → PortState
with_destroyed target p = record p { port_destroyed_target = target }

abbrev with_senders : Option ℕ → PortState → PortState
with_senders target p = record p { no_senders_target = target }

kept_with_port : (state : Ipc) (space serial : ℕ) (names : Names) (port : PortState) (change : PortState → PortState)
    (target former : Option ℕ) (effects : List Effect) → Quiet effects → MidCall state (target_hand target)
    → finmap.get state.spaces space ≡ Some names
    → finmap.get state.ports serial ≡ Some port → PortStep state serial change (target_hand target) (target_hand former)
    → MidRequest space names (with_port state serial change, effects) former
kept_with_port state space serial names port change target former effects quiet mid there at step = record {
  mid = mid_port state serial change (target_hand target) (target_hand former) step mid;
  quiet = quiet;
  later = names;
  there = ap (λ (s : finmap.FinMap _ Names). finmap.get s space) (with_port_spaces state serial change) ∙ there;
  long = refl;
}

destroyed_step : (state : Ipc) (serial : ℕ) (port : PortState) (target : Option ℕ)
    → MidCall state (target_hand target) → finmap.get state.ports serial ≡ Some port
    → PortStep state serial (with_destroyed target) (target_hand target) (target_hand port.port_destroyed_target)
destroyed_step state serial port target mid at =
    let lawful : LawfulPort port = (mid.parts.ports serial port at).2 in
    record {
      port = port;
      there = at;
      lawful =
          record {
            limit = lawful.limit;
            sequence_number = lawful.sequence_number;
            make_send_count = lawful.make_send_count;
            messages = lawful.messages;
          };
      receives = λ (q : ℕ). omega arith;
      none_dead = λ (q : ℕ) (dead : _). omega arith;
      set = λ (set : ℕ) (is : _). is;
      acyclic =
          fewer_edges state (with_port state serial (with_destroyed target))
          (changed_edges state serial (with_destroyed target) (λ (inner : ℕ) (p : PortState) (e : _). e))
          mid.acyclic;
    }

senders_step : (state : Ipc) (serial : ℕ) (port : PortState) (target : Option ℕ) → MidCall state (target_hand target)
    → finmap.get state.ports serial ≡ Some port
    → PortStep state serial (with_senders target) (target_hand target) (target_hand port.no_senders_target)
senders_step state serial port target mid at =
    let lawful : LawfulPort port = (mid.parts.ports serial port at).2 in
    record {
      port = port;
      there = at;
      lawful =
          record {
            limit = lawful.limit;
            sequence_number = lawful.sequence_number;
            make_send_count = lawful.make_send_count;
            messages = lawful.messages;
          };
      receives = λ (q : ℕ). omega arith;
      none_dead = λ (q : ℕ) (dead : _). omega arith;
      set = λ (set : ℕ) (is : _). is;
      acyclic =
          fewer_edges state (with_port state serial (with_senders target))
          (changed_edges state serial (with_senders target) (λ (inner : ℕ) (p : PortState) (e : _). e)) mid.acyclic;
    }

set_of_port : (state : Ipc) (space serial variant sync : ℕ) (names : Names) (port : PortState) (target : Option ℕ)
    → MidCall state (target_hand target) → finmap.get state.spaces space ≡ Some names
    → finmap.get state.ports serial ≡ Some port
    → MidRequest space names (port_request_set state variant sync serial target)
    (if variant == 69 then port.port_destroyed_target else port.no_senders_target)
set_of_port state space serial variant sync names port None mid there at =
    elim (variant == 69) as (λ (b : Bool). MidRequest space names (
      with_port state serial (λ (p : PortState). if b then record p { port_destroyed_target = None }
          else record p { no_senders_target = None }),
      [],
    )
    (if b then port.port_destroyed_target else port.no_senders_target)) [
      | true ↦ kept_with_port state space serial names port (with_destroyed None) None port.port_destroyed_target
          [] quiet_none mid there at (destroyed_step state serial port None mid at)
      | false ↦ kept_with_port state space serial names port (with_senders None) None port.no_senders_target
          [] quiet_none mid there at (senders_step state serial port None mid at)
    ]
set_of_port state space serial variant sync names port (Some target) mid there at =
    let at_once : List Effect = notify target (notice.NoSenders (make_send_count_of state serial)) ∷ [] in
    elim (variant == 69) as (λ (b : Bool). MidRequest space names
    (if b then (with_port state serial (with_destroyed (Some target)), [])
    else if lacks_senders state sync serial then (with_port state serial (with_senders None), at_once)
    else (with_port state serial (with_senders (Some target)), []))
    (if b then port.port_destroyed_target else port.no_senders_target)) [
      | true ↦ kept_with_port state space serial names port (with_destroyed (Some target))
          (Some target) port.port_destroyed_target [] quiet_none mid there at
          (destroyed_step state serial port (Some target) mid at)
      | false ↦ elim (lacks_senders state sync serial)
          as (λ (b : Bool). MidRequest space names
          (if b then (with_port state serial (with_senders None), at_once)
          else (with_port state serial (with_senders (Some target)), [])) port.no_senders_target) [
            | true ↦
                let gone : MidCall state (target_hand None) = let_go state (Some target) mid in
                kept_with_port state space serial names port (with_senders None) None port.no_senders_target at_once
                (record { waits = (tt, tt); receives = λ (q : ℕ). refl }) gone there at
                (senders_step state serial port None gone at)
            | false ↦ kept_with_port state space serial names port (with_senders (Some target))
                (Some target) port.no_senders_target [] quiet_none mid there at
                (senders_step state serial port (Some target) mid at)
          ]
    ]

-- whichever is asked for
set_of_entry : (state : Ipc) (space name variant sync : ℕ) (names : Names) (entry : Entry) (target : Option ℕ)
    → MidCall state (target_hand target) → finmap.get state.spaces space ≡ Some names
    → finmap.get names name ≡ Some entry
    → ((references : ℕ) → (variant == 72) ≡ true → entry ≡ Dead references → is_some target ≡ true
    → references < MAX_DEAD_REFERENCES)
    → MidRequest space names (request_set state space name variant sync target entry) (target_now state variant entry)
set_of_entry state space name variant sync names entry target mid there at room =
    elim (variant == 72) as (λ (b : Bool). (variant == 72) ≡ b
    → MidRequest space names (if b then dead_name_request_set state space name target entry
    else elim (received_port entry) as (λ _. Ipc × List Effect)
    [ None ↦ (state, []) | Some serial ↦ port_request_set state variant sync serial target ])
    (if b then request_of entry else target_of_port state variant (received_port entry))) [
      | true ↦ λ (named : _). set_of_name state space name names entry target mid there at
          (λ (references : ℕ) (is : _) (some : _). room references named is some)
      | false ↦ λ (_ : _).
          elim (received_port entry) as (λ (o : Option ℕ). received_port entry ≡ o
          → MidRequest space names (elim o as (λ _. Ipc × List Effect)
          [ None ↦ (state, []) | Some serial ↦ port_request_set state variant sync serial target ])
          (target_of_port state variant o)) [
            | None ↦ λ (_ : _). unchanged state space names target mid there
            | Some serial ↦ λ (held : _).
                let live =
                lives_some state serial (weighs_live state
                (target_hand target) space name serial names entry mid there at
                (received_weighs serial entry held)) in
                subst (λ (o : Option PortState). MidRequest space names
                (port_request_set state variant sync serial target)
                (option_and_then (λ (p : PortState). if variant == 69 then p.port_destroyed_target
                else p.no_senders_target) o)) (sym live.1)
                (set_of_port state space serial variant sync names live.0 target mid there live.1)
          ] refl
    ] refl

-- The former target comes back under a new name.

given_back : (space : ℕ) (names : Names) (after : Ipc × List Effect) (former : Option ℕ) (given : ℕ) (new : Ipc)
    (notices effects : List Effect) → MidRequest space names after former → Quiet notices
    → (is_some former && names_are_used_up names) ≡ false → GivesBack after.0 space former given new
    → effects ≡ notices ++ after.1 → Kept new effects
given_back space names after None given new notices effects request quiet room back are =
    subst (λ (s : Ipc). Kept s effects) (sym back.1) (subst (λ (l : List Effect). Kept after.0 l) (sym are)
    (kept_of_mid after.0 (target_hand None) (notices ++ after.1) request.mid
    (quiet_both notices after.1 quiet request.quiet).waits
    (λ (q : ℕ). (quiet_both notices after.1 quiet request.quiet).receives q)))
given_back space names after (Some former) given new notices effects request quiet room back are =
    let few : finmap.len request.later < MAX_NAMES =
    omega (arith, request.long, leb-false MAX_NAMES (finmap.len names) room) in
    let unused : IsUnused request.later given =
    subst (λ (n : Names). IsUnused n given) (names_are after.0 space request.later request.there) back.0 in
    let named : MidCall (with_names after.0 space (finmap.insert request.later given (SendOnce former None)))
    empty_hand =
    fresh_mid after.0 empty_hand space given request.later kind.SendOnce former
    (mid_hand after.0 (target_hand (Some former)) _ request.mid (λ (q : ℕ). refl)
    (λ (q : ℕ) (dead : _). omega arith)) request.there unused few
    (λ (other port : ℕ) (e : Entry) (_ : _) (held : _) (_ : _). cc held) in
    let as_said : new ≡ with_names after.0 space (finmap.insert request.later given (SendOnce former None)) =
    back.1 ∙ changed_space after.0 space request.later
    (λ (n : Names). finmap.insert n given (SendOnce former None)) request.there in
    subst (λ (s : Ipc). Kept s effects) (sym as_said)
    (subst (λ (l : List Effect). Kept
    (with_names after.0 space (finmap.insert request.later given (SendOnce former None))) l) (sym are)
    (kept_of_mid _ empty_hand (notices ++ after.1) named (quiet_both notices after.1 quiet request.quiet).waits
    (λ (q : ℕ). (quiet_both notices after.1 quiet request.quiet).receives q)))

-- what passing the tests of a request shows

both_pass : (xs ys : Tests) → first_failing (xs ++ ys) ≡ None → (first_failing xs ≡ None) × (first_failing ys ≡ None)
both_pass [] ys passes = (refl, passes)
both_pass (test ∷ xs) ys passes =
    let first = first_passes test (xs ++ ys) passes in
    let rest = both_pass xs ys first.1 in
    (ap (λ (b : Bool). if b then Some test.1 else first_failing xs) first.0 ∙ rest.0, rest.1)

-- a dead name's references leave room for one more
dead_room : (names : Names) (name sync : ℕ) → first_failing (tests_of_variant names name 72 sync false) ≡ None
    → (references : ℕ) → finmap.get names name ≡ Some (Dead references) → references < MAX_DEAD_REFERENCES
dead_room names name sync passes references at =
    let full : Bool = name_is (λ entry. nat_le MAX_DEAD_REFERENCES (dead_references entry)) names name in
    let last : Tests = (full, UrefsOverflow) ∷ [] in
    let second =
    first_passes (name_is is_set names name, InvalidRight)
    ((name_is is_dead names name && (sync == 0 || false), InvalidArgument) ∷ last) passes in
    let third = first_passes (name_is is_dead names name && (sync == 0 || false), InvalidArgument) last second.1 in
    leb-false MAX_DEAD_REFERENCES references
    (sym (ap (entry_is (λ entry. nat_le MAX_DEAD_REFERENCES (dead_references entry))) at)
    ∙ (first_passes (full, UrefsOverflow) [] third.1).0)

variant_tests : (names : Names) (name variant sync : ℕ) → (variant == 72) ≡ true
    → first_failing (tests_of_variant names name variant sync false) ≡ None
    → first_failing (tests_of_variant names name 72 sync false) ≡ None
variant_tests names name variant sync is passes =
    ap (λ (v : ℕ). first_failing (tests_of_variant names name v sync false)) (sym (number_same variant 72 is)) ∙ passes

-- A request is set in a state, and its former target is given back.
requested_kept : (space name variant sync : ℕ) (cancels : Bool) (taken : TakenTarget) (names : Names) (answer : PlainReply)
    (new : Ipc) (effects : List Effect) → MidCall taken.state (target_hand taken.target) → Quiet taken.notices
    → finmap.get taken.state.spaces space ≡ Some names → (is_some taken.target ≡ true → cancels ≡ false)
    → first_failing (tests_of_request taken.state space name variant sync cancels) ≡ None
    → Requested taken.state space name variant sync taken answer new effects
    → Kept new effects
requested_kept space name variant sync cancels taken names answer new effects mid quiet there keeps passes
    (given, _, back, are) =
    let here : names_in taken.state space ≡ names = names_are taken.state space names there in
    let former_there : Bool =
    is_some (target_under taken.state (names_in taken.state space) variant name) && names_are_used_up
    (names_in taken.state space) in
    let after_name =
    (both_pass ((is_no_name (names_in taken.state space) name, InvalidName) ∷ [])
    (tests_of_variant (names_in taken.state space) name variant sync cancels ++ ((former_there, NoSpace) ∷ []))
    passes).1 in
    let both =
    both_pass (tests_of_variant (names_in taken.state space) name variant sync cancels)
    ((former_there, NoSpace) ∷ []) after_name in
    let room : former_there ≡ false = (first_passes (former_there, NoSpace) [] both.1).0 in
    let room_here : (is_some (target_under taken.state names variant name) && names_are_used_up names) ≡ false =
    ap (λ (n : Names). is_some (target_under taken.state n variant name) && names_are_used_up n) (sym here)
    ∙ room in
    let under_name : entry_at taken.state space name ≡ finmap.get names name =
    ap (λ (o : Option Names). option_and_then (λ n. finmap.get n name) o) there in
    let request : MidRequest space names (request_set_under taken.state space name variant sync taken.target)
    (target_under taken.state names variant name) =
    subst (λ (o : Option Entry). MidRequest space names
    (elim o as (λ _. Ipc × List Effect) [
      | None ↦ (taken.state, [])
      | Some entry ↦
          request_set taken.state space name variant sync taken.target entry
    ])
    (target_under taken.state names variant name)) (sym under_name)
    (elim (finmap.get names name) as (λ (o : Option Entry). finmap.get names name ≡ o
    → MidRequest space names (elim o as (λ _. Ipc × List Effect)
    [ None ↦ (taken.state, []) | Some entry ↦ request_set taken.state space name variant sync taken.target entry ])
    (option_and_then (target_now taken.state variant) o)) [
      | None ↦ λ (_ : _). unchanged taken.state space names taken.target mid there
      | Some entry ↦ λ (at : _). set_of_entry taken.state space name variant sync names entry taken.target mid there at
          (λ (references : ℕ) (named : _) (is : _) (some : _).
          dead_room names name sync (variant_tests names name variant sync named
          (ap (λ (n : Names). first_failing (tests_of_variant n name variant sync false)) (sym here) ∙ ap
          (λ (b : Bool). first_failing (tests_of_variant (names_in taken.state space) name variant sync b))
          (sym (keeps some)) ∙ both.0)) references (at ∙ ap (λ e. Some e) is))
    ] refl) in
    let back_here : GivesBack (request_set_under taken.state space name variant sync taken.target).0 space
    (target_under taken.state names variant name) given new =
    subst (λ (n : Names). GivesBack (request_set_under taken.state space name variant sync taken.target).0 space
    (target_under taken.state n variant name) given new) here back in
    given_back space names (request_set_under taken.state space name variant sync taken.target)
    (target_under taken.state names variant name) given new taken.notices effects request quiet room_here back_here
    are

-- a notification's disposition brings a send-once right
once_only : (n : ℕ) (by : Disposition) → notify_disposition n ≡ Some by → received_kind by ≡ kind.SendOnce
once_only n by is =
    elim (n == 18) as (λ (b : Bool). (if b then Some MoveSendOnce else if n == 21 then Some MakeSendOnce else None)
    ≡ Some by → received_kind by ≡ kind.SendOnce) [
      | true ↦ λ (e : _). ap received_kind (sym (some_same MoveSendOnce by e))
      | false ↦ elim (n == 21) as (λ (b : Bool). (if b then Some MakeSendOnce else None) ≡ Some by
          → received_kind by ≡ kind.SendOnce) [
            | true ↦ λ (e : _). ap received_kind (sym (some_same MakeSendOnce by e))
            | false ↦ λ (e : _). absurd (cc e)
          ]
    ] is

target_in_hand : (space serial : ℕ) (taken : Taken) → MidTaken space empty_hand taken
    → taken.right.port ≡ in_message.Live serial → taken.right.kind ≡ kind.SendOnce
    → MidCall taken.state (target_hand (Some serial))
target_in_hand space serial taken mid port once =
    let weighs : (w : Weight) → with_right empty_hand taken.right w ≡ w kind.SendOnce serial =
    λ (w : Weight). omega (
      arith,
      ap
          (λ (p : PortInMessage). with_right empty_hand (record { kind = taken.right.kind; port = p }) w) port,
      ap (λ (k : RightKind). w k serial) once,
    ) in
    mid_hand taken.state (with_right empty_hand taken.right) (target_hand (Some serial)) mid.mid
    (λ (q : ℕ). sym (weighs (receive_of q))) (λ (q : ℕ) (dead : _). omega (arith, weighs (any_of q)))

by_null : (old : Ipc) (space name variant sync disposition : ℕ) (names : Names) (answer : PlainReply) (new : Ipc)
    (effects : List Effect) → LawfulAtRest old → Acyclic old → finmap.get old.spaces space ≡ Some names
    → first_failing (tests_of_request old space name variant sync true) ≡ None
    → Requested old space name variant sync (taken_target old None) answer new effects → Kept new effects
by_null old space name variant sync disposition names answer new effects lawful acyclic there passes done =
    let mid : MidCall old (target_hand None) =
    mid_hand old empty_hand (target_hand None) (mid_of old lawful acyclic) (λ (q : ℕ). refl)
    (λ (q : ℕ) (dead : _). omega arith) in
    requested_kept space name variant sync true (taken_target old None) names answer new effects mid quiet_none there
    (λ (some : _). absurd (cc some)) passes done

by_name : (old : Ipc) (space name variant sync notify_name disposition : ℕ) (names : Names) (answer : PlainReply)
    (new : Ipc) (effects : List Effect) → LawfulAtRest old → Acyclic old → finmap.get old.spaces space ≡ Some names
    → first_failing (tests_of_copy_in old space notify_name (notify_disposition disposition) InvalidCapability
    (λ taken serial. tests_of_request taken.state space name variant sync false)) ≡ None
    → Requested old space name variant sync
    (taken_target old (option_and_then (copy_in old space notify_name) (notify_disposition disposition))) answer new
    effects → Kept new effects
by_name old space name variant sync notify_name disposition names answer new effects lawful acyclic there passes done =
    let copied =
    copied_in old space notify_name (notify_disposition disposition) InvalidCapability
    (λ taken serial. tests_of_request taken.state space name variant sync false) passes in
    let mid =
    taken_mid old empty_hand space notify_name names copied.by copied.taken
    (mid_of old lawful acyclic) there copied.is in
    let once : copied.taken.right.kind ≡ kind.SendOnce =
    kind_taken old space notify_name copied.by copied.taken copied.is
    ∙ once_only disposition copied.by copied.known in
    let target : live_port copied.taken.right.port ≡ Some copied.serial = ap live_port copied.port in
    let in_hand : MidCall copied.taken.state (target_hand (live_port copied.taken.right.port)) =
    subst (λ (o : Option ℕ). MidCall copied.taken.state (target_hand o)) (sym target)
    (target_in_hand space copied.serial copied.taken mid copied.port once) in
    let taken_is : option_and_then (copy_in old space notify_name) (notify_disposition disposition)
    ≡ Some copied.taken = ap (option_and_then (copy_in old space notify_name)) copied.known ∙ copied.is in
    requested_kept space name variant sync false
    (taken_target old (Some copied.taken)) mid.names answer new effects in_hand mid.quiet mid.there
    (λ (_ : _). refl) copied.passes
    (subst (λ (o : Option Taken). Requested old space name variant sync (taken_target old o) answer new effects)
    taken_is done)

pub request_kept : (old : Ipc) (space name variant sync notify_name disposition : ℕ) (names : Names) (answer : PlainReply)
    (new : Ipc) (effects : List Effect) → LawfulAtRest old → Acyclic old → finmap.get old.spaces space ≡ Some names
    → first_failing (tests_of old space names (call.RequestNotification name variant sync notify_name disposition))
    ≡ None → Done old space names (call.RequestNotification name variant sync notify_name disposition) answer new
    effects → Kept new effects
unfolding Done tests_of
request_kept old space name variant sync notify_name disposition names answer new effects lawful acyclic there passes
    done =
    let last : Tests = tests_of_notify old space name variant sync notify_name disposition in
    let second : Tests =
    (not (notify_name == MACH_PORT_NULL) && is_none (notify_disposition disposition), InvalidValue) ∷ last in
    let known = (first_passes (not (is_variant variant), InvalidValue) second passes).1 in
    let later =
    (first_passes (not (notify_name == MACH_PORT_NULL) && is_none (notify_disposition disposition), InvalidValue)
    last known).1 in
    elim (notify_name == MACH_PORT_NULL) as (λ (b : Bool).
    first_failing (if b then tests_of_request old space name variant sync true
    else tests_of_copy_in old space notify_name (notify_disposition disposition) InvalidCapability
    (λ taken serial. tests_of_request taken.state space name variant sync false)) ≡ None
    → Requested old space name variant sync
    (if b then taken_target old None
    else taken_target old (option_and_then (copy_in old space notify_name) (notify_disposition disposition)))
    answer new effects → Kept new effects) [
      | true ↦ λ (tests : _) (acts : _). by_null old space name variant sync disposition names answer new effects lawful
          acyclic there tests acts
      | false ↦ λ (tests : _) (acts : _). by_name old space name variant sync notify_name disposition names answer new
          effects lawful acyclic there tests acts
    ] later done
