-- No wake-up is lost if a step reports its changes.
use Rattle.std.proofs.Common.{◌≡◌, ℕ, Bool, true, false, List, [], ◌∷◌, map, nat_lt, Option, None, Some, MatchOption, option_and_then, Result, Ok, Err, refl, sym, ◌∙◌, ap, subst, arith}
use Rattle.std.specs.Prelude.{Contains, MatchBool, MatchResult, length, ◌<◌, slice_index_or, suc, zero}
use Rattle.std.specs.FinMap as finmap
use Rattle.std.proofs.lemmas.List.Elements.{Contains-append_left, Contains-append_right}
use Rattle.codes.specs.declared.kern_return.KernReturn.{KernReturn}
use Rattle.codes.specs.declared.kern_return.KernReturn.TheVariants.{InvalidTask, Success, SendTimedOut, RcvTimedOut, RcvHeaderErrorSpace}
use Rattle.codes.specs.declared.name.TheConstants.{MACH_PORT_NULL}
use Rattle.ipc_model.specs.calls.PlainStep.{ActsFrom, ActsIn, PlainStep, refused}
use Rattle.ipc_model.specs.declared.plain_call.PlainCall.{PlainCall}
use Rattle.ipc_model.specs.declared.plain_call.PlainCall.TheVariants as call
use Rattle.ipc_model.specs.declared.plain_reply.PlainReply.{PlainReply}
use Rattle.ipc_model.specs.declared.plain_reply.PlainReply.TheVariants as reply
use Rattle.ipc_model.specs.declared.message.Message.{Message}
use Rattle.ipc_model.specs.declared.port.PortState.{PortState}
use Rattle.ipc_model.specs.effects.Effects.{Effect, settled}
use Rattle.ipc_model.specs.messages.Messages.{UsedParts, used_parts}
use Rattle.ipc_model.specs.messages.Receiving.{ReceiveArguments, Received, Receives, TakesOut, TooLarge, lacks_names, message_size, receive_refusal, without_message}
use Rattle.ipc_model.specs.messages.Sending.{Ready, items_if_complex, ready_by_parts, ready_to_send, sent}
use Rattle.ipc_model.specs.state.Ipc.{Ipc, Names, entry_at}
use Rattle.ipc_laws.specs.ReceiveLaws.{large_answer}
use Rattle.waiting.specs.Places.{place_of_name, place_of_port}
use Rattle.waiting.specs.Receiving.{stands, still_none}
use Rattle.waiting.specs.Sending.{AllWanted, has_destination, of_parts}
use Rattle.waiting.specs.Waiting.{Covers, FindsNothing, Wakes, WaitsAt, names_cited, names_in_items, place_of_destination, port_of}

abbrev code_in : PlainReply → KernReturn
code_in (reply.Message code size member message) = code
code_in answer = Success

code_same : (a b : KernReturn) → without_message a 0 MACH_PORT_NULL ≡ without_message b 0 MACH_PORT_NULL → a ≡ b
code_same a b e = ap code_in e

some_code : (o : Option KernReturn) (code : KernReturn) (A B C : Type 0)
    → MatchOption o A (λ c. (without_message code 0 MACH_PORT_NULL ≡ without_message c 0 MACH_PORT_NULL) × B × C)
    → (A → ⊥) → o ≡ Some code
some_code None code A B C is never = absurd (never is)
some_code (Some c) code A B C is never = ap (λ (k : KernReturn). Some k) (sym (code_same code c is.0))

-- a receive that takes a message, or lacks names for its rights, has another reply
takes_none : (old : Ipc) (space : ℕ) (names : Names) (arguments : ReceiveArguments) (member serial : ℕ)
    (port : PortState) (message : Message) (acted : Ipc) (effects : List Effect)
    → TakesOut old space names arguments member serial port message
    (without_message RcvTimedOut 0 MACH_PORT_NULL) acted effects → ⊥
takes_none old space names arguments member serial port message acted effects is =
    go (nat_lt arguments.limit (message_size message)) (lacks_names names message) is
  where
    answer : PlainReply
    answer = without_message RcvTimedOut 0 MACH_PORT_NULL

    go : (b c : Bool) → MatchBool b (TooLarge old member serial message arguments.large answer acted effects)
        (MatchBool c ((answer ≡ without_message RcvHeaderErrorSpace 0 MACH_PORT_NULL) × (acted ≡ old) × (effects ≡ []))
        (Received old space names member serial port message answer acted effects)) → ⊥
    go true c is =
        cc (ap code_in (large_answer old member serial message arguments.large answer acted effects is))
    go false true is = cc (ap code_in is.0)
    go false false is = cc (ap code_in is.3)

refused_receive : (old : Ipc) (space : ℕ) (names : Names) (arguments : ReceiveArguments) (acted : Ipc)
    (effects : List Effect)
    → Receives old space names arguments (without_message RcvTimedOut 0 MACH_PORT_NULL) acted effects
    → receive_refusal old names arguments ≡ Some RcvTimedOut
refused_receive old space names arguments acted effects is =
    some_code (receive_refusal old names arguments) RcvTimedOut _ (acted ≡ old) (effects ≡ []) is
    (λ taken. takes_none old space names arguments taken.member taken.serial taken.port taken.message acted effects
    taken.takes)

abbrev failed : KernReturn → Result Ready KernReturn
failed code = Err code

refused_send : (old : Ipc) (space : ℕ) (message : List ℕ) (acted : Ipc) (effects : List Effect) (names : Names)
    → ActsIn old space names (call.Send message) (without_message SendTimedOut 0 MACH_PORT_NULL) acted effects
    → ready_to_send old space message ≡ Err SendTimedOut
refused_send old space message acted effects names is = go (ready_to_send old space message) is
  where
    answer : PlainReply
    answer = without_message SendTimedOut 0 MACH_PORT_NULL

    go : (r : Result Ready KernReturn)
        → MatchResult r (λ ready. (answer ≡ without_message Success 0 MACH_PORT_NULL) × (acted ≡ (sent ready).0)
        × (effects ≡ (sent ready).1)) (λ code. (answer ≡ without_message code 0 MACH_PORT_NULL) × (acted ≡ old)
        × (effects ≡ []))
        → r ≡ Err SendTimedOut
    go (Ok ready) is = absurd (cc (ap code_in is.0))
    go (Err code) is = ap failed (sym (code_same SendTimedOut code is.0))

abbrev no_effects : List Effect
no_effects = []

-- the converse
matches_code : (o : Option KernReturn) (code : KernReturn) (A B C : Type 0) → o ≡ Some code → B → C
    → MatchOption o A (λ c. (without_message code 0 MACH_PORT_NULL ≡ without_message c 0 MACH_PORT_NULL) × B × C)
matches_code o code A B C is b c =
    subst (λ (p : Option KernReturn). MatchOption p A
    (λ c. (without_message code 0 MACH_PORT_NULL ≡ without_message c 0 MACH_PORT_NULL) × B × C)) (sym is)
    (refl, b, c)

receive_refused : (new : Ipc) (space : ℕ) (names : Names) (arguments : ReceiveArguments)
    → receive_refusal new names arguments ≡ Some RcvTimedOut
    → Receives new space names arguments (without_message RcvTimedOut 0 MACH_PORT_NULL) new no_effects
receive_refused new space names arguments is =
    matches_code (receive_refusal new names arguments) RcvTimedOut _ (new ≡ new) (no_effects ≡ no_effects) is refl refl

send_refused : (new : Ipc) (space : ℕ) (message : List ℕ) (names : Names)
    → ready_to_send new space message ≡ Err SendTimedOut
    → ActsIn new space names (call.Send message) (without_message SendTimedOut 0 MACH_PORT_NULL) new no_effects
send_refused new space message names is =
    subst (λ (r : Result Ready KernReturn). MatchResult r
    (λ ready. (without_message SendTimedOut 0 MACH_PORT_NULL ≡ without_message Success 0 MACH_PORT_NULL)
    × (new ≡ (sent ready).0) × (no_effects ≡ (sent ready).1))
    (λ code. (without_message SendTimedOut 0 MACH_PORT_NULL ≡ without_message code 0 MACH_PORT_NULL) × (new ≡ new)
    × (no_effects ≡ no_effects))) (sym is) (refl, refl, refl)

-- a caller whose space is gone is refused with another code
there : (old : Ipc) (space : ℕ) (c : PlainCall) (code : KernReturn) (acted : Ipc) (effects : List Effect)
    → refused c InvalidTask ≡ without_message InvalidTask 0 MACH_PORT_NULL → (InvalidTask ≡ code → ⊥)
    → ActsFrom old space (finmap.get old.spaces space) c (without_message code 0 MACH_PORT_NULL) acted effects
    → (names : Names) × (finmap.get old.spaces space ≡ Some names)
    × ActsIn old space names c (without_message code 0 MACH_PORT_NULL) acted effects
there old space c code acted effects gone other is = go (finmap.get old.spaces space) refl is
  where
    go : (o : Option Names) → finmap.get old.spaces space ≡ o
        → ActsFrom old space o c (without_message code 0 MACH_PORT_NULL) acted effects
        → (names : Names) × (finmap.get old.spaces space ≡ Some names)
        × ActsIn old space names c (without_message code 0 MACH_PORT_NULL) acted effects
    go None at acts = absurd (other (sym (code_same code InvalidTask (acts.0 ∙ gone))))
    go (Some names) at acts = (names, at, acts)

in_there : (new : Ipc) (space : ℕ) (c : PlainCall) (names : Names) (answer : PlainReply)
    → finmap.get new.spaces space ≡ Some names → ActsIn new space names c answer new []
    → PlainStep new space c answer new
unfolding PlainStep
in_there new space c names answer at acts =
    (new, [], subst (λ (o : Option Names). ActsFrom new space o c answer new []) (sym at) acts, settled)

acted_from : (old : Ipc) (space : ℕ) (c : PlainCall) (answer : PlainReply) → PlainStep old space c answer old
    → (acted : Ipc)
    × (effects : List Effect) × ActsFrom old space (finmap.get old.spaces space) c answer acted effects
unfolding PlainStep
acted_from old space c answer is = (is.0, is.1, is.2)

by_parts : (state : Ipc) (space : ℕ) (message : List ℕ) → ready_to_send state space message ≡ Err SendTimedOut
    → ready_by_parts state space (used_parts message) ≡ Err SendTimedOut
unfolding ready_to_send
by_parts state space message is = is

as_parts : (state : Ipc) (space : ℕ) (message : List ℕ)
    → ready_by_parts state space (used_parts message) ≡ Err SendTimedOut
    → ready_to_send state space message ≡ Err SendTimedOut
unfolding ready_to_send
as_parts state space message is = is

contains_mapped : (f : ℕ → ℕ) (xs : List ℕ) (x k : ℕ) → k < length xs → slice_index_or xs k x ≡ x
    → Contains (map f xs) (f x)
contains_mapped f [] x k below is = absurd (omega (arith, below))
contains_mapped f (y ∷ ys) x zero below is = (zero, omega arith, ap f is)
contains_mapped f (y ∷ ys) x (suc k) below is =
    let rest = contains_mapped f ys x k (omega (arith, below)) is in (suc rest.0, omega (arith, rest.1), rest.2)

module _ (old new : Ipc) (named : ℕ → Bool) (covers : Covers old new named) where
  receives : (space limit : ℕ) (large : Bool) (name : ℕ) (waited : Bool)
      → FindsNothing old space (call.Receive limit large name waited)
      → ((place : ℕ) → WaitsAt old space (call.Receive limit large name waited) place → named place ≡ false)
      → FindsNothing new space (call.Receive limit large name waited)
  receives space limit large name waited found off =
      let arguments : ReceiveArguments = record { limit = limit; large = large; name = name; waited = waited } in
      let acts = acted_from old space (call.Receive limit large name waited) _ found in
      let at =
      there old space (call.Receive limit large name waited) RcvTimedOut acts.0 acts.1 refl (λ e. cc e) acts.2 in
      let still =
      still_none old new named covers space at.0 arguments at.1
      (refused_receive old space at.0 arguments acts.0 acts.1 at.2)
      (off (place_of_name space name) (zero, omega arith, refl)) in
      in_there new space (call.Receive limit large name waited) still.0 _ still.1
      (receive_refused new space still.0 arguments still.2)

  all_wanted : (space remote : ℕ) (wanted wanted_port : ℕ → Type 0) (names : List ℕ)
      → ((name : ℕ) → Contains names name → wanted name) → AllWanted space remote wanted wanted_port names
  all_wanted space remote wanted wanted_port [] each = tt
  all_wanted space remote wanted wanted_port (name ∷ names) each = (
    each name (zero, omega arith, refl),
    all_wanted space remote wanted wanted_port names (λ n at. each n (suc at.0, omega (arith, at.1), at.2)),
  )

  sends : (space : ℕ) (message : List ℕ) → FindsNothing old space (call.Send message)
      → ((place : ℕ) → WaitsAt old space (call.Send message) place → named place ≡ false)
      → FindsNothing new space (call.Send message)
  sends space message found off =
      let acts = acted_from old space (call.Send message) _ found in
      let at = there old space (call.Send message) SendTimedOut acts.0 acts.1 refl (λ e. cc e) acts.2 in
      let full = refused_send old space message acts.0 acts.1 at.0 at.2 in
      let kept = still (used_parts message) cited destined (by_parts old space message full) in
      in_there new space (call.Send message) kept.0 _ kept.1
      (send_refused new space message kept.0 (as_parts new space message kept.2))
    where
      wanted : ℕ → Type 0
      wanted name = named (place_of_name space name) ≡ false

      wanted_port : ℕ → Type 0
      wanted_port serial = named (place_of_port serial) ≡ false

      cited : (name : ℕ) → Contains (names_cited (used_parts message)) name → wanted name
      cited name at =
          off (place_of_name space name)
          (Contains-append_left (map (place_of_name space) (names_cited (used_parts message)))
          (place_of_destination (option_and_then port_of (entry_at old space (used_parts message).remote)))
          (place_of_name space name)
          (contains_mapped (place_of_name space) (names_cited (used_parts message)) name at.0 at.1 at.2))

      destined : (serial : ℕ) → option_and_then port_of (entry_at old space (used_parts message).remote) ≡ Some serial
          → wanted_port serial
      destined serial to =
          off (place_of_port serial) (Contains-append_right
          (map (place_of_name space) (names_cited (used_parts message)))
          (place_of_destination (option_and_then port_of (entry_at old space (used_parts message).remote)))
          (place_of_port serial)
          (subst (λ (o : Option ℕ). Contains (place_of_destination o) (place_of_port serial)) (sym to)
          (zero, omega arith, refl)))

      -- a send with these names in its message
      still : (parts : UsedParts) → ((name : ℕ) → Contains (names_cited parts) name → wanted name)
          → ((serial : ℕ) → option_and_then port_of (entry_at old space parts.remote) ≡ Some serial
          → wanted_port serial)
          → ready_by_parts old space parts ≡ Err SendTimedOut → (after : Names)
          × (finmap.get new.spaces space ≡ Some after) × (ready_by_parts new space parts ≡ Err SendTimedOut)
      still parts want want_port full =
          let destination = has_destination old space parts full in
          let after =
          stands (finmap.get new.spaces space) parts.remote destination.0
          (covers.entries space parts.remote (want parts.remote (0, omega arith, refl)) ∙ destination.1) in (
            after.names,
            after.there,
            of_parts space parts.remote wanted wanted_port old new parts refl (want parts.remote (0, omega arith, refl))
                (want parts.local (1, omega arith, refl))
                (all_wanted space parts.remote wanted wanted_port
                (names_in_items (items_if_complex parts.complex parts.body))
                (λ name at. want name (suc (suc at.0), omega (arith, at.1), at.2)))
                (record {
                  entries = λ name w. covers.entries space name w;
                  port = want_port;
                  full = λ serial w full. covers.room serial w full;
                }) full,
          )

  pub no_wake_up_lost : Wakes old new named
  no_wake_up_lost space (call.Send message) found off = sends space message found off
  no_wake_up_lost space (call.Receive limit large name waited) found off =
      receives space limit large name waited found off
  no_wake_up_lost space (call.Attach _) found off = absurd found
  no_wake_up_lost space call.Names found off = absurd found
  no_wake_up_lost space (call.Type _) found off = absurd found
  no_wake_up_lost space (call.Rename _ _) found off = absurd found
  no_wake_up_lost space (call.AllocateName _ _) found off = absurd found
  no_wake_up_lost space (call.Allocate _) found off = absurd found
  no_wake_up_lost space (call.Destroy _) found off = absurd found
  no_wake_up_lost space (call.Deallocate _) found off = absurd found
  no_wake_up_lost space (call.GetRefs _ _) found off = absurd found
  no_wake_up_lost space (call.ModRefs _ _ _) found off = absurd found
  no_wake_up_lost space (call.SetQlimit _ _) found off = absurd found
  no_wake_up_lost space (call.SetMscount _ _) found off = absurd found
  no_wake_up_lost space (call.SetSeqno _ _) found off = absurd found
  no_wake_up_lost space (call.GetReceiveStatus _) found off = absurd found
  no_wake_up_lost space (call.GetSetStatus _) found off = absurd found
  no_wake_up_lost space (call.MoveMember _ _) found off = absurd found
  no_wake_up_lost space (call.RequestNotification _ _ _ _ _) found off = absurd found
  no_wake_up_lost space (call.InsertRight _ _ _) found off = absurd found
  no_wake_up_lost space (call.ExtractRight _ _) found off = absurd found
  no_wake_up_lost space (call.SpaceCreate _ _) found off = absurd found
  no_wake_up_lost space call.SpaceDestroy found off = absurd found
