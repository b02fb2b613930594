-- The choices that a call leaves open, and how its reply shows them.
use Rattle.std.specs.Prelude.{◌≡◌, ℕ, Bool, true, false, List, Option, None, Some, Result, Ok, Err, MatchResult}
use Rattle.std.proofs.Common.{refl, sym, ap, subst, ◌∙◌}
use Rattle.codes.specs.declared.kern_return.KernReturn.{KernReturn}
use Rattle.codes.specs.declared.kern_return.KernReturn.TheVariants.{Success}
use Rattle.codes.specs.declared.name.TheConstants.{MACH_PORT_NULL}
use Rattle.ipc_model.specs.declared.plain_call.PlainCall.{PlainCall}
use Rattle.ipc_model.specs.declared.plain_call.PlainCall.TheVariants as call
use Rattle.ipc_model.specs.declared.plain_reply.PlainReply.{PlainReply}
use Rattle.ipc_model.specs.declared.plain_reply.PlainReply.TheVariants as reply
use Rattle.ipc_model.specs.declared.entry.Entry.{Entry}
use Rattle.ipc_model.specs.declared.message.RightKind.{RightKind}
use Rattle.ipc_model.specs.calls.Actions as actions
use Rattle.ipc_model.specs.calls.Actions.{Action, ActsOn, Done}
use Rattle.ipc_model.specs.rights.CopyIn.{Taken}
use Rattle.ipc_model.specs.effects.Effects.{Effect}
use Rattle.ipc_model.specs.calls.PortCalls.{names_in, tests_of}
use Rattle.ipc_model.specs.state.Ipc.{Ipc, Names}
use Rattle.ipc_model.specs.calls.PlainStep.{ActsIn, IsRefusedWith}
use Rattle.ipc_laws.specs.StepLaws.{Called}
use Rattle.ipc_model.specs.calls.Tests.{first_failing}
use Rattle.ipc_model.specs.messages.Receiving.{without_message}
use Rattle.ipc_model.specs.messages.Sending.{Ready, ready_to_send, sent}
use Rattle.kernel.specs.declared.choices.Shown.{Shown}
use Rattle.receiving.specs.ShownNames.{names_shown}
use Rattle.receiving.specs.Shows.{preferred_by, encoding_in}
use Rattle.receiving.specs.declared.asked.Preference.{Preference}

-- the name that was chosen, if the reply shows one
abbrev pub name_shown : PlainReply → Option ℕ
name_shown (reply.Allocate name) = Some name
name_shown (reply.PreviousTarget name) = Some name
name_shown (reply.Extracted name kind) = Some name
name_shown _ = None

-- the number of a new space and its name, if the reply shows them
abbrev pub space_shown : PlainReply → Option (ℕ × ℕ)
space_shown (reply.SpaceCreated space name) = Some (space, name)
space_shown _ = None

-- the choices that a reply shows
abbrev pub shown_by : PlainReply → Shown
shown_by answer =
    record {
      name = name_shown answer;
      space = space_shown answer;
      preference = preferred_by answer;
      names = names_shown (encoding_in answer);
    }

-- If a reply that shows these choices is possible, it is this reply.
pub record Prefers (old : Ipc) (space : ℕ) (c : PlainCall) (shown : Shown) (answer : PlainReply) : Type 0 where
  pub takes : (other : PlainReply) (new : Ipc) (effects : List Effect) → shown ≡ shown_by other
      → ActsIn old space (names_in old space) c other new effects → answer ≡ other

-- Calls that leave a choice open.
abbrev pub is_open : PlainCall → Bool
is_open (call.Allocate kind) = true
is_open (call.RequestNotification name variant sync notify_name disposition) = true
is_open (call.ExtractRight name disposition) = true
is_open (call.Receive limit large name waited) = true
is_open (call.SpaceCreate name disposition) = true
is_open c = false

-- The state determines the reply of all other calls.

on_entry : (entry : Option Entry) (action : Entry → Action) (one other : PlainReply) (new last : Ipc)
    (effects others : List Effect) → ActsOn entry action one new effects → ActsOn entry action other last others
    → one ≡ other
on_entry None action one other new last effects others a b = absurd a
on_entry (Some entry) action one other new last effects others a b = a.0 ∙ sym b.0

done_alike : (old : Ipc) (space : ℕ) (names : Names) (c : PlainCall) (one other : PlainReply) (new last : Ipc)
    (effects others : List Effect) → is_open c ≡ false
    → Done old space names c one new effects → Done old space names c other last others → one ≡ other
unfolding Done
done_alike old space names (call.Attach s) one other new last effects others closed a b = a.0 ∙ sym b.0
done_alike old space names call.Names one other new last effects others closed a b = a.0 ∙ sym b.0
done_alike old space names (call.Type name) one other new last effects others closed a b =
    on_entry _ _ one other new last effects others a b
done_alike old space names (call.Rename from to) one other new last effects others closed a b =
    on_entry _ _ one other new last effects others a b
done_alike old space names (call.AllocateName kind name) one other new last effects others closed a b = a.0 ∙ sym b.0
done_alike old space names (call.Allocate kind) one other new last effects others closed a b = absurd (cc closed)
done_alike old space names (call.Destroy name) one other new last effects others closed a b =
    on_entry _ _ one other new last effects others a b
done_alike old space names (call.Deallocate name) one other new last effects others closed a b =
    on_entry _ _ one other new last effects others a b
done_alike old space names (call.GetRefs name kind) one other new last effects others closed a b =
    on_entry _ _ one other new last effects others a b
done_alike old space names (call.ModRefs name kind delta) one other new last effects others closed a b =
    on_entry _ _ one other new last effects others a b
done_alike old space names (call.SetQlimit name limit) one other new last effects others closed a b =
    on_entry _ _ one other new last effects others a b
done_alike old space names (call.SetMscount name count) one other new last effects others closed a b =
    on_entry _ _ one other new last effects others a b
done_alike old space names (call.SetSeqno name seqno) one other new last effects others closed a b =
    on_entry _ _ one other new last effects others a b
done_alike old space names (call.GetReceiveStatus name) one other new last effects others closed a b =
    on_entry _ _ one other new last effects others a b
done_alike old space names (call.GetSetStatus name) one other new last effects others closed a b = a.0 ∙ sym b.0
done_alike old space names (call.MoveMember member after) one other new last effects others closed a b =
    on_entry _ _ one other new last effects others a b
done_alike old space names (call.RequestNotification name variant sync notify_name disposition) one other new last
    effects others closed a b = absurd (cc closed)
done_alike old space names (call.InsertRight name right_name disposition) one other new last effects others closed a b =
    a.0 ∙ sym b.0
done_alike old space names (call.ExtractRight name disposition) one other new last effects others closed a b =
    absurd (cc closed)
done_alike old space names (call.Send message) one other new last effects others closed a b = absurd a
done_alike old space names (call.Receive limit large name waited) one other new last effects others closed a b =
    absurd a
done_alike old space names (call.SpaceCreate name disposition) one other new last effects others closed a b =
    absurd (cc closed)
done_alike old space names call.SpaceDestroy one other new last effects others closed a b = a.0 ∙ sym b.0

called_alike : (refusal : Option KernReturn) (old : Ipc) (space : ℕ) (names : Names) (c : PlainCall)
    (one other : PlainReply) (new last : Ipc) (effects others : List Effect) → is_open c ≡ false
    → Called refusal old space names c one new effects → Called refusal old space names c other last others
    → one ≡ other
called_alike (Some code) old space names c one other new last effects others closed a b = a.0 ∙ sym b.0
called_alike None old space names c one other new last effects others closed a b =
    done_alike old space names c one other new last effects others closed a b

-- a send, made or refused
abbrev pub SentAs : Result Ready KernReturn → Ipc → PlainReply → Ipc → List Effect → Type 0
SentAs ready old answer new effects =
    MatchResult ready (λ (ready : Ready). (answer ≡ without_message Success 0 MACH_PORT_NULL) × (new ≡ (sent ready).0)
    × (effects ≡ (sent ready).1))
    (λ code. IsRefusedWith (without_message code 0 MACH_PORT_NULL) old answer new effects)

sent_alike : (ready : Result Ready KernReturn) (old : Ipc) (one other : PlainReply) (new last : Ipc)
    (effects others : List Effect) → SentAs ready old one new effects → SentAs ready old other last others → one ≡ other
sent_alike (Ok ready) old one other new last effects others a b = a.0 ∙ sym b.0
sent_alike (Err code) old one other new last effects others a b = a.0 ∙ sym b.0

acts_alike : (c : PlainCall) (old : Ipc) (space : ℕ) (names : Names) (one other : PlainReply) (new last : Ipc)
    (effects others : List Effect) → is_open c ≡ false
    → ActsIn old space names c one new effects → ActsIn old space names c other last others → one ≡ other
acts_alike (call.Send message) old space names one other new last effects others closed a b =
    sent_alike (ready_to_send old space message) old one other new last effects others a b
acts_alike (call.Receive limit large name waited) old space names one other new last effects others closed a b =
    absurd (cc closed)
acts_alike c old space names one other new last effects others closed a b =
    called_alike (first_failing (tests_of old space names c)) old space names c one other new last effects others closed
    a b

pub prefers_closed : (old : Ipc) (space : ℕ) (c : PlainCall) (shown : Shown) (answer : PlainReply) (new : Ipc)
    (effects : List Effect) → is_open c ≡ false
    → ActsIn old space (names_in old space) c answer new effects → Prefers old space c shown answer
prefers_closed old space c shown answer new effects closed acts =
    record {
      takes = λ other last others _ may. acts_alike c old space
          (names_in old space) answer other new last effects others closed acts may;
    }

-- Calls that leave a choice open.

name_of : Shown → Option ℕ
name_of shown = shown.name

-- the name of a new right
pub prefers_allocate : (old : Ipc) (space kind : ℕ) (shown : Shown) (answer : PlainReply) (new : Ipc)
    (effects : List Effect) → ActsIn old space (names_in old space) (call.Allocate kind) answer new effects
    → ((name : ℕ) → shown.name ≡ Some name → (last : Ipc) → (others : List Effect)
    → ActsIn old space (names_in old space) (call.Allocate kind) (reply.Allocate name) last others
    → answer ≡ reply.Allocate name)
    → Prefers old space (call.Allocate kind) shown answer
unfolding Done name_of
prefers_allocate old space kind shown answer new effects acts wanted = record {
  takes =
      λ other last others is may. by_case
      (first_failing (tests_of old space (names_in old space) (call.Allocate kind))) other last others is acts may
      wanted;
}
  where
    by_case : (refusal : Option KernReturn) (other : PlainReply) (last : Ipc) (others : List Effect)
        → shown ≡ shown_by other
        → Called refusal old space (names_in old space) (call.Allocate kind) answer new effects
        → Called refusal old space (names_in old space) (call.Allocate kind) other last others
        → ((name : ℕ) → shown.name ≡ Some name → (last : Ipc) → (others : List Effect)
        → Called refusal old space (names_in old space) (call.Allocate kind) (reply.Allocate name) last others
        → answer ≡ reply.Allocate name)
        → answer ≡ other
    by_case (Some code) other last others is a b wanted = a.0 ∙ sym b.0
    by_case None other last others is a b wanted =
        let named : shown.name ≡ Some b.0 = ap name_of is ∙ ap (λ (r : PlainReply). name_of (shown_by r)) b.2 in
        wanted b.0 named last others (subst
        (λ (r : PlainReply). Done old space (names_in old space) (call.Allocate kind) r last others) b.2 b) ∙ sym b.2

-- the name of a former target's send-once right
pub prefers_request : (old : Ipc) (space name variant sync notify_name disposition : ℕ) (shown : Shown)
    (answer : PlainReply) (new : Ipc) (effects : List Effect)
    → ActsIn old space (names_in old space)
    (call.RequestNotification name variant sync notify_name disposition) answer new effects
    → ((given : ℕ) → shown.name ≡ Some given → (last : Ipc) → (others : List Effect)
    → ActsIn old space (names_in old space) (call.RequestNotification name variant sync notify_name disposition)
    (reply.PreviousTarget given) last others → answer ≡ reply.PreviousTarget given)
    → Prefers old space (call.RequestNotification name variant sync notify_name disposition) shown answer
unfolding Done name_of
prefers_request old space name variant sync notify_name disposition shown answer new effects acts wanted = record {
  takes =
      λ other last others is may. by_case
      (first_failing (tests_of old space (names_in old space)
      (call.RequestNotification name variant sync notify_name disposition))) other last others is acts may
      wanted;
}
  where
    by_case : (refusal : Option KernReturn) (other : PlainReply) (last : Ipc) (others : List Effect)
        → shown ≡ shown_by other
        → Called refusal old space (names_in old space)
        (call.RequestNotification name variant sync notify_name disposition) answer new effects
        → Called refusal old space (names_in old space)
        (call.RequestNotification name variant sync notify_name disposition) other last others
        → ((given : ℕ) → shown.name ≡ Some given → (last : Ipc) → (others : List Effect)
        → Called refusal old space (names_in old space)
        (call.RequestNotification name variant sync notify_name disposition)
        (reply.PreviousTarget given) last others → answer ≡ reply.PreviousTarget given)
        → answer ≡ other
    by_case (Some code) other last others is a b wanted = a.0 ∙ sym b.0
    by_case None other last others is a b wanted =
        let named : shown.name ≡ Some b.0 = ap name_of is ∙ ap (λ (r : PlainReply). name_of (shown_by r)) b.1 in
        wanted b.0 named last others (subst
        (λ (r : PlainReply). Done old space (names_in old space)
        (call.RequestNotification name variant sync notify_name disposition) r last others) b.1 b) ∙ sym b.1

-- the name of an extracted right
shown_extracted : (taken : Option Taken) (space : ℕ) (other : PlainReply) (last : Ipc) (others : List Effect)
    → actions.Extracted taken space other last others → (name : ℕ) × (kind : RightKind)
    × (other ≡ reply.Extracted name kind)
shown_extracted None space other last others acts = absurd acts
shown_extracted (Some taken) space other last others acts = (acts.0, taken.right.kind, acts.1)

pub prefers_extract : (old : Ipc) (space name disposition : ℕ) (shown : Shown) (answer : PlainReply) (new : Ipc)
    (effects : List Effect) → ActsIn old space (names_in old space)
    (call.ExtractRight name disposition) answer new effects
    → ((given : ℕ) → shown.name ≡ Some given → (kind : RightKind) → (last : Ipc) → (others : List Effect)
    → ActsIn old space (names_in old space) (call.ExtractRight name disposition)
    (reply.Extracted given kind) last others
    → answer ≡ reply.Extracted given kind)
    → Prefers old space (call.ExtractRight name disposition) shown answer
unfolding Done name_of
prefers_extract old space name disposition shown answer new effects acts wanted = record {
  takes =
      λ other last others is may. by_case
      (first_failing (tests_of old space (names_in old space) (call.ExtractRight name disposition))) other last
      others is acts may wanted;
}
  where
    by_case : (refusal : Option KernReturn) (other : PlainReply) (last : Ipc) (others : List Effect)
        → shown ≡ shown_by other
        → Called refusal old space (names_in old space) (call.ExtractRight name disposition) answer new effects
        → Called refusal old space (names_in old space) (call.ExtractRight name disposition) other last others
        → ((given : ℕ) → shown.name ≡ Some given → (kind : RightKind) → (last : Ipc) → (others : List Effect)
        → Called refusal old space (names_in old space) (call.ExtractRight name disposition)
        (reply.Extracted given kind) last others → answer ≡ reply.Extracted given kind)
        → answer ≡ other
    by_case (Some code) other last others is a b wanted = a.0 ∙ sym b.0
    by_case None other last others is a b wanted =
        let reported = shown_extracted (actions.taken_by old space name disposition) space other last others b in
        let named : shown.name ≡ Some reported.0 =
        ap name_of is ∙ ap (λ (r : PlainReply). name_of (shown_by r)) reported.2 in
        wanted reported.0 named reported.1 last others
        (subst (λ (r : PlainReply). Done old space (names_in old space)
        (call.ExtractRight name disposition) r last others) reported.2 b) ∙ sym reported.2

-- the number of a new space and its name
space_of : Shown → Option (ℕ × ℕ)
space_of shown = shown.space

shown_created : (taken : Option Taken) (other : PlainReply) (last : Ipc) (others : List Effect)
    → actions.Created taken other last others → (number : ℕ) × (name : ℕ) × (other ≡ reply.SpaceCreated number name)
shown_created None other last others acts = absurd acts
shown_created (Some taken) other last others acts = (acts.0, acts.1, acts.3)

pub prefers_create : (old : Ipc) (space name disposition : ℕ) (shown : Shown) (answer : PlainReply) (new : Ipc)
    (effects : List Effect) → ActsIn old space (names_in old space)
    (call.SpaceCreate name disposition) answer new effects
    → ((number : ℕ) → (child : ℕ) → shown.space ≡ Some (number, child) → (last : Ipc) → (others : List Effect)
    → ActsIn old space (names_in old space) (call.SpaceCreate name disposition)
    (reply.SpaceCreated number child) last others
    → answer ≡ reply.SpaceCreated number child)
    → Prefers old space (call.SpaceCreate name disposition) shown answer
unfolding Done space_of
prefers_create old space name disposition shown answer new effects acts wanted = record {
  takes =
      λ other last others is may. by_case
      (first_failing (tests_of old space (names_in old space) (call.SpaceCreate name disposition))) other last
      others is acts may wanted;
}
  where
    by_case : (refusal : Option KernReturn) (other : PlainReply) (last : Ipc) (others : List Effect)
        → shown ≡ shown_by other
        → Called refusal old space (names_in old space) (call.SpaceCreate name disposition) answer new effects
        → Called refusal old space (names_in old space) (call.SpaceCreate name disposition) other last others
        → ((number : ℕ) → (child : ℕ) → shown.space ≡ Some (number, child) → (last : Ipc) → (others : List Effect)
        → Called refusal old space (names_in old space) (call.SpaceCreate name disposition)
        (reply.SpaceCreated number child) last others → answer ≡ reply.SpaceCreated number child)
        → answer ≡ other
    by_case (Some code) other last others is a b wanted = a.0 ∙ sym b.0
    by_case None other last others is a b wanted =
        let reported = shown_created (actions.taken_by old space name disposition) other last others b in
        let numbered : shown.space ≡ Some (reported.0, reported.1) =
        ap space_of is ∙ ap (λ (r : PlainReply). space_of (shown_by r)) reported.2 in
        wanted reported.0 reported.1 numbered last others
        (subst (λ (r : PlainReply). Done old space (names_in old space)
        (call.SpaceCreate name disposition) r last others) reported.2 b) ∙ sym reported.2

-- a receive takes the message that the reply shows, and gives its rights the names that the reply shows
preference_of : Shown → Preference
preference_of shown = shown.preference

names_of : Shown → List ℕ
names_of shown = shown.names

pub prefers_receive : (old : Ipc) (space limit : ℕ) (large : Bool) (name : ℕ) (waited : Bool) (shown : Shown)
    (answer : PlainReply)
    → ((other : PlainReply) → (last : Ipc) → (others : List Effect) → shown.preference ≡ preferred_by other
    → shown.names ≡ names_shown (encoding_in other)
    → ActsIn old space (names_in old space) (call.Receive limit large name waited) other last others → answer ≡ other)
    → Prefers old space (call.Receive limit large name waited) shown answer
unfolding preference_of names_of
prefers_receive old space limit large name waited shown answer wanted =
    record { takes = λ other last others is may. wanted other last others (ap preference_of is) (ap names_of is) may }

-- The calls that only read, that change the state without effects, that give up rights, and that copy a right in.
abbrev pub only_reads : PlainCall → Bool
only_reads (call.Attach space) = true
only_reads call.Names = true
only_reads (call.Type name) = true
only_reads (call.GetRefs name kind) = true
only_reads (call.GetReceiveStatus name) = true
only_reads (call.GetSetStatus name) = true
only_reads c = false

abbrev pub sets_nothing_off : PlainCall → Bool
sets_nothing_off (call.Rename from to) = true
sets_nothing_off (call.AllocateName kind name) = true
sets_nothing_off (call.Allocate kind) = true
sets_nothing_off (call.SetQlimit name limit) = true
sets_nothing_off (call.SetMscount name count) = true
sets_nothing_off (call.SetSeqno name seqno) = true
sets_nothing_off (call.MoveMember member after) = true
sets_nothing_off c = false

abbrev pub gives_up : PlainCall → Bool
gives_up (call.Destroy name) = true
gives_up (call.Deallocate name) = true
gives_up (call.ModRefs name kind delta) = true
gives_up call.SpaceDestroy = true
gives_up c = false

abbrev pub hands_over : PlainCall → Bool
hands_over (call.RequestNotification name variant sync notify_name disposition) = true
hands_over (call.InsertRight name right_name disposition) = true
hands_over (call.ExtractRight name disposition) = true
hands_over (call.SpaceCreate name disposition) = true
hands_over c = false

-- a call that gives up rights leaves no choice open
pub gives_up_closed : (c : PlainCall) → gives_up c ≡ true → is_open c ≡ false
gives_up_closed (call.Allocate kind) is = absurd (cc is)
gives_up_closed (call.RequestNotification name variant sync notify_name disposition) is = absurd (cc is)
gives_up_closed (call.ExtractRight name disposition) is = absurd (cc is)
gives_up_closed (call.Receive limit large name waited) is = absurd (cc is)
gives_up_closed (call.SpaceCreate name disposition) is = absurd (cc is)
gives_up_closed c is = refl

-- a call that only reads leaves no choice open
pub reads_closed : (c : PlainCall) → only_reads c ≡ true → is_open c ≡ false
reads_closed (call.Allocate kind) is = absurd (cc is)
reads_closed (call.RequestNotification name variant sync notify_name disposition) is = absurd (cc is)
reads_closed (call.ExtractRight name disposition) is = absurd (cc is)
reads_closed (call.Receive limit large name waited) is = absurd (cc is)
reads_closed (call.SpaceCreate name disposition) is = absurd (cc is)
reads_closed c is = refl
