-- What sends and receives that have records answer.
use Rattle.std.specs.Prelude.{◌≡◌, ℕ, zero, suc, Bool, true, false, ◌==◌, ◌&&◌, ◌||◌, nat_lt, List, [], ◌∷◌, length, Option, None, Some, Result, Ok, Err, IfErr, MatchResult, if◌then◌else◌, refl}
use Rattle.std.proofs.Common.{subst}
use Rattle.codes.specs.declared.kern_return.KernReturn.{KernReturn}
use Rattle.codes.specs.declared.kern_return.KernReturn.TheVariants.{Success, SendInvalidDest, SendInvalidReply, SendInvalidRight, SendInvalidHeader, SendNoBuffer}
use Rattle.codes.specs.declared.limits.TheConstants.{MAX_MESSAGE_PORTS}
use Rattle.codes.specs.declared.name.TheConstants.{MACH_PORT_NULL}
use Rattle.ipc_model.specs.calls.PlainStep.{ActsIn, IsRefusedWith, has_record, is_success}
use Rattle.ipc_model.specs.calls.Tests.{Tests, and_then, or_refused, unless_failing}
use Rattle.ipc_model.specs.declared.plain_call.PlainCall.TheVariants as call
use Rattle.ipc_model.specs.declared.plain_reply.PlainReply.{PlainReply}
use Rattle.ipc_model.specs.effects.Effects.{Effect}
use Rattle.ipc_model.specs.messages.Items.{Item, items_of, items_within, tests_of_item}
use Rattle.ipc_model.specs.messages.Messages.{UsedParts, used_parts}
use Rattle.ipc_model.specs.messages.Receiving.{without_message}
use Rattle.ipc_model.specs.messages.Sending as sending
use Rattle.ipc_model.specs.messages.Sending.{TakenDestination, TakenHeader, destination_at, TakenReply, TakenRights, Ready, ready_to_send, ready_of_items, take_destination, take_reply, take_header, sent}
use Rattle.ipc_model.specs.rights.CopyIn.{Taken, copy_in}
use Rattle.ipc_model.specs.rights.Dispositions.{Disposition}
use Rattle.ipc_model.specs.state.Ipc.{Ipc, Names, is_null_or_dead}
use Rattle.ipc_model.specs.encodings.PlainCalls.{IsMessageSize}
use Rattle.ipc_laws.specs.ItemLaws.{passed_tests}
use Rattle.ipc_laws.specs.ReadyKeep.{size_fits}

-- No refusal of a send is a success.

record Fails {X : Type 0} (r : Result X KernReturn) : Type 0 where
  code : IfErr r (λ code. is_success code ≡ false)

abbrev AreRefusals : Tests → Type 0
AreRefusals [] = Unit {0}
AreRefusals (test ∷ tests) = (is_success test.1 ≡ false) × AreRefusals tests

unless_fails : {X : Type 0} (tests : Tests) (r : Result X KernReturn) → AreRefusals tests → Fails r
    → Fails (unless_failing tests r)
unless_fails [] r codes rest = rest
unless_fails (test ∷ tests) r codes rest =
    elim test.0 as (λ (b : Bool). Fails (if b then Err test.1 else unless_failing tests r))
    [ true ↦ record { code = codes.0 } | false ↦ unless_fails tests r codes.1 rest ]

and_then_fails : {X Y : Type 0} (r : Result X KernReturn) (next : X → Result Y KernReturn) → Fails r
    → ((x : X) → Fails (next x)) → Fails (and_then r next)
and_then_fails (Ok x) next first rest = rest x
and_then_fails (Err code) next first rest = record { code = first.code }

or_fails : {X : Type 0} (code : KernReturn) (o : Option X) → is_success code ≡ false → Fails (or_refused code o)
or_fails code None is = record { code = is }
or_fails code (Some x) is = record { code = tt }

fine : {X : Type 0} (x : X) → Fails (Ok x)
fine x = record { code = tt }

if_fails : {X : Type 0} (b : Bool) (one other : Result X KernReturn) → Fails one → Fails other
    → Fails (if b then one else other)
if_fails true one other a b = a
if_fails false one other a b = b

destination_fails : (state : Ipc) (space name : ℕ) (disposition : Disposition)
    → Fails (take_destination state space name disposition)
destination_fails state space name disposition =
    and_then_fails (or_refused SendInvalidDest (copy_in state space name disposition))
    (λ (taken : Taken). and_then (or_refused SendInvalidDest (sending.live_port taken.right.port))
    (λ (serial : ℕ). Ok (destination_at taken serial)))
    (or_fails SendInvalidDest (copy_in state space name disposition) refl) (λ (taken : Taken).
    and_then_fails (or_refused SendInvalidDest (sending.live_port taken.right.port))
    (λ (serial : ℕ). Ok (destination_at taken serial)) (or_fails SendInvalidDest
    (sending.live_port taken.right.port) refl) (λ (serial : ℕ). fine (destination_at taken serial)))

reply_fails : (state : Ipc) (space name : ℕ) (disposition : Option Disposition)
    → Fails (take_reply state space name disposition)
reply_fails state space name None = fine _
reply_fails state space name (Some disposition) =
    if_fails (is_null_or_dead name) _ _ (fine _)
    (and_then_fails (or_refused SendInvalidReply _) _ (or_fails SendInvalidReply _ refl)
    (λ (taken : Taken). fine _))

header_fails : (state : Ipc) (space remote : ℕ) (destination : Disposition) (local : ℕ) (reply : Option Disposition)
    → Fails (take_header state space remote destination local reply)
header_fails state space remote destination local reply =
    if_fails (sending.reply_goes_first destination reply) _ _
    (and_then_fails (take_reply state space local reply) _ (reply_fails state space local reply)
    (λ (first : TakenReply).
    and_then_fails (take_destination first.state space remote destination) _
    (destination_fails first.state space remote destination) (λ (second : TakenDestination). fine _)))
    (and_then_fails (take_destination state space remote destination) _
    (destination_fails state space remote destination) (λ (first : TakenDestination).
    and_then_fails (take_reply first.taken.state space local reply) _ (reply_fails first.taken.state space local reply)
    (λ (second : TakenReply). fine _)))

within_fails : (n : ℕ) (bytes : List ℕ) → Fails (items_within n bytes)
within_fails zero bytes = fine _
within_fails (suc n) [] = fine _
within_fails (suc n) (b ∷ bytes) =
    unless_fails (tests_of_item (b ∷ bytes)) _ (refl, (refl, (refl, (refl, (refl, tt)))))
    (and_then_fails (items_within n _) _ (within_fails n _) (λ (items : List Item). fine _))

items_fail : (complex : Bool) (body : List ℕ) → Fails (sending.items_if_complex complex body)
unfolding items_of
items_fail true body = within_fails (length body) body
items_fail false body = fine _

reply_disposition_fails : (n name : ℕ) → Fails (sending.reply_disposition n name)
reply_disposition_fails n name =
    if_fails (n == 0 && name == MACH_PORT_NULL) _ _ (fine _)
    (and_then_fails (or_refused SendInvalidHeader _) _ (or_fails SendInvalidHeader _ refl)
    (λ (disposition : Disposition). fine _))

of_items_fails : (state : Ipc) (space : ℕ) (parts : UsedParts) (destination : Disposition)
    (reply : Option Disposition) (items : List Item) → Fails (ready_of_items state space parts destination reply items)
of_items_fails state space parts destination reply items =
    unless_fails ((nat_lt MAX_MESSAGE_PORTS (sending.ports_in items), SendNoBuffer) ∷
    (is_null_or_dead parts.remote, SendInvalidDest) ∷ []) _ (refl, (refl, tt))
    (and_then_fails (take_header state space parts.remote destination parts.local reply) _
    (header_fails state space parts.remote destination parts.local reply) (λ (header : TakenHeader).
    and_then_fails (or_refused SendInvalidRight _) _ (or_fails SendInvalidRight _ refl) (λ (taken : TakenRights).
    unless_fails (sending.tests_of_queue (sending.ready_message parts items header taken)) (Ok _) (refl, tt) (fine _))))

ready_fails : (state : Ipc) (space : ℕ) (message : List ℕ) → Fails (ready_to_send state space message)
unfolding ready_to_send
ready_fails state space message =
    let parts : UsedParts = used_parts message in
    unless_fails (sending.tests_of_size parts.size) _ (refl, (refl, tt))
    (and_then_fails (or_refused SendInvalidHeader _) _ (or_fails SendInvalidHeader _ refl)
    (λ (destination : Disposition).
    and_then_fails (sending.reply_disposition parts.local_disposition parts.local) _
    (reply_disposition_fails parts.local_disposition parts.local) (λ (reply : Option Disposition).
    and_then_fails (sending.items_if_complex parts.complex parts.body) _ (items_fail parts.complex parts.body)
    (λ (items : List Item). of_items_fails state space parts destination reply items))))

-- A send that has a record was done: its message has a size that messages may have, and nothing comes back.
pub record SendDone (message : List ℕ) (answer : PlainReply) : Type 0 where
  pub size : IsMessageSize (length message)
  pub answer_is : answer ≡ without_message Success 0 MACH_PORT_NULL

done_of : (old : Ipc) (space : ℕ) (message : List ℕ) (answer : PlainReply) (ready : Ready)
    → ready_to_send old space message ≡ Ok ready → answer ≡ without_message Success 0 MACH_PORT_NULL
    → SendDone message answer
unfolding ready_to_send
done_of old space message answer ready is answered =
    let fits = size_fits message (passed_tests (sending.tests_of_size (length message)) _ ready is).0 in
    record { size = (fits.whole, fits.small, fits.words); answer_is = answered }

pub send_done : (old : Ipc) (space : ℕ) (names : Names) (message : List ℕ) (answer : PlainReply) (new : Ipc)
    (effects : List Effect) → ActsIn old space names (call.Send message) answer new effects
    → has_record (call.Send message) answer ≡ true → SendDone message answer
send_done old space names message answer new effects acts recorded =
    elim (ready_to_send old space message)
    as (λ (r : Result Ready KernReturn). ready_to_send old space message ≡ r → MatchResult r
    (λ (ready : Ready). (answer ≡ without_message Success 0 MACH_PORT_NULL) × (new ≡ (sent ready).0)
    × (effects ≡ (sent ready).1))
    (λ code. IsRefusedWith (without_message code 0 MACH_PORT_NULL) old answer new effects) → SendDone message answer) [
      | Ok ready ↦ λ (is : _) (done : _). done_of old space message answer ready is done.0
      | Err code ↦ λ (is : _) (refused : _).
          let fails : is_success code ≡ false =
          (subst (λ (r : Result Ready KernReturn). Fails r) is (ready_fails old space message)).code in
          let none : has_record (call.Send message) (without_message code 0 MACH_PORT_NULL) ≡ true =
          subst (λ (a : PlainReply). has_record (call.Send message) a ≡ true) refused.0 recorded in
          absurd (neither (is_success code) fails none)
    ] refl acts
  where
    neither : (b : Bool) → b ≡ false → (b || false) ≡ true → ⊥
    neither true is e = cc is
    neither false is e = cc e

-- Sends that have records.
abbrev pub RecordedSendsAreDone : Type 0
RecordedSendsAreDone =
    (old : Ipc) (space : ℕ) (names : Names) (message : List ℕ) (answer : PlainReply) (new : Ipc) (effects : List Effect)
    → ActsIn old space names (call.Send message) answer new effects → has_record (call.Send message) answer ≡ true
    → SendDone message answer

pub recorded_sends : RecordedSendsAreDone
recorded_sends old space names message answer new effects acts recorded =
    send_done old space names message answer new effects acts recorded
