-- The path from a task's bytes to a message that is ready.
use Rattle.std.proofs.Common.{◌≡◌, ℕ, Bool, true, false, List, [], ◌∷◌, ◌++◌, length, Result, Ok, Err, sym, ap, subst, ◌∙◌, if◌then◌else◌}
use Rattle.std.specs.Prelude.{Option, IfOk, IfErr}
use Rattle.codes.specs.declared.kern_return.KernReturn.{KernReturn}
use Rattle.codes.specs.declared.kern_return.KernReturn.TheVariants.{SendInvalidHeader}
use Rattle.ipc_model.specs.calls.Tests.{Tests, and_then, or_refused, unless_failing}
use Rattle.ipc_model.specs.declared.message.Message.{Message}
use Rattle.ipc_model.specs.effects.Effects.{Effect}
use Rattle.ipc_model.specs.messages.Items.{Item}
use Rattle.ipc_model.specs.messages.Messages.{UsedParts, used_parts}
use Rattle.ipc_model.specs.messages.Sending.{Ready, ready_to_send, tests_of_size, header_disposition, reply_disposition, items_if_complex, ready_of_items}
use Rattle.ipc_model.specs.rights.Dispositions.{Disposition}
use Rattle.ipc_model.specs.state.Ipc.{Ipc}
use Rattle.sending.specs.Agrees.{Agrees, ReportsRefusal}
use Rattle.sending.specs.Sends.{ReadyIs, of_dispositions}
use Rattle.sending.proofs.Rests.{want_is}
use Rattle.sending.proofs.Steps.{agrees_then, agrees_failed, agrees_same, reported}
use Rattle.sending.specs.declared.fault.SendFault.{SendFault}

-- all tests passed
passed : {Y Z W : Type 0} (tests : Tests) (parts : UsedParts) (by : Y → UsedParts) (next : Result Z KernReturn)
    (Then : Z → W → Type 0) (found : Y) (result : Result W SendFault)
    → Agrees (unless_failing tests (Ok parts)) (λ p y. p ≡ by y) (Ok found)
    → (parts ≡ by found → Agrees next Then result)
    → Agrees (unless_failing tests next) Then result
passed [] parts by next Then found result is rest = rest is
passed {Y} {Z} {W} (test ∷ tests) parts by next Then found result is rest =
    elim test.0 as (λ (b : Bool). Agrees (if b then Err test.1 else unless_failing tests (Ok parts))
    (λ p y. p ≡ by y) (Ok found) → Agrees (if b then Err test.1 else unless_failing tests next) Then result) [
      | true ↦ λ (failed : _). absurd failed
      | false ↦ λ (later : _). passed tests parts by next Then found result later rest
    ] is

-- a test failed
failed : {Y Z W : Type 0} (tests : Tests) (parts : UsedParts) (by : Y → UsedParts) (next : Result Z KernReturn)
    (Then : Z → W → Type 0) (fault : SendFault)
    → Agrees (unless_failing tests (Ok parts)) (λ p (y : Y). p ≡ by y) (Err fault)
    → Agrees (unless_failing tests next) Then (Err fault)
failed [] parts by next Then fault is = want_is next Then fault is
failed {Y} (test ∷ tests) parts by next Then fault is =
    elim test.0 as (λ (b : Bool). Agrees (if b then Err test.1 else unless_failing tests (Ok parts))
    (λ p (y : Y). p ≡ by y) (Err fault)
    → Agrees (if b then Err test.1 else unless_failing tests next) Then (Err fault)) [
      | true ↦ λ (first : _). first
      | false ↦ λ (later : _). failed tests parts by next Then fault later
    ] is

pub ready_passed : {Y W : Type 0} (state : Ipc) (space : ℕ) (bytes : List ℕ) (by : Y → UsedParts)
    (Then : Ready → W → Type 0) (found : Y) (result : Result W SendFault)
    → Agrees (unless_failing (tests_of_size (length bytes)) (Ok (used_parts bytes))) (λ p y. p ≡ by y) (Ok found)
    → Agrees (of_dispositions state space (by found)) Then result → Agrees (ready_to_send state space bytes) Then result
unfolding ready_to_send
ready_passed state space bytes by Then found result is rest =
    passed (tests_of_size (length bytes)) (used_parts bytes) by
    (of_dispositions state space (used_parts bytes)) Then found result is
    (λ parts. subst (λ (p : UsedParts). Agrees (of_dispositions state space p) Then result) (sym parts) rest)

pub ready_failed : {Y W : Type 0} (state : Ipc) (space : ℕ) (bytes : List ℕ) (by : Y → UsedParts)
    (Then : Ready → W → Type 0) (fault : SendFault)
    → Agrees (unless_failing (tests_of_size (length bytes)) (Ok (used_parts bytes))) (λ p (y : Y). p ≡ by y) (Err fault)
    → Agrees (ready_to_send state space bytes) Then (Err fault)
unfolding ready_to_send
ready_failed state space bytes by Then fault is =
    failed (tests_of_size (length bytes)) (used_parts bytes) by
    (of_dispositions state space (used_parts bytes)) Then fault is

-- without pending effects, the message that was found is the one that is ready
pub ready_found : (r : Result Ready KernReturn) (new : Ipc) (waiting after : List Effect) (found : Message × ℕ)
    → waiting ≡ [] → Agrees r (ReadyIs new waiting after) (Ok found)
    → r ≡ Ok (record { message = found.0; port = found.1; state = new; notices = after })
ready_found (Err code) new waiting after found none is = absurd is
ready_found (Ok ready) new waiting after found none is = λ i. Ok (record {
  message = sym is.0 i;
  port = sym is.1 i;
  state = sym is.2 i;
  notices = sym (is.3 ∙ ap (λ (l : List Effect). l ++ ready.notices) none) i;
})

-- The same for a message that was found and for a fault.
pub all_found : (r : Result Ready KernReturn) (new : Ipc) (waiting after : List Effect)
    (result : Result (Message × ℕ) SendFault) → waiting ≡ [] → Agrees r (ReadyIs new waiting after) result
    → IfOk result (λ found. r ≡ Ok (record { message = found.0; port = found.1; state = new; notices = after }))
all_found r new waiting after (Ok found) none is = ready_found r new waiting after found none is
all_found r new waiting after (Err fault) none is = tt

pub all_reported : (r : Result Ready KernReturn) (new : Ipc) (waiting after : List Effect)
    (result : Result (Message × ℕ) SendFault) → Agrees r (ReadyIs new waiting after) result
    → IfErr result (λ fault. ReportsRefusal r fault)
all_reported r new waiting after (Ok found) is = tt
all_reported r new waiting after (Err fault) is = reported r (ReadyIs new waiting after) fault is

-- The dispositions and the items of a message.
module _ (state : Ipc) (space : ℕ) (parts : UsedParts) where
  abbrev of_items : Disposition → Option Disposition → Result Ready KernReturn
  of_items destination reply =
      and_then (items_if_complex parts.complex parts.body)
      (λ (items : List Item). ready_of_items state space parts destination reply items)

  abbrev of_reply : Disposition → Result Ready KernReturn
  of_reply destination =
      and_then (reply_disposition parts.local_disposition parts.local)
      (λ (reply : Option Disposition). of_items destination reply)

  abbrev destination_of : Result Disposition KernReturn
  destination_of = or_refused SendInvalidHeader (header_disposition parts.remote_disposition)

  pub first_failed : {W : Type 0} (Then : Ready → W → Type 0) (fault : SendFault)
      → Agrees destination_of (λ x (z : Disposition). z ≡ x) (Err fault)
      → Agrees (of_dispositions state space parts) Then (Err fault)
  first_failed Then fault is = agrees_failed destination_of of_reply (λ x (z : Disposition). z ≡ x) Then fault is

  pub second_failed : {W : Type 0} (Then : Ready → W → Type 0) (destination : Disposition) (fault : SendFault)
      → Agrees destination_of (λ x z. z ≡ x) (Ok destination)
      → Agrees (reply_disposition parts.local_disposition parts.local) (λ x (z : Option Disposition). z ≡ x) (Err fault)
      → Agrees (of_dispositions state space parts) Then (Err fault)
  second_failed Then destination fault first is =
      agrees_same destination_of of_reply Then destination (Err fault) first
      (agrees_failed (reply_disposition parts.local_disposition parts.local) (of_items destination)
      (λ x (z : Option Disposition). z ≡ x) Then fault is)

  pub third_failed : {Y W : Type 0} (Then : Ready → W → Type 0) (destination : Disposition) (reply : Option Disposition)
      (by : Y → List Item) (fault : SendFault) → Agrees destination_of (λ x z. z ≡ x) (Ok destination)
      → Agrees (reply_disposition parts.local_disposition parts.local) (λ x z. z ≡ x) (Ok reply)
      → Agrees (items_if_complex parts.complex parts.body) (λ items (f : Y). items ≡ by f) (Err fault)
      → Agrees (of_dispositions state space parts) Then (Err fault)
  third_failed Then destination reply by fault first second is =
      agrees_same destination_of of_reply Then destination (Err fault) first
      (agrees_same (reply_disposition parts.local_disposition parts.local) (of_items destination) Then reply
      (Err fault) second
      (agrees_failed (items_if_complex parts.complex parts.body)
      (λ (items : List Item). ready_of_items state space parts destination reply items)
      (λ items (f : _). items ≡ by f) Then fault is))

  pub all_given : {Y W : Type 0} (Then : Ready → W → Type 0) (destination : Disposition) (reply : Option Disposition)
      (by : Y → List Item) (found : Y) (result : Result W SendFault)
      → Agrees destination_of (λ x z. z ≡ x) (Ok destination)
      → Agrees (reply_disposition parts.local_disposition parts.local) (λ x z. z ≡ x) (Ok reply)
      → Agrees (items_if_complex parts.complex parts.body) (λ items f. items ≡ by f) (Ok found)
      → Agrees (ready_of_items state space parts destination reply (by found)) Then result
      → Agrees (of_dispositions state space parts) Then result
  all_given Then destination reply by found result first second third rest =
      agrees_same destination_of of_reply Then destination result first
      (agrees_same (reply_disposition parts.local_disposition parts.local)
      (of_items destination) Then reply result second
      (agrees_then (items_if_complex parts.complex parts.body)
      (λ (items : List Item). ready_of_items state space parts destination reply items)
      (λ items f. items ≡ by f) Then found result third
      (λ items is. subst (λ (l : List Item). Agrees (ready_of_items state space parts destination reply l) Then result)
      (sym is) rest)))
