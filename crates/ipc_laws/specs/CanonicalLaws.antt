-- A message and its kept form are sent alike, and a call and what is kept of it are made alike.
use Rattle.std.specs.Prelude.{◌≡◌, ◌↔◌, ℕ, zero, suc, ◌+◌, ◌*◌, ◌/◌, ◌%◌, ◌^◌, ◌<◌, ◌≤◌, ◌==◌, List, [], ◌∷◌, length, drop, slice_index, bit_and, Option, None, Some, MatchResult, refl}
use Rattle.std.specs.Int.Bits.{and_self}
use Rattle.std.specs.FinMap as finmap
use Rattle.std.proofs.Common.{◌∙◌, ap, sym, subst, arith}
use Rattle.std.proofs.lemmas.Nat.{and_assoc, and_le_l, and_le_r, and_mask}
use Rattle.std.proofs.lemmas.Nat.Bits.{and_pow}
use Rattle.words.specs.Numbers.{little_number}
use Rattle.codes.specs.declared.kern_return.KernReturn.TheVariants.{Success}
use Rattle.codes.specs.declared.name.TheConstants.{MACH_PORT_NULL}
use Rattle.ipc_model.specs.calls.PlainStep.{PlainStep, ActsFrom, IsRefusedWith}
use Rattle.ipc_model.specs.declared.plain_call.PlainCall.{PlainCall}
use Rattle.ipc_model.specs.declared.plain_call.PlainCall.TheVariants as call
use Rattle.ipc_model.specs.declared.plain_reply.PlainReply.{PlainReply}
use Rattle.ipc_model.specs.declared.plain_reply.PlainReply.TheVariants as reply
use Rattle.ipc_model.specs.effects.Effects.{Effect}
use Rattle.ipc_model.specs.messages.Kept.{canonical_message, masked, used_bits}
use Rattle.ipc_model.specs.messages.Messages.{UsedParts, used_parts, bits_of, is_complex, remote_disposition, local_disposition, remote_of, local_of, id_of, body_of}
use Rattle.ipc_model.specs.messages.Receiving.{without_message}
use Rattle.ipc_model.specs.messages.Sending.{Ready, ready_by_parts, ready_to_send, sent}
use Rattle.ipc_model.specs.state.Ipc.{Ipc, Names}
use Rattle.ipc_model.specs.encodings.PlainCalls.{call_encoding, canonical_call, FitsCall, IsMessageSize, IsWholeCall, IsCanonicalCall, IsRecordedReply}
use Rattle.words.specs.Words.{AreBytes}

pub length-masked : (masks bytes : List ℕ) → length (masked masks bytes) ≡ length bytes
length-masked [] bytes = refl
length-masked (m ∷ masks) [] = refl
length-masked (m ∷ masks) (b ∷ bytes) = let others = length-masked masks bytes in omega (arith, others)

masked_again : (masks bytes : List ℕ) → masked masks (masked masks bytes) ≡ masked masks bytes
masked_again [] bytes = refl
masked_again (m ∷ masks) [] = refl
masked_again (m ∷ masks) (b ∷ bytes) =
    let first : bit_and (bit_and b m) m ≡ bit_and b m = and_assoc m b m ∙ ap (bit_and b) (and_self m) in
    let others = masked_again masks bytes in
    λ i. first i ∷ others i

masked_after : (masks bytes : List ℕ) (n : ℕ) → length masks ≤ n → drop n (masked masks bytes) ≡ drop n bytes
masked_after [] bytes n far = refl
masked_after (m ∷ masks) bytes zero far = absurd (omega (arith, far))
masked_after (m ∷ masks) [] (suc n) far = refl
masked_after (m ∷ masks) (b ∷ bytes) (suc n) far = masked_after masks bytes n (omega (arith, far))

masked_bytes : (masks bytes : List ℕ) → AreBytes bytes → AreBytes (masked masks bytes)
masked_bytes [] bytes are i = are i
masked_bytes (m ∷ masks) [] are i = are i
masked_bytes (m ∷ masks) (b ∷ bytes) are zero = let few = and_le_l b m in let first = are 0 in omega (arith, few, first)
masked_bytes (m ∷ masks) (b ∷ bytes) are (suc i) = masked_bytes masks bytes (λ k. are (suc k)) i

-- a byte under its mask, also past the message's end
at_masked : (masks bytes : List ℕ) (i : ℕ) → i < length masks
    → slice_index (masked masks bytes) i ≡ bit_and (slice_index bytes i) (slice_index masks i)
at_masked [] bytes i less = absurd (omega arith)
at_masked (m ∷ masks) [] i less = let few = and_le_l 0 (slice_index (m ∷ masks) i) in omega (arith, few)
at_masked (m ∷ masks) (b ∷ bytes) zero less = refl
at_masked (m ∷ masks) (b ∷ bytes) (suc i) less = at_masked masks bytes i (omega arith)

at_drop : (k : ℕ) (bytes : List ℕ) (i : ℕ) → slice_index (drop k bytes) i ≡ slice_index bytes (k + i)
at_drop zero bytes i = let same : i ≡ 0 + i = omega arith in ap (λ (n : ℕ). slice_index bytes n) same
at_drop (suc k) [] i = refl
at_drop (suc k) (b ∷ bytes) i =
    let same : suc (k + i) ≡ suc k + i = omega arith in at_drop k bytes i ∙ ap
    (λ (n : ℕ). slice_index (b ∷ bytes) n) same

all_bits : (n : ℕ) → n < 256 → bit_and n 255 ≡ n
all_bits n byte = let same = and_mask n 8 in omega (arith, same)

-- what is kept of a message is as long, is bytes if the message is, and is kept unchanged
pub canonical_long : (message : List ℕ) → length (canonical_message message) ≡ length message
unfolding canonical_message
canonical_long message = length-masked used_bits message

pub canonical_bytes : (message : List ℕ) → AreBytes message → AreBytes (canonical_message message)
unfolding canonical_message
canonical_bytes message are = masked_bytes used_bits message are

pub canonical_again : (message : List ℕ) → canonical_message (canonical_message message) ≡ canonical_message message
unfolding canonical_message
canonical_again message = masked_again used_bits message

-- a byte all of whose bits are used
same_byte : (message : List ℕ) (k j : ℕ) → AreBytes message → k + j < 20 → slice_index used_bits (k + j) ≡ 255
    → slice_index (drop k (masked used_bits message)) j ≡ slice_index (drop k message) j
same_byte message k j are within all =
    at_drop k (masked used_bits message) j ∙ at_masked used_bits message (k + j) within ∙ ap
    (λ (mask : ℕ). bit_and (slice_index message (k + j)) mask) all
    ∙ all_bits (slice_index message (k + j)) (are (k + j)) ∙ sym (at_drop k message j)

-- the bits of a header, by its bytes
record BitsKept (message : List ℕ) : Type 0 where
  remote : remote_disposition (bits_of (canonical_message message)) ≡ remote_disposition (bits_of message)
  local : local_disposition (bits_of (canonical_message message)) ≡ local_disposition (bits_of message)
  complex : (bits_of (canonical_message message) / 2 ^ 31) % 2 ≡ (bits_of message / 2 ^ 31) % 2

bits_kept : (message : List ℕ) → AreBytes message → BitsKept message
unfolding canonical_message
bits_kept message are =
    let kept = masked used_bits message in
    let first : slice_index kept 0 ≡ slice_index message 0 =
    at_masked used_bits message 0 (omega arith) ∙ all_bits (slice_index message 0) (are 0) in
    let second : slice_index kept 1 ≡ slice_index message 1 =
    at_masked used_bits message 1 (omega arith) ∙ all_bits (slice_index message 1) (are 1) in
    let third : slice_index kept 2 ≤ 0 =
    let few = and_le_r (slice_index message 2) 0 in
    omega (arith, few, at_masked used_bits message 2 (omega arith)) in
    let fourth : slice_index kept 3 ≡ ((slice_index message 3 / 2 ^ 7) % 2) * 2 ^ 7 =
    at_masked used_bits message 3 (omega arith) ∙ and_pow (slice_index message 3) 7 in
    let a = are 0 in
    let b = are 1 in
    let c = are 2 in
    let d = are 3 in
    record {
      remote = omega (arith, first, second, third, fourth, a, b, c, d);
      local = omega (arith, first, second, third, fourth, a, b, c, d);
      complex = omega (arith, first, second, third, fourth, a, b, c, d);
    }

-- A send reads the same parts of a message and of what is kept of it.
pub canonical_parts : (message : List ℕ) → AreBytes message
    → used_parts (canonical_message message) ≡ used_parts message
unfolding canonical_message
canonical_parts message are =
    let kept = masked used_bits message in
    let bits = bits_kept message are in
    let size : length kept ≡ length message = length-masked used_bits message in
    let complex : is_complex (bits_of kept) ≡ is_complex (bits_of message) = ap (λ (n : ℕ). n == 1) bits.complex in
    let remote : remote_of kept ≡ remote_of message =
    omega (
      arith,
      same_byte message 8 0 are (omega arith) refl,
      same_byte message 8 1 are (omega arith) refl,
      same_byte message 8 2 are (omega arith) refl,
      same_byte message 8 3 are (omega arith) refl,
    ) in
    let local : local_of kept ≡ local_of message =
    omega (
      arith,
      same_byte message 12 0 are (omega arith) refl,
      same_byte message 12 1 are (omega arith) refl,
      same_byte message 12 2 are (omega arith) refl,
      same_byte message 12 3 are (omega arith) refl,
    ) in
    let id : id_of kept ≡ id_of message = ap (little_number 4) (masked_after used_bits message 20 (omega arith)) in
    let body : body_of kept ≡ body_of message = masked_after used_bits message 24 (omega arith) in
    λ i. record {
      size = size i;
      remote_disposition = bits.remote i;
      local_disposition = bits.local i;
      complex = complex i;
      remote = remote i;
      local = local i;
      id = id i;
      body = body i;
    }

-- messages of the same parts are sent alike
acts_alike : (a b : List ℕ) (old : Ipc) (space : ℕ) (o : Option Names) (answer : PlainReply) (acted : Ipc)
    (effects : List Effect) → used_parts a ≡ used_parts b → ActsFrom old space o (call.Send a) answer acted effects
    → ActsFrom old space o (call.Send b) answer acted effects
unfolding ready_to_send
acts_alike a b old space None answer acted effects same acts = acts
acts_alike a b old space (Some names) answer acted effects same acts =
    subst (λ (parts : UsedParts). MatchResult (ready_by_parts old space parts)
    (λ (ready : Ready). (answer ≡ without_message Success 0 MACH_PORT_NULL) × (acted ≡ (sent ready).0)
    × (effects ≡ (sent ready).1))
    (λ code. IsRefusedWith (without_message code 0 MACH_PORT_NULL) old answer acted effects)) same acts

sent_alike : (a b : List ℕ) (old : Ipc) (space : ℕ) (answer : PlainReply) (new : Ipc) → used_parts a ≡ used_parts b
    → PlainStep old space (call.Send a) answer new → PlainStep old space (call.Send b) answer new
unfolding PlainStep
sent_alike a b old space answer new same (acted, effects, acts, settles) =
    (acted, effects, acts_alike a b old space (finmap.get old.spaces space) answer acted effects same acts, settles)

-- A message and what is kept of it are sent alike.
abbrev pub MessagesAreSentAsCanonical : Type 0
MessagesAreSentAsCanonical =
    (old : Ipc) (space : ℕ) (message : List ℕ) (answer : PlainReply) (new : Ipc) → AreBytes message
    → PlainStep old space (call.Send (canonical_message message)) answer new ↔ PlainStep old space (call.Send message) answer new

pub sent_as_canonical : MessagesAreSentAsCanonical
sent_as_canonical old space message answer new are = (
  sent_alike (canonical_message message) message old space answer new (canonical_parts message are),
  sent_alike message (canonical_message message) old space answer new (sym (canonical_parts message are)),
)

-- What is kept of a call: the call itself, unless it is a send.

pub canonical_call_again : (c : PlainCall) → canonical_call (canonical_call c) ≡ canonical_call c
canonical_call_again (call.Send message) = ap (λ (m : List ℕ). call.Send m) (canonical_again message)
canonical_call_again c = refl

pub canonical_fits : (c : PlainCall) → FitsCall c → FitsCall (canonical_call c)
canonical_fits (call.Send message) fits = canonical_bytes message fits
canonical_fits c fits = fits

-- its encoding is as long
pub canonical_call_long : (c : PlainCall) → length (call_encoding (canonical_call c)) ≡ length (call_encoding c)
unfolding call_encoding
canonical_call_long (call.Send message) = let same = canonical_long message in omega (arith, same)
canonical_call_long c = refl

-- so what is kept of a call is a call that a record can hold
pub canonical_is_canonical : (c : PlainCall) → FitsCall c → IsWholeCall c → IsCanonicalCall (canonical_call c)
canonical_is_canonical c fits whole =
    record { fits = canonical_fits c fits; whole = whole_kept c whole; kept = canonical_call_again c }
  where
    whole_kept : (d : PlainCall) → IsWholeCall d → IsWholeCall (canonical_call d)
    whole_kept (call.Send message) whole = subst IsMessageSize (sym (canonical_long message)) whole
    whole_kept d whole = whole

-- a reply is one to what is kept of its call
pub kept_replied : (c : PlainCall) (r : PlainReply) → IsRecordedReply c r → IsRecordedReply (canonical_call c) r
kept_replied (call.Send message) (reply.Done number) is =
    record { fits = is.fits; of_one_call = is.of_one_call; results = is.results; recorded = is.recorded }
kept_replied (call.Send message) r is =
    record { fits = is.fits; of_one_call = is.of_one_call; results = is.results; recorded = is.recorded }
kept_replied c r is = is

-- A call and what is kept of it are made alike.
abbrev pub PlainCallsAreMadeAsCanonical : Type 0
PlainCallsAreMadeAsCanonical =
    (old : Ipc) (space : ℕ) (c : PlainCall) (answer : PlainReply) (new : Ipc) → FitsCall c
    → PlainStep old space (canonical_call c) answer new ↔ PlainStep old space c answer new

pub plain_made_as_canonical : PlainCallsAreMadeAsCanonical
plain_made_as_canonical old space (call.Send message) answer new fits = sent_as_canonical old space message answer new fits
plain_made_as_canonical old space c answer new fits = ((λ step. step), (λ step. step))
