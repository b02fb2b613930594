-- What is answered fits in a frame.
use Rattle.std.specs.Prelude.{◌≡◌, ℕ, ◌≤◌, Bool, true, false, cond, ◌==◌, List, [], ◌++◌, length, MatchBool, Result, Ok, Err, IfErr, IfOk}
use Rattle.std.proofs.Common.{sym, subst, arith, length-append}
use Rattle.codes.specs.KernReturn.{number_of}
use Rattle.codes.specs.declared.call_number.TheConstants.{NUMBERED}
use Rattle.codes.specs.declared.kern_return.KernReturn.{KernReturn}
use Rattle.codes.specs.declared.limits.TheConstants.{MAX_FRAME_CONTENT}
use Rattle.ipc_model.specs.calls.PlainStep.{number_of_call}
use Rattle.ipc_model.specs.declared.call.Call.{Call}
use Rattle.ipc_model.specs.declared.call.Call.TheVariants.{Plain, Numbered, Unnumberable}
use Rattle.ipc_model.specs.declared.plain_call.PlainCall.{PlainCall}
use Rattle.ipc_model.specs.declared.plain_call.PlainCall.TheVariants as call
use Rattle.ipc_model.specs.declared.plain_reply.PlainReply.{PlainReply}
use Rattle.ipc_model.specs.declared.plain_reply.PlainReply.TheVariants as plain_reply
use Rattle.ipc_model.specs.declared.reply.Reply.{Reply}
use Rattle.ipc_model.specs.messages.Receiving.{without_message}
use Rattle.ipc_model.specs.calls.Refusals.{refused_of}
use Rattle.ipc_model.specs.encodings.PlainCalls as plain_calls
use Rattle.ipc_model.specs.encodings.Encodings.{reply_encoding}
use Rattle.frame_service.specs.Serving.{plain_shortage_of, shortage_of}
use Rattle.words.specs.WordLaws.{length-word}
use Rattle.words.specs.Words.{word}

-- a reply of at most four words
abbrev IsShort : PlainReply → Type 0
IsShort answer = length (plain_calls.reply_encoding answer) ≤ 16

two_words : (a b : ℕ) → length (word a ++ word b) ≡ 8
two_words a b = omega (arith, length-append (word a) (word b), length-word a, length-word b)

short_refusal : (n : ℕ) (code : KernReturn) → IsShort (plain_reply.Refused n code)
unfolding plain_calls.reply_encoding
short_refusal n code = omega (arith, two_words n (number_of code))

short_message : (code : KernReturn) → IsShort (without_message code 0 0)
unfolding plain_calls.reply_encoding
short_message code =
    let results : List ℕ = word 0 ++ (word 0 ++ []) in
    omega (
      arith,
      length-append (word 19) (word (number_of code) ++ results),
      length-append (word (number_of code)) results,
      length-append (word 0) (word 0 ++ []),
      length-append (word 0) [],
      length-word 19,
      length-word (number_of code),
      length-word 0,
    )

pub message_fits : (code : KernReturn) (answer : PlainReply) → answer ≡ without_message code 0 0
    → length (plain_calls.reply_encoding answer) ≤ MAX_FRAME_CONTENT
message_fits code answer is =
    let fits : IsShort answer = subst IsShort (sym is) (short_message code) in omega (arith, fits)

short_by_number : (mach_msg : Bool) (n : ℕ) (code : KernReturn)
    → IsShort (cond mach_msg (without_message code 0 0) (plain_reply.Refused n code))
short_by_number true n code = short_message code
short_by_number false n code = short_refusal n code

pub refusal_fits : (n : ℕ) (code : KernReturn) (answer : Reply) → answer ≡ refused_of n code
    → length (reply_encoding answer) ≤ MAX_FRAME_CONTENT
refusal_fits n code answer is =
    let fits = short_by_number (n == 19) n code in
    subst (λ (r : Reply). length (reply_encoding r) ≤ MAX_FRAME_CONTENT) (sym is) (omega (arith, fits))

-- A refusal fits in a frame.
pub refused_fits : (n : ℕ) (code : KernReturn)
    → length (plain_calls.reply_encoding (plain_reply.Refused n code)) ≤ MAX_FRAME_CONTENT
refused_fits n code = let fits = short_refusal n code in omega (arith, fits)

-- So does that of a call that was done and has no results.
pub done_fits : (n : ℕ) → length (plain_calls.reply_encoding (plain_reply.Done n)) ≤ MAX_FRAME_CONTENT
unfolding plain_calls.reply_encoding
done_fits n = omega (arith, two_words n 0)

plain_shortage_short : (c : PlainCall) → IsShort (plain_shortage_of c)
plain_shortage_short (call.Send message) = short_message _
plain_shortage_short (call.Receive limit large name waited) = short_message _
plain_shortage_short c = short_refusal (number_of_call c) _

shortage_short : (c : Call) → length (reply_encoding (shortage_of c)) ≤ 16
shortage_short (Plain c) = plain_shortage_short c
shortage_short (Numbered numbered) = short_refusal NUMBERED _
shortage_short Unnumberable = short_refusal NUMBERED _

-- The reply to a shortage fits in a frame.
pub shortage_fits : (c : Call) (answer : Reply) → answer ≡ shortage_of c
    → length (reply_encoding answer) ≤ MAX_FRAME_CONTENT
shortage_fits c answer is =
    let fits = shortage_short c in
    subst (λ (r : Reply). length (reply_encoding r) ≤ MAX_FRAME_CONTENT) (sym is) (omega (arith, fits))

-- Answers.

-- what follows for the value
pub if_ok : {T E : Type 0} {P Q : T → Type 0} (r : Result T E) → ((x : T) → P x → Q x) → IfOk r P → IfOk r Q
if_ok (Ok x) f p = f x p
if_ok (Err e) f p = tt

pub if_err : {T E : Type 0} {P Q : E → Type 0} (r : Result T E) → ((e : E) → P e → Q e) → IfErr r P → IfErr r Q
if_err (Ok x) f p = tt
if_err (Err e) f p = f e p

pub at_true : (b : Bool) (P Q : Type 0) → b ≡ true → P → MatchBool b P Q
at_true b P Q is p = subst (λ (c : Bool). MatchBool c P Q) (sym is) p

pub at_false : (b : Bool) (P Q : Type 0) → b ≡ false → Q → MatchBool b P Q
at_false b P Q is q = subst (λ (c : Bool). MatchBool c P Q) (sym is) q
