-- What is kept of calls and records, with those of numbered calls.
use Rattle.std.specs.Prelude.{◌≡◌, ◌↔◌, ℕ, ◌+◌, ◌^◌, ◌<◌, ◌≤◌, Bool, true, false, ◌&&◌, List, ◌++◌, length, Option, None, Some, MatchOption, refl}
use Rattle.std.proofs.Common.{◌∙◌, ap, arith, inl, inr, length-append}
use Rattle.std.specs.FinMap as finmap
use Rattle.codes.specs.declared.call_number.TheConstants.{NUMBERED}
use Rattle.codes.specs.declared.kern_return.KernReturn.{KernReturn}
use Rattle.codes.specs.declared.limits.TheConstants.{MAX_FRAME_CONTENT}
use Rattle.ipc_model.specs.calls.PlainStep.{PlainStep, has_record, may_be_numbered}
use Rattle.ipc_model.specs.calls.Step.{Step, StepsPlain, StepsNumbered, MakesNumbered, IsRefused, IsRepeated, IsKeptAlready, Replays, asked_again, tests_of_numbered}
use Rattle.ipc_model.specs.calls.Tests.{RefusedOrDone, first_failing}
use Rattle.ipc_model.specs.declared.call.Call.{Call}
use Rattle.ipc_model.specs.declared.call.Call.TheVariants.{Plain, Numbered, Unnumberable}
use Rattle.ipc_model.specs.declared.call.NumberedCall.{NumberedCall}
use Rattle.ipc_model.specs.declared.plain_call.PlainCall.{PlainCall}
use Rattle.ipc_model.specs.declared.plain_call.PlainCall.TheVariants as call
use Rattle.ipc_model.specs.declared.plain_reply.PlainReply.{PlainReply}
use Rattle.ipc_model.specs.declared.record.Record.{Record}
use Rattle.ipc_model.specs.declared.reply.NumberedReply.{NumberedReply}
use Rattle.ipc_model.specs.declared.reply.Reply.{Reply}
use Rattle.ipc_model.specs.declared.reply.Reply.TheVariants as reply
use Rattle.ipc_model.specs.encodings.Encodings.{call_encoding, reply_encoding, canonical_call, canonical_record, FitsCall, IsWholeCall, IsCanonicalCall, IsRecord, IsRecordedReply}
use Rattle.ipc_model.specs.encodings.PlainCalls as plain_calls
use Rattle.ipc_model.specs.messages.Kept.{canonical_message}
use Rattle.ipc_model.specs.state.State.{State}
use Rattle.ipc_laws.specs.CanonicalLaws as plain
use Rattle.words.specs.WordLaws.{length-word}
use Rattle.words.specs.Words.{word}

pub canonical_call_again : (c : Call) → canonical_call (canonical_call c) ≡ canonical_call c
canonical_call_again (Plain c) = ap (λ (k : PlainCall). Plain k) (plain.canonical_call_again c)
canonical_call_again (Numbered numbered) =
    ap (λ (k : PlainCall). Numbered (record { request = numbered.request; call = k }))
    (plain.canonical_call_again numbered.call)
canonical_call_again Unnumberable = refl

pub canonical_fits : (c : Call) → FitsCall c → FitsCall (canonical_call c)
canonical_fits (Plain c) fits = plain.canonical_fits c fits
canonical_fits (Numbered numbered) fits = (fits.0, plain.canonical_fits numbered.call fits.1)
canonical_fits Unnumberable fits = fits

-- how long the call of a number is
pub length-numbered : (numbered : NumberedCall)
    → length (call_encoding (Numbered numbered)) ≡ 8 + length (plain_calls.call_encoding numbered.call)
length-numbered numbered =
    let content : List ℕ = plain_calls.call_encoding numbered.call in
    omega (
      arith,
      length-append (word NUMBERED) (word numbered.request ++ content),
      length-append (word numbered.request) content,
      length-word NUMBERED,
      length-word numbered.request,
    )

-- its encoding is as long
pub canonical_call_long : (c : Call) → length (call_encoding (canonical_call c)) ≡ length (call_encoding c)
canonical_call_long (Plain c) = plain.canonical_call_long c
canonical_call_long (Numbered numbered) =
    omega (
      arith,
      length-numbered numbered,
      length-numbered (record numbered { call = plain_calls.canonical_call numbered.call }),
      plain.canonical_call_long numbered.call,
    )
canonical_call_long Unnumberable = refl

whole_kept : (c : Call) → FitsCall c → IsWholeCall c → IsWholeCall (canonical_call c)
whole_kept (Plain c) fits whole = (plain.canonical_is_canonical c fits whole).whole
whole_kept (Numbered numbered) fits whole = (plain.canonical_is_canonical numbered.call fits.1 whole).whole
whole_kept Unnumberable fits whole = whole

-- so what is kept of a call is a call that a record can hold
pub canonical_is_canonical : (c : Call) → FitsCall c → IsWholeCall c → IsCanonicalCall (canonical_call c)
canonical_is_canonical c fits whole =
    record { fits = canonical_fits c fits; whole = whole_kept c fits whole; kept = canonical_call_again c }

pub both_true : (a b : Bool) → (a && b) ≡ true → (a ≡ true) × (b ≡ true)
both_true true true both = (refl, refl)
both_true true false both = absurd (cc both)
both_true false b both = absurd (cc both)

pub true_both : (a b : Bool) → a ≡ true → b ≡ true → (a && b) ≡ true
true_both true true one other = refl
true_both true false one other = absurd (cc other)
true_both false b one other = absurd (cc one)

may_canonical : (c : PlainCall) → may_be_numbered (plain_calls.canonical_call c) ≡ may_be_numbered c
may_canonical (call.Send message) = refl
may_canonical c = refl

-- what a numbered reply in a record says of the call that is numbered
pub record_of_numbered : (numbered : NumberedCall) (answer : NumberedReply)
    → IsRecordedReply (Numbered numbered) (reply.Numbered answer)
    → plain_calls.IsRecordedReply numbered.call answer.reply
record_of_numbered numbered answer is = record {
  fits = is.fits.1;
  of_one_call = is.results.1;
  results = is.results.2;
  recorded = (both_true (may_be_numbered numbered.call) (has_record numbered.call answer.reply) is.recorded).1;
}

pub numbered_of_record : (numbered : NumberedCall) (answer : NumberedReply) → answer.request ≡ numbered.request
    → answer.request < 2 ^ 32 → may_be_numbered numbered.call ≡ true
    → plain_calls.IsRecordedReply numbered.call answer.reply
    → IsRecordedReply (Numbered numbered) (reply.Numbered answer)
numbered_of_record numbered answer same fits may is = record {
  fits = (fits, is.fits);
  of_one_call = refl;
  results = (same, is.of_one_call, is.results);
  recorded = true_both (may_be_numbered numbered.call) (has_record numbered.call answer.reply) may is.recorded;
}

-- a reply is one to what is kept of its call
kept_replied : (c : Call) (r : Reply) → IsRecordedReply c r → IsRecordedReply (canonical_call c) r
kept_replied (Plain c) (reply.Plain r) is =
    let kept =
    plain.kept_replied c r
    (record { fits = is.fits; of_one_call = is.of_one_call; results = is.results; recorded = is.recorded }) in
    record { fits = kept.fits; of_one_call = kept.of_one_call; results = kept.results; recorded = kept.recorded }
kept_replied (Numbered numbered) (reply.Numbered answer) is =
    let may = both_true (may_be_numbered numbered.call) (has_record numbered.call answer.reply) is.recorded in
    numbered_of_record (record numbered { call = plain_calls.canonical_call numbered.call }) answer is.results.0
    is.fits.0 (may_canonical numbered.call ∙ may.0)
    (plain.kept_replied numbered.call answer.reply (record_of_numbered numbered answer is))
kept_replied (Plain c) (reply.Numbered answer) is = absurd (cc is.recorded)
kept_replied (Plain c) (reply.Repeated answer) is = absurd (cc is.recorded)
kept_replied (Numbered numbered) (reply.Plain answer) is = absurd (cc is.recorded)
kept_replied (Numbered numbered) (reply.Repeated answer) is = absurd (cc is.recorded)
kept_replied Unnumberable r is = is

-- What is kept of a record is one that a segment may hold, if its call is whole and its frames aren't too long.
pub canonical_is_record : (entry : Record) → entry.space < 2 ^ 32 → FitsCall entry.call → IsWholeCall entry.call
    → IsRecordedReply entry.call entry.reply
    → length (call_encoding entry.call) ≤ MAX_FRAME_CONTENT → length (reply_encoding entry.reply) ≤ MAX_FRAME_CONTENT
    → IsRecord (canonical_record entry)
canonical_is_record entry space fits whole answered calls replies = record {
  space = space;
  call = canonical_is_canonical entry.call fits whole;
  reply = kept_replied entry.call entry.reply answered;
  frames = (omega (arith, calls, canonical_call_long entry.call), replies);
}

-- A call and what is kept of it are made alike.
abbrev pub CallsAreMadeAsCanonical : Type 0
CallsAreMadeAsCanonical =
    (old : State) (space : ℕ) (c : Call) (answer : Reply) (new : State) → FitsCall c
    → Step old space (canonical_call c) answer new ↔ Step old space c answer new

map_done : {D E : Type 0} (refused : KernReturn → Type 0) (refusal : Option KernReturn) → (D → E)
    → RefusedOrDone refusal refused D → RefusedOrDone refusal refused E
map_done refused None f done = f done
map_done refused (Some code) f is = is

map_first : {D E : Type 0} (repeats : NumberedReply → Type 0) (again : Option NumberedReply) → (D → E)
    → MatchOption again D repeats → MatchOption again E repeats
map_first repeats None f made = f made
map_first repeats (Some kept) f repeated = repeated

-- a numbered send whose message is sent alike
numbered_sent : (old : State) (space request : ℕ) (a b : List ℕ) (answer : Reply) (new : State)
    → ((r : PlainReply) → PlainStep old.ipc space (call.Send a) r new.ipc
    → PlainStep old.ipc space (call.Send b) r new.ipc)
    → StepsNumbered old space (record { request = request; call = call.Send a }) answer new
    → StepsNumbered old space (record { request = request; call = call.Send b }) answer new
numbered_sent old space request a b (reply.Plain r) new alike steps = absurd steps
numbered_sent old space request a b (reply.Numbered r) new alike steps = (steps.0, alike r.reply steps.1, steps.2)
numbered_sent old space request a b (reply.Repeated r) new alike steps = absurd steps

makes_sent : (old : State) (space request : ℕ) (a b : List ℕ) (answer : Reply) (new : State)
    → ((r : PlainReply) → PlainStep old.ipc space (call.Send a) r new.ipc
    → PlainStep old.ipc space (call.Send b) r new.ipc)
    → MakesNumbered old space (record { request = request; call = call.Send a }) answer new
    → MakesNumbered old space (record { request = request; call = call.Send b }) answer new
makes_sent old space request a b answer new alike makes =
    map_done (λ code. IsRefused old code answer new) (first_failing (tests_of_numbered old space (record { request = request; call = call.Send a })))
    (map_first (λ kept. IsRepeated old kept answer new) (asked_again (finmap.get old.kept space) request) (numbered_sent old space request a b answer new alike))
    makes

makes_as_canonical : (old : State) (space request : ℕ) (c : PlainCall) (answer : Reply) (new : State)
    → plain_calls.FitsCall c
    → MakesNumbered old space (record { request = request; call = plain_calls.canonical_call c }) answer new
    ↔ MakesNumbered old space (record { request = request; call = c }) answer new
makes_as_canonical old space request (call.Send message) answer new fits = (
  makes_sent old space request (canonical_message message) message answer new
      (λ (r : PlainReply). (plain.sent_as_canonical old.ipc space message r new.ipc fits).0),
  makes_sent old space request message (canonical_message message) answer new
      (λ (r : PlainReply). (plain.sent_as_canonical old.ipc space message r new.ipc fits).1),
)
makes_as_canonical old space request c answer new fits = ((λ makes. makes), (λ makes. makes))

plain_as_canonical : (old : State) (space : ℕ) (c : PlainCall) (answer : Reply) (new : State) → plain_calls.FitsCall c
    → StepsPlain old space (plain_calls.canonical_call c) answer new ↔ StepsPlain old space c answer new
plain_as_canonical old space (call.Send message) (reply.Plain r) new fits =
    let alike = plain.sent_as_canonical old.ipc space message r new.ipc fits in
    ((λ step. (alike.0 step.0, step.1)), (λ step. (alike.1 step.0, step.1)))
plain_as_canonical old space (call.Send message) (reply.Numbered r) new fits = ((λ step. step), (λ step. step))
plain_as_canonical old space (call.Send message) (reply.Repeated r) new fits = ((λ step. step), (λ step. step))
plain_as_canonical old space c answer new fits = ((λ step. step), (λ step. step))

pub made_as_canonical : CallsAreMadeAsCanonical
unfolding Step
made_as_canonical old space (Plain c) answer new fits = plain_as_canonical old space c answer new fits
made_as_canonical old space (Numbered numbered) answer new fits =
    makes_as_canonical old space numbered.request numbered.call answer new fits.1
made_as_canonical old space Unnumberable answer new fits = ((λ step. step), (λ step. step))

kept_as_canonical : (old : State) (space : ℕ) (c : Call) (answer : Reply) (new : State)
    → IsKeptAlready old space (canonical_call c) answer new ↔ IsKeptAlready old space c answer new
kept_as_canonical old space (Plain c) answer new = ((λ is. is), (λ is. is))
kept_as_canonical old space (Numbered numbered) (reply.Plain r) new = ((λ is. is), (λ is. is))
kept_as_canonical old space (Numbered numbered) (reply.Numbered r) new = ((λ is. is), (λ is. is))
kept_as_canonical old space (Numbered numbered) (reply.Repeated r) new = ((λ is. is), (λ is. is))
kept_as_canonical old space Unnumberable answer new = ((λ is. is), (λ is. is))

-- and so a record is replayed
pub replayed_as_canonical : (old : State) (entry : Record) (new : State) → FitsCall entry.call
    → Replays old (canonical_record entry) new ↔ Replays old entry new
replayed_as_canonical old entry new fits =
    let made = made_as_canonical old entry.space entry.call entry.reply new fits in
    let kept = kept_as_canonical old entry.space entry.call entry.reply new in (
      (λ replays. elim replays as (λ _. Replays old entry new) [ inl step ↦ inl (made.0 step) | inr is ↦ inr (kept.0 is) ]),
      (λ replays. elim replays as (λ _. Replays old (canonical_record entry) new)
          [ inl step ↦ inl (made.1 step) | inr is ↦ inr (kept.1 is) ]),
    )
