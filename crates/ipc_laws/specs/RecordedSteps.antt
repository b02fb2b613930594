-- Steps that have records: what is kept of each is a record that a segment may hold.
use Rattle.std.specs.Prelude.{◌≡◌, ℕ, ◌+◌, ◌^◌, ◌<◌, ◌≤◌, true, IsTrue, ◌++◌, List, length, refl}
use Rattle.std.proofs.Common.{◌∙◌, ap, sym, subst, inl, inr, arith, length-append}
use Rattle.codes.specs.declared.call_number.TheConstants.{NUMBERED}
use Rattle.codes.specs.declared.limits.TheConstants.{MAX_FRAME_CONTENT}
use Rattle.ipc_model.specs.calls.PlainStep as plain
use Rattle.ipc_model.specs.calls.PlainStep.{may_be_numbered}
use Rattle.ipc_model.specs.calls.Step.{Step, StepsPlain, MakesNumbered, number_of_call, has_record}
use Rattle.ipc_model.specs.declared.call.Call.{Call}
use Rattle.ipc_model.specs.declared.call.Call.TheVariants.{Plain, Numbered, Unnumberable}
use Rattle.ipc_model.specs.declared.call.NumberedCall.{NumberedCall}
use Rattle.ipc_model.specs.declared.plain_call.PlainCall.{PlainCall}
use Rattle.ipc_model.specs.declared.reply.NumberedReply.{NumberedReply}
use Rattle.ipc_model.specs.declared.reply.Reply.{Reply}
use Rattle.ipc_model.specs.declared.reply.Reply.TheVariants as reply
use Rattle.ipc_model.specs.encodings.Encodings.{call_encoding, reply_encoding, canonical_record, number_of_reply, numbered_encoding, FitsCall, FitsReply, HasItsResults, IsRecord, IsWholeCall}
use Rattle.ipc_model.specs.encodings.PlainCalls as plain_calls
use Rattle.ipc_model.specs.state.LawfulState.{LawfulState}
use Rattle.ipc_model.specs.state.State.{State}
use Rattle.ipc_laws.specs.CanonicalRecords.{both_true, canonical_is_record, length-numbered}
use Rattle.ipc_laws.specs.NumberedSteps.{IsMade, outcome_of}
use Rattle.ipc_laws.specs.PlainRecorded.{plain_whole}
use Rattle.words.specs.WordLaws.{length-word}
use Rattle.words.specs.Words.{word}

-- What a record needs of its call and reply, besides numbers in range.
pub record IsAnsweredWhole (c : Call) (answer : Reply) : Type 0 where
  pub whole : IsWholeCall c
  pub number_is : number_of_reply answer ≡ number_of_call c
  pub results : HasItsResults c answer
  pub call_frame : length (call_encoding c) ≤ MAX_FRAME_CONTENT
  pub reply_frame : length (reply_encoding answer) ≤ MAX_FRAME_CONTENT

-- how long the reply to a numbered call is
pub length-numbered_reply : (answer : NumberedReply)
    → length (numbered_encoding answer) ≡ 12 + length (plain_calls.reply_encoding answer.reply)
length-numbered_reply answer =
    let content : List ℕ = plain_calls.reply_encoding answer.reply in
    omega (
      arith,
      length-append (word NUMBERED) (word 0 ++ (word answer.request ++ content)),
      length-append (word 0) (word answer.request ++ content),
      length-append (word answer.request) content,
      length-word NUMBERED,
      length-word 0,
      length-word answer.request,
    )

plain_answered : (old : State) (space : ℕ) (c : PlainCall) (answer : Reply) (new : State) → LawfulState old
    → StepsPlain old space c answer new → has_record (Plain c) answer ≡ true → IsAnsweredWhole (Plain c) answer
plain_answered old space c (reply.Numbered answer) new lawful steps recorded = absurd steps
plain_answered old space c (reply.Repeated answer) new lawful steps recorded = absurd steps
plain_answered old space c (reply.Plain answer) new lawful steps recorded =
    let whole = plain_whole old.ipc space c answer new.ipc lawful.ipc steps.0 recorded in
    record {
      whole = whole.whole;
      number_is = whole.number_is;
      results = whole.results;
      call_frame = omega (arith, whole.call_frame);
      reply_frame = omega (arith, whole.reply_frame);
    }

made_answered : (old : State) (space : ℕ) (numbered : NumberedCall) (answer : Reply) (new : State) → LawfulState old
    → IsMade old space numbered answer new → has_record (Numbered numbered) answer ≡ true
    → IsAnsweredWhole (Numbered numbered) answer
made_answered old space numbered answer new lawful is recorded =
    let given : NumberedReply = is.given in
    let both =
    both_true (may_be_numbered numbered.call) (plain.has_record numbered.call given.reply)
    (ap (has_record (Numbered numbered)) (sym is.answer_is) ∙ recorded) in
    let whole = plain_whole old.ipc space numbered.call given.reply new.ipc lawful.ipc is.step both.1 in
    subst (IsAnsweredWhole (Numbered numbered)) (sym is.answer_is) (record {
      whole = whole.whole;
      number_is = refl;
      results = (is.request, whole.number_is, whole.results);
      call_frame = omega (arith, length-numbered numbered, whole.call_frame);
      reply_frame = omega (arith, length-numbered_reply given, whole.reply_frame);
    })

numbered_answered : (old : State) (space : ℕ) (numbered : NumberedCall) (answer : Reply) (new : State)
    → LawfulState old → MakesNumbered old space numbered answer new → has_record (Numbered numbered) answer ≡ true
    → IsAnsweredWhole (Numbered numbered) answer
numbered_answered old space numbered answer new lawful makes recorded =
    elim (outcome_of old space numbered answer new makes) as (λ _. IsAnsweredWhole (Numbered numbered) answer) [
      | inl refused ↦ absurd (cc (recorded, ap (has_record (Numbered numbered)) refused.refused.0))
      | inr (inl is) ↦ made_answered old space numbered answer new lawful is recorded
      | inr (inr again) ↦ absurd (cc (recorded, ap (has_record (Numbered numbered)) again.answer_is))
    ]

pub answered_whole : (old : State) (space : ℕ) (c : Call) (answer : Reply) (new : State) → LawfulState old
    → Step old space c answer new → has_record c answer ≡ true → IsAnsweredWhole c answer
unfolding Step
answered_whole old space (Plain c) answer new lawful step recorded =
    plain_answered old space c answer new lawful step recorded
answered_whole old space (Numbered numbered) answer new lawful step recorded =
    numbered_answered old space numbered answer new lawful step recorded
answered_whole old space Unnumberable answer new lawful step recorded = absurd (cc recorded)

-- What is kept of a step with a record, from a lawful state, is a record that a segment may hold, if its numbers are in
-- range.
abbrev pub RecordedStepsAreRecords : Type 0
RecordedStepsAreRecords =
    (old : State) (space : ℕ) (c : Call) (answer : Reply) (new : State) → LawfulState old → space < 2 ^ 32 → FitsCall c
    → FitsReply answer → Step old space c answer new → IsTrue (has_record c answer)
    → IsRecord (canonical_record (record { space = space; call = c; reply = answer }))

pub recorded_steps : RecordedStepsAreRecords
recorded_steps old space c answer new lawful fits call_fits reply_fits step recorded =
    let whole = answered_whole old space c answer new lawful step recorded in
    canonical_is_record (record { space = space; call = c; reply = answer }) fits call_fits whole.whole
    (record { fits = reply_fits; of_one_call = whole.number_is; results = whole.results; recorded = recorded })
    whole.call_frame whole.reply_frame
