-- Numbered calls are made once. What a space keeps is told by the records that its task made: the reply of the last one
-- that was numbered.
use Rattle.std.specs.Prelude.{◌≡◌, ℕ, ◌≤◌, true, ◌==◌, List, [], ◌∷◌, Option, None, Some, is_some, if◌then◌else◌}
use Rattle.std.specs.FinMap as finmap
use Rattle.ipc_model.specs.calls.PlainStep as plain
use Rattle.ipc_model.specs.calls.PlainStep.{may_be_numbered}
use Rattle.ipc_model.specs.calls.Step.{Step, Replays, removes_space}
use Rattle.ipc_model.specs.declared.call.Call.{Call}
use Rattle.ipc_model.specs.declared.call.Call.TheVariants.{Plain, Numbered}
use Rattle.ipc_model.specs.declared.call.NumberedCall.{NumberedCall}
use Rattle.ipc_model.specs.declared.record.Record.{Record}
use Rattle.ipc_model.specs.declared.reply.NumberedReply.{NumberedReply}
use Rattle.ipc_model.specs.declared.reply.Reply.{Reply}
use Rattle.ipc_model.specs.declared.reply.Reply.TheVariants as reply
use Rattle.ipc_model.specs.encodings.PlainCalls.{number_of_reply}
use Rattle.ipc_model.specs.state.State.{State, last_request}

-- What a space keeps after a call of its task with this reply: a numbered reply that has a record, or nothing once the
-- space is removed; with any other call, what it kept before.
abbrev pub kept_by_call : Option NumberedReply → Call → Reply → Option NumberedReply
kept_by_call kept (Plain c) (reply.Plain answer) = if removes_space c answer then None else kept
kept_by_call kept (Numbered numbered) (reply.Numbered answer) =
    if plain.has_record numbered.call answer.reply then Some answer else kept
kept_by_call kept c answer = kept

abbrev pub kept_by_record : Option NumberedReply → ℕ → Record → Option NumberedReply
kept_by_record kept space entry =
    if entry.space == space then kept_by_call kept entry.call entry.reply else kept

abbrev pub kept_by : Option NumberedReply → ℕ → List Record → Option NumberedReply
kept_by kept space [] = kept
kept_by kept space (first ∷ records) = kept_by (kept_by_record kept space first) space records

-- From what a space keeps on, the requests of its records never fall, until it is removed.
abbrev pub IsNoLess : Option NumberedReply → Option NumberedReply → Type 0
IsNoLess before None = Unit {0}
IsNoLess before (Some after) = last_request before ≤ after.request

abbrev pub NeverFall : Option NumberedReply → ℕ → List Record → Type 0
NeverFall kept space [] = Unit {0}
NeverFall kept space (first ∷ records) =
    IsNoLess kept (kept_by_record kept space first) × NeverFall (kept_by_record kept space first) space records

-- A call that is asked for again: its space is there, it may be numbered, and it has the number of the space's last
-- request and the call number of that request's reply.
pub record AsksAgain (state : State) (space : ℕ) (numbered : NumberedCall) (kept : NumberedReply) : Type 0 where
  pub there : is_some (finmap.get state.ipc.spaces space) ≡ true
  pub may : may_be_numbered numbered.call ≡ true
  pub request : numbered.request ≡ kept.request
  pub same_call : plain.number_of_call numbered.call ≡ number_of_reply kept.reply

-- In a run of records from one state to another, numbered calls are made once.
pub record Once (base : State) (records : List Record) (end : State) : Type 0 where
  -- each space keeps what its records say
  pub kept : (space : ℕ) → finmap.get end.kept space ≡ kept_by (finmap.get base.kept space) space records
  -- whose requests never fall
  pub never_fall : (space : ℕ) → NeverFall (finmap.get base.kept space) space records
  -- and a call asked for again is answered by the reply in its record, and changes nothing
  pub again : (space : ℕ) (numbered : NumberedCall) (kept : NumberedReply) (answer : Reply) (new : State)
      → kept_by (finmap.get base.kept space) space records ≡ Some kept → AsksAgain end space numbered kept
      → Step end space (Numbered numbered) answer new → (answer ≡ reply.Repeated kept) × (new ≡ end)

-- A record whose request its space keeps already changes nothing.
abbrev pub KeptChangesNothing : Type 0
KeptChangesNothing =
    (old : State) (entry : Record) (new : State) (kept : NumberedReply) (numbered : NumberedCall) → Replays old entry new
    → entry.call ≡ Numbered numbered → finmap.get old.kept entry.space ≡ Some kept
    → kept.request ≡ numbered.request → new ≡ old
