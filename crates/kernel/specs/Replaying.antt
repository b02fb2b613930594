-- The replay of records.
use Rattle.std.specs.Prelude.{◌≡◌, ℕ, Some, refl}
use Rattle.std.proofs.Common.{inl, inr}
use Rattle.std.specs.FinMap as finmap
use Rattle.ipc_model.specs.calls.Step.{Step, IsKeptAlready, Replays}
use Rattle.ipc_model.specs.declared.call.Call.{Call}
use Rattle.ipc_model.specs.declared.call.Call.TheVariants.{Plain, Numbered, Unnumberable}
use Rattle.ipc_model.specs.declared.record.Record.{Record}
use Rattle.ipc_model.specs.declared.reply.Reply.{Reply}
use Rattle.ipc_model.specs.declared.reply.Reply.TheVariants as reply
use Rattle.ipc_model.specs.state.State.{KeptReplies, State}

-- the space already keeps the reply of this numbered call, and it is this one
abbrev pub KeepsAlready : KeptReplies → ℕ → Call → Reply → Type 0
KeepsAlready kept space (Numbered numbered) (reply.Numbered answer) =
    (finmap.get kept space ≡ Some answer) × (answer.request ≡ numbered.request)
KeepsAlready kept space c answer = ⊥

pub kept_already : (old : State) (space : ℕ) (c : Call) (answer : Reply) → KeepsAlready old.kept space c answer
    → IsKeptAlready old space c answer old
kept_already old space (Plain c) answer keeps = absurd keeps
kept_already old space Unnumberable answer keeps = absurd keeps
kept_already old space (Numbered numbered) (reply.Plain answer) keeps = absurd keeps
kept_already old space (Numbered numbered) (reply.Repeated answer) keeps = absurd keeps
kept_already old space (Numbered numbered) (reply.Numbered answer) keeps = (keeps.0, keeps.1, refl)

pub keeps_already : (old : State) (space : ℕ) (c : Call) (answer : Reply) (new : State)
    → IsKeptAlready old space c answer new → KeepsAlready old.kept space c answer
keeps_already old space (Plain c) answer new is = absurd is
keeps_already old space Unnumberable answer new is = absurd is
keeps_already old space (Numbered numbered) (reply.Plain answer) new is = absurd is
keeps_already old space (Numbered numbered) (reply.Repeated answer) new is = absurd is
keeps_already old space (Numbered numbered) (reply.Numbered answer) new is = (is.0, is.1)

-- a record that neither is kept already nor has a step isn't replayed
pub replays_not : (old : State) (entry : Record) (new : State)
    → (KeepsAlready old.kept entry.space entry.call entry.reply → ⊥)
    → (Step old entry.space entry.call entry.reply new → ⊥) → Replays old entry new → ⊥
replays_not old entry new kept step (inl made) = step made
replays_not old entry new kept step (inr is) = kept (keeps_already old entry.space entry.call entry.reply new is)
