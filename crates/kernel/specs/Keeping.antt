-- The kept replies after a call.
use Rattle.std.specs.Prelude.{◌≡◌, ℕ, Bool, true, false, Option, None, Some, if◌then◌else◌, refl}
use Rattle.std.proofs.Common.{◌∙◌, ap, sym, inl, inr}
use Rattle.std.specs.Cmp.{nat_cmp_total}
use Rattle.std.specs.FinMap as finmap
use Rattle.std.specs.FinMap.{nat_cmp-IsAntisymmetric, same_map}
use Rattle.ipc_laws.specs.MapLaws.{get-gone, get-left, get-there}
use Rattle.ipc_laws.specs.MapSums.{insert-insert, insert-same}
use Rattle.ipc_laws.specs.Others.{number_decided}
use Rattle.ipc_model.specs.calls.PlainStep.{has_record}
use Rattle.ipc_model.specs.calls.Step.{kept_after, kept_with, removes_space}
use Rattle.ipc_model.specs.declared.plain_call.PlainCall.{PlainCall}
use Rattle.ipc_model.specs.declared.plain_reply.PlainReply.{PlainReply}
use Rattle.ipc_model.specs.declared.reply.NumberedReply.{NumberedReply}
use Rattle.ipc_model.specs.state.Ipc.{Ipc}
use Rattle.ipc_model.specs.state.State.{KeptReplies, State}
use Rattle.kernel.specs.declared.answering.Keeping.{Keeping}
use Rattle.kernel.specs.declared.answering.Keeping.TheVariants.{Same, Nothing, Answer}

-- a state from its two parts
abbrev pub state_of : Ipc → KeptReplies → State
state_of ipc kept = record { ipc = ipc; kept = kept }

-- the kept replies after a call that leaves this
abbrev pub kept_by : Keeping → KeptReplies → ℕ → KeptReplies
kept_by Same kept space = kept
kept_by Nothing kept space = finmap.remove kept space
kept_by (Answer answer) kept space = finmap.insert kept space answer

-- a plain call leaves nothing if it removes its space
abbrev pub keeping_plain : PlainCall → PlainReply → Keeping
keeping_plain c answer = if removes_space c answer then Nothing else Same

-- a numbered call that was made leaves its reply, if it is recorded
abbrev pub keeping_numbered : PlainCall → NumberedReply → Keeping
keeping_numbered c given = if has_record c given.reply then Answer given else Same

pub kept_plain : (kept : KeptReplies) (space : ℕ) (c : PlainCall) (answer : PlainReply)
    → kept_by (keeping_plain c answer) kept space ≡ kept_after kept space c answer
kept_plain kept space c answer = by (removes_space c answer)
  where
    by : (removes : Bool)
        → kept_by (if removes then Nothing else Same) kept space ≡ (if removes then finmap.remove kept space else kept)
    by true = refl
    by false = refl

pub kept_numbered : (kept : KeptReplies) (space : ℕ) (c : PlainCall) (given : NumberedReply)
    → kept_by (keeping_numbered c given) kept space ≡ kept_with kept space c given
kept_numbered kept space c given = by (has_record c given.reply)
  where
    by : (recorded : Bool) → kept_by (if recorded then Answer given else Same) kept space
        ≡ (if recorded then finmap.insert kept space given else kept)
    by true = refl
    by false = refl

-- the kept replies after the space's former one is restored
abbrev pub put_back : KeptReplies → ℕ → Option NumberedReply → KeptReplies
put_back kept space None = finmap.remove kept space
put_back kept space (Some given) = finmap.insert kept space given

-- restoring undoes the insertion of a call's reply
pub back_again : (kept : KeptReplies) (space : ℕ) (given : NumberedReply) (before : Option NumberedReply)
    → finmap.get kept space ≡ before → put_back (finmap.insert kept space given) space before ≡ kept
back_again kept space given (Some kept_before) is =
    insert-insert kept space given kept_before ∙ insert-same kept space kept_before is
back_again kept space given None none =
    same_map nat_cmp_total nat_cmp-IsAntisymmetric _ _ (λ (q : ℕ).
    elim (number_decided q space)
    as (λ _. finmap.get (finmap.remove (finmap.insert kept space given) space) q ≡ finmap.get kept q) [
      | inl apart ↦ get-left (finmap.insert kept space given) space q apart ∙ get-there kept space given q apart
      | inr same ↦ ap (finmap.get (finmap.remove (finmap.insert kept space given) space)) same
          ∙ get-gone (finmap.insert kept space given) space ∙ sym none ∙ sym (ap (finmap.get kept) same)
    ])
