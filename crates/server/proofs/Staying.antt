-- What a confined caller keeps.
use Rattle.std.proofs.Common.{◌≡◌, ℕ, Bool, true, false, ◌&&◌, ◌||◌, refl, sym, ap, subst, ◌∙◌}
use Rattle.std.specs.Prelude.{MatchBool, if◌then◌else◌}
use Rattle.calls.specs.declared.request.Request.{Request}
use Rattle.calls.specs.declared.request.Request.TheVariants as request
use Rattle.disk.specs.Moments.{View}
use Rattle.frame_service.proofs.Keeping.{answers_keep}
use Rattle.frame_service.specs.Confining.{attach_to, confine_shown, made_of}
use Rattle.ipc_model.specs.calls.Step.{succeeded}
use Rattle.ipc_model.specs.declared.call.Call.{Call}
use Rattle.ipc_model.specs.declared.call.Call.TheVariants.{Plain, Numbered, Unnumberable}
use Rattle.ipc_model.specs.declared.plain_call.PlainCall.TheVariants as call
use Rattle.ipc_model.specs.declared.plain_reply.PlainReply.TheVariants.{Done, Refused}
use Rattle.ipc_model.specs.declared.reply.Reply.{Reply}
use Rattle.ipc_model.specs.declared.reply.Reply.TheVariants as reply
use Rattle.ipc_model.specs.history.History.{attached_by, space_after}
use Rattle.server.proofs.Confining.{own_unrecorded}
use Rattle.server.specs.Confining.{AnswerSaysConfined, ConfinedConnectionsStay, StaysIn}
use Rattle.server.specs.Keeping.{AloneValue, AnswersAsked, AnswersKept, RestsKept}

attaches_there : (confined : Bool) (space : ℕ) (c : Call) → confined ≡ true
    → attached_by space (made_of confined space c) ≡ space
attaches_there true space (Plain (call.Attach other)) is = refl
attaches_there true space (Plain c) is = refl
attaches_there true space (Numbered numbered) is = refl
attaches_there true space Unnumberable is = refl
attaches_there false space c is = absurd (cc is)

chosen : (done : Bool) (one other : ℕ) → one ≡ other → (if done then one else other) ≡ other
chosen true one other is = is
chosen false one other is = refl

or_true : (b c : Bool) → c ≡ true → (b || c) ≡ true
or_true true c is = refl
or_true false c is = is

confine_is_done : (said : Reply) → succeeded (confine_shown said) ≡ succeeded said
confine_is_done (reply.Plain (Done number)) = refl
confine_is_done (reply.Plain (Refused number code)) = refl
confine_is_done (reply.Plain said) = refl
confine_is_done (reply.Numbered said) = refl
confine_is_done (reply.Repeated said) = refl

module _ {D : Type 0} (honest : Type 0) (view : D → View) where
  -- a call that attaches to no space but the caller's own
  kept_there : (old : AloneValue D) (c : Call) (said : Reply) (new : AloneValue D)
      → attached_by old.space c ≡ old.space → AnswersKept honest view old c said new → new.space ≡ old.space
  kept_there old c said new there kept =
      kept.stored.1 ∙ chosen (succeeded said) (attached_by old.space c) old.space there

  abbrev Keeps : AloneValue D → AloneValue D → Type 0
  Keeps old new = old.confined ≡ true → StaysIn old new

  answering_keeps : (old : AloneValue D) (asks : Request) (answer : Reply) (new : AloneValue D)
      → AnswersAsked honest view old asks answer new → Keeps old new
  answering_keeps old (request.One c) answer new (said, kept, is) confined = record {
    confined = kept.stored.2 ∙ confined;
    space =
        kept_there old (made_of old.confined old.space c) said new (attaches_there old.confined old.space c confined) kept;
  }
  answering_keeps old (request.Message m) answer new answered confined = absurd answered
  answering_keeps old (request.Answered code) answer new answered confined = absurd answered
  answering_keeps old request.Confine answer new (said, mid, kept, is, after) confined = record {
    confined =
        ap (λ (a : AloneValue D). a.confined) after ∙ or_true (succeeded said) old.confined confined;
    space = ap (λ (a : AloneValue D). a.space) after ∙ kept_there old (attach_to old.space) said mid refl kept;
  }

  pub confined_stay : ConfinedConnectionsStay honest view
  confined_stay old exchanges new confined answered =
      answers_keep (AnswersAsked honest view) (RestsKept honest view) Keeps
      (λ c is. record { confined = is; space = refl })
      (λ a b c first second is.
      let mid = first is in
      let end = second mid.confined in
      record { confined = end.confined; space = end.space ∙ mid.space })
      answering_keeps
      (λ a b rested is. record {
        confined = ap (λ (v : AloneValue D). v.confined) rested.same ∙ is;
        space = ap (λ (v : AloneValue D). v.space) rested.same;
      })
      old exchanges new answered confined

  pub says_confined : AnswerSaysConfined honest view
  says_confined old answer new (said, mid, kept, is, after) = by (succeeded said) refl
    where
      shown_so : succeeded answer ≡ succeeded said
      shown_so = ap succeeded is ∙ confine_is_done said

      there : mid.space ≡ old.space
      there = kept_there old (attach_to old.space) said mid refl kept

      same : mid ≡ old
      same =
          kept.unrecorded (own_unrecorded old.space said)
          ∙ (λ i. record {
            kernel = old.kernel;
            store = old.store;
            space = there i;
            confined = old.confined;
            failed = old.failed;
          })

      by : (b : Bool) → succeeded said ≡ b → MatchBool (succeeded answer) (StaysIn old new) (new ≡ old)
      by true done =
          subst (λ (b : Bool). MatchBool b (StaysIn old new) (new ≡ old)) (sym (shown_so ∙ done)) (record {
            confined =
                ap (λ (a : AloneValue D). a.confined) after ∙ ap (λ (b : Bool). b || old.confined) done;
            space = ap (λ (a : AloneValue D). a.space) after ∙ there;
          })
      by false refused =
          subst (λ (b : Bool). MatchBool b (StaysIn old new) (new ≡ old)) (sym (shown_so ∙ refused))
          (after ∙ (λ i. record {
            kernel = (same i).kernel;
            store = (same i).store;
            space = (same i).space;
            confined = (ap (λ (b : Bool). b || old.confined) refused) i;
            failed = (same i).failed;
          }))
