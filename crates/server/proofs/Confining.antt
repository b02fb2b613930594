-- The calls that a confined caller makes of what it is asked for.
use Rattle.std.proofs.Common.{◌≡◌, ◌⊎◌, inl, inr, ℕ, Bool, true, false, ◌&&◌, List, [], ◌∷◌, IfOk, Result, Ok, Err, refl, ap, sym, subst}
use Rattle.std.specs.Prelude.{if◌then◌else◌}
use Rattle.calls.specs.declared.request.Request.TheVariants as request
use Rattle.disk.proofs.Moments.{passes_as}
use Rattle.disk.specs.Moments.{View, Passes}
use Rattle.disk.specs.Slots.{Slots}
use Rattle.frame_service.specs.Confining.{attach_to, is_attach, made_of, shown, shown_for}
use Rattle.frame_service.specs.declared.confining.Shown.TheVariants.{AsItIs, ToAttach}
use Rattle.ipc_model.specs.calls.Step.{has_record}
use Rattle.ipc_model.specs.declared.call.Call.{Call}
use Rattle.ipc_model.specs.declared.call.Call.TheVariants.{Plain, Numbered, Unnumberable}
use Rattle.ipc_model.specs.declared.plain_call.PlainCall.TheVariants as call
use Rattle.ipc_model.specs.declared.record.Record.{Record}
use Rattle.ipc_model.specs.declared.reply.Reply.{Reply}
use Rattle.ipc_model.specs.declared.reply.Reply.TheVariants as reply
use Rattle.ipc_model.specs.state.State.{State}
use Rattle.ipc_model.specs.world.World.{record_of}
use Rattle.server.specs.Keeping.{AloneValue, AnswersAsked, AnswersKept, IsBeforeOrAfter}
use Rattle.store_fault.specs.declared.fault.StoreFault.{StoreFault}
use Rattle.store_layout.specs.Gates.{StandForState}

-- an attach has no record
attach_unrecorded : (c : Call) (said : Reply) → is_attach c ≡ true → has_record c said ≡ false
attach_unrecorded (Plain (call.Attach space)) (reply.Plain said) is = refl
attach_unrecorded (Plain (call.Attach space)) (reply.Numbered said) is = refl
attach_unrecorded (Plain (call.Attach space)) (reply.Repeated said) is = refl
attach_unrecorded (Plain c) said is = absurd (cc is)
attach_unrecorded (Numbered numbered) said is = absurd (cc is)
attach_unrecorded Unnumberable said is = absurd (cc is)

pub own_unrecorded : (space : ℕ) (said : Reply) → has_record (attach_to space) said ≡ false
own_unrecorded space said = attach_unrecorded (attach_to space) said refl

pub own_makes_none : (space : ℕ) (said : Reply) → record_of space (attach_to space) said ≡ []
own_makes_none space said =
    ap (λ (b : Bool). if b then (record { space = space; call = attach_to space; reply = said }) ∷ [] else [])
    (own_unrecorded space said)

attach_of : (confined attach : Bool) → (confined && attach) ≡ true → attach ≡ true
attach_of true attach is = is
attach_of false attach is = absurd (cc is)

-- where it is made as an attach to the caller's own space, what was asked for is an attach
pub kept_makes_none : (confined : Bool) (space : ℕ) (c : Call) (answer : Reply) → (confined && is_attach c) ≡ true
    → record_of space c answer ≡ []
kept_makes_none confined space c answer is =
    ap (λ (b : Bool). if b then (record { space = space; call = c; reply = answer }) ∷ [] else [])
    (attach_unrecorded c answer (attach_of confined (is_attach c) is))

pub made_kept : (confined : Bool) (space : ℕ) (c : Call) → (confined && is_attach c) ≡ true
    → made_of confined space c ≡ attach_to space
made_kept confined space c is = ap (λ (b : Bool). if b then attach_to space else c) is

pub made_free : (confined : Bool) (space : ℕ) (c : Call) → (confined && is_attach c) ≡ false
    → made_of confined space c ≡ c
made_free confined space c is = ap (λ (b : Bool). if b then attach_to space else c) is

pub shown_free : (confined : Bool) (c : Call) (said : Reply) → (confined && is_attach c) ≡ false
    → shown (shown_for confined c) said ≡ said
shown_free confined c said is = ap (λ (b : Bool). shown (if b then ToAttach else AsItIs) said) is

-- What a crash leaves during the attach to one's own space is the state before it.
pub own_before : (before after : State) (space : ℕ) (c : Slots)
    → IsBeforeOrAfter before space (attach_to space) after c → StandForState before c
own_before before after space c (inl stands) = stands
own_before before after space c (inr (said, step, recorded, stands)) =
    absurd (cc (recorded, own_unrecorded space said))

pub own_passes : (old new : View) (before after : State) (space : ℕ)
    → Passes old new (IsBeforeOrAfter before space (attach_to space) after) → Passes old new (StandForState before)
own_passes old new before after space time =
    passes_as old new (IsBeforeOrAfter before space (attach_to space) after) (StandForState before) time
    (own_before before after space)

pub before_made : (confined : Bool) (before after : State) (space : ℕ) (c : Call) (s : Slots)
    → IsBeforeOrAfter before space (made_of confined space c) after s → IsBeforeOrAfter before space c after s
before_made confined before after space c s stands = by (confined && is_attach c) refl
  where
    by : (b : Bool) → (confined && is_attach c) ≡ b → IsBeforeOrAfter before space c after s
    by true is =
        inl (own_before before after space s
        (subst (λ (k : Call). IsBeforeOrAfter before space k after s) (made_kept confined space c is) stands))
    by false is =
        subst (λ (k : Call). IsBeforeOrAfter before space k after s) (made_free confined space c is) stands

-- what is answered to a call that is made as it was asked for
pub asked_free : {D : Type 0} (honest : Type 0) (view : D → View) (old : AloneValue D) (c : Call)
    (r : Result Reply StoreFault) (new : AloneValue D) → (old.confined && is_attach c) ≡ false
    → IfOk r (λ reply. AnswersKept honest view old c reply new)
    → IfOk r (λ reply. AnswersAsked honest view old (request.One c) reply new)
asked_free honest view old c (Ok reply) new free kept = (
  reply,
  subst (λ (k : Call). AnswersKept honest view old k reply new) (sym (made_free old.confined old.space c free)) kept,
  sym (shown_free old.confined c reply free),
)
asked_free honest view old c (Err fault) new free kept = tt
