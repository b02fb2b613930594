-- The whole life of a conversation, by its steps.
use Rattle.std.proofs.Common.{◌≡◌, ℕ, false, List, Option, None, Some, Err, refl, sym, subst}
use Rattle.std.specs.Prelude.{MatchOption, is_some}
use Rattle.calls.specs.declared.request.Request.{Request}
use Rattle.ipc_model.specs.declared.reply.Reply.{Reply}
use Rattle.store_fault.specs.declared.fault.StoreFault.{StoreFault}
use Rattle.frame_service.specs.Conversing.{Continues, Ended, Goes, Kept, Stops}
use Rattle.frame_service.specs.declared.conversation.Conversation.{Conversation}
use Rattle.frame_service.specs.declared.service.ServeFault.{ServeFault}

-- no step failed
pub none_failed : (fault : Option ServeFault) → is_some fault ≡ false → fault ≡ None
none_failed None is = refl
none_failed (Some fault) is = absurd (cc is)

module _ {S W C T Turn Known Latest : Type 0} (remaining : S → Option (List ℕ)) (contents : W → Option (List ℕ))
    (answer : T → Reply) (makes : C → Request → T → C → Type 0) (lacks : C → Request → C → Type 0)
    (acknowledges : C → T → C → Type 0) (fails : C → T → StoreFault → C → Type 0) (looks : C → C → Type 0)
    (old new : Conversation S W C T Turn Known Latest) (unfailed : old.fault ≡ None) where
  abbrev LivesAs : C → List ℕ → List ℕ → Conversation S W C T Turn Known Latest → Option ServeFault → Type 0
  LivesAs start input before c o =
      MatchOption o (Goes remaining contents answer makes lacks acknowledges fails looks start input before c)
      (λ fault. Ended remaining contents answer makes lacks acknowledges fails looks start input before c (Err fault))

  -- a step that didn't fail
  pub continued : new.fault ≡ None
      → Continues remaining contents answer makes lacks acknowledges fails looks old new
      → Kept remaining contents answer makes lacks acknowledges fails looks old new
  continued still goes_on start input before lives =
      subst (LivesAs start input before new) (sym still)
      (goes_on start input before (subst (LivesAs start input before old) unfailed lives))

  -- a step that failed
  pub stopped : (fault : ServeFault) → new.fault ≡ Some fault
      → Stops remaining contents answer makes lacks acknowledges fails looks old new (Err fault)
      → Kept remaining contents answer makes lacks acknowledges fails looks old new
  stopped fault failed stops start input before lives =
      subst (LivesAs start input before new) (sym failed)
      (stops start input before (subst (LivesAs start input before old) unfailed lives))
