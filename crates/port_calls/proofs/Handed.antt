-- The effect of copy in, if it took a right.
use Rattle.std.proofs.Common.{◌≡◌, List, [], ◌++◌, Option, None, Some, Result, Ok, Err, OnOk, sym, ◌∙◌, ap}
use Rattle.ipc_model.specs.declared.message.CarriedRight.{CarriedRight}
use Rattle.ipc_model.specs.rights.CopyIn.{Taken}
use Rattle.ipc_model.specs.effects.Effects.{Effect}
use Rattle.ipc_laws.specs.ListLaws.{some_same}
use Rattle.ipc_model.specs.state.Ipc.{Ipc}
use Rattle.rights.specs.Taking.{Takes}

abbrev made : CarriedRight → Ipc → List Effect → Option Taken
made right new notices = Some (record { right = right; state = new; notices = notices })

some_is : (taken : Taken) (right : CarriedRight) (new : Ipc) (notices : List Effect) → Some right ≡ Some taken.right
    → new ≡ taken.state → notices ≡ taken.notices → Some taken ≡ made right new notices
some_is taken right new notices same state reported =
    sym (ap (λ (r : CarriedRight). made r new notices) (some_same right taken.right same) ∙ ap
    (λ (s : Ipc). made taken.right s notices) state ∙ ap (made taken.right taken.state) reported)

-- the right that copy in returns is the one that was to be taken
pub taken_is : (o : Option Taken) (old new : Ipc) (waiting after : List Effect) (right : CarriedRight) → waiting ≡ []
    → Takes o old waiting (Some right) new after → o ≡ Some (record { right = right; state = new; notices = after })
taken_is None old new waiting after right none takes = absurd (cc takes.0)
taken_is (Some taken) old new waiting after right none takes =
    some_is taken right new after takes.0 takes.1 (takes.2 ∙ ap (λ (es : List Effect). es ++ taken.notices) none)

-- a fact holds if the result is a success too
pub still_ok : {T E P : Type 0} (r : Result T E) → P → OnOk r P
still_ok (Ok v) p = p
still_ok (Err e) p = tt
