-- Return codes by their numbers.
use Rattle.std.proofs.Common.{◌≡◌, ℕ, Bool, true, false, ◌==◌, List, [], ◌∷◌, cond, Option, None, Some, refl, sym, ap, subst, ◌∙◌, arith}
use Rattle.std.specs.Prelude.{IfSome, find}
use Rattle.std.proofs.lemmas.Bool.Decides.{nat_tests}
use Rattle.codes.specs.KernReturn.{all_codes, number_of}
use Rattle.codes.specs.declared.kern_return.KernReturn.{KernReturn}
use Rattle.codes.specs.declared.kern_return.KernReturn.TheVariants.{Success, NoSpace, InvalidArgument, Failure, ResourceShortage, NoAccess, NotInSet, NameExists, InvalidName, InvalidTask, InvalidRight, InvalidValue, UrefsOverflow, InvalidCapability, RightExists, SendInvalidDest, SendTimedOut, SendMsgTooSmall, SendInvalidReply, SendInvalidRight, SendInvalidMemory, SendNoBuffer, SendInvalidType, SendInvalidHeader, RcvInvalidName, RcvTimedOut, RcvTooLarge, RcvPortChanged, RcvPortDied, RcvInSet, RcvHeaderErrorKernel, RcvHeaderErrorSpace}

abbrev pub code_with : ℕ → Option KernReturn
code_with n = find (λ code. number_of code == n) all_codes

holds_of_found : {X : Type 0} (p : X → Bool) (xs : List X) (x : X) → find p xs ≡ Some x → p x ≡ true
holds_of_found p [] x is = absurd cc
holds_of_found p (y ∷ ys) x is =
    elim (p y) as (λ (b : Bool). p y ≡ b → cond b (Some y) (find p ys) ≡ Some x → p x ≡ true) [
      | true ↦ λ (holds : _) (found : _). let same : y ≡ x = cc in subst (λ z. p z ≡ true) same holds
      | false ↦ λ (_ : _) (found : _). holds_of_found p ys x found
    ] refl is

code_holds : (code : KernReturn) (n : ℕ) → code_with n ≡ Some code → number_of code ≡ n
code_holds code n is =
    let test : (number_of code == n) ≡ true = holds_of_found (λ c. number_of c == n) all_codes code is in
    grind (arith, nat_tests)

pub code_if_found : (r : Option KernReturn) (n : ℕ) → r ≡ code_with n → IfSome r (λ code. number_of code ≡ n)
code_if_found (Some code) n is = code_holds code n (sym is)
code_if_found None n is = tt

pub code_again : (c : KernReturn) → code_with (number_of c) ≡ Some c
code_again Success = refl
code_again NoSpace = refl
code_again InvalidArgument = refl
code_again Failure = refl
code_again ResourceShortage = refl
code_again NoAccess = refl
code_again NotInSet = refl
code_again NameExists = refl
code_again InvalidName = refl
code_again InvalidTask = refl
code_again InvalidRight = refl
code_again InvalidValue = refl
code_again UrefsOverflow = refl
code_again InvalidCapability = refl
code_again RightExists = refl
code_again SendInvalidDest = refl
code_again SendTimedOut = refl
code_again SendMsgTooSmall = refl
code_again SendInvalidReply = refl
code_again SendInvalidRight = refl
code_again SendInvalidMemory = refl
code_again SendNoBuffer = refl
code_again SendInvalidType = refl
code_again SendInvalidHeader = refl
code_again RcvInvalidName = refl
code_again RcvTimedOut = refl
code_again RcvTooLarge = refl
code_again RcvPortChanged = refl
code_again RcvPortDied = refl
code_again RcvInSet = refl
code_again RcvHeaderErrorKernel = refl
code_again RcvHeaderErrorSpace = refl

pub code_found : (code : KernReturn) (n : ℕ) → number_of code ≡ n → code_with n ≡ Some code
code_found code n is = ap code_with (sym is) ∙ code_again code
