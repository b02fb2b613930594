-- The requests that frames ask for.
use Rattle.std.proofs.Common.{◌≡◌, ◌≢◌, ℕ, Bool, true, false, ◌==◌, ◌||◌, List, [], ◌++◌, drop, ◌⊎◌, Result, Ok, Err, IfOk, bit_and, if◌then◌else◌, sym, ap, subst, ◌∙◌, arith}
use Rattle.codes.specs.declared.call_number.TheConstants.{CONFINE, MACH_MSG, NUMBERED}
use Rattle.codes.specs.declared.kern_return.KernReturn.TheVariants.{Success, InvalidArgument}
use Rattle.ipc_model.specs.declared.call.Call.{Call}
use Rattle.ipc_model.specs.declared.call.Call.TheVariants.{Plain, Numbered, Unnumberable}
use Rattle.ipc_model.specs.declared.plain_call.PlainCall.{PlainCall}
use Rattle.ipc_model.specs.calls.PlainStep.{number_of_call}
use Rattle.ipc_laws.specs.EncodingReading.{number-fits}
use Rattle.ipc_model.specs.encodings.PlainCalls.{call_encoding, arguments_encoding}
use Rattle.words.specs.WordLaws.{same_word}
use Rattle.words.specs.Words.{word}
use Rattle.calls.specs.declared.request.CallFault.{CallFault}
use Rattle.calls.specs.declared.request.CallFault.TheVariants.{NoMemory}
use Rattle.calls.specs.declared.request.Request.{Request}
use Rattle.calls.specs.declared.request.Request.TheVariants as request
use Rattle.calls.specs.Requests.{MachMsg, AsksMachMsg, Asks, asked, message_request, has_option, known_options, send_msg, rcv_msg}

-- a predicate that holds of both branches holds of the chosen one
chosen : {X : Type 0} (P : X → Type 0) (b : Bool) (x y : X) → P x → P y → P (if b then x else y)
chosen P true x y first second = first
chosen P false x y first second = second

-- a predicate that holds of each possible request of a mach_msg holds of its request
of_asked : (P : Request → Type 0) (m : MachMsg) → P (request.Message (message_request m)) → P (request.Answered Success)
    → P (request.Answered InvalidArgument) → P (asked m)
unfolding asked
of_asked P m message nothing unknown =
    let known =
    chosen P (has_option m.option send_msg || has_option m.option rcv_msg) (request.Message (message_request m))
    (request.Answered Success) message nothing in
    chosen P (bit_and m.option known_options == m.option) _ (request.Answered InvalidArgument) known unknown

never_one : (c : Call) (m : MachMsg) → request.One c ≡ asked m → ⊥
never_one c m = of_asked (λ r. request.One c ≡ r → ⊥) m (λ e. cc) (λ e. cc) (λ e. cc)

never_confine : (m : MachMsg) → request.Confine ≡ asked m → ⊥
never_confine m = of_asked (λ r. request.Confine ≡ r → ⊥) m (λ e. cc) (λ e. cc) (λ e. cc)

front_of : (content arguments : List ℕ) (q : Request) → content ≡ word MACH_MSG ++ arguments → AsksMachMsg arguments q
    → Asks content q
front_of content arguments (request.One c) is (m, fits, encoded, e) = absurd (never_one c m e)
front_of content arguments (request.Message m) is asks = (arguments, is, asks)
front_of content arguments (request.Answered code) is asks = (arguments, is, asks)
front_of content arguments request.Confine is (m, fits, encoded, e) = absurd (never_confine m e)

-- the request of a mach_msg's arguments is the request of its frame
pub asks_in_front : (content arguments : List ℕ) (r : Result Request CallFault) → content ≡ word MACH_MSG ++ arguments
    → IfOk r (λ q. AsksMachMsg arguments q) → IfOk r (λ q. Asks content q)
asks_in_front content arguments (Ok q) is asks = front_of content arguments q is asks
asks_in_front content arguments (Err e) is asks = tt

not_one : (content arguments : List ℕ) (c : PlainCall) → content ≡ word MACH_MSG ++ arguments
    → number_of_call c ≢ MACH_MSG → content ≡ call_encoding c → ⊥
unfolding call_encoding
not_one content arguments c is other encoding =
    other (same_word (number_of_call c) MACH_MSG (arguments_encoding c) arguments (number-fits c) (omega arith)
    (sym encoding ∙ is))

not_confine : (arguments : List ℕ) → word MACH_MSG ++ arguments ≡ word CONFINE → ⊥
not_confine arguments same =
    absurd (omega (arith, same_word MACH_MSG CONFINE arguments [] (omega arith) (omega arith) same))

beyond : (arguments others : List ℕ) (q : Request) → word MACH_MSG ++ arguments ≡ word MACH_MSG ++ others
    → AsksMachMsg others q → AsksMachMsg arguments q
beyond arguments others q same asks =
    let e : others ≡ arguments = ap (λ (l : List ℕ). drop 4 l) (sym same) in subst
    (λ (l : List ℕ). AsksMachMsg l q) e asks

not_numbered : (arguments others : List ℕ) → word MACH_MSG ++ arguments ≡ word NUMBERED ++ others → ⊥
not_numbered arguments others same =
    absurd (omega (arith, same_word MACH_MSG NUMBERED arguments others (omega arith) (omega arith) same))

-- the request of a frame of mach_msg is the request of its arguments
pub asks_after : (content arguments : List ℕ) (r : Result Request CallFault) → content ≡ word MACH_MSG ++ arguments
    → ((q : Request) → AsksMachMsg arguments q → (r ≡ Ok q) ⊎ (r ≡ Err NoMemory)) → (q : Request) → Asks content q
    → (r ≡ Ok q) ⊎ (r ≡ Err NoMemory)
asks_after content arguments r is only (request.One (Plain c)) (other, fits, encoding) =
    absurd (not_one content arguments c is other encoding)
asks_after content arguments r is only (request.One (Numbered numbered)) (others, encoding, asks) =
    absurd (not_numbered arguments others (sym is ∙ encoding))
asks_after content arguments r is only (request.One Unnumberable) (others, encoding, asks) =
    absurd (not_numbered arguments others (sym is ∙ encoding))
asks_after content arguments r is only (request.Message m) (others, encoding, asks) =
    only (request.Message m) (beyond arguments others (request.Message m) (sym is ∙ encoding) asks)
asks_after content arguments r is only (request.Answered code) (others, encoding, asks) =
    only (request.Answered code) (beyond arguments others (request.Answered code) (sym is ∙ encoding) asks)
asks_after content arguments r is only request.Confine encoding = absurd (not_confine arguments (sym is ∙ encoding))
