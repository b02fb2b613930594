-- Calls of number 22 and their replies.
use Rattle.std.proofs.Common.{◌≡◌, ◌≢◌, ◌⊎◌, ℕ, ◌<◌, ◌≤◌, ◌^◌, true, ◌==◌, List, [], ◌++◌, length, drop, Option, None, Some, Result, Ok, Err, IfOk, IfSome, IfErr, IsErrOf, OnErr, if◌then◌else◌, inl, inr, refl, sym, ap, subst, ◌∙◌, arith}
use Rattle.std.specs.declared.alloc.AllocError.{AllocError}
use Rattle.codes.specs.declared.call_number.TheConstants.{CONFINE, MACH_MSG, NUMBERED}
use Rattle.ipc_model.specs.calls.PlainStep.{number_of_call, may_be_numbered}
use Rattle.ipc_model.specs.declared.call.Call.{Call}
use Rattle.ipc_model.specs.declared.call.Call.TheVariants.{Plain, Numbered, Unnumberable}
use Rattle.ipc_model.specs.declared.call.NumberedCall.{NumberedCall}
use Rattle.ipc_model.specs.declared.plain_call.PlainCall.{PlainCall}
use Rattle.ipc_model.specs.declared.plain_call.PlainCall.TheVariants as call
use Rattle.ipc_model.specs.declared.plain_reply.PlainReply.{PlainReply}
use Rattle.ipc_model.specs.declared.plain_reply.PlainReply.TheVariants as plain_reply
use Rattle.ipc_model.specs.declared.reply.Reply.{Reply}
use Rattle.ipc_model.specs.declared.reply.Reply.TheVariants as reply
use Rattle.ipc_model.specs.encodings.Encodings.{call_encoding, IsCanonicalCall}
use Rattle.ipc_model.specs.encodings.PlainCalls as plain_calls
use Rattle.ipc_model.specs.encodings.PlainCalls.{arguments_encoding, done_encoding}
use Rattle.ipc_laws.specs.CanonicalRecords.{length-numbered}
use Rattle.ipc_laws.specs.EncodingLaws.{word_once}
use Rattle.ipc_laws.specs.EncodingReading.{number-fits}
use Rattle.ipc_laws.specs.RecordEncodings.{apart}
use Rattle.words.specs.Words.{word}
use Rattle.calls.specs.declared.request.CallFault.{CallFault}
use Rattle.calls.specs.declared.request.CallFault.TheVariants.{NoCall, NoMemory}
use Rattle.calls.specs.declared.request.Request.{Request}
use Rattle.calls.specs.declared.request.Request.TheVariants as request
use Rattle.calls.specs.Replies.{Answers}
use Rattle.calls.specs.PlainReplies as plain
use Rattle.calls.specs.Requests.{Asks, AsksAttempt, AsksNumbered, FitsMachMsg, MachMsg, Numbers, attempt_of, mach_msg_arguments, one_attempt}
use Rattle.calls.proofs.PlainReplies.{in_parts}

-- a call of number 22 with fewer than four bytes of arguments is Unnumberable
pub short_call : (c : Call) (arguments : List ℕ) → length arguments < 4 → word NUMBERED ++ arguments ≡ call_encoding c
    → c ≡ Unnumberable
short_call (Plain c) arguments short is = absurd (apart c arguments (sym is))
short_call (Numbered numbered) arguments short is =
    absurd (omega (arith, short, ap length is, length-numbered numbered))
short_call Unnumberable arguments short is = refl

pub nothing_behind : (c : Call) (arguments : List ℕ) → length arguments < 4
    → word NUMBERED ++ arguments ≡ call_encoding c → length arguments ≡ 0
nothing_behind c arguments short is =
    let alone : word NUMBERED ++ arguments ≡ word NUMBERED =
    is ∙ ap call_encoding (short_call c arguments short is) in
    omega (arith, ap length alone)

call_in : Call → PlainCall
call_in (Plain c) = c
call_in (Numbered numbered) = numbered.call
call_in Unnumberable = call.Names

canonical_in : (numbered : NumberedCall) → IsCanonicalCall (Numbered numbered)
    → plain_calls.IsCanonicalCall numbered.call
unfolding call_in
canonical_in numbered is = record { fits = is.fits.1; whole = is.whole; kept = ap call_in is.kept }

-- the content of the numbered call follows the request
pub numbered_of : (c : Call) (arguments content : List ℕ) (n : ℕ) → n < 2 ^ 32 → IsCanonicalCall c
    → arguments ≡ word n ++ content → word NUMBERED ++ arguments ≡ call_encoding c
    → (k : PlainCall) × plain_calls.IsCanonicalCall k × (content ≡ plain_calls.call_encoding k)
    × (c ≡ Numbered (record { request = n; call = k }))
numbered_of (Plain c) arguments content n fits canonical front is = absurd (apart c arguments (sym is))
numbered_of (Numbered numbered) arguments content n fits canonical front is =
    let inner : List ℕ = plain_calls.call_encoding numbered.call in
    let after : arguments ≡ word numbered.request ++ inner = ap (λ (l : List ℕ). drop 4 l) is in
    let parts = word_once n numbered.request content inner fits canonical.fits.0 (sym front ∙ after) in (
      numbered.call,
      canonical_in numbered canonical,
      parts.1,
      ap (λ (m : ℕ). Numbered (record { request = m; call = numbered.call })) (sym parts.0),
    )
numbered_of Unnumberable arguments content n fits canonical front is =
    let after : arguments ≡ [] = ap (λ (l : List ℕ). drop 4 l) is in
    absurd (omega (arith, ap length (sym front ∙ after)))

long_plain : (c : PlainCall) → 4 ≤ length (plain_calls.call_encoding c)
unfolding plain_calls.call_encoding
long_plain c = omega arith

-- the encoding of a call has at least the four bytes of its number
pub long_call : (c : Call) → 4 ≤ length (call_encoding c)
long_call (Plain c) = long_plain c
long_call (Numbered numbered) = omega (arith, length-numbered numbered)
long_call Unnumberable = omega arith

-- a call with a number other than 22 is a plain call
pub plain_of : (c : Call) (number : ℕ) (arguments : List ℕ) → number < 2 ^ 32 → number ≢ NUMBERED
    → word number ++ arguments ≡ call_encoding c → (k : PlainCall) × (c ≡ Plain k)
plain_of (Plain c) number arguments fits other is = (c, refl)
plain_of (Numbered numbered) number arguments fits other is =
    absurd (other (word_once number NUMBERED arguments _ fits (omega arith) is).0)
plain_of Unnumberable number arguments fits other is =
    absurd (other (word_once number NUMBERED arguments [] fits (omega arith) is).0)

-- the attempt that decoded arguments ask for
pub attempt_found : (m : MachMsg) (arguments : List ℕ) (r : Result (Option PlainCall) AllocError) → FitsMachMsg m
    → arguments ≡ mach_msg_arguments m → m.timeout ≡ 0
    → IfOk r (λ found. found ≡ attempt_of m.option m.limit m.name m.message)
    → IfOk r (λ found. IfSome found (AsksAttempt arguments))
attempt_found m arguments (Ok None) fits front zero is = tt
attempt_found m arguments (Ok (Some c)) fits front zero is =
    (m, fits, front, attempt_at m (Some c) zero is)
  where
    attempt_at : (m : MachMsg) (a : Option PlainCall) → m.timeout ≡ 0
        → a ≡ attempt_of m.option m.limit m.name m.message → one_attempt m ≡ a
    attempt_at m a zero is =
        ap (λ (t : ℕ). if t == 0 then attempt_of m.option m.limit m.name m.message else None) zero ∙ sym is
attempt_found m arguments (Err e) fits front zero is = tt

pub attempt_lacks : (m : MachMsg) (arguments : List ℕ) (r : Result (Option PlainCall) AllocError) → FitsMachMsg m
    → arguments ≡ mach_msg_arguments m → m.timeout ≡ 0
    → OnErr r (attempt_of m.option m.limit m.name m.message ≡ Some (call.Send m.message))
    → OnErr r ((message : List ℕ) × AsksAttempt arguments (call.Send message))
attempt_lacks m arguments (Ok found) fits front zero is = tt
attempt_lacks m arguments (Err e) fits front zero is = (
  m.message,
  (
    m,
    fits,
    front,
    ap (λ (t : ℕ). if t == 0 then attempt_of m.option m.limit m.name m.message else None) zero ∙ is,
  ),
)

-- the call that arguments of number 22 ask for, in terms of the bytes after the request
abbrev pub AsksBehind : ℕ → List ℕ → Call → Type 0
AsksBehind n content (Plain c) = ⊥
AsksBehind n content (Numbered numbered) = (numbered.request ≡ n) × Numbers content numbered.call
AsksBehind n content Unnumberable = (4 ≤ length content) × ((c : PlainCall) → Numbers content c → ⊥)

pub asked_behind : (asks : Call) (arguments content : List ℕ) (n : ℕ) → n < 2 ^ 32 → arguments ≡ word n ++ content
    → AsksNumbered arguments asks → AsksBehind n content asks
asked_behind (Plain c) arguments content n fits front is = absurd is
asked_behind (Numbered numbered) arguments content n fits front (other, small, same, numbers) =
    let parts = word_once numbered.request n other content small fits (sym same ∙ front) in
    (parts.0, subst (λ (l : List ℕ). Numbers l numbered.call) parts.1 numbers)
asked_behind Unnumberable arguments content n fits front (m, other, small, same, long, none) =
    let parts = word_once m n other content small fits (sym same ∙ front) in (
      omega (arith, long, ap length parts.1),
      λ c numbers. none c (subst (λ (l : List ℕ). Numbers l c) (sym parts.1) numbers),
    )

pub long_numbers : (content : List ℕ) (c : PlainCall) → Numbers content c → 4 ≤ length content
long_numbers content c (inl is) = omega (arith, ap length is.1)
long_numbers content c (inr is) = omega (arith, long_plain c, ap length is.3)

pub long_behind : (n : ℕ) (content : List ℕ) (asks : Call) → AsksBehind n content asks → 4 ≤ length content
long_behind n content (Plain c) is = absurd is
long_behind n content (Numbered numbered) is = long_numbers content numbered.call is.1
long_behind n content Unnumberable is = is.0

pub some_call : (found : Option PlainCall) (k c : PlainCall) → found ≡ Some k → found ≡ Some c → k ≡ c
some_call found k c is same = cc

-- the decoded call is the one that is asked for
pub one_asked : (asks : Call) (n : ℕ) (content : List ℕ) (found : Option PlainCall) (k : PlainCall)
    → AsksBehind n content asks → found ≡ Some k → IfSome found (Numbers content)
    → ((c : PlainCall) → Numbers content c → found ≡ Some c) → Numbered (record { request = n; call = k }) ≡ asks
one_asked (Plain c) n content found k is found_is numbers only = absurd is
one_asked (Numbered numbered) n content found k is found_is numbers only =
    let same = some_call found k numbered.call found_is (only numbered.call is.1) in
    λ i. Numbered (record { request = sym is.0 i; call = same i })
one_asked Unnumberable n content found k is found_is numbers only =
    absurd (is.1 k (subst (λ (o : Option PlainCall). IfSome o (Numbers content)) found_is numbers))

pub none_asked : (asks : Call) (n : ℕ) (content : List ℕ) (found : Option PlainCall) → AsksBehind n content asks
    → found ≡ None → ((c : PlainCall) → Numbers content c → found ≡ Some c) → Unnumberable ≡ asks
none_asked (Plain c) n content found is none only = absurd is
none_asked (Numbered numbered) n content found is none only =
    absurd (cc (sym none ∙ only numbered.call is.1))
none_asked Unnumberable n content found is none only = refl

apart_numbers : (arguments others : List ℕ) → word MACH_MSG ++ arguments ≡ word NUMBERED ++ others → ⊥
apart_numbers arguments others same =
    absurd (omega (arith, (word_once MACH_MSG NUMBERED arguments others (omega arith) (omega arith) same).0))

-- the request of a frame of number 22 is the call of its arguments
pub asks_numbered : (content arguments : List ℕ) (q : Request) → content ≡ word NUMBERED ++ arguments → Asks content q
    → (c : Call) × AsksNumbered arguments c × (q ≡ request.One c)
asks_numbered content arguments (request.One (Plain c)) front (other, fits, is) =
    absurd (apart c arguments (sym is ∙ front))
asks_numbered content arguments (request.One (Numbered numbered)) front (others, same, is) =
    let e : others ≡ arguments = ap (λ (l : List ℕ). drop 4 l) (sym same ∙ front) in
    (Numbered numbered, subst (λ (l : List ℕ). AsksNumbered l (Numbered numbered)) e is, refl)
asks_numbered content arguments (request.One Unnumberable) front (others, same, is) =
    let e : others ≡ arguments = ap (λ (l : List ℕ). drop 4 l) (sym same ∙ front) in
    (Unnumberable, subst (λ (l : List ℕ). AsksNumbered l Unnumberable) e is, refl)
asks_numbered content arguments (request.Message m) front (others, same, is) =
    absurd (apart_numbers others arguments (sym same ∙ front))
asks_numbered content arguments (request.Answered code) front (others, same, is) =
    absurd (apart_numbers others arguments (sym same ∙ front))
asks_numbered content arguments request.Confine front is =
    absurd (omega (arith, (word_once NUMBERED CONFINE arguments [] (omega arith) (omega arith) (sym front ∙ is)).0))

-- the call of arguments of number 22 is the request of their frame
pub asked_numbered : (content arguments : List ℕ) (c : Call) → content ≡ word NUMBERED ++ arguments
    → AsksNumbered arguments c → Asks content (request.One c)
asked_numbered content arguments (Plain c) front is = absurd is
asked_numbered content arguments (Numbered numbered) front is = (arguments, front, is)
asked_numbered content arguments Unnumberable front is = (arguments, front, is)

abbrev of_err : CallFault → Result Request CallFault
of_err fault = Err fault

abbrev of_one : Call → Result Request CallFault
of_one k = Ok (request.One k)

same_fault : (r : Result Call CallFault) (fault : CallFault) → r ≡ Err fault → r ≡ Err NoMemory → fault ≡ NoMemory
same_fault r fault failed lacks = cc

same_call : (r : Result Call CallFault) (k c : Call) → r ≡ Ok k → r ≡ Ok c → k ≡ c
same_call r k c done same = cc

pub only_numbered : (content arguments : List ℕ) (r : Result Call CallFault) (fault : CallFault)
    → content ≡ word NUMBERED ++ arguments → r ≡ Err fault
    → ((c : Call) → AsksNumbered arguments c → (r ≡ Ok c) ⊎ (r ≡ Err NoMemory))
    → (q : Request) → Asks content q → (of_err fault ≡ Ok q) ⊎ (of_err fault ≡ Err NoMemory)
only_numbered content arguments r fault front failed only q is =
    let asks = asks_numbered content arguments q front is in
    elim (only asks.0 asks.1) as (λ _. (of_err fault ≡ Ok q) ⊎ (of_err fault ≡ Err NoMemory)) [
      | inl done ↦ absurd (cc (sym failed ∙ done))
      | inr lacks ↦ inr (ap of_err (same_fault r fault failed lacks))
    ]

pub one_numbered : (content arguments : List ℕ) (r : Result Call CallFault) (k : Call)
    → content ≡ word NUMBERED ++ arguments → r ≡ Ok k
    → ((c : Call) → AsksNumbered arguments c → (r ≡ Ok c) ⊎ (r ≡ Err NoMemory))
    → (q : Request) → Asks content q → (of_one k ≡ Ok q) ⊎ (of_one k ≡ Err NoMemory)
one_numbered content arguments r k front done only q is =
    let asks = asks_numbered content arguments q front is in
    elim (only asks.0 asks.1) as (λ _. (of_one k ≡ Ok q) ⊎ (of_one k ≡ Err NoMemory)) [
      | inl same ↦ inl (ap of_one (same_call r k asks.0 done same) ∙ ap (λ (s : Request). Ok s) (sym asks.2))
      | inr lacks ↦ absurd (cc (sym done ∙ lacks))
    ]

pub some_reply : (found : Option PlainReply) (k r : PlainReply) → found ≡ Some k → found ≡ Some r → k ≡ r
some_reply found k r is same = cc

number_fits : (r : PlainReply) → plain_calls.FitsReply r → plain_calls.number_of_reply r < 2 ^ 32
number_fits (plain_reply.Refused number code) fits = fits
number_fits (plain_reply.Done number) fits = fits
number_fits r fits = omega arith

none_done : (number : ℕ) → number ≡ NUMBERED → plain.IsWellFormed (plain_reply.Done number) → ⊥
none_done number is well = absurd (cc (subst (λ (n : ℕ). plain.IsWellFormed (plain_reply.Done n)) is well))

not_own : (n : ℕ) (inner : List ℕ) (r : PlainReply)
    → Answers NUMBERED (done_encoding NUMBERED (word n ++ inner)) (reply.Plain r) → ⊥
unfolding plain_calls.reply_encoding
not_own n inner (plain_reply.Refused number code) is = absurd (omega (arith, ap length is.text))
not_own n inner (plain_reply.Done number) is = none_done number is.of_call is.well_formed
not_own n inner r is = absurd (omega (arith, is.of_call))

made_parts : (n : ℕ) (inner : List ℕ) (answer : Reply) → n < 2 ^ 32
    → Answers NUMBERED (done_encoding NUMBERED (word n ++ inner)) answer
    → (r : PlainReply) × plain.Answers (plain_calls.number_of_reply r) inner r
    × (answer ≡ reply.Numbered (record { request = n; reply = r }))
made_parts n inner (reply.Plain r) fits is = absurd (not_own n inner r is)
made_parts n inner (reply.Numbered a) fits is =
    let after : word n ++ inner ≡ word a.request ++ plain_calls.reply_encoding a.reply =
    ap (λ (l : List ℕ). drop 8 l) is.text in
    let parts = word_once n a.request inner (plain_calls.reply_encoding a.reply) fits is.fits.0 after in (
      a.reply,
      record { text = parts.1; fits = is.fits.1; of_call = refl; well_formed = is.well_formed },
      ap (λ (m : ℕ). reply.Numbered (record { request = m; reply = a.reply })) (sym parts.0),
    )
made_parts n inner (reply.Repeated a) fits is = absurd is.well_formed

-- the reply to the numbered call begins with that call's number
pub made_reply : (n number : ℕ) (inner rest : List ℕ) (answer : Reply) → n < 2 ^ 32 → number < 2 ^ 32
    → inner ≡ word number ++ rest → Answers NUMBERED (done_encoding NUMBERED (word n ++ inner)) answer
    → (r : PlainReply) × plain.Answers number inner r × (answer ≡ reply.Numbered (record { request = n; reply = r }))
made_reply n number inner rest answer fits small front is =
    let made = made_parts n inner answer fits is in
    let own = number_fits made.0 made.1.fits in
    let same =
    word_once number (plain_calls.number_of_reply made.0) rest _ small own
    (sym front ∙ made.1.text ∙ in_parts made.0) in
    (made.0, subst (λ (k : ℕ). plain.Answers k inner made.0) (sym same.0) made.1, made.2)

pub long_made : (n : ℕ) (inner : List ℕ) (answer : Reply) → n < 2 ^ 32
    → Answers NUMBERED (done_encoding NUMBERED (word n ++ inner)) answer → 4 ≤ length inner
long_made n inner answer fits is =
    let made = made_parts n inner answer fits is in
    omega (arith, ap length made.1.text, ap length (in_parts made.0))

-- the number and the arguments of a call other than mach_msg
pub other_parts : (number : ℕ) (arguments : List ℕ) (k : PlainCall) → number < 2 ^ 32 → number ≢ MACH_MSG
    → Numbers (word number ++ arguments) k
    → plain_calls.FitsCall k × (number_of_call k ≡ number) × (arguments ≡ arguments_encoding k)
    × (may_be_numbered k ≡ true)
unfolding plain_calls.call_encoding
other_parts number arguments k fits other (inl is) =
    absurd (other (word_once number MACH_MSG arguments is.0 fits (omega arith) is.1).0)
other_parts number arguments k fits other (inr is) =
    let parts = word_once number (number_of_call k) arguments (arguments_encoding k) fits (number-fits k) is.3 in
    (is.2, sym parts.0, parts.1, is.1)

pub other_numbers : (number : ℕ) (arguments : List ℕ) (k : PlainCall) → number ≢ MACH_MSG → number_of_call k ≡ number
    → arguments ≡ arguments_encoding k → plain_calls.FitsCall k → may_be_numbered k ≡ true
    → Numbers (word number ++ arguments) k
unfolding plain_calls.call_encoding
other_numbers number arguments k other same front fits may =
    inr (
      (λ (is : number_of_call k ≡ MACH_MSG). other (sym same ∙ is)),
      may,
      fits,
      (λ i. word (sym same i) ++ front i),
    )

-- the arguments of a mach_msg
pub attempt_parts : (content arguments : List ℕ) (k : PlainCall) → content ≡ word MACH_MSG ++ arguments
    → Numbers content k → AsksAttempt arguments k
unfolding plain_calls.call_encoding
attempt_parts content arguments k front (inl is) =
    let e : is.0 ≡ arguments = ap (λ (l : List ℕ). drop 4 l) (sym is.1 ∙ front) in
    subst (λ (l : List ℕ). AsksAttempt l k) e is.2
attempt_parts content arguments k front (inr is) =
    absurd (is.0
    (word_once (number_of_call k) MACH_MSG (arguments_encoding k) arguments (number-fits k) (omega arith)
    (sym is.3 ∙ front)).0)

pub attempt_lacking : (content arguments : List ℕ) (r : Result (Option PlainCall) AllocError)
    → content ≡ word MACH_MSG ++ arguments → OnErr r ((message : List ℕ) × AsksAttempt arguments (call.Send message))
    → OnErr r ((message : List ℕ) × Numbers content (call.Send message))
attempt_lacking content arguments (Ok found) front is = tt
attempt_lacking content arguments (Err e) front is = (is.0, inl (arguments, front, is.1))

-- a reply that isn't of number 22 is a plain reply
pub own_reply : (number : ℕ) (content : List ℕ) (r : Result (Option Reply) AllocError)
    → ((a : PlainReply) → Answers number content (reply.Plain a) → IfOk r (λ found. found ≡ Some (reply.Plain a)))
    → ((n : ℕ) (inner : List ℕ) → n < 2 ^ 32 → content ≡ done_encoding NUMBERED (word n ++ inner) → ⊥)
    → (answer : Reply) → Answers number content answer → IfOk r (λ found. found ≡ Some answer)
own_reply number content r only none (reply.Plain a) is = only a is
own_reply number content r only none (reply.Numbered a) is =
    absurd (none a.request (plain_calls.reply_encoding a.reply) is.fits.0 is.text)
own_reply number content r only none (reply.Repeated a) is = absurd is.well_formed

pub no_memory : (fault : CallFault) → IsErrOf {T = Request} (Err fault) NoMemory
    → IsErrOf {T = Call} (Err fault) NoMemory
no_memory fault is = let same : fault ≡ NoMemory = cc in ap (λ (f : CallFault). Err f) same

no_call_confines : (c : PlainCall) → number_of_call c ≡ CONFINE → ⊥
no_call_confines (call.Attach space) is = absurd (omega (arith, is))
no_call_confines c is = absurd (omega (arith, is))

-- the request of a frame of number 23, which has no arguments
asks_confine : (content arguments : List ℕ) (q : Request) → content ≡ word CONFINE ++ arguments → Asks content q
    → (q ≡ request.Confine) × (arguments ≡ [])
unfolding plain_calls.call_encoding
asks_confine content arguments (request.One (Plain c)) front (other, fits, is) =
    absurd (no_call_confines c
    (word_once (number_of_call c) CONFINE (arguments_encoding c) arguments (number-fits c) (omega arith)
    (sym is ∙ front)).0)
asks_confine content arguments (request.One (Numbered numbered)) front (others, same, is) =
    absurd (omega (arith, (word_once NUMBERED CONFINE others arguments (omega arith) (omega arith) (sym same ∙ front)).0))
asks_confine content arguments (request.One Unnumberable) front (others, same, is) =
    absurd (omega (arith, (word_once NUMBERED CONFINE others arguments (omega arith) (omega arith) (sym same ∙ front)).0))
asks_confine content arguments (request.Message m) front (others, same, is) =
    absurd (omega (arith, (word_once MACH_MSG CONFINE others arguments (omega arith) (omega arith) (sym same ∙ front)).0))
asks_confine content arguments (request.Answered code) front (others, same, is) =
    absurd (omega (arith, (word_once MACH_MSG CONFINE others arguments (omega arith) (omega arith) (sym same ∙ front)).0))
asks_confine content arguments request.Confine front is = (refl, ap (λ (l : List ℕ). drop 4 l) (sym front ∙ is))

abbrev ReadsConfine : List ℕ → Result Request CallFault → Type 0
ReadsConfine arguments r = IfOk r (λ q. (q ≡ request.Confine) × (arguments ≡ []))

pub confine_found : (content arguments : List ℕ) (r : Result Request CallFault) → content ≡ word CONFINE ++ arguments
    → ReadsConfine arguments r → IfOk r (λ q. Asks content q)
confine_found content arguments (Ok q) front is =
    subst (λ (s : Request). Asks content s) (sym is.0) (front ∙ ap (λ (l : List ℕ). word CONFINE ++ l) is.1)
confine_found content arguments (Err fault) front is = tt

pub confine_only : (content arguments : List ℕ) (r : Result Request CallFault) → content ≡ word CONFINE ++ arguments
    → ReadsConfine arguments r → OnErr r (arguments ≢ []) → (q : Request) → Asks content q
    → (r ≡ Ok q) ⊎ (r ≡ Err NoMemory)
confine_only content arguments (Ok k) front is none q asks =
    inl (ap (λ (s : Request). Ok s) (is.0 ∙ sym (asks_confine content arguments q front asks).0))
confine_only content arguments (Err fault) front is none q asks =
    absurd (none (asks_confine content arguments q front asks).1)

pub confine_lacks_nothing : (r : Result Request CallFault) → IfErr r (λ fault. fault ≡ NoCall) → IsErrOf r NoMemory → ⊥
confine_lacks_nothing (Ok q) none is = absurd (cc is)
confine_lacks_nothing (Err fault) none is = absurd (cc (is, none))
