-- Replies by the content of their frames: a call has at most one reply with each content.
use Rattle.std.proofs.Common.{◌≡◌, ℕ, ◌<◌, ◌≤◌, ◌^◌, Bool, true, false, ◌&&◌, List, [], ◌++◌, length, drop, flat_map, Option, Some, None, refl, sym, ap, subst, ◌∙◌, arith, length-append}
use Rattle.std.specs.Prelude.{◌≢◌, IfNone, IsTrue, not}
use Rattle.codes.specs.declared.call_number.TheConstants.{MACH_MSG, MACH_PORT_NAMES, MACH_PORT_GET_SET_STATUS}
use Rattle.codes.specs.KernReturn.{number_of}
use Rattle.codes.specs.declared.kern_return.KernReturn.{KernReturn}
use Rattle.codes.specs.declared.kern_return.KernReturn.TheVariants as kern
use Rattle.codes.proofs.Numbers.{code_again, code_found}
use Rattle.ipc_model.specs.declared.plain_call.PlainCall.{PlainCall}
use Rattle.ipc_model.specs.declared.plain_call.PlainCall.TheVariants as call
use Rattle.ipc_model.specs.declared.plain_reply.NamedType.{NamedType}
use Rattle.ipc_model.specs.declared.plain_reply.PlainReply.{PlainReply}
use Rattle.ipc_model.specs.declared.plain_reply.PlainReply.TheVariants as reply
use Rattle.ipc_model.specs.calls.PlainStep.{number_of_call, is_recorded, has_record}
use Rattle.ipc_laws.specs.EncodingLaws.{reply_encoding_once, word_once}
use Rattle.ipc_model.specs.encodings.PlainCalls.{reply_encoding, done_encoding, number_of_reply, records_no_results, FitsReply, IsRecordedReply}
use Rattle.words.specs.Words.{word}
use Rattle.calls.specs.PlainReplies.{has_results, is_done, HasResults, Answers, IsWellFormed}
use Rattle.calls.specs.Rows.{names_encoding}
use Rattle.calls.proofs.Lengths.{length-names_encoding, length-words_text}

pub one_code : (a b : KernReturn) → number_of a ≡ number_of b → a ≡ b
one_code a b is =
    let both : Some a ≡ Some b = sym (code_found a (number_of b) is) ∙ code_again b in
    cc

code-fits : (code : KernReturn) → number_of code < 2 ^ 32
code-fits kern.Success = omega arith
code-fits kern.NoSpace = omega arith
code-fits kern.InvalidArgument = omega arith
code-fits kern.Failure = omega arith
code-fits kern.ResourceShortage = omega arith
code-fits kern.NoAccess = omega arith
code-fits kern.NotInSet = omega arith
code-fits kern.NameExists = omega arith
code-fits kern.InvalidName = omega arith
code-fits kern.InvalidTask = omega arith
code-fits kern.InvalidRight = omega arith
code-fits kern.InvalidValue = omega arith
code-fits kern.UrefsOverflow = omega arith
code-fits kern.InvalidCapability = omega arith
code-fits kern.RightExists = omega arith
code-fits kern.SendInvalidDest = omega arith
code-fits kern.SendTimedOut = omega arith
code-fits kern.SendMsgTooSmall = omega arith
code-fits kern.SendInvalidReply = omega arith
code-fits kern.SendInvalidRight = omega arith
code-fits kern.SendInvalidMemory = omega arith
code-fits kern.SendNoBuffer = omega arith
code-fits kern.SendInvalidType = omega arith
code-fits kern.SendInvalidHeader = omega arith
code-fits kern.RcvInvalidName = omega arith
code-fits kern.RcvTimedOut = omega arith
code-fits kern.RcvTooLarge = omega arith
code-fits kern.RcvPortChanged = omega arith
code-fits kern.RcvPortDied = omega arith
code-fits kern.RcvInSet = omega arith
code-fits kern.RcvHeaderErrorKernel = omega arith
code-fits kern.RcvHeaderErrorSpace = omega arith

-- the reply of a call that was done may be recorded
done_recorded : (r : PlainReply) → is_done r ≡ true → has_record call.SpaceDestroy r ≡ true
done_recorded (reply.Refused number code) is = absurd cc
done_recorded (reply.Message code size member message) is = absurd cc
done_recorded r is = refl

-- a call that was done has one reply with these results
pub one_result : (mine answer : PlainReply) (number : ℕ) (results : List ℕ) → FitsReply mine → is_done mine ≡ true
    → done_encoding number results ≡ reply_encoding mine → HasResults number results answer → Some mine ≡ Some answer
one_result mine answer number results fits done is has =
    ap (λ (r : PlainReply). Some r) (reply_encoding_once call.SpaceDestroy call.SpaceDestroy mine answer fits has.fits
    (done_recorded mine done) (done_recorded answer has.done) (sym is ∙ has.text))

-- without results the reply is the plain success
pub nothing_done : (number : ℕ) (answer : PlainReply) → HasResults number [] answer → answer ≡ reply.Done number
unfolding reply_encoding
nothing_done number (reply.Refused n code) has = absurd (cc has.done)
nothing_done number (reply.Message code size member message) has = absurd (cc has.done)
nothing_done number (reply.Done n) has = ap (λ (k : ℕ). reply.Done k) has.of_call
nothing_done number (reply.Names names) has = absurd (omega (arith, ap length has.text))
nothing_done number (reply.Type bits) has = absurd (omega (arith, ap length has.text))
nothing_done number (reply.Allocate name) has = absurd (omega (arith, ap length has.text))
nothing_done number (reply.References count) has = absurd (omega (arith, ap length has.text))
nothing_done number (reply.ReceiveStatus status) has = absurd (omega (arith, ap length has.text))
nothing_done number (reply.SetStatus members) has = absurd (omega (arith, ap length has.text))
nothing_done number (reply.PreviousTarget name) has = absurd (omega (arith, ap length has.text))
nothing_done number (reply.Extracted name kind) has = absurd (omega (arith, ap length has.text))
nothing_done number (reply.SpaceCreated space name) has = absurd (omega (arith, ap length has.text))

not_both : (b : Bool) → b ≡ true → not b ≡ true → ⊥
not_both true some plain = cc
not_both false some plain = cc

-- a call that has results isn't done without results
pub none_without : (number : ℕ) (answer : PlainReply) → HasResults number [] answer → IsWellFormed answer
    → has_results number ≡ true → ⊥
none_without number answer has well some =
    not_both (has_results number) some (subst IsWellFormed (nothing_done number answer has) well)

-- the names or the members that a reply contains
abbrev names_in : PlainReply → List NamedType
names_in (reply.Names names) = names
names_in r = []

pub one_names : (a b : List NamedType) → FitsReply (reply.Names a) → FitsReply (reply.Names b)
    → word (length a) ++ names_encoding a ≡ word (length b) ++ names_encoding b → a ≡ b
unfolding reply_encoding
one_names a b fits fits_too is =
    ap names_in (reply_encoding_once call.SpaceDestroy call.SpaceDestroy (reply.Names a) (reply.Names b) fits fits_too
    refl refl (ap (λ (l : List ℕ). done_encoding MACH_PORT_NAMES l) is))

abbrev members_in : PlainReply → List ℕ
members_in (reply.SetStatus members) = members
members_in r = []

pub one_members : (a b : List ℕ) → FitsReply (reply.SetStatus a) → FitsReply (reply.SetStatus b)
    → word (length a) ++ flat_map word a ≡ word (length b) ++ flat_map word b → a ≡ b
unfolding reply_encoding
one_members a b fits fits_too is =
    ap members_in (reply_encoding_once call.SpaceDestroy call.SpaceDestroy (reply.SetStatus a) (reply.SetStatus b) fits
    fits_too refl refl (ap (λ (l : List ℕ). done_encoding MACH_PORT_GET_SET_STATUS l) is))

-- bytes decoded so far and a rest that isn't a whole row aren't whole rows
pub odd_names : (whole rest : List ℕ) (some all : List NamedType) → whole ≡ names_encoding some ++ rest
    → 0 < length rest → length rest < 8 → whole ≡ names_encoding all → ⊥
odd_names whole rest some all is left short same =
    absurd (omega (
      arith,
      left,
      short,
      ap length is,
      ap length same,
      length-append (names_encoding some) rest,
      length-names_encoding some,
      length-names_encoding all,
    ))

pub odd_members : (whole rest : List ℕ) (some all : List ℕ) → whole ≡ flat_map word some ++ rest
    → 0 < length rest → length rest < 4 → whole ≡ flat_map word all → ⊥
odd_members whole rest some all is left short same =
    absurd (omega (
      arith,
      left,
      short,
      ap length is,
      ap length same,
      length-append (flat_map word some) rest,
      length-words_text some,
      length-words_text all,
    ))

-- the number before a row is the length of the row
pub counted_names : (results rows : List ℕ) (count : ℕ) (names all : List NamedType) → results ≡ word count ++ rows
    → count < 2 ^ 32 → rows ≡ names_encoding names → length all < 2 ^ 32
    → results ≡ word (length all) ++ names_encoding all → length names ≡ count
counted_names results rows count names all front fits row fits_too is =
    let parts = word_once count (length all) rows (names_encoding all) fits fits_too (sym front ∙ is) in
    omega (arith, parts.0, ap length (sym row ∙ parts.1), length-names_encoding names, length-names_encoding all)

pub counted_members : (results rows : List ℕ) (count : ℕ) (members all : List ℕ) → results ≡ word count ++ rows
    → count < 2 ^ 32 → rows ≡ flat_map word members → length all < 2 ^ 32
    → results ≡ word (length all) ++ flat_map word all → length members ≡ count
counted_members results rows count members all front fits row fits_too is =
    let parts = word_once count (length all) rows (flat_map word all) fits fits_too (sym front ∙ is) in
    omega (arith, parts.0, ap length (sym row ∙ parts.1), length-words_text members, length-words_text all)

pub row_after : (results rows all : List ℕ) (count n : ℕ) → results ≡ word count ++ rows → count < 2 ^ 32 → n < 2 ^ 32
    → results ≡ word n ++ all → rows ≡ all
row_after results rows all count n front fits fits_too is =
    (word_once count n rows all fits fits_too (sym front ∙ is)).1

-- the results of calls that return names or members
pub names_reported : (results : List ℕ) (answer : PlainReply) → HasResults MACH_PORT_NAMES results answer
    → 0 < length results
    → (names : List NamedType) × (answer ≡ reply.Names names) × FitsReply (reply.Names names)
    × (results ≡ word (length names) ++ names_encoding names)
unfolding reply_encoding
names_reported results (reply.Names names) has some =
    (names, refl, has.fits, ap (λ (l : List ℕ). drop 8 l) has.text)
names_reported results (reply.Refused n code) has some = absurd (cc has.done)
names_reported results (reply.Message code size member message) has some = absurd (cc has.done)
names_reported results (reply.Done n) has some = absurd (omega (arith, some, ap length has.text))
names_reported results r has some = absurd (omega (arith, has.of_call))

pub members_reported : (results : List ℕ) (answer : PlainReply) → HasResults MACH_PORT_GET_SET_STATUS results answer
    → 0 < length results
    → (members : List ℕ) × (answer ≡ reply.SetStatus members) × FitsReply (reply.SetStatus members)
    × (results ≡ word (length members) ++ flat_map word members)
unfolding reply_encoding
members_reported results (reply.SetStatus members) has some =
    (members, refl, has.fits, ap (λ (l : List ℕ). drop 8 l) has.text)
members_reported results (reply.Refused n code) has some = absurd (cc has.done)
members_reported results (reply.Message code size member message) has some = absurd (cc has.done)
members_reported results (reply.Done n) has some = absurd (omega (arith, some, ap length has.text))
members_reported results r has some = absurd (omega (arith, has.of_call))

-- a fact holds if nothing was found too
pub at_none : {X P : Type 0} (r : Option X) → P → IfNone r P
at_none (Some x) p = tt
at_none None p = p

-- the code after a reply's number
abbrev code_in : PlainReply → ℕ
code_in (reply.Refused number code) = number_of code
code_in (reply.Message code size member message) = number_of code
code_in r = 0

code_in-fits : (r : PlainReply) → code_in r < 2 ^ 32
code_in-fits (reply.Refused number code) = code-fits code
code_in-fits (reply.Message code size member message) = code-fits code
code_in-fits r = omega arith

-- the bytes after a reply's code
abbrev behind_code : PlainReply → List ℕ
behind_code r = drop 8 (reply_encoding r)

pub in_parts : (r : PlainReply) → reply_encoding r ≡ word (number_of_reply r) ++ (word (code_in r) ++ behind_code r)
unfolding reply_encoding
in_parts (reply.Refused number code) = refl
in_parts (reply.Done number) = refl
in_parts (reply.Names names) = refl
in_parts (reply.Type bits) = refl
in_parts (reply.Allocate name) = refl
in_parts (reply.References count) = refl
in_parts (reply.ReceiveStatus status) = refl
in_parts (reply.SetStatus members) = refl
in_parts (reply.PreviousTarget name) = refl
in_parts (reply.Extracted name kind) = refl
in_parts (reply.Message code size member message) = refl
in_parts (reply.SpaceCreated space name) = refl

pub parts_of : (n number code : ℕ) (results : List ℕ) (answer : PlainReply) → number < 2 ^ 32 → code < 2 ^ 32 → n < 2 ^ 32
    → Answers n (word number ++ (word code ++ results)) answer
    → (number ≡ n) × (code ≡ code_in answer) × (results ≡ behind_code answer)
parts_of n number code results answer number_fits code_fits fits is =
    let of_call : number_of_reply answer < 2 ^ 32 = subst (λ (k : ℕ). k < 2 ^ 32) (sym is.of_call) fits in
    let front =
    word_once number (number_of_reply answer) (word code ++ results) (word (code_in answer) ++ behind_code answer)
    number_fits of_call (is.text ∙ in_parts answer) in
    let after =
    word_once code (code_in answer) results (behind_code answer) code_fits (code_in-fits answer) front.1 in
    (front.0 ∙ is.of_call, after.0, after.1)

success_code : (code : KernReturn) → 0 ≡ number_of code → code ≡ kern.Success
success_code code is = sym (one_code kern.Success code is)

-- a call other than mach_msg with the code 0 was done
pub done_reported : (number : ℕ) (results : List ℕ) (answer : PlainReply) → number < 2 ^ 32 → number ≢ MACH_MSG
    → Answers number (done_encoding number results) answer → HasResults number results answer
done_reported number results (reply.Refused n code) fits other is =
    let parts = parts_of number number 0 results (reply.Refused n code) fits (omega arith) fits is in
    absurd (is.well_formed.1 (success_code code parts.1))
done_reported number results (reply.Message code size member message) fits other is = absurd (other (sym is.of_call))
done_reported number results r fits other is =
    record { text = is.text; fits = is.fits; of_call = is.of_call; done = refl }

-- a call other than mach_msg with another code was refused
pub refusal_reported : (number : ℕ) (code : KernReturn) (results : List ℕ) (answer : PlainReply) → number < 2 ^ 32
    → number ≢ MACH_MSG → code ≢ kern.Success
    → Answers number (word number ++ (word (number_of code) ++ results)) answer
    → (answer ≡ reply.Refused number code) × (results ≡ [])
unfolding reply_encoding
refusal_reported number code results (reply.Refused n k) fits other some is =
    let parts = parts_of number number (number_of code) results (reply.Refused n k) fits (code-fits code) fits is in
    let same : k ≡ code = one_code k code (sym parts.1) in (
      ap (λ (m : ℕ). reply.Refused m k) is.of_call ∙ ap (λ (c : KernReturn). reply.Refused number c) same,
      parts.2,
    )
refusal_reported number code results (reply.Message k size member message) fits other some is =
    absurd (other (sym is.of_call))
refusal_reported number code results r fits other some is =
    let parts = parts_of number number (number_of code) results r fits (code-fits code) fits is in
    absurd (some (success_code code (sym parts.1)))

-- the reply of mach_msg is its message
pub message_reported : (code : KernReturn) (results : List ℕ) (answer : PlainReply)
    → Answers MACH_MSG (word MACH_MSG ++ (word (number_of code) ++ results)) answer
    → (size : ℕ) × (member : ℕ) × (message : List ℕ) × (size < 2 ^ 32) × (member < 2 ^ 32)
    × (answer ≡ reply.Message code size member message) × (results ≡ word size ++ (word member ++ message))
unfolding reply_encoding
message_reported code results (reply.Message k size member message) is =
    let parts =
    parts_of MACH_MSG MACH_MSG (number_of code) results (reply.Message k size member message) (omega arith)
    (code-fits code) (omega arith) is in
    let same : k ≡ code = one_code k code (sym parts.1) in
    let one = ap (λ (c : KernReturn). reply.Message c size member message) same in
    (size, member, message, is.fits.0, is.fits.1, one, parts.2)
message_reported code results (reply.Refused n k) is = absurd (is.well_formed.0 is.of_call)
message_reported code results (reply.Done n) is =
    absurd (cc (subst (λ (k : ℕ). IsTrue (not (has_results k))) is.of_call is.well_formed))
message_reported code results r is = absurd (omega (arith, is.of_call))

pub one_message : (code : KernReturn) (results message : List ℕ) (size member : ℕ) (answer : PlainReply)
    → results ≡ word size ++ (word member ++ message) → size < 2 ^ 32 → member < 2 ^ 32
    → Answers MACH_MSG (word MACH_MSG ++ (word (number_of code) ++ results)) answer
    → Some (reply.Message code size member message) ≡ Some answer
one_message code results message size member answer mine fits fits_too is =
    let other = message_reported code results answer is in
    let size_is =
    word_once size other.0 (word member ++ message) (word other.1 ++ other.2) fits other.3 (sym mine ∙ other.6) in
    let member_is = word_once member other.1 message other.2 fits_too other.4 size_is.1 in
    let same : reply.Message code size member message ≡ reply.Message code other.0 other.1 other.2 =
    λ i. reply.Message code (size_is.0 i) (member_is.0 i) (member_is.1 i) in
    ap (λ (r : PlainReply). Some r) (same ∙ sym other.5)

pub long_message : (code : KernReturn) (results : List ℕ) (answer : PlainReply)
    → Answers MACH_MSG (word MACH_MSG ++ (word (number_of code) ++ results)) answer → 8 ≤ length results
long_message code results answer is =
    let other = message_reported code results answer is in omega (arith, ap length other.6)

-- a reply has at least eight bytes: its number and its code
pub long_reply_to : (n : ℕ) (content : List ℕ) (answer : PlainReply) → Answers n content answer → 8 ≤ length content
long_reply_to n content answer is =
    omega (arith, ap length is.text, ap length (in_parts answer))

pub stated_number : (n number code : ℕ) (results : List ℕ) (answer : PlainReply) → number < 2 ^ 32 → code < 2 ^ 32
    → n < 2 ^ 32 → Answers n (word number ++ (word code ++ results)) answer → number ≡ n
stated_number n number code results answer number_fits code_fits fits is =
    (parts_of n number code results answer number_fits code_fits fits is).0

code_of : (r : PlainReply) → (code : KernReturn) × (number_of code ≡ code_in r)
code_of (reply.Refused number code) = (code, refl)
code_of (reply.Message code size member message) = (code, refl)
code_of r = (kern.Success, refl)

pub code_reported : (n number code : ℕ) (results : List ℕ) (answer : PlainReply) → number < 2 ^ 32 → code < 2 ^ 32
    → n < 2 ^ 32 → Answers n (word number ++ (word code ++ results)) answer
    → (known : KernReturn) × (number_of known ≡ code)
code_reported n number code results answer number_fits code_fits fits is =
    let parts = parts_of n number code results answer number_fits code_fits fits is in
    let known = code_of answer in
    (known.0, known.1 ∙ sym parts.1)

-- replies in records answer their calls
own_done : (c : PlainCall) → is_recorded c ≡ true → records_no_results c ≡ true → not (has_results (number_of_call c)) ≡ true
own_done (call.Attach space) recorded none = absurd (cc recorded)
own_done call.Names recorded none = absurd (cc recorded)
own_done (call.Type name) recorded none = absurd (cc recorded)
own_done (call.GetRefs name kind) recorded none = absurd (cc recorded)
own_done (call.GetReceiveStatus name) recorded none = absurd (cc recorded)
own_done (call.GetSetStatus name) recorded none = absurd (cc recorded)
own_done (call.Allocate kind) recorded none = absurd (cc none)
own_done (call.RequestNotification name variant sync notify_name disposition) recorded none = absurd (cc none)
own_done (call.ExtractRight name disposition) recorded none = absurd (cc none)
own_done (call.Send message) recorded none = absurd (cc none)
own_done (call.Receive limit large name waited) recorded none = absurd (cc none)
own_done (call.SpaceCreate name disposition) recorded none = absurd (cc none)
own_done c recorded none = refl

first_true : (a b : Bool) → (a && b) ≡ true → a ≡ true
first_true true b is = refl
first_true false b is = absurd cc

second_true : (a b : Bool) → (a && b) ≡ true → b ≡ true
second_true true b is = is
second_true false b is = absurd cc

well_formed_record : (c : PlainCall) (answer : PlainReply) → IsRecordedReply c answer → IsWellFormed answer
well_formed_record c (reply.Refused number code) is = absurd (cc (second_true (is_recorded c) false is.recorded))
well_formed_record c (reply.Done number) is =
    subst (λ (n : ℕ). IsTrue (not (has_results n))) (sym is.of_one_call)
    (own_done c (first_true (is_recorded c) true is.recorded) is.results)
well_formed_record c r is = tt

pub record_replies : (c : PlainCall) (content : List ℕ) (answer : PlainReply) → IsRecordedReply c answer
    → content ≡ reply_encoding answer → Answers (number_of_call c) content answer
record_replies c content answer is text =
    record { text = text; fits = is.fits; of_call = is.of_one_call; well_formed = well_formed_record c answer is }
