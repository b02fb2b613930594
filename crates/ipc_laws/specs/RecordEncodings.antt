-- Bytes encode at most one record, also of a numbered call.
use Rattle.std.specs.Prelude.{◌≡◌, ℕ, ◌+◌, ◌^◌, ◌<◌, true, List, [], ◌∷◌, ◌++◌, length, All, refl}
use Rattle.std.proofs.Common.{sym, ◌∙◌, ap, arith, append_assoc}
use Rattle.codes.specs.declared.call_number.TheConstants.{NUMBERED}
use Rattle.ipc_model.specs.calls.PlainStep as plain
use Rattle.ipc_model.specs.calls.PlainStep.{may_be_numbered}
use Rattle.ipc_model.specs.calls.Step.{has_record}
use Rattle.ipc_model.specs.declared.call.Call.{Call}
use Rattle.ipc_model.specs.declared.call.Call.TheVariants.{Plain, Numbered, Unnumberable}
use Rattle.ipc_model.specs.declared.call.NumberedCall.{NumberedCall}
use Rattle.ipc_model.specs.declared.plain_call.PlainCall.{PlainCall}
use Rattle.ipc_model.specs.declared.plain_call.PlainCall.TheVariants as call
use Rattle.ipc_model.specs.declared.plain_reply.PlainReply.{PlainReply}
use Rattle.ipc_model.specs.declared.record.Record.{Record}
use Rattle.ipc_model.specs.declared.reply.NumberedReply.{NumberedReply}
use Rattle.ipc_model.specs.declared.reply.Reply.{Reply}
use Rattle.ipc_model.specs.declared.reply.Reply.TheVariants as reply
use Rattle.ipc_laws.specs.CanonicalRecords.{both_true}
use Rattle.ipc_laws.specs.EncodingLaws.{word_once, long_word_once, frame_once, call_encoding_once, reply_encoding_once}
use Rattle.ipc_laws.specs.EncodingReading.{all_head, all_tail, number-fits}
use Rattle.ipc_model.specs.encodings.Encodings.{call_encoding, reply_encoding, canonical_call, record_encoding, records_encoding, FitsCall, FitsReply, IsRecord}
use Rattle.ipc_model.specs.encodings.PlainCalls as plain_calls
use Rattle.words.specs.Words.{word, long_word, frame_encoding}

-- no plain call has number 22
pub plain_number : (c : PlainCall) → plain.number_of_call c < NUMBERED
plain_number (call.Attach space) = omega arith
plain_number call.Names = omega arith
plain_number (call.Type name) = omega arith
plain_number (call.Rename from to) = omega arith
plain_number (call.AllocateName kind name) = omega arith
plain_number (call.Allocate kind) = omega arith
plain_number (call.Destroy name) = omega arith
plain_number (call.Deallocate name) = omega arith
plain_number (call.GetRefs name kind) = omega arith
plain_number (call.ModRefs name kind delta) = omega arith
plain_number (call.SetQlimit name limit) = omega arith
plain_number (call.SetMscount name count) = omega arith
plain_number (call.SetSeqno name seqno) = omega arith
plain_number (call.GetReceiveStatus name) = omega arith
plain_number (call.GetSetStatus name) = omega arith
plain_number (call.MoveMember member after) = omega arith
plain_number (call.RequestNotification name variant sync notify_name disposition) = omega arith
plain_number (call.InsertRight name right_name disposition) = omega arith
plain_number (call.ExtractRight name disposition) = omega arith
plain_number (call.Send message) = omega arith
plain_number (call.Receive limit large name waited) = omega arith
plain_number (call.SpaceCreate name disposition) = omega arith
plain_number call.SpaceDestroy = omega arith

-- so no plain call has the encoding of a numbered one
pub apart : (c : PlainCall) (beyond : List ℕ) → plain_calls.call_encoding c ≡ word NUMBERED ++ beyond → ⊥
unfolding plain_calls.call_encoding
apart c beyond same =
    let numbers =
    word_once (plain.number_of_call c) NUMBERED (plain_calls.arguments_encoding c) beyond (number-fits c) (omega arith)
    same in
    absurd (omega (arith, numbers.0, plain_number c))

numbered_parts : (a b : NumberedCall) → FitsCall (Numbered a) → FitsCall (Numbered b)
    → call_encoding (Numbered a) ≡ call_encoding (Numbered b) → Numbered a ≡ Numbered b
numbered_parts a b fits fits_too same =
    let numbers =
    word_once NUMBERED NUMBERED (word a.request ++ plain_calls.call_encoding a.call)
    (word b.request ++ plain_calls.call_encoding b.call) (omega arith) (omega arith) same in
    let requests =
    word_once a.request b.request (plain_calls.call_encoding a.call) (plain_calls.call_encoding b.call) fits.0 fits_too.0
    numbers.1 in
    let calls = call_encoding_once a.call b.call fits.1 fits_too.1 requests.1 in
    λ i. Numbered (record { request = requests.0 i; call = calls i })

-- one call that may have a record has this encoding
is_call : Call → Type 0
is_call (Plain c) = Unit {0}
is_call (Numbered numbered) = Unit {0}
is_call Unnumberable = ⊥

call_same : (a b : Call) → is_call a → is_call b → FitsCall a → FitsCall b → call_encoding a ≡ call_encoding b → a ≡ b
unfolding is_call
call_same (Plain a) (Plain b) is is_too fits fits_too same =
    ap (λ (c : PlainCall). Plain c) (call_encoding_once a b fits fits_too same)
call_same (Plain a) (Numbered b) is is_too fits fits_too same = absurd (apart a _ same)
call_same (Numbered a) (Plain b) is is_too fits fits_too same = absurd (apart b _ (sym same))
call_same (Numbered a) (Numbered b) is is_too fits fits_too same = numbered_parts a b fits fits_too same
call_same Unnumberable b is is_too fits fits_too same = absurd is
call_same (Plain a) Unnumberable is is_too fits fits_too same = absurd is_too
call_same (Numbered a) Unnumberable is is_too fits fits_too same = absurd is_too

has_is_call : (c : Call) (answer : Reply) → has_record c answer ≡ true → is_call c
unfolding is_call
has_is_call (Plain c) answer recorded = tt
has_is_call (Numbered numbered) answer recorded = tt
has_is_call Unnumberable answer recorded = absurd (cc recorded)

-- equal bytes that begin with a call's frame
call_once : (a b : Call) (x y : List ℕ) → is_call a → is_call b → FitsCall a → FitsCall b
    → length (call_encoding a) < 2 ^ 32 → length (call_encoding b) < 2 ^ 32
    → frame_encoding (call_encoding a) ++ x ≡ frame_encoding (call_encoding b) ++ y → (a ≡ b) × (x ≡ y)
call_once a b x y is is_too fits fits_too long long_too e =
    let parts = frame_once (call_encoding a) (call_encoding b) x y long long_too e in
    (call_same a b is is_too fits fits_too parts.0, parts.1)

numbered_replies : (c d : NumberedCall) (a b : NumberedReply) → FitsReply (reply.Numbered a)
    → FitsReply (reply.Numbered b) → has_record (Numbered c) (reply.Numbered a) ≡ true
    → has_record (Numbered d) (reply.Numbered b) ≡ true
    → reply_encoding (reply.Numbered a) ≡ reply_encoding (reply.Numbered b) → reply.Numbered a ≡ reply.Numbered b
numbered_replies c d a b fits fits_too recorded recorded_too same =
    let after_a : List ℕ = word a.request ++ plain_calls.reply_encoding a.reply in
    let after_b : List ℕ = word b.request ++ plain_calls.reply_encoding b.reply in
    let numbers =
    word_once NUMBERED NUMBERED (word 0 ++ after_a) (word 0 ++ after_b) (omega arith) (omega arith) same in
    let codes = word_once 0 0 after_a after_b (omega arith) (omega arith) numbers.1 in
    let requests =
    word_once a.request b.request (plain_calls.reply_encoding a.reply) (plain_calls.reply_encoding b.reply) fits.0
    fits_too.0 codes.1 in
    let is = both_true (may_be_numbered c.call) (plain.has_record c.call a.reply) recorded in
    let is_too = both_true (may_be_numbered d.call) (plain.has_record d.call b.reply) recorded_too in
    let replies = reply_encoding_once c.call d.call a.reply b.reply fits.1 fits_too.1 is.1 is_too.1 requests.1 in
    λ i. reply.Numbered (record { request = requests.0 i; reply = replies i })

-- one reply to a call that has a record has this encoding
reply_same : (c d : Call) (a b : Reply) → c ≡ d → FitsReply a → FitsReply b → has_record c a ≡ true
    → has_record d b ≡ true → reply_encoding a ≡ reply_encoding b → a ≡ b
reply_same (Plain c) (Plain d) (reply.Plain a) (reply.Plain b) alike fits fits_too recorded recorded_too same =
    ap (λ (r : PlainReply). reply.Plain r) (reply_encoding_once c d a b fits fits_too recorded recorded_too same)
reply_same (Numbered c) (Numbered d) (reply.Numbered a) (reply.Numbered b) alike fits fits_too recorded recorded_too
    same = numbered_replies c d a b fits fits_too recorded recorded_too same
reply_same (Plain c) (Numbered d) a b alike fits fits_too recorded recorded_too same = absurd (cc alike)
reply_same (Numbered c) (Plain d) a b alike fits fits_too recorded recorded_too same = absurd (cc alike)
reply_same (Plain c) (Plain d) (reply.Plain a) (reply.Numbered b) alike fits fits_too recorded recorded_too same =
    absurd (cc recorded_too)
reply_same (Plain c) (Plain d) (reply.Plain a) (reply.Repeated b) alike fits fits_too recorded recorded_too same =
    absurd (cc recorded_too)
reply_same (Plain c) (Plain d) (reply.Numbered a) b alike fits fits_too recorded recorded_too same =
    absurd (cc recorded)
reply_same (Plain c) (Plain d) (reply.Repeated a) b alike fits fits_too recorded recorded_too same =
    absurd (cc recorded)
reply_same (Numbered c) (Numbered d) (reply.Plain a) b alike fits fits_too recorded recorded_too same =
    absurd (cc recorded)
reply_same (Numbered c) (Numbered d) (reply.Repeated a) b alike fits fits_too recorded recorded_too same =
    absurd (cc recorded)
reply_same (Numbered c) (Numbered d) (reply.Numbered a) (reply.Plain b) alike fits fits_too recorded recorded_too same =
    absurd (cc recorded_too)
reply_same (Numbered c) (Numbered d) (reply.Numbered a) (reply.Repeated b) alike fits fits_too recorded recorded_too
    same = absurd (cc recorded_too)
reply_same Unnumberable d a b alike fits fits_too recorded recorded_too same = absurd (cc recorded)
reply_same (Plain c) Unnumberable a b alike fits fits_too recorded recorded_too same = absurd (cc recorded_too)
reply_same (Numbered c) Unnumberable a b alike fits fits_too recorded recorded_too same = absurd (cc recorded_too)

-- equal bytes that begin with the frame of such a reply
reply_once : (c d : Call) (a b : Reply) (x y : List ℕ) → c ≡ d → FitsReply a → FitsReply b → has_record c a ≡ true
    → has_record d b ≡ true → length (reply_encoding a) < 2 ^ 32 → length (reply_encoding b) < 2 ^ 32
    → frame_encoding (reply_encoding a) ++ x ≡ frame_encoding (reply_encoding b) ++ y → (a ≡ b) × (x ≡ y)
reply_once c d a b x y alike fits fits_too recorded recorded_too long long_too e =
    let parts = frame_once (reply_encoding a) (reply_encoding b) x y long long_too e in
    (reply_same c d a b alike fits fits_too recorded recorded_too parts.0, parts.1)

-- a record's encoding in its parts, and what follows it
pub record_apart : (n : ℕ) (entry : Record) (rest : List ℕ)
    → record_encoding n entry ++ rest ≡ long_word n
    ++ (word entry.space ++ (frame_encoding (call_encoding (canonical_call entry.call))
    ++ (frame_encoding (reply_encoding entry.reply) ++ rest)))
unfolding record_encoding
record_apart n entry rest = simp append_assoc

-- the same for a call that is kept
pub kept_apart : (n : ℕ) (entry : Record) (rest : List ℕ) → canonical_call entry.call ≡ entry.call
    → record_encoding n entry ++ rest ≡ long_word n
    ++ (word entry.space ++ (frame_encoding (call_encoding entry.call)
    ++ (frame_encoding (reply_encoding entry.reply) ++ rest)))
kept_apart n entry rest kept =
    record_apart n entry rest ∙ ap
    (λ (c : Call). long_word n ++
    (word entry.space ++ (frame_encoding (call_encoding c)
    ++ (frame_encoding (reply_encoding entry.reply) ++ rest)))) kept

-- equal bytes that begin with a record
abbrev pub RecordsHaveOneEncoding : Type 0
RecordsHaveOneEncoding = (m n : ℕ) (a b : Record) (x y : List ℕ) → IsRecord a → IsRecord b → m < 2 ^ 64 → n < 2 ^ 64
    → record_encoding m a ++ x ≡ record_encoding n b ++ y → (m ≡ n) × (a ≡ b) × (x ≡ y)

pub record_once : RecordsHaveOneEncoding
record_once m n a b x y is is_too fits fits_too e =
    let whole = sym (kept_apart m a x is.call.kept) ∙ e ∙ kept_apart n b y is_too.call.kept in
    let replies_a = frame_encoding (reply_encoding a.reply) ++ x in
    let replies_b = frame_encoding (reply_encoding b.reply) ++ y in
    let calls_a = frame_encoding (call_encoding a.call) ++ replies_a in
    let calls_b = frame_encoding (call_encoding b.call) ++ replies_b in
    let number = long_word_once m n (word a.space ++ calls_a) (word b.space ++ calls_b) fits fits_too whole in
    let space = word_once a.space b.space calls_a calls_b is.space is_too.space number.1 in
    let calls =
    call_once a.call b.call replies_a replies_b (has_is_call a.call a.reply is.reply.recorded)
    (has_is_call b.call b.reply is_too.reply.recorded) is.call.fits is_too.call.fits (omega (arith, is.frames.0))
    (omega (arith, is_too.frames.0)) space.1 in
    let replies =
    reply_once a.call b.call a.reply b.reply x y calls.0 is.reply.fits is_too.reply.fits is.reply.recorded
    is_too.reply.recorded (omega (arith, is.frames.1)) (omega (arith, is_too.frames.1)) calls.1 in
    (number.0, λ i. record { space = space.0 i; call = calls.0 i; reply = replies.0 i }, replies.1)

-- equal bytes that begin with equally many records, numbered from the same number
pub records_once : (n : ℕ) (a b : List Record) (x y : List ℕ) → All IsRecord a → All IsRecord b → length a ≡ length b
    → n + length a < 2 ^ 64
    → records_encoding n a ++ x ≡ records_encoding n b ++ y → (a ≡ b) × (x ≡ y)
records_once n [] [] x y are are_too long room e = (refl, e)
records_once n [] (s ∷ b) x y are are_too long room e = absurd (omega (arith, long))
records_once n (r ∷ a) [] x y are are_too long room e = absurd (omega (arith, long))
records_once n (r ∷ a) (s ∷ b) x y are are_too long room e =
    let whole =
    sym (append_assoc (record_encoding n r) (records_encoding (n + 1) a) x) ∙ e
    ∙ append_assoc (record_encoding n s) (records_encoding (n + 1) b) y in
    let first =
    record_once n n r s (records_encoding (n + 1) a ++ x) (records_encoding (n + 1) b ++ y)
    (all_head IsRecord r a are) (all_head IsRecord s b are_too) (omega (arith, room))
    (omega (arith, room)) whole in
    let others =
    records_once (n + 1) a b x y (all_tail IsRecord r a are) (all_tail IsRecord s b are_too) (omega (arith, long))
    (omega (arith, room)) first.2 in
    ((λ i. first.1 i ∷ others.0 i), others.1)
