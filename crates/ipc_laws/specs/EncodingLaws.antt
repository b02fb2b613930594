-- Bytes encode at most one plain call and one reply to it.
use Rattle.std.specs.Prelude.{◌≡◌, ℕ, ◌+◌, ◌^◌, ◌<◌, true, List, ◌++◌, length}
use Rattle.std.proofs.Common.{sym, ◌∙◌, ap, append_assoc}
use Rattle.ipc_model.specs.declared.plain_call.PlainCall.{PlainCall}
use Rattle.ipc_model.specs.declared.plain_reply.PlainReply.{PlainReply}
use Rattle.ipc_laws.specs.ListLaws.{same_front, same_back}
use Rattle.ipc_model.specs.calls.PlainStep.{number_of_call, has_record}
use Rattle.ipc_laws.specs.EncodingReading.{read_call, call_back, number-fits, read_reply, reply_back}
use Rattle.ipc_model.specs.encodings.PlainCalls.{arguments_encoding, call_encoding, reply_encoding, FitsCall, FitsReply}
use Rattle.words.specs.WordLaws.{same_word, same_long_word, length-word, length-long_word}
use Rattle.words.specs.Words.{word, long_word, frame_encoding}

-- equal bytes that begin with a number
pub word_once : (m n : ℕ) (x y : List ℕ) → m < 2 ^ 32 → n < 2 ^ 32 → word m ++ x ≡ word n ++ y → (m ≡ n) × (x ≡ y)
word_once m n x y fits fits_too e =
    (same_word m n x y fits fits_too e, same_back (word m) (word n) x y (length-word m ∙ sym (length-word n)) e)

pub long_word_once : (m n : ℕ) (x y : List ℕ) → m < 2 ^ 64 → n < 2 ^ 64 → long_word m ++ x ≡ long_word n ++ y → (m ≡ n)
    × (x ≡ y)
long_word_once m n x y fits fits_too e = (
  same_long_word m n x y fits fits_too e,
  same_back (long_word m) (long_word n) x y (length-long_word m ∙ sym (length-long_word n)) e,
)

-- equal bytes that begin with a frame
pub frame_once : (a b x y : List ℕ) → length a < 2 ^ 32 → length b < 2 ^ 32
    → frame_encoding a ++ x ≡ frame_encoding b ++ y → (a ≡ b) × (x ≡ y)
frame_once a b x y fits fits_too e =
    let whole = sym (append_assoc (word (length a)) a x) ∙ e ∙ append_assoc (word (length b)) b y in
    let sizes = word_once (length a) (length b) (a ++ x) (b ++ y) fits fits_too whole in
    (same_front a b x y sizes.0 sizes.1, same_back a b x y sizes.0 sizes.1)

-- one call has this encoding
pub call_encoding_once : (a b : PlainCall) → FitsCall a → FitsCall b → call_encoding a ≡ call_encoding b → a ≡ b
unfolding call_encoding
call_encoding_once a b fits fits_too e =
    let parts =
    word_once (number_of_call a) (number_of_call b) (arguments_encoding a) (arguments_encoding b) (number-fits a)
    (number-fits b) e in
    sym (call_back a fits) ∙ (λ i. read_call (parts.0 i) (parts.1 i)) ∙ call_back b fits_too

-- one reply to a call that has a record has this encoding
pub reply_encoding_once : (c d : PlainCall) (a b : PlainReply) → FitsReply a → FitsReply b → has_record c a ≡ true
    → has_record d b ≡ true → reply_encoding a ≡ reply_encoding b → a ≡ b
reply_encoding_once c d a b fits fits_too recorded recorded_too e =
    sym (reply_back c a fits recorded) ∙ ap read_reply e ∙ reply_back d b fits_too recorded_too
