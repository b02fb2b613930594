-- Printed words aren't empty, contain no space and begin no comment.
use Rattle.std.proofs.Common.{◌≡◌, ℕ, zero, suc, ◌-◌, ◌%◌, ◌/◌, ◌^◌, ◌<◌, ◌≤◌, Bool, true, false, ◌&&◌, ◌==◌, List, [], ◌∷◌, ◌++◌, length, drop, cond, refl, arith, Option, Some, None}
use Rattle.std.specs.Prelude.{nat_lt, nat_le, codes, decimal, slice_index, unwrap_or, map, All}
use Rattle.std.specs.Char.{digit_value}
use Rattle.std.specs.Fmt.{digits}
use Rattle.std.specs.Str.Parse.{AllDigits}
use Rattle.std.proofs.lemmas.Bool.{and_parts}
use Rattle.std.proofs.lemmas.Bool.Decides.{nat_tests}
use Rattle.std.proofs.lemmas.Fmt.{digits_is_IsNumeral}
use Rattle.std.proofs.lemmas.List.Elements.{All-head, All-tail}
use Rattle.hex.specs.Hex.{encode_with, encode_lower, lower_digits}
use Rattle.words.specs.Words.{AreBytes}
use Rattle.codes.specs.declared.kern_return.KernReturn.{KernReturn}
use Rattle.codes.specs.declared.kern_return.KernReturn.TheVariants as code
use Rattle.ipc_model.specs.declared.plain_call.PlainCall.{PlainCall}
use Rattle.ipc_model.specs.declared.plain_call.PlainCall.TheVariants as call
use Rattle.ipc_model.specs.declared.plain_reply.NamedType.{NamedType}
use Rattle.ipc_model.specs.declared.plain_reply.ReceiveStatus.{ReceiveStatus}
use Rattle.ipc_model.specs.declared.plain_reply.PlainReply.{PlainReply}
use Rattle.ipc_model.specs.declared.plain_reply.PlainReply.TheVariants as reply
use Rattle.ipc_model.specs.declared.call.Call.{Call}
use Rattle.ipc_model.specs.declared.call.Call.TheVariants.{Plain, Numbered, Unnumberable}
use Rattle.ipc_model.specs.declared.reply.Reply.{Reply}
use Rattle.ipc_model.specs.declared.reply.Reply.TheVariants as variants
use Rattle.ipc_model.specs.encodings.Encodings as upper
use Rattle.ipc_model.specs.declared.message.RightKind.{RightKind}
use Rattle.ipc_model.specs.declared.message.RightKind.TheVariants as kind_of
use Rattle.ipc_model.specs.encodings.PlainCalls.{FitsReply}
use Rattle.script.specs.declared.vocabulary.kind.Kind.{Kind}
use Rattle.script.specs.declared.vocabulary.kind.Kind.TheVariants as kind
use Rattle.script.specs.declared.vocabulary.kind.Kind.TheVariants.{Hexadecimal, Decimal, Signed, Right, Disposition, Notification}
use Rattle.script.specs.declared.vocabulary.header.Header.{Header}
use Rattle.script.specs.declared.vocabulary.verb.Verb.{Verb}
use Rattle.script.specs.declared.vocabulary.verb.Verb.TheVariants as verb
use Rattle.script.specs.vocabulary.Codes.{code_word}
use Rattle.script.specs.vocabulary.Kinds.{value_word}
use Rattle.script.specs.vocabulary.Numbers.{hexadecimal, signed}
use Rattle.script.specs.vocabulary.Spaced.{is_word_byte}
use Rattle.script.specs.vocabulary.Verbs.{verb_word}
use Rattle.script.proofs.vocabulary.WordsOf.{are_word_bytes, is_word, are_words}
use Rattle.script.specs.printing.Bytes.{bytes_word, optional_bytes}
use Rattle.script.specs.printing.Items.{element_kind, words_item_words, bytes_item_words, numbers_in, body_within, body_words}
use Rattle.script.specs.printing.Calls.{verb_of, argument_words, call_words, plain_call_words}
use Rattle.script.specs.printing.Messages.{optional_words, flag_words, local_words, header_of, header_words, message_words}
use Rattle.script.specs.printing.Replies.{yes_or_no, kind_word, count_words, status_words, names_words, members_words, outcome_words, received_words, message_reply_words, plain_reply_words, reply_words}
use Rattle.script.specs.Calls.{HasLine, HasPlainLine}
use Rattle.script.proofs.ItemsAgain.{bytes_after, item_cases, words_after_item, AreNumbers, WordsFront, BytesFront}
use Rattle.script.proofs.MessagesAgain.{FitsHeader, fits_header}
use Rattle.script.proofs.NumbersAgain.{decimal_fits}

both : (a b : Bool) → a ≡ true → b ≡ true → (a && b) ≡ true
both a b first second = grind (arith, nat_tests)

digit_byte : (c : ℕ) → digit_value c < 16 → is_word_byte c ≡ true
digit_byte c small = grind (arith, nat_tests)

-- digits are bytes of words
all_digits : (radix : ℕ) (ds : List ℕ) → radix ≤ 16 → AllDigits radix ds → are_word_bytes ds ≡ true
all_digits radix [] low are = refl
all_digits radix (c ∷ cs) low are = both _ _ (digit_byte c (omega (arith, are.0))) (all_digits radix cs low are.1)

whole : (ds : List ℕ) → 0 < length ds → are_word_bytes ds ≡ true → is_word ds ≡ true
whole [] some are = absurd (omega arith)
whole (c ∷ cs) some are = are

decimal_word : (n : ℕ) → n < 2 ^ 32 → is_word (decimal n) ≡ true
decimal_word n fits =
    let is = digits_is_IsNumeral 10 false (omega arith) (omega arith) n (decimal_fits n fits) in
    whole (decimal n) is.0.0 (all_digits 10 (decimal n) (omega arith) is.0.1)

hexadecimal_word : (n : ℕ) → n < 2 ^ 32 → is_word (hexadecimal n) ≡ true
hexadecimal_word n fits =
    let short : n < 16 ^ 64 = omega arith in
    let is =
    digits_is_IsNumeral 16 false (omega arith) (omega arith) n short in
    all_digits 16 (digits 16 false n) (omega arith) is.0.1

signed_word : (n : ℕ) → n < 2 ^ 32 → is_word (signed n) ≡ true
signed_word n fits =
    elim (nat_lt n (2 ^ 31)) as (λ (b : Bool). nat_lt n (2 ^ 31) ≡ b
    → is_word (cond b (decimal n) (codes "-" ++ decimal (2 ^ 32 - n))) ≡ true) [
      | true ↦ λ (_ : _). decimal_word n fits
      | false ↦ λ (is : _).
          let high : 2 ^ 31 ≤ n = grind (arith, nat_tests) in
          let small : 2 ^ 32 - n < 2 ^ 32 = omega arith in
          let less : 2 ^ 32 - n < 10 ^ 64 = decimal_fits (2 ^ 32 - n) small in
          let number =
          digits_is_IsNumeral 10 false (omega arith) (omega arith) (2 ^ 32 - n) less in
          all_digits 10 (decimal (2 ^ 32 - n)) (omega arith) number.0.1
    ] refl

named : (P : List ℕ → Type 0) (b : Bool) (word : List ℕ) (rest : Option (List ℕ)) (text : List ℕ) → P word
    → P (unwrap_or rest text) → P (unwrap_or (cond b (Some word) rest) text)
named P true word rest text here there = here
named P false word rest text here there = there

abbrev Prints : List ℕ → Type 0
Prints word = is_word word ≡ true

-- the word of every number is valid
pub value_printed : (k : Kind) (n : ℕ) → n < 2 ^ 32 → is_word (value_word k n) ≡ true
unfolding value_word
value_printed kind.Hexadecimal n fits = hexadecimal_word n fits
value_printed kind.Decimal n fits = decimal_word n fits
value_printed kind.Signed n fits = signed_word n fits
value_printed kind.Right n fits =
    named Prints (n == 0) _ _ _ refl
    (named Prints (n == 1) _ _ _ refl
    (named Prints (n == 2) _ _ _ refl
    (named Prints (n == 3) _ _ _ refl (named Prints (n == 4) _ None _ refl (decimal_word n fits)))))
value_printed kind.Disposition n fits =
    named Prints (n == 16) _ _ _ refl (named Prints (n == 17) _ _ _ refl (named Prints (n == 18) _ _ _ refl
    (named Prints (n == 19) _ _ _ refl
    (named Prints (n == 20) _ _ _ refl (named Prints (n == 21) _ None _ refl (decimal_word n fits))))))
value_printed kind.Notification n fits =
    named Prints (n == 69) _ _ _ refl
    (named Prints (n == 70) _ _ _ refl (named Prints (n == 72) _ None _ refl (decimal_word n fits)))
value_printed kind.Element n fits =
    named Prints (n == 2) _ _ _ refl
    (named Prints (n == 16) _ _ _ refl (named Prints (n == 17) _ _ _ refl (named Prints (n == 18) _ _ _ refl
    (named Prints (n == 19) _ _ _ refl
    (named Prints (n == 20) _ _ _ refl (named Prints (n == 21) _ None _ refl (decimal_word n fits)))))))
value_printed kind.Absent n fits = decimal_word n fits

-- the digits of bytes
digit_is : (d : ℕ) → d < 16 → is_word_byte (slice_index lower_digits d) ≡ true
digit_is zero less = refl
digit_is (suc zero) less = refl
digit_is (suc (suc zero)) less = refl
digit_is (suc (suc (suc zero))) less = refl
digit_is (suc (suc (suc (suc zero)))) less = refl
digit_is (suc (suc (suc (suc (suc zero))))) less = refl
digit_is (suc (suc (suc (suc (suc (suc zero)))))) less = refl
digit_is (suc (suc (suc (suc (suc (suc (suc zero))))))) less = refl
digit_is (suc (suc (suc (suc (suc (suc (suc (suc zero)))))))) less = refl
digit_is (suc (suc (suc (suc (suc (suc (suc (suc (suc zero))))))))) less = refl
digit_is (suc (suc (suc (suc (suc (suc (suc (suc (suc (suc zero)))))))))) less = refl
digit_is (suc (suc (suc (suc (suc (suc (suc (suc (suc (suc (suc zero))))))))))) less = refl
digit_is (suc (suc (suc (suc (suc (suc (suc (suc (suc (suc (suc (suc zero)))))))))))) less = refl
digit_is (suc (suc (suc (suc (suc (suc (suc (suc (suc (suc (suc (suc (suc zero))))))))))))) less = refl
digit_is (suc (suc (suc (suc (suc (suc (suc (suc (suc (suc (suc (suc (suc (suc zero)))))))))))))) less = refl
digit_is (suc (suc (suc (suc (suc (suc (suc (suc (suc (suc (suc (suc (suc (suc (suc zero))))))))))))))) less = refl
digit_is (suc (suc (suc (suc (suc (suc (suc (suc (suc (suc (suc (suc (suc (suc (suc (suc d)))))))))))))))) less =
    absurd (omega arith)

encoded : (bytes : List ℕ) → AreBytes bytes → are_word_bytes (encode_lower bytes) ≡ true
unfolding encode_with
encoded [] fits = refl
encoded (b ∷ bytes) fits =
    let byte : b < 256 = fits 0 in
    both _ _ (digit_is (b / 16) (omega arith))
    (both _ _ (digit_is (b % 16) (omega arith)) (encoded bytes (λ k. fits (suc k))))

pub bytes_printed : (bytes : List ℕ) → AreBytes bytes → is_word (bytes_word bytes) ≡ true
unfolding bytes_word encode_with
bytes_printed [] fits = refl
bytes_printed (b ∷ bytes) fits = encoded (b ∷ bytes) fits

-- Lists of words.
pub printed_both : (a b : List (List ℕ)) → are_words a ≡ true → are_words b ≡ true → are_words (a ++ b) ≡ true
printed_both [] b first second = second
printed_both (w ∷ ws) b first second =
    let parts = and_parts (is_word w) (are_words ws) first in both _ _ parts.0 (printed_both ws b parts.1 second)

one : (w : List ℕ) → is_word w ≡ true → are_words (w ∷ []) ≡ true
one w is = both _ _ is refl

two : (v w : List ℕ) → is_word v ≡ true → is_word w ≡ true → are_words (v ∷ w ∷ []) ≡ true
two v w first second = both _ _ first (one w second)

three : (u v w : List ℕ) → is_word u ≡ true → is_word v ≡ true → is_word w ≡ true → are_words (u ∷ v ∷ w ∷ []) ≡ true
three u v w first second third = both _ _ first (two v w second third)

optional_printed : (label : List ℕ) (k : Kind) (n : ℕ) → is_word label ≡ true → n < 2 ^ 32
    → are_words (optional_words label k n) ≡ true
unfolding optional_words
optional_printed label k n is fits =
    elim (n == 0) as (λ (b : Bool). are_words (cond b [] (label ∷ value_word k n ∷ [])) ≡ true)
    [ true ↦ refl | false ↦ two label (value_word k n) is (value_printed k n fits) ]

flag_printed : (label : List ℕ) (b : Bool) → is_word label ≡ true → are_words (flag_words label b) ≡ true
unfolding flag_words
flag_printed label true is = one label is
flag_printed label false is = refl

local_printed : (d n : ℕ) → d < 2 ^ 32 → n < 2 ^ 32 → are_words (local_words d n) ≡ true
unfolding local_words
local_printed d n fits fits_name =
    elim (d == 0 && n == 0) as (λ (b : Bool). are_words
    (cond b [] (codes "local" ∷ value_word Disposition d ∷ value_word Hexadecimal n ∷ [])) ≡ true) [
      | true ↦ refl
      | false ↦ three (codes "local") (value_word Disposition d) (value_word Hexadecimal n) refl
          (value_printed kind.Disposition d fits) (value_printed kind.Hexadecimal n fits_name)
    ]

optional_bytes_printed : (label bytes : List ℕ) → is_word label ≡ true → AreBytes bytes
    → are_words (optional_bytes label bytes) ≡ true
unfolding optional_bytes
optional_bytes_printed label [] is fits = refl
optional_bytes_printed label (b ∷ bytes) is fits =
    two label (bytes_word (b ∷ bytes)) is (bytes_printed (b ∷ bytes) fits)

-- Lists of words, one after another.
record AreWords (ws : List (List ℕ)) : Type 0 where
  is : are_words ws ≡ true

join : {a b : List (List ℕ)} → AreWords a → AreWords b → AreWords (a ++ b)
join {a} {b} first second = record { is = printed_both a b first.is second.is }

header_printed : (h : Header) → FitsHeader h → are_words (header_words h) ≡ true
unfolding header_words
header_printed h fits =
    let rights : AreWords (value_word Disposition (h.bits % 0x100) ∷ value_word Hexadecimal h.remote ∷ []) =
    record {
      is = two (value_word Disposition (h.bits % 0x100)) (value_word Hexadecimal h.remote)
          (value_printed kind.Disposition (h.bits % 0x100) (omega arith))
          (value_printed kind.Hexadecimal h.remote fits.remote);
    } in
    let local : AreWords (local_words (h.bits / 0x100 % 0x100) h.local) =
    record { is = local_printed (h.bits / 0x100 % 0x100) h.local (omega arith) fits.local } in
    let id : AreWords (codes "id" ∷ value_word Decimal h.id ∷ []) =
    record { is = two (codes "id") (value_word Decimal h.id) refl (value_printed kind.Decimal h.id fits.id) } in
    let complex : AreWords (flag_words (codes "complex") (nat_le 0x8000_0000 h.bits)) =
    record { is = flag_printed (codes "complex") (nat_le 0x8000_0000 h.bits) refl } in
    let further : AreWords (optional_words (codes "bits") Hexadecimal (h.bits / 0x1_0000 % 0x8000)) =
    record {
      is = optional_printed (codes "bits") kind.Hexadecimal (h.bits / 0x1_0000 % 0x8000) refl
          (omega arith);
    } in
    let size : AreWords (optional_words (codes "size") Decimal h.size) =
    record { is = optional_printed (codes "size") kind.Decimal h.size refl fits.size } in
    let seqno : AreWords (optional_words (codes "seqno") Decimal h.seqno) =
    record { is = optional_printed (codes "seqno") kind.Decimal h.seqno refl fits.seqno } in
    (join (join (join (join (join (join rights local) id) complex) further) size) seqno).is

numbers_printed : (k : Kind) (ns : List ℕ) → AreNumbers ns → are_words (map (value_word k) ns) ≡ true
numbers_printed k [] fit = refl
numbers_printed k (n ∷ ns) fit = both _ _ (value_printed k n fit.0) (numbers_printed k ns fit.1)

within_printed : (m : ℕ) (body : List ℕ) → AreBytes body → are_words (body_within m body) ≡ true
unfolding body_within words_item_words bytes_item_words
within_printed zero body fits = optional_bytes_printed (codes "data") body refl fits
within_printed (suc m) body fits =
    item_cases (λ (front : Option (List (List ℕ) × List ℕ)). are_words (words_after_item m body front) ≡ true) body fits
    (λ (w : ℕ × List ℕ × List ℕ) (parts : WordsFront body w).
    both _ _ refl (both _ _ (value_printed kind.Element w.0 (omega (arith, parts.small)))
    (printed_both (map (value_word (element_kind w.0)) (numbers_in w.1)) (body_within m w.2)
    (numbers_printed (element_kind w.0) (numbers_in w.1) parts.fit) (within_printed m w.2 parts.beyond))))
    (λ (b : List ℕ × List ℕ) (parts : BytesFront body b). both _ _ refl
    (both _ _ refl (both _ _ (bytes_printed b.0 parts.bytes) (within_printed m b.1 parts.beyond))))
    (optional_bytes_printed (codes "data") body refl fits)

body_printed : (body : List ℕ) → AreBytes body → are_words (body_words body) ≡ true
unfolding body_words
body_printed body fits = within_printed (length body) body fits

pub message_printed : (m : List ℕ) → AreBytes m → are_words (message_words m) ≡ true
unfolding message_words
message_printed m fits =
    elim (nat_lt (length m) 24) as (λ (b : Bool). are_words
    (cond b (codes "bytes" ∷ bytes_word m ∷ []) (header_words (header_of m) ++ body_words (drop 24 m))) ≡ true) [
      | true ↦ two (codes "bytes") (bytes_word m) refl (bytes_printed m fits)
      | false ↦ printed_both (header_words (header_of m)) (body_words (drop 24 m))
          (header_printed (header_of m) (fits_header m fits)) (body_printed (drop 24 m) (bytes_after 24 m fits))
    ]

-- The words of a call.
verb_printed : (v : Verb) → is_word (verb_word v) ≡ true
verb_printed verb.Attach = refl
verb_printed v = refl

hex : (n : ℕ) → n < 2 ^ 32 → is_word (value_word Hexadecimal n) ≡ true
hex n fits = value_printed kind.Hexadecimal n fits

count : (n : ℕ) → n < 2 ^ 32 → is_word (value_word Decimal n) ≡ true
count n fits = value_printed kind.Decimal n fits

receive_printed : (limit name : ℕ) (large waited : Bool) → limit < 2 ^ 32 → name < 2 ^ 32
    → are_words (argument_words (call.Receive limit large name waited)) ≡ true
receive_printed limit name large waited fits fits_name =
    printed_both ((value_word Hexadecimal name ∷ codes "limit" ∷ value_word Decimal limit ∷ [])
    ++ flag_words (codes "large") large) (flag_words (codes "waited") waited)
    (printed_both (value_word Hexadecimal name ∷ codes "limit" ∷ value_word Decimal limit ∷ [])
    (flag_words (codes "large") large)
    (three (value_word Hexadecimal name) (codes "limit") (value_word Decimal limit) (hex name fits_name) refl
    (count limit fits)) (flag_printed (codes "large") large refl))
    (flag_printed (codes "waited") waited refl)

number : (k : Kind) (n : ℕ) → n < 2 ^ 32 → AreWords (value_word k n ∷ [])
number k n fits = record { is = one (value_word k n) (value_printed k n fits) }

arguments_printed : (c : PlainCall) → HasPlainLine c → are_words (argument_words c) ≡ true
arguments_printed (call.Attach a) f = (number Decimal a f).is
arguments_printed call.Names f = refl
arguments_printed (call.Type a) f = (number Hexadecimal a f).is
arguments_printed (call.Rename a b) f = (join (number Hexadecimal a f.0) (number Hexadecimal b f.1)).is
arguments_printed (call.AllocateName a b) f = (join (number Right a f.0) (number Hexadecimal b f.1)).is
arguments_printed (call.Allocate a) f = (number Right a f).is
arguments_printed (call.Destroy a) f = (number Hexadecimal a f).is
arguments_printed (call.Deallocate a) f = (number Hexadecimal a f).is
arguments_printed (call.GetRefs a b) f = (join (number Hexadecimal a f.0) (number Right b f.1)).is
arguments_printed (call.ModRefs a b c) f =
    (join (number Hexadecimal a f.0) (join (number Right b f.1) (number Signed c f.2))).is
arguments_printed (call.SetQlimit a b) f = (join (number Hexadecimal a f.0) (number Decimal b f.1)).is
arguments_printed (call.SetMscount a b) f = (join (number Hexadecimal a f.0) (number Decimal b f.1)).is
arguments_printed (call.SetSeqno a b) f = (join (number Hexadecimal a f.0) (number Decimal b f.1)).is
arguments_printed (call.GetReceiveStatus a) f = (number Hexadecimal a f).is
arguments_printed (call.GetSetStatus a) f = (number Hexadecimal a f).is
arguments_printed (call.MoveMember a b) f = (join (number Hexadecimal a f.0) (number Hexadecimal b f.1)).is
arguments_printed (call.RequestNotification a b c d e) f =
    (join (number Hexadecimal a f.0)
    (join (number Notification b f.1)
    (join (number Decimal c f.2) (join (number Hexadecimal d f.3) (number Disposition e f.4))))).is
arguments_printed (call.InsertRight a b c) f =
    (join (number Hexadecimal a f.0) (join (number Hexadecimal b f.1) (number Disposition c f.2))).is
arguments_printed (call.ExtractRight a b) f = (join (number Hexadecimal a f.0) (number Disposition b f.1)).is
arguments_printed (call.Send m) f = message_printed m f
arguments_printed (call.Receive limit large name waited) f = receive_printed limit name large waited f.0 f.1
arguments_printed (call.SpaceCreate a b) f = (join (number Hexadecimal a f.0) (number Disposition b f.1)).is
arguments_printed call.SpaceDestroy f = refl

plain_call_printed : (c : PlainCall) → HasPlainLine c → are_words (plain_call_words c) ≡ true
unfolding plain_call_words
plain_call_printed c fits = both _ _ (verb_printed (verb_of c)) (arguments_printed c fits)

-- The words of a reply.
code_printed : (c : KernReturn) → is_word (code_word c) ≡ true
code_printed code.Success = refl
code_printed c = refl

kind_printed : (k : RightKind) → is_word (kind_word k) ≡ true
kind_printed kind_of.Receive = refl
kind_printed k = refl

answer_printed : (b : Bool) → is_word (yes_or_no b) ≡ true
unfolding yes_or_no
answer_printed true = refl
answer_printed false = refl

labelled : (label word : List ℕ) (ws : List (List ℕ)) → is_word label ≡ true → is_word word ≡ true → are_words ws ≡ true
    → are_words (label ∷ word ∷ ws) ≡ true
labelled label word ws first second rest = both _ _ first (both _ _ second rest)

pair : (label : List ℕ) (k : Kind) (n : ℕ) → is_word label ≡ true → n < 2 ^ 32 → AreWords (label ∷ value_word k n ∷ [])
pair label k n is fits = record { is = two label (value_word k n) is (value_printed k n fits) }

answer : (label : List ℕ) (b : Bool) → is_word label ≡ true → AreWords (label ∷ yes_or_no b ∷ [])
answer label b is = record { is = two label (yes_or_no b) is (answer_printed b) }

status_printed : (s : ReceiveStatus) → FitsReply (reply.ReceiveStatus s) → are_words (status_words s) ≡ true
unfolding status_words count_words
status_printed s f =
    let counts = join (pair (codes "set") kind.Hexadecimal s.set refl f.0)
    (join (pair (codes "seqno") kind.Decimal s.sequence_number refl f.1)
    (join (pair (codes "mscount") kind.Decimal s.make_send_count refl f.2)
    (join (pair (codes "qlimit") kind.Decimal s.limit refl f.3)
    (join (pair (codes "messages") kind.Decimal s.messages refl f.4)
    (pair (codes "send_once") kind.Decimal s.send_once_count refl f.5))))) in
    let answers = join (answer (codes "senders") s.has_senders refl)
    (join (answer (codes "port_destroyed") s.has_port_destroyed_request refl)
    (answer (codes "no_senders") s.has_no_senders_request refl)) in
    (join counts answers).is

abbrev FitsNamed : NamedType → Type 0
FitsNamed n = (n.name < 2 ^ 32) × (n.bits < 2 ^ 32)

abbrev FitsName : ℕ → Type 0
FitsName name = name < 2 ^ 32

names_printed : (names : List NamedType) → All FitsNamed names → are_words (names_words names) ≡ true
unfolding names_words
names_printed [] fits = refl
names_printed (n ∷ names) fits =
    let here =
    All-head FitsNamed n names fits in
    labelled (value_word Hexadecimal n.name) (value_word Hexadecimal n.bits) (names_words names)
    (hex n.name here.0) (hex n.bits here.1) (names_printed names (All-tail FitsNamed n names fits))

members_printed : (members : List ℕ) → All FitsName members → are_words (members_words members) ≡ true
unfolding members_words
members_printed [] fits = refl
members_printed (n ∷ members) fits =
    both (is_word (value_word Hexadecimal n)) (are_words (members_words members))
    (hex n (All-head FitsName n members fits)) (members_printed members (All-tail FitsName n members fits))

outcome_printed : (c : KernReturn) (silent : Bool) → are_words (outcome_words c silent) ≡ true
unfolding outcome_words
outcome_printed code.Success true = refl
outcome_printed code.Success false = refl
outcome_printed c silent = refl

received_printed : (message : List ℕ) → AreBytes message → are_words (received_words message) ≡ true
unfolding received_words
received_printed [] fits = refl
received_printed (b ∷ message) fits = both _ _ refl (message_printed (b ∷ message) fits)

message_reply_printed : (c : KernReturn) (size member : ℕ) (message : List ℕ) → size < 2 ^ 32 → member < 2 ^ 32
    → AreBytes message → are_words (message_reply_words c size member message) ≡ true
unfolding message_reply_words
message_reply_printed c size member message fits fits_member bytes =
    let outcome : AreWords (outcome_words c (size == 0 && member == 0 && length message == 0)) =
    record { is = outcome_printed c (size == 0 && member == 0 && length message == 0) } in
    let sizes : AreWords (optional_words (codes "size") Decimal size) =
    record { is = optional_printed (codes "size") kind.Decimal size refl fits } in
    let members : AreWords (optional_words (codes "member") Hexadecimal member) =
    record { is = optional_printed (codes "member") kind.Hexadecimal member refl fits_member } in
    let received : AreWords (received_words message) = record { is = received_printed message bytes } in
    (join (join (join outcome sizes) members) received).is

equals : AreWords (codes "=" ∷ [])
equals = record { is = refl }

rows : (ws : List (List ℕ)) → are_words ws ≡ true → AreWords ws
rows ws are = record { is = are }

plain_reply_printed : (r : PlainReply) → FitsReply r → are_words (plain_reply_words r) ≡ true
plain_reply_printed (reply.Refused n c) f = two (codes "!") (code_word c) refl (code_printed c)
plain_reply_printed (reply.Done n) f = refl
plain_reply_printed (reply.Names names) f = (join equals (rows (names_words names) (names_printed names f.1))).is
plain_reply_printed (reply.Type bits) f = (join equals (number Hexadecimal bits f)).is
plain_reply_printed (reply.Allocate name) f = (join equals (number Hexadecimal name f)).is
plain_reply_printed (reply.References n) f = (join equals (number Decimal n f)).is
plain_reply_printed (reply.ReceiveStatus s) f = (join equals (rows (status_words s) (status_printed s f))).is
plain_reply_printed (reply.SetStatus members) f =
    (join equals (rows (members_words members) (members_printed members f.1))).is
plain_reply_printed (reply.PreviousTarget name) f = (join equals (number Hexadecimal name f)).is
plain_reply_printed (reply.Extracted name k) f =
    (join equals (join (number Hexadecimal name f) (rows (kind_word k ∷ []) (one (kind_word k) (kind_printed k))))).is
plain_reply_printed (reply.Message c size member message) f = message_reply_printed c size member message f.0 f.1 f.2
plain_reply_printed (reply.SpaceCreated space name) f =
    (join equals (join (pair (codes "space") kind.Decimal space refl f.0)
    (pair (codes "name") kind.Hexadecimal name refl f.1))).is

pub call_printed : (c : Call) → HasLine c → are_words (call_words c) ≡ true
unfolding call_words plain_call_words
call_printed (Plain c) fits = plain_call_printed c fits
call_printed (Numbered numbered) fits =
    (join (pair (codes "numbered") kind.Decimal numbered.request refl fits.0)
    (rows (plain_call_words numbered.call) (plain_call_printed numbered.call fits.1))).is
call_printed Unnumberable fits = absurd fits

made_printed : (request : ℕ) (r : PlainReply) → request < 2 ^ 32 → FitsReply r
    → are_words (codes ":" ∷ value_word kind.Decimal request ∷ plain_reply_words r) ≡ true
made_printed request r small fits =
    (join (pair (codes ":") kind.Decimal request refl small)
    (rows (plain_reply_words r) (plain_reply_printed r fits))).is

pub reply_printed : (r : Reply) → upper.FitsReply r → are_words (reply_words r) ≡ true
reply_printed (variants.Plain r) fits = plain_reply_printed r fits
reply_printed (variants.Numbered a) fits = made_printed a.request a.reply fits.0 fits.1
reply_printed (variants.Repeated a) fits = made_printed a.request a.reply fits.0 fits.1
