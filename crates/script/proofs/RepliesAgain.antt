-- Replies are read back as they are printed.
use Rattle.std.proofs.Common.{◌≡◌, ℕ, ◌^◌, ◌<◌, Bool, true, false, not, ◌&&◌, ◌||◌, ◌==◌, List, [], ◌∷◌, ◌++◌, length, cond, refl, sym, ap, ◌∙◌, arith, Some, None, Ok, append_assoc, append-nil}
use Rattle.std.specs.Prelude.{codes, find, All, IsTrue}
use Rattle.std.specs.Str.{bytes_eq}
use Rattle.std.proofs.lemmas.Bool.{eqb-true, and_parts}
use Rattle.std.proofs.lemmas.Bool.Decides.{nat_tests}
use Rattle.std.proofs.lemmas.List.Elements.{All-head, All-tail}
use Rattle.codes.specs.declared.call_number.TheConstants.{MACH_MSG, NUMBERED}
use Rattle.codes.specs.declared.kern_return.KernReturn.{KernReturn}
use Rattle.codes.specs.declared.kern_return.KernReturn.TheVariants as code
use Rattle.codes.specs.KernReturn.{all_codes}
use Rattle.ipc_model.specs.declared.plain_reply.NamedType.{NamedType}
use Rattle.ipc_model.specs.declared.plain_reply.ReceiveStatus.{ReceiveStatus}
use Rattle.ipc_model.specs.declared.plain_reply.PlainReply.{PlainReply}
use Rattle.ipc_model.specs.declared.plain_reply.PlainReply.TheVariants as reply
use Rattle.ipc_model.specs.calls.PlainStep.{number_of_call}
use Rattle.ipc_model.specs.declared.call.Call.{Call}
use Rattle.ipc_model.specs.declared.call.Call.TheVariants.{Plain, Numbered, Unnumberable}
use Rattle.ipc_model.specs.declared.reply.Reply.{Reply}
use Rattle.ipc_model.specs.declared.reply.Reply.TheVariants as variants
use Rattle.ipc_model.specs.encodings.Encodings as upper
use Rattle.ipc_model.specs.declared.message.RightKind.{RightKind}
use Rattle.ipc_model.specs.declared.message.RightKind.TheVariants as kind_of
use Rattle.ipc_model.specs.encodings.PlainCalls.{number_of_reply, FitsReply}
use Rattle.words.specs.Words.{AreBytes}
use Rattle.script.specs.declared.vocabulary.kind.Kind.{Kind}
use Rattle.script.specs.declared.vocabulary.kind.Kind.TheVariants.{Hexadecimal, Decimal}
use Rattle.script.specs.vocabulary.Codes.{code_word}
use Rattle.script.specs.vocabulary.Kinds.{read_word, value_word}
use Rattle.script.specs.printing.Messages.{message_words, optional_words}
use Rattle.script.specs.printing.Replies.{yes_or_no, kind_word, count_words, status_words, names_words, members_words, outcome_words, received_words, message_reply_words, result_words, plain_reply_words, reply_words}
use Rattle.script.specs.declared.fault.Expected.TheVariants.{Results}
use Rattle.script.specs.Reading.{Reading, stop, label_at, optional_at, last}
use Rattle.script.specs.Replies.{yes_or_no_at, answer_at, kind_at, counts_at, status_at, in_front_of, names_at, members_at, received_at, message_reply_at, last_value, extracted_at, space_created_at, last_status_at, results_at, has_results, silence, refusal_at, plain_reply_at, own_reply_at, made_at, numbered_reply_at, reply_at, IsOfCall, IsOwn, IsPlainOwn}
use Rattle.script.proofs.MessagesAgain.{message_again}
use Rattle.script.proofs.ReadingAgain.{IsNumber, value_again, label_again, labelled_again, optional_again, past_optional, NoLabel, no_label_end, no_label_sign, no_number_sign}

code_again : (c : KernReturn) → find (λ (d : KernReturn). bytes_eq (code_word d) (code_word c)) all_codes ≡ Some c
code_again code.Success = refl
code_again c = refl

yes_or_no_again : (b : Bool) (ws : List (List ℕ)) → yes_or_no_at (yes_or_no b ∷ ws) ≡ Ok (b, ws)
unfolding yes_or_no_at label_at yes_or_no
yes_or_no_again true ws = refl
yes_or_no_again false ws = refl

answer_again : (label : List ℕ) (b : Bool) (ws : List (List ℕ))
    → answer_at label (label ∷ yes_or_no b ∷ ws) ≡ Ok (b, ws)
unfolding answer_at
answer_again label b ws = rw (label_again label (yes_or_no b ∷ ws)) (yes_or_no_again b ws)

kind_again : (k : RightKind) (ws : List (List ℕ)) → kind_at (kind_word k ∷ ws) ≡ Ok (k, ws)
unfolding kind_at label_at
kind_again kind_of.Receive ws = refl
kind_again kind_of.Send ws = refl
kind_again kind_of.SendOnce ws = refl

abbrev FitsStatus : ReceiveStatus → Type 0
FitsStatus s = FitsReply (reply.ReceiveStatus s)

counts_again : (s : ReceiveStatus) (ws : List (List ℕ)) → FitsStatus s
    → counts_at (count_words s ++ ws)
    ≡ Ok (record s { has_senders = false; has_port_destroyed_request = false; has_no_senders_request = false }, ws)
unfolding counts_at count_words
counts_again s ws (f0, f1, f2, f3, f4, f5) =
    rw (labelled_again (codes "set") Hexadecimal s.set _ tt f0)
    (rw (labelled_again (codes "seqno") Decimal s.sequence_number _ tt f1)
    (rw (labelled_again (codes "mscount") Decimal s.make_send_count _ tt f2)
    (rw (labelled_again (codes "qlimit") Decimal s.limit _ tt f3)
    (rw (labelled_again (codes "messages") Decimal s.messages _ tt f4)
    (rw (labelled_again (codes "send_once") Decimal s.send_once_count ws tt f5) refl)))))

status_again : (s : ReceiveStatus) → FitsStatus s → status_at (status_words s) ≡ Ok (s, [])
unfolding status_at status_words
status_again s fits =
    rw (counts_again s _ fits)
    (rw (answer_again (codes "senders") s.has_senders _)
    (rw (answer_again (codes "port_destroyed") s.has_port_destroyed_request _)
    (rw (answer_again (codes "no_senders") s.has_no_senders_request []) refl)))

abbrev FitsNamed : NamedType → Type 0
FitsNamed n = (n.name < 2 ^ 32) × (n.bits < 2 ^ 32)

abbrev FitsName : ℕ → Type 0
FitsName name = name < 2 ^ 32

names_again : (names : List NamedType) → All FitsNamed names → names_at (names_words names) ≡ Ok names
unfolding names_at names_words
names_again [] fits = refl
names_again (n ∷ names) fits =
    let here = All-head FitsNamed n names fits in
    rw (
      value_again Hexadecimal n.name (value_word Hexadecimal n.bits ∷ names_words names) tt here.0,
      value_again Hexadecimal n.bits (names_words names) tt here.1,
    )
    (ap (in_front_of n) (names_again names (All-tail FitsNamed n names fits)))

members_again : (members : List ℕ) → All FitsName members → members_at (members_words members) ≡ Ok members
unfolding members_at members_words
members_again [] fits = refl
members_again (n ∷ members) fits =
    let here : n < 2 ^ 32 =
    All-head FitsName n members fits in
    rw (value_again Hexadecimal n (members_words members) tt here)
    (ap (in_front_of n) (members_again members (All-tail FitsName n members fits)))

received_again : (message : List ℕ) → AreBytes message → received_at (received_words message) ≡ Ok (message, [])
unfolding received_at received_words label_at
received_again [] fits = refl
received_again (b ∷ message) fits =
    rw (sym (append-nil (message_words (b ∷ message)))) (message_again (b ∷ message) [] fits no_label_end)

past_received : (label message : List ℕ) → bytes_eq (codes "message") label ≡ false
    → label_at label (received_words message) ≡ None
unfolding received_words label_at
past_received label [] apart = refl
past_received label (b ∷ message) apart = ap (λ (t : Bool). cond t (Some (message_words (b ∷ message))) None) apart

message_parts : (c : KernReturn) (w0 w1 w2 : List (List ℕ)) (size member : ℕ) (message : List ℕ)
    → optional_at (codes "size") Decimal w0 ≡ Ok (size, w1)
    → optional_at (codes "member") Hexadecimal w1 ≡ Ok (member, w2) → received_at w2 ≡ Ok (message, [])
    → message_reply_at c w0 ≡ Ok (reply.Message c size member message)
unfolding message_reply_at last
message_parts c w0 w1 w2 size member message e1 e2 e3 = rw (e1, e2, e3) refl

-- the results of mach_msg after its code
results_again : (c : KernReturn) (size member : ℕ) (message : List ℕ) → size < 2 ^ 32 → member < 2 ^ 32
    → AreBytes message
    → message_reply_at c (optional_words (codes "size") Decimal size
    ++ (optional_words (codes "member") Hexadecimal member ++ received_words message))
    ≡ Ok (reply.Message c size member message)
results_again c size member message fits fits_member bytes =
    let w2 : List (List ℕ) = received_words message in
    let w1 : List (List ℕ) = optional_words (codes "member") Hexadecimal member ++ w2 in
    message_parts c (optional_words (codes "size") Decimal size ++ w1) w1 w2 size member message
    (optional_again (codes "size") Decimal size w1 tt fits
    (past_optional (codes "size") (codes "member") Hexadecimal member w2 refl
    (past_received (codes "size") message refl)))
    (optional_again (codes "member") Hexadecimal member w2 tt fits_member (past_received (codes "member") message refl))
    (received_again message bytes)

silent : (size member : ℕ) (message : List ℕ) → (size == 0 && member == 0 && length message == 0) ≡ true
    → plain_reply_at 19 ((optional_words (codes "size") Decimal size ++ optional_words (codes "member") Hexadecimal member)
    ++ received_words message) ≡ Ok (reply.Message code.Success size member message)
unfolding plain_reply_at silence optional_words received_words
silent size member [] is =
    let parts = and_parts (size == 0 && member == 0) true is in
    let numbers = and_parts (size == 0) (member == 0) parts.0 in
    let no_size : size ≡ 0 = eqb-true size 0 numbers.0 in
    let no_member : member ≡ 0 = eqb-true member 0 numbers.1 in
    rw (no_size, no_member) refl
silent size member (b ∷ message) is = absurd (grind (arith, nat_tests))

silent_no_label : (size member : ℕ) (message : List ℕ) → (size == 0 && member == 0 && length message == 0) ≡ true
    → NoLabel ((optional_words (codes "size") Decimal size ++ optional_words (codes "member") Hexadecimal member)
    ++ received_words message)
unfolding optional_words received_words
silent_no_label size member [] is =
    let parts = and_parts (size == 0 && member == 0) true is in
    let numbers = and_parts (size == 0) (member == 0) parts.0 in
    rw (numbers.0, numbers.1) no_label_end
silent_no_label size member (b ∷ message) is = absurd (grind (arith, nat_tests))

-- The reply to a mach_msg.
mach_msg_again : (c : KernReturn) (size member : ℕ) (message : List ℕ) → size < 2 ^ 32 → member < 2 ^ 32
    → AreBytes message
    → plain_reply_at 19 (message_reply_words c size member message) ≡ Ok (reply.Message c size member message)
unfolding message_reply_words outcome_words plain_reply_at results_at refusal_at
mach_msg_again code.Success size member message fits fits_member bytes =
    elim (size == 0 && member == 0 && length message == 0)
    as (λ (b : Bool). (size == 0 && member == 0 && length message == 0) ≡ b
    → plain_reply_at 19 (((cond b [] (codes "=" ∷ []) ++ optional_words (codes "size") Decimal size)
    ++ optional_words (codes "member") Hexadecimal member) ++ received_words message)
    ≡ Ok (reply.Message code.Success size member message)) [
      | true ↦ λ (is : _). silent size member message is
      | false ↦ λ (_ : _). ap (message_reply_at code.Success)
          (append_assoc (optional_words (codes "size") Decimal size)
          (optional_words (codes "member") Hexadecimal member) (received_words message))
          ∙ results_again code.Success size member message fits fits_member bytes
    ] refl
mach_msg_again c size member message fits fits_member bytes =
    (ap (message_reply_at c) (append_assoc (optional_words (codes "size") Decimal size)
    (optional_words (codes "member") Hexadecimal member) (received_words message))
    ∙ results_again c size member message fits fits_member bytes)

-- The results of other calls.
one_value : (k : Kind) (n : ℕ) → IsNumber k → n < 2 ^ 32 → last_value k (value_word k n ∷ []) ≡ Ok n
unfolding last_value last
one_value k n number fits = rw (value_again k n [] number fits) refl

extracted_again : (n : ℕ) (k : RightKind) → n < 2 ^ 32
    → extracted_at (value_word Hexadecimal n ∷ kind_word k ∷ []) ≡ Ok (reply.Extracted n k)
unfolding extracted_at last
extracted_again n k fits = rw (value_again Hexadecimal n (kind_word k ∷ []) tt fits) (rw (kind_again k []) refl)

space_created_again : (space name : ℕ) → space < 2 ^ 32 → name < 2 ^ 32
    → space_created_at (codes "space" ∷ value_word Decimal space ∷ codes "name" ∷ value_word Hexadecimal name ∷ [])
    ≡ Ok (reply.SpaceCreated space name)
unfolding space_created_at last
space_created_again space name fits fits_name =
    rw (labelled_again (codes "space") Decimal space (codes "name" ∷ value_word Hexadecimal name ∷ []) tt fits)
    (rw (labelled_again (codes "name") Hexadecimal name [] tt fits_name) refl)

last_status_again : (s : ReceiveStatus) → FitsStatus s → last_status_at (status_words s) ≡ Ok (reply.ReceiveStatus s)
unfolding last_status_at last
last_status_again s fits = rw (status_again s fits) refl

refused_again : (n : ℕ) (c : KernReturn) → (n ≡ MACH_MSG → ⊥) → plain_reply_at n (codes "!" ∷ code_word c ∷ [])
    ≡ Ok (reply.Refused n c)
unfolding plain_reply_at refusal_at last
refused_again n c other =
    let not_message : (n == MACH_MSG) ≡ false = grind (arith, nat_tests) in rw (code_again c) (rw not_message refl)

done_again : (n : ℕ) → IsTrue (not (has_results n || n == MACH_MSG)) → plain_reply_at n [] ≡ Ok (reply.Done n)
unfolding plain_reply_at silence
done_again n plain =
    elim (has_results n) as (λ (b : Bool). IsTrue (not (b || n == MACH_MSG))
    → cond {A = Reading PlainReply} b (stop Results [])
    (cond (n == MACH_MSG) (Ok (reply.Message code.Success 0 0 [])) (Ok (reply.Done n))) ≡ Ok (reply.Done n)) [
      | true ↦ λ (wrong : _). absurd (cc)
      | false ↦ λ (known : _). elim (n == MACH_MSG)
          as (λ (b : Bool). IsTrue (not b)
          → cond {A = Reading PlainReply} b (Ok (reply.Message code.Success 0 0 [])) (Ok (reply.Done n))
          ≡ Ok (reply.Done n)) [
            | true ↦ λ (wrong : _). absurd (cc)
            | false ↦ λ (_ : _). refl
          ] known
    ] plain

-- the words of a reply to a call that isn't numbered are read as the reply
plain_reply_again : (r : PlainReply) → FitsReply r → IsPlainOwn r
    → plain_reply_at (number_of_reply r) (plain_reply_words r) ≡ Ok r
unfolding plain_reply_at results_at
plain_reply_again (reply.Refused n c) fits own = refused_again n c own
plain_reply_again (reply.Done n) fits own = done_again n own
plain_reply_again (reply.Names names) fits own = rw (names_again names fits.1) refl
plain_reply_again (reply.Type bits) fits own = rw (one_value Hexadecimal bits tt fits) refl
plain_reply_again (reply.Allocate name) fits own = rw (one_value Hexadecimal name tt fits) refl
plain_reply_again (reply.References count) fits own = rw (one_value Decimal count tt fits) refl
plain_reply_again (reply.ReceiveStatus s) fits own = last_status_again s fits
plain_reply_again (reply.SetStatus members) fits own = rw (members_again members fits.1) refl
plain_reply_again (reply.PreviousTarget name) fits own = rw (one_value Hexadecimal name tt fits) refl
plain_reply_again (reply.Extracted name k) fits own = extracted_again name k fits
plain_reply_again (reply.Message c size member message) fits own =
    mach_msg_again c size member message fits.0 fits.1 fits.2
plain_reply_again (reply.SpaceCreated space name) fits own = space_created_again space name fits.0 fits.1

-- the words after a call don't begin with a label
plain_reply_no_label : (r : PlainReply) → NoLabel (plain_reply_words r)
unfolding message_reply_words outcome_words
plain_reply_no_label (reply.Refused n c) = no_label_sign 33 [] (code_word c ∷ []) (omega arith) no_number_sign.0
plain_reply_no_label (reply.Done n) = no_label_end
plain_reply_no_label (reply.Message code.Success size member message) =
    elim (size == 0 && member == 0 && length message == 0)
    as (λ (b : Bool). (size == 0 && member == 0 && length message == 0) ≡ b
    → NoLabel (((cond b [] (codes "=" ∷ []) ++ optional_words (codes "size") Decimal size)
    ++ optional_words (codes "member") Hexadecimal member) ++ received_words message)) [
      | true ↦ λ (is : _). silent_no_label size member message is
      | false ↦ λ (_ : _). no_label_sign 61 [] _ (omega arith) no_number_sign.1
    ] refl
plain_reply_no_label (reply.Message c size member message) = no_label_sign 33 [] _ (omega arith) no_number_sign.0
plain_reply_no_label r = no_label_sign 61 [] (result_words r) (omega arith) no_number_sign.1

no_number_colon : read_word Hexadecimal (58 ∷ []) ≡ None
unfolding read_word
no_number_colon = refl

pub reply_no_label : (r : Reply) → NoLabel (reply_words r)
reply_no_label (variants.Plain r) = plain_reply_no_label r
reply_no_label (variants.Numbered a) = no_label_sign 58 [] _ (omega arith) no_number_colon
reply_no_label (variants.Repeated a) = no_label_sign 58 [] _ (omega arith) no_number_colon

own_reply_again : (n : ℕ) (r : PlainReply) → number_of_reply r ≡ n → FitsReply r → IsPlainOwn r
    → own_reply_at n (plain_reply_words r) ≡ Ok (variants.Plain r)
unfolding own_reply_at
own_reply_again n r is fits own =
    let read : plain_reply_at n (plain_reply_words r) ≡ Ok r =
    ap (λ (m : ℕ). plain_reply_at m (plain_reply_words r)) (sym is) ∙ plain_reply_again r fits own in
    rw read refl

made_again : (n request : ℕ) (r : PlainReply) → number_of_reply r ≡ n → request < 2 ^ 32 → FitsReply r → IsPlainOwn r
    → made_at n (value_word Decimal request ∷ plain_reply_words r)
    ≡ Ok (variants.Numbered (record { request = request; reply = r }))
unfolding made_at
made_again n request r is small fits own =
    let read : plain_reply_at n (plain_reply_words r) ≡ Ok r =
    ap (λ (m : ℕ). plain_reply_at m (plain_reply_words r)) (sym is) ∙ plain_reply_again r fits own in
    rw (value_again Decimal request (plain_reply_words r) tt small) (rw read refl)

-- a refusal by number 22 has no colon
no_colon : (r : PlainReply) → number_of_reply r ≡ NUMBERED → label_at (codes ":") (plain_reply_words r) ≡ None
unfolding label_at
no_colon (reply.Refused n c) is = refl
no_colon (reply.Done n) is = refl
no_colon r is = absurd (omega (arith, is))

refused_front : (n : ℕ) (words : List (List ℕ)) → label_at (codes ":") words ≡ None
    → numbered_reply_at n words ≡ own_reply_at NUMBERED words
unfolding numbered_reply_at
refused_front n words none = rw (none, numbered_reply_at) refl

made_front : (n : ℕ) (words : List (List ℕ)) → numbered_reply_at n (codes ":" ∷ words) ≡ made_at n words
unfolding numbered_reply_at label_at
made_front n words = refl

-- the words of a reply are read as the reply
pub reply_again : (c : Call) (r : Reply) → IsOfCall c r → upper.FitsReply r → IsOwn r
    → reply_at c (reply_words r) ≡ Ok r
unfolding reply_at
reply_again (Plain c) (variants.Plain r) is fits own = own_reply_again (number_of_call c) r is fits own
reply_again (Numbered numbered) (variants.Plain r) is fits own =
    refused_front (number_of_call numbered.call) (plain_reply_words r) (no_colon r is)
    ∙ own_reply_again NUMBERED r is fits own
reply_again (Numbered numbered) (variants.Numbered a) is fits own =
    made_front (number_of_call numbered.call) (value_word Decimal a.request ∷ plain_reply_words a.reply)
    ∙ made_again (number_of_call numbered.call) a.request a.reply is fits.0 fits.1 own
reply_again (Plain c) (variants.Numbered a) is fits own = absurd is
reply_again (Plain c) (variants.Repeated a) is fits own = absurd is
reply_again (Numbered numbered) (variants.Repeated a) is fits own = absurd is
reply_again Unnumberable r is fits own = absurd is
