-- Calls are read back as they are printed.
use Rattle.std.proofs.Common.{◌≡◌, ℕ, None, ◌^◌, ◌<◌, Bool, List, ◌∷◌, ◌++◌, refl, ap, ◌∙◌, Some, Ok, append_assoc}
use Rattle.std.specs.Prelude.{codes, find}
use Rattle.std.specs.Str.{bytes_eq}
use Rattle.ipc_model.specs.declared.call.Call.{Call}
use Rattle.ipc_model.specs.declared.call.Call.TheVariants.{Plain, Numbered, Unnumberable}
use Rattle.ipc_model.specs.declared.plain_call.PlainCall.{PlainCall}
use Rattle.ipc_model.specs.declared.plain_call.PlainCall.TheVariants as call
use Rattle.script.specs.declared.vocabulary.kind.Kind.{Kind}
use Rattle.script.specs.declared.vocabulary.kind.Kind.TheVariants.{Hexadecimal, Decimal, Signed, Right, Disposition, Notification, Absent}
use Rattle.script.specs.declared.vocabulary.verb.Verb.{Verb}
use Rattle.script.specs.declared.vocabulary.verb.Verb.TheVariants as verb
use Rattle.script.specs.vocabulary.Kinds.{value_word}
use Rattle.script.specs.vocabulary.Verbs.{verb_word, all_verbs}
use Rattle.script.specs.printing.Calls.{verb_of, argument_words, call_words, plain_call_words}
use Rattle.script.specs.printing.Messages.{flag_words}
use Rattle.script.specs.declared.plain.Arguments.{Arguments}
use Rattle.script.specs.Calls.{HasLine, HasPlainLine, after_at, call_at, numbered_at, own_call_at, plain_call_at, receive_at, send_at}
use Rattle.script.specs.Messages.{message_at}
use Rattle.script.specs.Plain.{three_kinds, kinds_of, plain_call, arguments_at, plain_at}
use Rattle.script.specs.Reading.{number_at, value_at, label_at, labelled_at, flag_at}
use Rattle.script.proofs.MessagesAgain.{message_again}
use Rattle.script.proofs.ReadingAgain.{value_again, labelled_again, flag_again, past_flag, NoLabel}

verb_again : (v : Verb) → find (λ (u : Verb). bytes_eq (verb_word u) (verb_word v)) all_verbs ≡ Some v
verb_again verb.Attach = refl
verb_again v = refl

absent : (ws : List (List ℕ)) → value_at Absent ws ≡ Ok (0, ws)
unfolding value_at number_at
absent ws = refl

plain_parts : (v : Verb) (c : PlainCall) (w0 w1 w2 w3 w4 w5 : List (List ℕ)) (a : Arguments)
    → value_at (kinds_of v).first w0 ≡ Ok (a.first, w1) → value_at (kinds_of v).second w1 ≡ Ok (a.second, w2)
    → value_at (kinds_of v).third w2 ≡ Ok (a.third, w3) → value_at (kinds_of v).fourth w3 ≡ Ok (a.fourth, w4)
    → value_at (kinds_of v).fifth w4 ≡ Ok (a.fifth, w5) → plain_call v a ≡ Some c → plain_at v w0 ≡ Ok (c, w5)
unfolding plain_at arguments_at
plain_parts v c w0 w1 w2 w3 w4 w5 a e1 e2 e3 e4 e5 made = rw (e1, e2, e3, e4, e5) (rw made refl)

-- calls with no argument, with one, with two and with three
none : (v : Verb) (c : PlainCall) (ws : List (List ℕ)) → kinds_of v ≡ three_kinds Absent Absent Absent
    → plain_call v (record { first = 0; second = 0; third = 0; fourth = 0; fifth = 0 }) ≡ Some c
    → plain_at v ws ≡ Ok (c, ws)
unfolding plain_at arguments_at value_at number_at
none v c ws kinds made = rw kinds (rw made refl)

one : (v : Verb) (k : Kind) (c : PlainCall) (a : ℕ) (ws : List (List ℕ)) → kinds_of v ≡ three_kinds k Absent Absent
    → value_at k (value_word k a ∷ ws) ≡ Ok (a, ws)
    → plain_call v (record { first = a; second = 0; third = 0; fourth = 0; fifth = 0 }) ≡ Some c
    → plain_at v (value_word k a ∷ ws) ≡ Ok (c, ws)
unfolding plain_at arguments_at
one v k c a ws kinds first made = rw kinds (rw (first, absent ws, absent ws, absent ws, absent ws) (rw made refl))

two : (v : Verb) (k l : Kind) (c : PlainCall) (a b : ℕ) (ws : List (List ℕ)) → kinds_of v ≡ three_kinds k l Absent
    → value_at k (value_word k a ∷ value_word l b ∷ ws) ≡ Ok (a, value_word l b ∷ ws)
    → value_at l (value_word l b ∷ ws) ≡ Ok (b, ws)
    → plain_call v (record { first = a; second = b; third = 0; fourth = 0; fifth = 0 }) ≡ Some c
    → plain_at v (value_word k a ∷ value_word l b ∷ ws) ≡ Ok (c, ws)
unfolding plain_at arguments_at
two v k l c a b ws kinds first second made =
    rw kinds (rw (first, second, absent ws, absent ws, absent ws) (rw made refl))

three : (v : Verb) (k l m : Kind) (c : PlainCall) (n o p : ℕ) (ws : List (List ℕ)) → kinds_of v ≡ three_kinds k l m
    → value_at k (value_word k n ∷ value_word l o ∷ value_word m p ∷ ws) ≡ Ok (n, value_word l o ∷ value_word m p ∷ ws)
    → value_at l (value_word l o ∷ value_word m p ∷ ws) ≡ Ok (o, value_word m p ∷ ws)
    → value_at m (value_word m p ∷ ws) ≡ Ok (p, ws)
    → plain_call v (record { first = n; second = o; third = p; fourth = 0; fifth = 0 }) ≡ Some c
    → plain_at v (value_word k n ∷ value_word l o ∷ value_word m p ∷ ws) ≡ Ok (c, ws)
unfolding plain_at arguments_at
three v k l m c n o p ws kinds first second third made =
    rw kinds (rw (first, second, third, absent ws, absent ws) (rw made refl))

hex : (n : ℕ) (ws : List (List ℕ)) → n < 2 ^ 32 → value_at Hexadecimal (value_word Hexadecimal n ∷ ws) ≡ Ok (n, ws)
hex n ws fits = value_again Hexadecimal n ws tt fits

count : (n : ℕ) (ws : List (List ℕ)) → n < 2 ^ 32 → value_at Decimal (value_word Decimal n ∷ ws) ≡ Ok (n, ws)
count n ws fits = value_again Decimal n ws tt fits

right : (n : ℕ) (ws : List (List ℕ)) → n < 2 ^ 32 → value_at Right (value_word Right n ∷ ws) ≡ Ok (n, ws)
right n ws fits = value_again Right n ws tt fits

disposition : (n : ℕ) (ws : List (List ℕ)) → n < 2 ^ 32
    → value_at Disposition (value_word Disposition n ∷ ws) ≡ Ok (n, ws)
disposition n ws fits = value_again Disposition n ws tt fits

receive_parts : (w0 w1 w2 w3 ws : List (List ℕ)) (limit name : ℕ) (large waited : Bool)
    → value_at Hexadecimal w0 ≡ Ok (name, w1)
    → labelled_at (codes "limit") Decimal w1 ≡ Ok (limit, w2) → flag_at (codes "large") w2 ≡ (large, w3)
    → flag_at (codes "waited") w3 ≡ (waited, ws)
    → receive_at w0 ≡ Ok (call.Receive limit large name waited, ws)
unfolding receive_at
receive_parts w0 w1 w2 w3 ws limit name large waited e1 e2 e3 e4 = rw (e1, e2, e3, e4) refl

receive_again : (limit name : ℕ) (large waited : Bool) (ws : List (List ℕ)) → limit < 2 ^ 32 → name < 2 ^ 32
    → NoLabel ws
    → receive_at (argument_words (call.Receive limit large name waited) ++ ws)
    ≡ Ok (call.Receive limit large name waited, ws)
receive_again limit name large waited ws fits fits_name no_label =
    let w3 : List (List ℕ) = flag_words (codes "waited") waited ++ ws in
    let w2 : List (List ℕ) = flag_words (codes "large") large ++ w3 in
    let w1 : List (List ℕ) = codes "limit" ∷ value_word Decimal limit ∷ w2 in
    let grouped : argument_words (call.Receive limit large name waited) ++ ws ≡ value_word Hexadecimal name ∷ w1 =
    simp append_assoc in
    ap receive_at grouped
    ∙ receive_parts (value_word Hexadecimal name ∷ w1) w1 w2 w3 ws limit name large waited (hex name w1 fits_name)
    (labelled_again (codes "limit") Decimal limit w2 tt fits)
    (flag_again (codes "large") large w3 (past_flag (codes "large") (codes "waited") waited ws refl
    (no_label.0 (codes "large") refl)))
    (flag_again (codes "waited") waited ws (no_label.0 (codes "waited") refl))

send_parts : (m : List ℕ) (words ws : List (List ℕ)) → message_at words ≡ Ok (m, ws)
    → send_at words ≡ Ok (call.Send m, ws)
unfolding send_at
send_parts m words ws e = rw e refl

after_again : (c : PlainCall) (ws : List (List ℕ)) → HasPlainLine c → NoLabel ws
    → after_at (verb_of c) (argument_words c ++ ws) ≡ Ok (c, ws)
unfolding after_at
after_again (call.Attach a) ws f apart = one verb.Attach Decimal _ a ws refl (count a ws f) refl
after_again call.Names ws f apart = none verb.Names _ ws refl refl
after_again (call.Type a) ws f apart = one verb.Type Hexadecimal _ a ws refl (hex a ws f) refl
after_again (call.Rename a b) ws f apart =
    two verb.Rename Hexadecimal Hexadecimal _ a b ws refl (hex a _ f.0) (hex b ws f.1) refl
after_again (call.AllocateName a b) ws f apart =
    two verb.AllocateName Right Hexadecimal _ a b ws refl (right a _ f.0) (hex b ws f.1) refl
after_again (call.Allocate a) ws f apart = one verb.Allocate Right _ a ws refl (right a ws f) refl
after_again (call.Destroy a) ws f apart = one verb.Destroy Hexadecimal _ a ws refl (hex a ws f) refl
after_again (call.Deallocate a) ws f apart = one verb.Deallocate Hexadecimal _ a ws refl (hex a ws f) refl
after_again (call.GetRefs a b) ws f apart =
    two verb.GetRefs Hexadecimal Right _ a b ws refl (hex a _ f.0) (right b ws f.1) refl
after_again (call.ModRefs a b c) ws f apart =
    three verb.ModRefs Hexadecimal Right Signed _ a b c ws refl (hex a _ f.0) (right b _ f.1)
    (value_again Signed c ws tt f.2) refl
after_again (call.SetQlimit a b) ws f apart =
    two verb.SetQlimit Hexadecimal Decimal _ a b ws refl (hex a _ f.0) (count b ws f.1) refl
after_again (call.SetMscount a b) ws f apart =
    two verb.SetMscount Hexadecimal Decimal _ a b ws refl (hex a _ f.0) (count b ws f.1) refl
after_again (call.SetSeqno a b) ws f apart =
    two verb.SetSeqno Hexadecimal Decimal _ a b ws refl (hex a _ f.0) (count b ws f.1) refl
after_again (call.GetReceiveStatus a) ws f apart = one verb.GetReceiveStatus Hexadecimal _ a ws refl (hex a ws f) refl
after_again (call.GetSetStatus a) ws f apart = one verb.GetSetStatus Hexadecimal _ a ws refl (hex a ws f) refl
after_again (call.MoveMember a b) ws f apart =
    two verb.MoveMember Hexadecimal Hexadecimal _ a b ws refl (hex a _ f.0) (hex b ws f.1) refl
after_again (call.RequestNotification a b c d e) ws f apart =
    plain_parts verb.RequestNotification _ _ _ _ _ _ ws
    (record { first = a; second = b; third = c; fourth = d; fifth = e })
    (hex a _ f.0) (value_again Notification b _ tt f.1) (count c _ f.2) (hex d _ f.3) (disposition e ws f.4) refl
after_again (call.InsertRight a b c) ws f apart =
    three verb.InsertRight Hexadecimal Hexadecimal Disposition _ a b c ws refl (hex a _ f.0) (hex b _ f.1)
    (disposition c ws f.2) refl
after_again (call.ExtractRight a b) ws f apart =
    two verb.ExtractRight Hexadecimal Disposition _ a b ws refl (hex a _ f.0) (disposition b ws f.1) refl
after_again (call.Send m) ws f apart = send_parts m _ ws (message_again m ws f apart)
after_again (call.Receive limit large name waited) ws f apart = receive_again limit name large waited ws f.0 f.1 apart
after_again (call.SpaceCreate a b) ws f apart =
    two verb.SpaceCreate Hexadecimal Disposition _ a b ws refl (hex a _ f.0) (disposition b ws f.1) refl
after_again call.SpaceDestroy ws f apart = none verb.SpaceDestroy _ ws refl refl

-- the words of a call that isn't numbered, followed by others, are read as the call
plain_call_again : (c : PlainCall) (ws : List (List ℕ)) → HasPlainLine c → NoLabel ws
    → plain_call_at (plain_call_words c ++ ws) ≡ Ok (c, ws)
unfolding plain_call_at plain_call_words
plain_call_again c ws f apart = rw (verb_again (verb_of c)) (after_again c ws f apart)

-- no such call begins with the word of numbered calls
no_verb : (v : Verb) (ws : List (List ℕ)) → label_at (codes "numbered") (verb_word v ∷ ws) ≡ None
unfolding label_at
no_verb verb.Attach ws = refl
no_verb v ws = refl

own_again : (c : PlainCall) (ws : List (List ℕ)) → HasPlainLine c → NoLabel ws
    → own_call_at (plain_call_words c ++ ws) ≡ Ok (Plain c, ws)
unfolding own_call_at
own_again c ws f apart = rw (plain_call_again c ws f apart) refl

numbered_again : (n : ℕ) (c : PlainCall) (ws : List (List ℕ)) → n < 2 ^ 32 → HasPlainLine c → NoLabel ws
    → numbered_at (value_word Decimal n ∷ (plain_call_words c ++ ws))
    ≡ Ok (Numbered (record { request = n; call = c }), ws)
unfolding numbered_at
numbered_again n c ws fits f apart =
    rw (value_again Decimal n (plain_call_words c ++ ws) tt fits) (rw (plain_call_again c ws f apart) refl)

own_front : (c : PlainCall) (ws : List (List ℕ))
    → call_at (plain_call_words c ++ ws) ≡ own_call_at (plain_call_words c ++ ws)
unfolding call_at plain_call_words
own_front c ws = rw (no_verb (verb_of c) (argument_words c ++ ws), call_at) refl

numbered_front : (words : List (List ℕ)) → call_at (codes "numbered" ∷ words) ≡ numbered_at words
unfolding call_at label_at
numbered_front words = refl

-- the words of a call, followed by others, are read as the call
pub call_again : (c : Call) (ws : List (List ℕ)) → HasLine c → NoLabel ws → call_at (call_words c ++ ws) ≡ Ok (c, ws)
unfolding call_words plain_call_words
call_again (Plain c) ws f apart = own_front c ws ∙ own_again c ws f apart
call_again (Numbered numbered) ws f apart =
    numbered_front (value_word Decimal numbered.request ∷ (plain_call_words numbered.call ++ ws))
    ∙ numbered_again numbered.request numbered.call ws f.0 f.1 apart
call_again Unnumberable ws f apart = absurd f
