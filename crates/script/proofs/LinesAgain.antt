-- Lines are read back as they are printed.
use Rattle.std.proofs.Common.{◌≡◌, ℕ, List, [], refl, sym, ap, ◌∙◌, Option, ◌∷◌, ◌++◌, Some, None, Result, Ok, Err, append-nil}
use Rattle.ipc_model.specs.declared.call.Call.{Call}
use Rattle.script.specs.vocabulary.Spaced.{words_of}
use Rattle.script.proofs.vocabulary.WordsOf.{line_again}
use Rattle.script.specs.declared.printing.line.Exchange.{Exchange}
use Rattle.script.specs.printing.Calls.{call_line, call_words, first_word, further_words}
use Rattle.script.specs.printing.Lines.{exchange_words, exchange_line}
use Rattle.script.specs.printing.Replies.{reply_words}
use Rattle.script.specs.declared.fault.Fault.{Fault}
use Rattle.script.specs.declared.fault.Fault.TheVariants as fault
use Rattle.script.specs.declared.fault.LineFault.{LineFault}
use Rattle.script.specs.declared.fault.LineFault.TheVariants as line_fault
use Rattle.script.specs.Calls.{call_at, HasLine}
use Rattle.script.specs.Lines.{IsExchange, exchange_at, request_at, fault_of, on_line, words_read, line_read, request_read, IsRead, UnlessMemory}
use Rattle.script.specs.Reading.{Reading, ◌>>=◌, Fails}
use Rattle.script.specs.Replies.{reply_at}
use Rattle.script.proofs.CallsAgain.{call_again}
use Rattle.script.proofs.ReadingAgain.{no_label_end}
use Rattle.script.proofs.RepliesAgain.{reply_again, reply_no_label}
use Rattle.script.proofs.Printed.{call_printed, reply_printed, printed_both}

pub request_again : (c : Call) → HasLine c → request_at (call_words c) ≡ Ok c
unfolding request_at
request_again c fits = rw (sym (append-nil (call_words c))) (rw (call_again c [] fits no_label_end) refl)

exchange_parts : (words rest : List (List ℕ)) (x : Exchange) → call_at words ≡ Ok (x.call, rest)
    → reply_at x.call rest ≡ Ok x.reply → exchange_at words ≡ Ok x
unfolding exchange_at
exchange_parts words rest x first second = rw (first, second) refl

pub exchange_again : (x : Exchange) → IsExchange x → exchange_at (exchange_words x) ≡ Ok x
exchange_again x is =
    exchange_parts (exchange_words x) (reply_words x.reply) x
    (call_again x.call (reply_words x.reply) is.call (reply_no_label x.reply))
    (reply_again x.call x.reply is.of_one_call is.reply is.own)

pub words_of_call : (c : Call) → HasLine c → words_of (call_line c) ≡ call_words c
unfolding call_line
words_of_call c fits = line_again (call_words c) (call_printed c fits)

pub words_of_exchange : (x : Exchange) → IsExchange x → words_of (exchange_line x) ≡ exchange_words x
unfolding exchange_line
words_of_exchange x is =
    line_again (exchange_words x) (printed_both (call_words x.call) (reply_words x.reply) (call_printed x.call is.call)
    (reply_printed x.reply is.reply))

-- a line is read as its words are
abbrev whole : List ℕ → Reading Exchange → Result (Option Exchange) LineFault
whole line read = on_line line read >>= λ x. Ok (Some x)

some_line : (line word : List ℕ) (words : List (List ℕ)) → words_of line ≡ word ∷ words
    → line_read line ≡ whole line (exchange_at (words_of line))
unfolding line_read
some_line line word words is = ap (words_read line) is ∙ sym (ap (λ (l : List (List ℕ)). whole line (exchange_at l)) is)

pub line_ok : (line word : List ℕ) (words : List (List ℕ)) (x : Exchange) → words_of line ≡ word ∷ words
    → exchange_at (words_of line) ≡ Ok x → line_read line ≡ Ok (Some x)
line_ok line word words x is read = some_line line word words is ∙ ap (whole line) read

pub line_blank : (line : List ℕ) → words_of line ≡ [] → line_read line ≡ Ok None
unfolding line_read
line_blank line is = ap (words_read line) is

-- a line that can't be read
pub line_fails : (f : Fault) (line word : List ℕ) (words : List (List ℕ)) → words_of line ≡ word ∷ words
    → Fails f (exchange_at (words_of line)) → UnlessMemory (Err (fault_of line f)) (line_read line)
line_fails fault.NoMemory line word words is fails = tt
line_fails (fault.Unreadable place) line word words is fails = some_line line word words is ∙ ap (whole line) fails

pub request_fails : (f : Fault) (line : List ℕ) → Fails f (request_at (words_of line))
    → UnlessMemory (Err (fault_of line f)) (request_read line)
request_fails fault.NoMemory line fails = tt
request_fails (fault.Unreadable place) line fails = ap (λ (read : Reading Call). on_line line read) fails

-- what is printed is read back
pub line_read_again : (line : List ℕ) (x : Exchange) → words_of line ≡ exchange_words x → IsExchange x
    → line_read line ≡ Ok (Some x)
unfolding call_words
line_read_again line x is fits =
    line_ok line (first_word x.call) (further_words x.call ++ reply_words x.reply) x is
    (ap exchange_at is ∙ exchange_again x fits)

-- if a line can be read, the only fault is out of memory
pub is_read : {X : Type 0} (r : Result X LineFault) (said : Result X LineFault) (x : X) → UnlessMemory r said
    → said ≡ Ok x → IsRead r x
is_read (Ok y) said x unless is = let same : Ok y ≡ Ok x = sym unless ∙ is in cc
is_read (Err (line_fault.Unreadable column expected)) said x unless is =
    absurd (let wrong : Err (line_fault.Unreadable column expected) ≡ Ok x = sym unless ∙ is in cc)
is_read (Err line_fault.NoMemory) said x unless is = refl

pub request_read_again : (line : List ℕ) (c : Call) → words_of line ≡ call_words c → HasLine c
    → request_read line ≡ Ok c
request_read_again line c is fits =
    ap (λ (read : Reading Call). on_line line read) (ap request_at is ∙ request_again c fits)

-- a line of a call has words
pub some_words : (x : Exchange) → exchange_words x ≡ [] → ⊥
unfolding call_words
some_words x e = cc
