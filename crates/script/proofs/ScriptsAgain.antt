-- Scripts are read back as they are printed.
use Rattle.std.proofs.Common.{◌≡◌, ℕ, suc, ◌+◌, Bool, true, false, not, ◌&&◌, ◌==◌, Option, Some, None, List, [], ◌∷◌, ◌++◌, length, take, drop, cond, one-add, refl, sym, ap, ◌∙◌, arith, append_assoc}
use Rattle.std.specs.Prelude.{Result, Ok, Err}
use Rattle.std.specs.List.{prefix_len}
use Rattle.std.proofs.Math.Seq.{take-append_seam}
use Rattle.std.proofs.lemmas.Bool.{and_parts}
use Rattle.std.proofs.lemmas.Bool.Decides.{nat_tests}
use Rattle.std.proofs.lemmas.List.{append-nil}
use Rattle.std.proofs.lemmas.List.Elements.{All-head, All-tail}
use Rattle.script.specs.vocabulary.Spaced.{is_word_byte, in_front, spaced, line_of}
use Rattle.script.proofs.vocabulary.WordsOf.{are_word_bytes, is_word, are_words}
use Rattle.script.specs.declared.printing.line.Exchange.{Exchange}
use Rattle.script.specs.printing.Calls.{call_words}
use Rattle.script.specs.printing.Lines.{exchange_line, exchange_words}
use Rattle.script.specs.printing.Replies.{reply_words}
use Rattle.script.specs.declared.fault.LineFault.{LineFault}
use Rattle.script.specs.declared.fault.LineFault.TheVariants as line_fault
use Rattle.script.specs.declared.fault.ScriptFault.{ScriptFault}
use Rattle.script.specs.declared.text.Line.{Line}
use Rattle.script.specs.Lines.{line_read, IsExchange}
use Rattle.script.specs.Reading.{◌>>=◌}
use Rattle.script.specs.Scripts.{in_line, script_text, numbered, lines_of, and_below, lines_read, script_read, Adds, IsFault, AreExchanges}
use Rattle.script.proofs.LinesAgain.{words_of_exchange, line_read_again}
use Rattle.script.proofs.Printed.{call_printed, reply_printed, printed_both}

-- no byte is the end of a line
abbrev are_in_line : List ℕ → Bool
are_in_line [] = true
are_in_line (c ∷ cs) = in_line c && are_in_line cs

both : (a b : Bool) → a ≡ true → b ≡ true → (a && b) ≡ true
both a b first second = grind (arith, nat_tests)

word_byte : (c : ℕ) → is_word_byte c ≡ true → in_line c ≡ true
word_byte c is = grind (arith, nat_tests)

word_in_line : (cs : List ℕ) → are_word_bytes cs ≡ true → are_in_line cs ≡ true
word_in_line [] are = refl
word_in_line (c ∷ cs) are =
    let parts = and_parts (is_word_byte c) (are_word_bytes cs) are in
    both _ _ (word_byte c parts.0) (word_in_line cs parts.1)

whole_word : (w : List ℕ) → is_word w ≡ true → are_in_line w ≡ true
whole_word [] is = refl
whole_word (c ∷ cs) is = word_in_line (c ∷ cs) is

in_line_both : (a b : List ℕ) → are_in_line a ≡ true → are_in_line b ≡ true → are_in_line (a ++ b) ≡ true
in_line_both [] b first second = second
in_line_both (c ∷ cs) b first second =
    let parts = and_parts (in_line c) (are_in_line cs) first in both _ _ parts.0 (in_line_both cs b parts.1 second)

spaced_in_line : (ws : List (List ℕ)) → are_words ws ≡ true → are_in_line (spaced ws) ≡ true
unfolding spaced
spaced_in_line [] are = refl
spaced_in_line (w ∷ ws) are =
    let parts = and_parts (is_word w) (are_words ws) are in
    in_line_both w (spaced ws) (whole_word w parts.0) (spaced_in_line ws parts.1)

line_in_line : (ws : List (List ℕ)) → are_words ws ≡ true → are_in_line (line_of ws) ≡ true
line_in_line [] are = refl
line_in_line (w ∷ ws) are =
    let parts = and_parts (is_word w) (are_words ws) are in
    in_line_both w (spaced ws) (whole_word w parts.0) (spaced_in_line ws parts.1)

exchange_in_line : (x : Exchange) → IsExchange x → are_in_line (exchange_line x) ≡ true
unfolding exchange_line
exchange_in_line x is =
    line_in_line (exchange_words x)
    (printed_both (call_words x.call) (reply_words x.reply) (call_printed x.call is.call)
    (reply_printed x.reply is.reply))

-- a line reaches up to its end
line_length : (line rest : List ℕ) → are_in_line line ≡ true → prefix_len in_line (line ++ 10 ∷ rest) ≡ length line
line_length [] rest are = refl
line_length (c ∷ cs) rest are =
    let parts = and_parts (in_line c) (are_in_line cs) are in
    ap (λ (b : Bool). cond b (1 + prefix_len in_line (cs ++ 10 ∷ rest)) 0) parts.0
    ∙ one-add (prefix_len in_line (cs ++ 10 ∷ rest)) ∙ ap (λ (n : ℕ). suc n) (line_length cs rest parts.1)

drop_seam : (xs ys : List ℕ) → drop (length xs) (xs ++ ys) ≡ ys
drop_seam [] ys = refl
drop_seam (x ∷ xs) ys = drop_seam xs ys

-- the first line of a script, and the rest
script_starts : (x : Exchange) (xs : List Exchange) → script_text (x ∷ xs) ≡ exchange_line x ++ 10 ∷ script_text xs
unfolding script_text
script_starts x xs = append_assoc (exchange_line x) (10 ∷ []) (script_text xs)

pub line_is : (x : Exchange) (xs : List Exchange) (text : List ℕ) → IsExchange x → text ≡ script_text (x ∷ xs)
    → take (prefix_len in_line text) text ≡ exchange_line x
line_is x xs text fits is =
    let whole : text ≡ exchange_line x ++ 10 ∷ script_text xs = is ∙ script_starts x xs in
    ap (λ (l : List ℕ). take (prefix_len in_line l) l) whole
    ∙ ap (λ (n : ℕ). take n (exchange_line x ++ 10 ∷ script_text xs))
    (line_length (exchange_line x) (script_text xs) (exchange_in_line x fits))
    ∙ take-append_seam (exchange_line x) (10 ∷ script_text xs)

pub rest_is : (x : Exchange) (xs : List Exchange) (text : List ℕ) → IsExchange x → text ≡ script_text (x ∷ xs)
    → drop 1 (drop (prefix_len in_line text) text) ≡ script_text xs
rest_is x xs text fits is =
    let whole : text ≡ exchange_line x ++ 10 ∷ script_text xs = is ∙ script_starts x xs in
    ap (λ (l : List ℕ). drop 1 (drop (prefix_len in_line l) l)) whole
    ∙ ap (λ (n : ℕ). drop 1 (drop n (exchange_line x ++ 10 ∷ script_text xs)))
    (line_length (exchange_line x) (script_text xs) (exchange_in_line x fits))
    ∙ ap (λ (l : List ℕ). drop 1 l) (drop_seam (exchange_line x) (10 ∷ script_text xs))

end_after : (line rest : List ℕ) → line ++ 10 ∷ rest ≡ [] → ⊥
end_after [] rest e = cc
end_after (c ∷ cs) rest e = cc

not_empty : (x : Exchange) (xs : List Exchange) → script_text (x ∷ xs) ≡ [] → ⊥
not_empty x xs e = end_after (exchange_line x) (script_text xs) (sym (script_starts x xs) ∙ e)

-- the lines of a text: its first, and those after it
pub lines_front : (c : ℕ) (cs : List ℕ)
    → lines_of (c ∷ cs) ≡ take (prefix_len in_line (c ∷ cs)) (c ∷ cs) ∷ lines_of
    (drop 1 (drop (prefix_len in_line (c ∷ cs)) (c ∷ cs)))
unfolding lines_of
lines_front c [] =
    elim (c == 10) as (λ (b : Bool). cond b ([] ∷ lines_of []) (in_front c (lines_of []))
    ≡ take (cond (not b) (1 + 0) 0) (c ∷ []) ∷ lines_of (drop 1 (drop (cond (not b) (1 + 0) 0) (c ∷ []))))
    [ true ↦ refl | false ↦ refl ]
lines_front c (d ∷ ds) =
    elim (c == 10) as (λ (b : Bool). cond b ([] ∷ lines_of (d ∷ ds)) (in_front c (lines_of (d ∷ ds)))
    ≡ take (cond (not b) (1 + prefix_len in_line (d ∷ ds)) 0) (c ∷ d ∷ ds) ∷ lines_of
    (drop 1 (drop (cond (not b) (1 + prefix_len in_line (d ∷ ds)) 0) (c ∷ d ∷ ds)))) [
      | true ↦ refl
      | false ↦ rw one-add (ap (in_front c) (lines_front d ds))
    ]

pub lines_next : (text line beyond : List ℕ) → (text ≡ [] → ⊥) → line ≡ take (prefix_len in_line text) text
    → beyond ≡ drop 1 (drop (prefix_len in_line text) text)
    → lines_of text ≡ line ∷ lines_of beyond
lines_next [] line beyond some first rest = absurd (some refl)
lines_next (c ∷ cs) line beyond some first rest = rw (first, rest) (lines_front c cs)

-- the contents of a script, after calls that were read
abbrev pub after_lines : List Line → Result (List Line) ScriptFault → Result (List Line) ScriptFault
after_lines done below = below >>= λ lines. Ok (done ++ lines)

pub next_line : (old new : List Line) (n : ℕ) (said : Result (Option Exchange) LineFault)
    (below : Result (List Line) ScriptFault) → Adds old new n said
    → after_lines new below ≡ after_lines old (and_below n said below)
next_line old new n (Ok (Some x)) (Ok lines) added =
    ap (λ (l : List Line). Ok (l ++ lines)) added
    ∙ ap Ok (append_assoc old (record { number = n; exchange = x } ∷ []) lines)
next_line old new n (Ok (Some x)) (Err fault) added = refl
next_line old new n (Ok None) below added = ap (λ (l : List Line). after_lines l below) added
next_line old new n (Err fault) below added = absurd added

pub next_read : (old new : List Line) (n : ℕ) (text line beyond : List ℕ) → lines_of text ≡ line ∷ lines_of beyond
    → Adds old new (n + 1) (line_read line)
    → after_lines new (lines_read (n + 1 + 1) (lines_of beyond)) ≡ after_lines old (lines_read (n + 1) (lines_of text))
unfolding lines_read
next_read old new n text line beyond is added =
    rw is (next_line old new (n + 1) (line_read line) (lines_read (n + 1 + 1) (lines_of beyond)) added)

-- the fault of the next line is the script's fault
pub next_fault : (fault : LineFault) (old : List Line) (n : ℕ) (text line beyond : List ℕ)
    (all : Result (List Line) ScriptFault) → lines_of text ≡ line ∷ lines_of beyond
    → IsFault fault fault (line_read line) → after_lines old (lines_read (n + 1) (lines_of text)) ≡ all
    → IsFault fault (record { line = n + 1; fault = fault }) all
unfolding lines_read
next_fault line_fault.NoMemory old n text line beyond all is said same = tt
next_fault (line_fault.Unreadable column expected) old n text line beyond all is said same =
    sym same ∙ rw is (rw said refl)

pub none_left : (lines : List Line) (n : ℕ) (text : List ℕ) → text ≡ []
    → after_lines lines (lines_read n (lines_of text)) ≡ Ok lines
unfolding lines_read lines_of
none_left lines n text is = rw is (ap Ok (append-nil lines))

-- a printed script has the calls for which it was printed
pub script_again : (n : ℕ) (xs : List Exchange) → AreExchanges xs
    → lines_read n (lines_of (script_text xs)) ≡ Ok (numbered n xs)
unfolding lines_read lines_of script_text numbered
script_again n [] are = refl
script_again n (x ∷ xs) are =
    let fits : IsExchange x = All-head IsExchange x xs are in
    let others : AreExchanges xs = All-tail IsExchange x xs are in
    let text : List ℕ = script_text (x ∷ xs) in
    let first = line_is x xs text fits refl in
    let rest = rest_is x xs text fits refl in
    let is : lines_of text ≡ exchange_line x ∷ lines_of (script_text xs) =
    lines_next text (exchange_line x) (script_text xs) (not_empty x xs) (sym first) (sym rest) in
    ap (lines_read n) is
    ∙ ap (λ (r : Result (Option Exchange) LineFault). and_below n r (lines_read (n + 1) (lines_of (script_text xs))))
    (line_read_again (exchange_line x) x (words_of_exchange x fits) fits)
    ∙ ap (λ (r : Result (List Line) ScriptFault). and_below n (Ok (Some x)) r) (script_again (n + 1) xs others)

-- the only fault of a printed script is out of memory
pub printed_ok : (xs : List Exchange) (text : List ℕ) (lines : List Line) → AreExchanges xs → text ≡ script_text xs
    → script_read text ≡ Ok lines → lines ≡ numbered 1 xs
printed_ok xs text lines are is read =
    let same : Ok lines ≡ Ok (numbered 1 xs) = sym read ∙ ap script_read is ∙ script_again 1 xs are in cc

pub printed_fault : (fault : LineFault) (n : ℕ) (xs : List Exchange) (text : List ℕ) → AreExchanges xs
    → text ≡ script_text xs → IsFault fault (record { line = n; fault = fault }) (script_read text)
    → fault ≡ line_fault.NoMemory
printed_fault line_fault.NoMemory n xs text are is said = refl
printed_fault (line_fault.Unreadable column expected) n xs text are is said =
    absurd (let wrong : Err (record { line = n; fault = line_fault.Unreadable column expected })
    ≡ Ok (numbered 1 xs) = sym said ∙ ap script_read is ∙ script_again 1 xs are in cc)
