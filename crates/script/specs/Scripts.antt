-- Scripts: lines, one after another.
use Rattle.std.specs.Prelude.{◌≡◌, ℕ, ◌+◌, Bool, not, ◌==◌, List, [], ◌∷◌, ◌++◌, All, flat_map, Option, None, Some, Result, Ok, Err, if◌then◌else◌}
use Rattle.script.specs.vocabulary.Spaced.{in_front}
use Rattle.script.specs.declared.printing.line.Exchange.{Exchange}
use Rattle.script.specs.printing.Lines.{exchange_line}
use Rattle.script.specs.declared.fault.LineFault.{LineFault}
use Rattle.script.specs.declared.fault.LineFault.TheVariants as line_fault
use Rattle.script.specs.declared.fault.ScriptFault.{ScriptFault}
use Rattle.script.specs.declared.text.Line.{Line}
use Rattle.script.specs.Lines.{line_read, IsExchange}
use Rattle.script.specs.Reading.{◌>>=◌}

-- a byte of a line, which isn't its end
abbrev pub in_line : ℕ → Bool
in_line c = not (c == 10)

-- exchanges as a script: each line with its end
unfoldable pub script_text : List Exchange → List ℕ
script_text xs = flat_map (λ x. exchange_line x ++ 10 ∷ []) xs

-- lines with their numbers
unfoldable pub numbered : ℕ → List Exchange → List Line
numbered n [] = []
numbered n (x ∷ xs) = record { number = n; exchange = x } ∷ numbered (n + 1) xs

abbrev pub AreExchanges : List Exchange → Type 0
AreExchanges xs = All IsExchange xs

-- the lines of a text without their ends; after the last end there is none
unfoldable pub lines_of : List ℕ → List (List ℕ)
lines_of [] = []
lines_of (c ∷ cs) = if c == 10 then [] ∷ lines_of cs else in_front c (lines_of cs)

-- the contents of a line with this number, followed by those of the lines after it
abbrev pub and_below : ℕ → Result (Option Exchange) LineFault → Result (List Line) ScriptFault
    → Result (List Line) ScriptFault
and_below n (Err fault) below = Err (record { line = n; fault = fault })
and_below n (Ok None) below = below
and_below n (Ok (Some x)) below = below >>= λ lines. Ok (record { number = n; exchange = x } ∷ lines)

-- the contents of lines, of which the first has this number: each call with its line's number, or the fault of the
-- first line that has one
unfoldable pub lines_read : ℕ → List (List ℕ) → Result (List Line) ScriptFault
lines_read n [] = Ok []
lines_read n (line ∷ lines) = and_below n (line_read line) (lines_read (n + 1) lines)

-- the contents of a script, line by line
abbrev pub script_read : List ℕ → Result (List Line) ScriptFault
script_read text = lines_read 1 (lines_of text)

-- The call of a line is appended, if it has one.
abbrev pub Adds : List Line → List Line → ℕ → Result (Option Exchange) LineFault → Type 0
Adds old new n (Ok (Some x)) = new ≡ old ++ record { number = n; exchange = x } ∷ []
Adds old new n (Ok None) = new ≡ old
Adds old new n (Err fault) = ⊥

-- The fault of an unreadable line is the script's. Out of memory promises nothing.
abbrev pub IsFault : {X F : Type 0} → LineFault → F → Result X F → Type 0
IsFault (line_fault.Unreadable column expected) fault said = said ≡ Err fault
IsFault line_fault.NoMemory fault said = Unit {0}
