-- Reading lines.
use Rattle.std.specs.Prelude.{◌≡◌, ℕ, ◌-◌, List, [], ◌∷◌, length, Option, None, Some, Result, Ok, Err}
use Rattle.ipc_model.specs.encodings.Encodings.{FitsReply}
use Rattle.ipc_model.specs.declared.call.Call.{Call}
use Rattle.script.specs.vocabulary.Spaced.{words_of, column_of}
use Rattle.script.specs.declared.printing.line.Exchange.{Exchange}
use Rattle.script.specs.declared.fault.Expected.TheVariants.{End}
use Rattle.script.specs.declared.fault.Fault.{Fault}
use Rattle.script.specs.declared.fault.Fault.TheVariants as fault
use Rattle.script.specs.declared.fault.LineFault.{LineFault}
use Rattle.script.specs.declared.fault.LineFault.TheVariants as line_fault
use Rattle.script.specs.declared.fault.Stop.{Stop}
use Rattle.script.specs.Calls.{call_at, HasLine}
use Rattle.script.specs.Reading.{Reading, ◌>>=◌, stop}
use Rattle.script.specs.Replies.{reply_at, IsOfCall, IsOwn}

-- A call and its reply have a line.
pub record IsExchange (x : Exchange) : Type 0 where
  pub call : HasLine x.call
  pub reply : FitsReply x.reply
  pub own : IsOwn x.reply
  pub of_one_call : IsOfCall x.call x.reply

-- the call of a line and its reply
unfoldable pub exchange_at : List (List ℕ) → Reading Exchange
exchange_at words = do
  c ← call_at words
  r ← reply_at c.0 c.1
  Ok (record { call = c.0; reply = r })

-- the call of a line without a reply
unfoldable pub request_at : List (List ℕ) → Reading Call
request_at words = call_at words >>= λ c. elim c.1 [ [] ↦ Ok c.0 | word ∷ rest ↦ stop End (word ∷ rest) ]

-- the fault of a line: the offset of the first word that isn't understood, and what was expected there
abbrev pub fault_at : List ℕ → Stop → LineFault
fault_at line place = line_fault.Unreadable (column_of (length (words_of line) - place.left) line) place.expected

abbrev pub fault_of : List ℕ → Fault → LineFault
fault_of line (fault.Unreadable place) = fault_at line place
fault_of line fault.NoMemory = line_fault.NoMemory

abbrev pub on_line : {X : Type 0} → List ℕ → Reading X → Result X LineFault
on_line line (Ok x) = Ok x
on_line line (Err place) = Err (fault_at line place)

abbrev pub words_read : List ℕ → List (List ℕ) → Result (Option Exchange) LineFault
words_read line [] = Ok None
words_read line (word ∷ words) = on_line line (exchange_at (word ∷ words)) >>= λ x. Ok (Some x)

-- the contents of a line: nothing, if it has no words, else a call with its reply; or the line's fault
unfoldable pub line_read : List ℕ → Result (Option Exchange) LineFault
line_read line = words_read line (words_of line)

-- the same for a line that contains only a call
abbrev pub request_read : List ℕ → Result Call LineFault
request_read line = on_line line (request_at (words_of line))

-- The result is that of the line, or out of memory.
abbrev pub UnlessMemory : {X : Type 0} → Result X LineFault → Result X LineFault → Type 0
UnlessMemory (Ok x) said = said ≡ Ok x
UnlessMemory (Err (line_fault.Unreadable column expected)) said = said ≡ Err (line_fault.Unreadable column expected)
UnlessMemory (Err line_fault.NoMemory) said = Unit {0}

-- The line is read as this, unless out of memory.
abbrev pub IsRead : {X : Type 0} → Result X LineFault → X → Type 0
IsRead (Ok found) x = found ≡ x
IsRead (Err fault) x = fault ≡ line_fault.NoMemory
