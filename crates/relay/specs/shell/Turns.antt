-- The bytes that the shell sends, receives and prints for a line.
use Rattle.std.specs.Prelude.{◌≡◌, ◌⊎◌, ℕ, ◌+◌, Bool, true, false, List, [], ◌++◌, Option, None, Some, Result, Ok, Err, if◌then◌else◌, ◌&&◌}
use Rattle.std.specs.Io.{StopsAt}
use Rattle.std.specs.Io.BufRead.{strip_last}
use Rattle.std.specs.Io.KnownBytes.{Appends, Consumes}
use Rattle.relay.specs.Relaying.{Side, TakesAll, as_left}
use Rattle.wire.specs.Writing.{AppendsPart}
use Rattle.ipc_model.specs.calls.Step.{number_of_call}
use Rattle.ipc_model.specs.declared.call.Call.{Call}
use Rattle.ipc_model.specs.declared.reply.Reply.{Reply}
use Rattle.script.specs.declared.fault.LineFault.{LineFault}
use Rattle.script.specs.declared.fault.LineFault.TheVariants as line_fault
use Rattle.script.specs.declared.printing.line.Exchange.{Exchange}
use Rattle.words.specs.Words.{frame_encoding}
use Rattle.relay.specs.declared.shell.asked.Asked.{Asked}
use Rattle.relay.specs.declared.shell.asked.Asked.TheVariants as asked
use Rattle.relay.specs.shell.Answers.{IsReplyTo}
use Rattle.relay.specs.shell.Asking.{asked_read, attempt_text, call_of}
use Rattle.relay.specs.shell.Telling.{answered_line, difference_line, is_same_reply, long_line, strange_line, wrong_line}

-- the text if the reply isn't the expected one
abbrev pub difference_text : ℕ → Exchange → Reply → List ℕ
difference_text number x answer = if is_same_reply answer x.reply then [] else difference_line number x.call x.reply

-- the text for a line whose call got this reply
abbrev pub said_text : ℕ → Asked → Reply → List ℕ
said_text number asked.Nothing answer = []
said_text number (asked.Call c) answer = answered_line c answer
said_text number (asked.Exchange x) answer = answered_line x.call answer ++ difference_text number x answer

-- true if the reply is the expected one, or none is expected
abbrev pub said_well : Asked → Reply → Bool
said_well asked.Nothing answer = true
said_well (asked.Call c) answer = true
said_well (asked.Exchange x) answer = is_same_reply answer x.reply

-- The text for a line whose call got a frame with this content. If the content is a reply to the call, that reply is
-- printed.
abbrev pub Tells : ℕ → Call → Asked → List ℕ → List ℕ → Bool → Type 0
Tells number c a content text well =
    (((answer : Reply) → IsReplyTo (number_of_call c) content answer → ⊥) × (text ≡ strange_line number)
    × (well ≡ false))
    ⊎ ((answer : Reply) × IsReplyTo (number_of_call c) content answer × (text ≡ said_text number a answer)
    × (well ≡ said_well a answer))

-- The frame of the call was sent and its reply was read, which determines the text; or the call is too long, and
-- nothing was sent.
abbrev pub AsksCall : ℕ → Call → Asked → Side → Side → List ℕ → Bool → Type 0
AsksCall number c a peer peer_new text well =
    ((text ≡ long_line number) × (well ≡ false) × (peer_new ≡ peer))
    ⊎ ((content : List ℕ) × Appends peer.written peer_new.written (frame_encoding (attempt_text c))
    × Consumes peer.left peer_new.left (frame_encoding content) × Tells number c a content text well)

abbrev pub HearsAsked : ℕ → Asked → Option Call → Side → Side → List ℕ → Bool → Type 0
HearsAsked number a None peer peer_new text well = (text ≡ []) × (well ≡ true) × (peer_new ≡ peer)
HearsAsked number a (Some c) peer peer_new text well = AsksCall number c a peer peer_new text well

-- The bytes sent and received, and the text, for the line with this number and this request.
abbrev pub Hears : ℕ → Result Asked LineFault → Side → Side → List ℕ → Bool → Type 0
Hears number (Ok a) peer peer_new text well = HearsAsked number a (call_of a) peer peer_new text well
Hears number (Err (line_fault.Unreadable column what)) peer peer_new text well =
    (text ≡ wrong_line number column what) × (well ≡ false) × (peer_new ≡ peer)
Hears number (Err line_fault.NoMemory) peer peer_new text well = ⊥

-- The line with this number was handled: its text was written.
abbrev pub Does : ℕ → List ℕ → Side → Side → Option (List ℕ) → Option (List ℕ) → Bool → Type 0
Does number line peer peer_new written written_new well =
    (text : List ℕ) × Appends written written_new text × Hears number (asked_read line) peer peer_new text well

-- the text of a line, or nothing
abbrev pub IsLast : ℕ → Side → List ℕ → Type 0
IsLast number peer text =
    (text ≡ []) ⊎ ((line : List ℕ) × (peer_new : Side) × (well : Bool)
    × Hears number (asked_read line) peer peer_new text well)

-- At most a prefix of a line's text was written.
abbrev pub DoesPart : ℕ → Side → Option (List ℕ) → Option (List ℕ) → Type 0
DoesPart number peer written written_new =
    (text : List ℕ) × IsLast number peer text × AppendsPart written written_new text

-- A line was read from the front of the input, and handled completely: its text was written and flushed.
pub record IsTurn (number : ℕ) (own peer own_new peer_new : Side) (well : Bool) : Type 0 where
  pub taken : List ℕ
  pub read : Consumes own.left own_new.left taken
  pub one : StopsAt taken 10
  pub done : Does number (strip_last 10 taken) peer peer_new own.written own_new.written well
  pub flushed : own_new.waiting ≡ []

-- This many lines were read from the input and handled, one after another. `well` means that no line was wrong and no
-- reply differed.
pub data Talk (own peer : Side) : ℕ → Bool → Side → Side → Type 0 where
  begun : Talk own peer 0 true own peer
  one_more : (n : ℕ) (well now : Bool) (own_mid peer_mid own_new peer_new : Side)
      → Talk own peer n well own_mid peer_mid
      → IsTurn (n + 1) own_mid peer_mid own_new peer_new now → Talk own peer (n + 1) (well && now) own_new peer_new

-- All lines were read and handled.
pub record TalksAll (own peer own_new peer_new : Side) (well : Bool) : Type 0 where
  pub count : ℕ
  pub left : Option (List ℕ)
  pub lines : Talk own peer count well (as_left left own_new) peer_new
  pub all : TakesAll left own_new.left

-- After some lines there was a fault: at most a prefix of the text of the next line was written.
pub record Stops (own peer own_new : Side) : Type 0 where
  pub count : ℕ
  pub well : Bool
  pub own_mid : Side
  pub peer_mid : Side
  pub lines : Talk own peer count well own_mid peer_mid
  pub part : DoesPart (count + 1) peer_mid own_mid.written own_new.written
