-- The text that is printed for a line.
use Rattle.std.specs.Prelude.{ℕ, Bool, List, [], ◌∷◌, ◌++◌, codes, decimal}
use Rattle.std.specs.Str.{bytes_eq}
use Rattle.ipc_model.specs.declared.call.Call.{Call}
use Rattle.ipc_model.specs.declared.reply.Reply.{Reply}
use Rattle.script.specs.printing.Calls.{call_line}
use Rattle.script.specs.printing.Lines.{reply_line}
use Rattle.script.specs.declared.fault.Expected.{Expected}
use Rattle.script.specs.declared.fault.Expected.TheVariants as expected

-- a comment on a line of this number
unfoldable pub place_encoding : ℕ → List ℕ
place_encoding number = codes "# line " ++ decimal number

abbrev pub expected_words : Expected → List ℕ
expected_words expected.CallName = codes "the name of a call"
expected_words expected.Number = codes "a number or a word for one"
expected_words expected.Bytes = codes "bytes, two hexadecimal digits each, or none"
expected_words expected.Message = codes "a message"
expected_words expected.Item = codes "an item of at most 4095 elements"
expected_words expected.Code = codes "a return code"
expected_words expected.Results = codes "what the call answered"
expected_words expected.Label = codes "the word for what follows"
expected_words expected.YesOrNo = codes "yes or no"
expected_words expected.RightKind = codes "receive, send or send_once"
expected_words expected.End = codes "the end of the line"

unfoldable pub column_encoding : ℕ → List ℕ
column_encoding column = codes ", column " ++ decimal column

unfoldable pub expected_text : Expected → List ℕ
expected_text what = codes ": expected " ++ (expected_words what ++ 10 ∷ [])

-- a line can't be read: at this offset something else was expected
abbrev pub wrong_line : ℕ → ℕ → Expected → List ℕ
wrong_line number column what = place_encoding number ++ (column_encoding column ++ expected_text what)

-- the line's call doesn't fit a frame
abbrev pub long_line : ℕ → List ℕ
long_line number = place_encoding number ++ codes ": a message that is too long for a frame\n"

-- the frame isn't a reply to the line's call
abbrev pub strange_line : ℕ → List ℕ
strange_line number = place_encoding number ++ codes ": a reply that isn't one of this call\n"

-- the call with its reply: a line of a script
unfoldable pub answered_line : Call → Reply → List ℕ
answered_line c answer = call_line c ++ (reply_line answer ++ 10 ∷ [])

unfoldable pub expected_place : ℕ → List ℕ
expected_place number = place_encoding number ++ codes ", expected: "

-- the expected reply of the line, if it differs
abbrev pub difference_line : ℕ → Call → Reply → List ℕ
difference_line number c wanted = expected_place number ++ answered_line c wanted

abbrev pub is_same_reply : Reply → Reply → Bool
is_same_reply answer wanted = bytes_eq (reply_line answer) (reply_line wanted)
