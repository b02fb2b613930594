-- Reading calls.
use Rattle.std.specs.Prelude.{ℕ, ◌<◌, ◌^◌, None, Some, List, [], ◌∷◌, find, Ok, codes}
use Rattle.std.specs.Str.{bytes_eq}
use Rattle.ipc_model.specs.declared.call.Call.{Call}
use Rattle.ipc_model.specs.declared.call.Call.TheVariants.{Plain, Numbered, Unnumberable}
use Rattle.ipc_model.specs.declared.plain_call.PlainCall.{PlainCall}
use Rattle.ipc_model.specs.declared.plain_call.PlainCall.TheVariants as call
use Rattle.ipc_model.specs.encodings.PlainCalls.{FitsCall}
use Rattle.words.specs.Words.{AreBytes}
use Rattle.script.specs.declared.vocabulary.kind.Kind.TheVariants.{Hexadecimal, Decimal}
use Rattle.script.specs.declared.vocabulary.verb.Verb.{Verb}
use Rattle.script.specs.declared.vocabulary.verb.Verb.TheVariants as verb
use Rattle.script.specs.vocabulary.Verbs.{verb_word, all_verbs}
use Rattle.script.specs.Messages.{message_at}
use Rattle.script.specs.Plain.{plain_at}
use Rattle.script.specs.declared.fault.Expected.TheVariants as expected
use Rattle.script.specs.Reading.{Reading, ◌>>=◌, stop, wanted, value_at, label_at, labelled_at, flag_at}

-- a call that has a line and isn't numbered: its numbers fit four bytes each, and a message is any bytes
abbrev pub HasPlainLine : PlainCall → Type 0
HasPlainLine (call.Send message) = AreBytes message
HasPlainLine c = FitsCall c

unfoldable pub receive_at : List (List ℕ) → Reading (PlainCall × List (List ℕ))
receive_at words = do
  name ← value_at Hexadecimal words
  limit ← labelled_at (codes "limit") Decimal name.1
  Ok (
    call.Receive limit.0 (flag_at (codes "large") limit.1).0 name.0
        (flag_at (codes "waited") (flag_at (codes "large") limit.1).1).0,
    (flag_at (codes "waited") (flag_at (codes "large") limit.1).1).1,
  )

unfoldable pub send_at : List (List ℕ) → Reading (PlainCall × List (List ℕ))
send_at words = message_at words >>= λ m. Ok (call.Send m.0, m.1)

unfoldable pub after_at : Verb → List (List ℕ) → Reading (PlainCall × List (List ℕ))
after_at verb.Send words = send_at words
after_at verb.Receive words = receive_at words
after_at v words = plain_at v words

-- the call at the front, if it isn't numbered
unfoldable pub plain_call_at : List (List ℕ) → Reading (PlainCall × List (List ℕ))
plain_call_at [] = stop expected.CallName []
plain_call_at (word ∷ words) =
    wanted expected.CallName (word ∷ words)
    (find (λ v. bytes_eq (verb_word v) word) all_verbs) >>= λ v. after_at v words

-- a call that has a line; the request of a numbered one fits four bytes
abbrev pub HasLine : Call → Type 0
HasLine (Plain c) = HasPlainLine c
HasLine (Numbered numbered) = (numbered.request < 2 ^ 32) × HasPlainLine numbered.call
HasLine Unnumberable = ⊥

unfoldable pub own_call_at : List (List ℕ) → Reading (Call × List (List ℕ))
own_call_at words = plain_call_at words >>= λ c. Ok (Plain c.0, c.1)

-- the request and the numbered call
unfoldable pub numbered_at : List (List ℕ) → Reading (Call × List (List ℕ))
numbered_at words = do
  request ← value_at Decimal words
  c ← plain_call_at request.1
  Ok (Numbered (record { request = request.0; call = c.0 }), c.1)

-- the call at the front
unfoldable pub call_at : List (List ℕ) → Reading (Call × List (List ℕ))
call_at words = elim (label_at (codes "numbered") words) [ None ↦ own_call_at words | Some rest ↦ numbered_at rest ]
