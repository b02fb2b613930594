-- The words of calls.
use Rattle.std.specs.Prelude.{ℕ, Bool, List, [], ◌∷◌, ◌++◌, codes}
use Rattle.ipc_model.specs.declared.call.Call.{Call}
use Rattle.ipc_model.specs.declared.call.Call.TheVariants.{Plain, Numbered, Unnumberable}
use Rattle.ipc_model.specs.declared.plain_call.PlainCall.{PlainCall}
use Rattle.ipc_model.specs.declared.plain_call.PlainCall.TheVariants as call
use Rattle.script.specs.declared.vocabulary.kind.Kind.TheVariants.{Hexadecimal, Decimal, Signed, Right, Disposition, Notification}
use Rattle.script.specs.declared.vocabulary.verb.Verb.{Verb}
use Rattle.script.specs.declared.vocabulary.verb.Verb.TheVariants as verb
use Rattle.script.specs.vocabulary.Kinds.{value_word}
use Rattle.script.specs.vocabulary.Spaced.{line_of}
use Rattle.script.specs.vocabulary.Verbs.{verb_word}
use Rattle.script.specs.printing.Messages.{message_words, flag_words}

abbrev pub verb_of : PlainCall → Verb
verb_of (call.Attach space) = verb.Attach
verb_of call.Names = verb.Names
verb_of (call.Type name) = verb.Type
verb_of (call.Rename from to) = verb.Rename
verb_of (call.AllocateName right name) = verb.AllocateName
verb_of (call.Allocate right) = verb.Allocate
verb_of (call.Destroy name) = verb.Destroy
verb_of (call.Deallocate name) = verb.Deallocate
verb_of (call.GetRefs name right) = verb.GetRefs
verb_of (call.ModRefs name right delta) = verb.ModRefs
verb_of (call.SetQlimit name limit) = verb.SetQlimit
verb_of (call.SetMscount name count) = verb.SetMscount
verb_of (call.SetSeqno name seqno) = verb.SetSeqno
verb_of (call.GetReceiveStatus name) = verb.GetReceiveStatus
verb_of (call.GetSetStatus name) = verb.GetSetStatus
verb_of (call.MoveMember member after) = verb.MoveMember
verb_of (call.RequestNotification name variant sync notify disposition) = verb.RequestNotification
verb_of (call.InsertRight name right_name disposition) = verb.InsertRight
verb_of (call.ExtractRight name disposition) = verb.ExtractRight
verb_of (call.Send message) = verb.Send
verb_of (call.Receive limit large name waited) = verb.Receive
verb_of (call.SpaceCreate name disposition) = verb.SpaceCreate
verb_of call.SpaceDestroy = verb.SpaceDestroy

-- the written forms of numbers: a name, a count, and those that have words
abbrev pub name_word : ℕ → List ℕ
name_word n = value_word Hexadecimal n

abbrev pub count_word : ℕ → List ℕ
count_word n = value_word Decimal n

abbrev pub right_word : ℕ → List ℕ
right_word n = value_word Right n

abbrev pub disposition_word : ℕ → List ℕ
disposition_word n = value_word Disposition n

abbrev pub receive_words : ℕ → Bool → ℕ → Bool → List (List ℕ)
receive_words limit large name waited =
    (name_word name ∷ codes "limit" ∷ count_word limit ∷ []) ++ flag_words (codes "large") large
    ++ flag_words (codes "waited") waited

-- the words of two arguments, of which the first is a name
abbrev pub pair_words : PlainCall → List (List ℕ)
pair_words (call.Rename from to) = name_word from ∷ name_word to ∷ []
pair_words (call.GetRefs name right) = name_word name ∷ right_word right ∷ []
pair_words (call.SetQlimit name limit) = name_word name ∷ count_word limit ∷ []
pair_words (call.SetMscount name count) = name_word name ∷ count_word count ∷ []
pair_words (call.SetSeqno name seqno) = name_word name ∷ count_word seqno ∷ []
pair_words (call.MoveMember member after) = name_word member ∷ name_word after ∷ []
pair_words (call.ExtractRight name disposition) = name_word name ∷ disposition_word disposition ∷ []
pair_words (call.SpaceCreate name disposition) = name_word name ∷ disposition_word disposition ∷ []
pair_words c = []

-- the words of a call's arguments
abbrev pub argument_words : PlainCall → List (List ℕ)
argument_words (call.Attach space) = count_word space ∷ []
argument_words call.Names = []
argument_words (call.Type name) = name_word name ∷ []
argument_words (call.AllocateName right name) = right_word right ∷ name_word name ∷ []
argument_words (call.Allocate right) = right_word right ∷ []
argument_words (call.Destroy name) = name_word name ∷ []
argument_words (call.Deallocate name) = name_word name ∷ []
argument_words (call.ModRefs name right delta) = name_word name ∷ right_word right ∷ value_word Signed delta ∷ []
argument_words (call.GetReceiveStatus name) = name_word name ∷ []
argument_words (call.GetSetStatus name) = name_word name ∷ []
argument_words (call.RequestNotification name variant sync notify disposition) =
    name_word name ∷ value_word Notification variant ∷ count_word sync ∷ name_word notify ∷ disposition_word disposition
    ∷ []
argument_words (call.InsertRight name right_name disposition) =
    name_word name ∷ name_word right_name ∷ disposition_word disposition ∷ []
argument_words (call.Send message) = message_words message
argument_words (call.Receive limit large name waited) = receive_words limit large name waited
argument_words call.SpaceDestroy = []
argument_words c = pair_words c

-- the words of a call that isn't numbered: its name and its arguments
unfoldable pub plain_call_words : PlainCall → List (List ℕ)
plain_call_words c = verb_word (verb_of c) ∷ argument_words c

-- The request of a numbered call comes first.
abbrev pub first_word : Call → List ℕ
first_word (Plain c) = verb_word (verb_of c)
first_word (Numbered numbered) = codes "numbered"
first_word Unnumberable = codes "numbered"

abbrev pub further_words : Call → List (List ℕ)
further_words (Plain c) = argument_words c
further_words (Numbered numbered) =
    count_word numbered.request ∷ verb_word (verb_of numbered.call) ∷ argument_words numbered.call
further_words Unnumberable = []

-- the words of a call
unfoldable pub call_words : Call → List (List ℕ)
call_words c = first_word c ∷ further_words c

-- the line of a call
unfoldable pub call_line : Call → List ℕ
call_line c = line_of (call_words c)
