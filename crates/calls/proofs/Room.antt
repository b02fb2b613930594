-- Appending fails only if there is no room.
use Rattle.std.proofs.Common.{◌≡◌, ℕ, ◌+◌, ◌<◌, ◌≤◌, List, ◌++◌, length, flat_map, take, Result, Ok, Err, OnErr, ap, arith, length-append, length-take}
use Rattle.ipc_model.specs.declared.plain_reply.NamedType.{NamedType}
use Rattle.words.specs.WordLaws.{length-word}
use Rattle.words.specs.Words.{word}
use Rattle.calls.specs.Rows.{names_encoding}
use Rattle.calls.proofs.Lengths.{length-names_encoding, length-words_text, words_room}

-- a fact holds in case of an error too
pub at_error : {T E P : Type 0} (result : Result T E) → P → OnErr result P
at_error (Ok x) holds = tt
at_error (Err e) holds = holds

-- there is no room for all words if there is none for the next one
pub words_full : (old content numbers : List ℕ) (i before now : ℕ)
    → content ≡ old ++ flat_map word (take i numbers) → i < length numbers → before ≤ now → now < length content + 4
    → before < length old + length (flat_map word numbers)
words_full old content numbers i before now is less more full =
    omega (arith, words_room old content numbers i is less, length-words_text numbers, more, full)

-- there is no room for all names, with their count, if there is none for the next one
pub names_full : (old content : List ℕ) (names : List NamedType) (i before now : ℕ)
    → content ≡ old ++ (word (length names) ++ names_encoding (take i names)) → i < length names → before ≤ now
    → now < length content + 8 → before < length old + (4 + length (names_encoding names))
names_full old content names i before now is less more full =
    let row = take i names in
    omega (
      arith,
      ap length is,
      length-append old (word (length names) ++ names_encoding row),
      length-append (word (length names)) (names_encoding row),
      length-word (length names),
      length-names_encoding row,
      length-take i names,
      length-names_encoding names,
      less,
      more,
      full,
    )
