-- A prefix of the length word, or the length word with a prefix of the content, is a prefix of the frame.
use Rattle.std.proofs.Common.{◌≡◌, List, ℕ, ◌++◌, Option, Result, Ok, Err, sym, ap, ◌∙◌, append_assoc, length}
use Rattle.std.specs.Prelude.{OnErr}
use Rattle.std.specs.Io.KnownBytes.{Appends}
use Rattle.std.proofs.KnownBytes.{Appends-trans}
use Rattle.std.proofs.lemmas.Result.{on_err_weaker}
use Rattle.words.specs.Words.{word}
use Rattle.wire.specs.Writing.{AppendsPart}
use Rattle.wire.proofs.write.write_frame.Goals as goal

at_any : {T E P : Type 0} (r : Result T E) → P → OnErr r P
at_any (Ok x) p = tt
at_any (Err e) p = p

part_before : (old new : Option (List ℕ)) (bytes more : List ℕ) → AppendsPart old new bytes
    → AppendsPart old new (bytes ++ more)
part_before old new bytes more (sent, rest, split, appended) =
    (sent, rest ++ more, ap (λ (b : List ℕ). b ++ more) split ∙ append_assoc sent rest more, appended)

part_after : (old mid new : Option (List ℕ)) (front bytes : List ℕ) → Appends old mid front → AppendsPart mid new bytes
    → AppendsPart old new (front ++ bytes)
part_after old mid new front bytes first (sent, rest, split, appended) = (
  front ++ sent,
  rest,
  ap (λ (b : List ℕ). front ++ b) split ∙ sym (append_assoc front sent rest),
  Appends-trans old mid new front sent first appended,
)

pub returns-in_err-write_bytes-clause-part : goal.returns-in_err-write_bytes-clause-part
returns-in_err-write_bytes-clause-part g c =
    let content = c.args.frame.now.content in
    let encoded : c.to_le_bytes.result ≡ word (length content) =
    c.to_le_bytes.ensures ∙ ap (λ (b : List ℕ). word (length b)) c.content-content.ensures.value in
    let part = rw encoded at c.in_err-write_bytes.ensures.part in
    at_any _ (part_before _ _ (word (length content)) content part)

pub returns-clause-part : goal.returns-clause-part
returns-clause-part g c =
    let content = c.args.frame.now.content in
    let encoded : c.to_le_bytes.result ≡ word (length content) =
    c.to_le_bytes.ensures ∙ ap (λ (b : List ℕ). word (length b)) c.content-content.ensures.value in
    let first = rw encoded at c.in_ok-write_bytes.ensures.ok in
    let second = rw c.content-content.ensures.value at c.write_bytes-2.ensures.part in
    on_err_weaker _ (part_after _ _ _ (word (length content)) content first) second
