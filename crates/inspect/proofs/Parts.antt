-- Prefixes of the bytes that were to be written.
use Rattle.std.proofs.Common.{List, ℕ, ◌++◌, Option, Result, Ok, Err, sym, ap, ◌∙◌, append_assoc}
use Rattle.std.specs.Prelude.{OnErr, OnOk}
use Rattle.std.specs.Io.KnownBytes.{Appends}
use Rattle.std.proofs.KnownBytes.{Appends-trans}
use Rattle.wire.specs.Writing.{AppendsPart}

pub on_ok : {T E P Q : Type 0} (r : Result T E) → (P → Q) → OnOk r P → OnOk r Q
on_ok (Ok x) f p = f p
on_ok (Err e) f p = tt

pub at_any : {T E P : Type 0} (r : Result T E) → P → OnErr r P
at_any (Ok x) p = tt
at_any (Err e) p = p

pub part_before : (old new : Option (List ℕ)) (bytes more : List ℕ) → AppendsPart old new bytes
    → AppendsPart old new (bytes ++ more)
part_before old new bytes more (sent, rest, split, appended) =
    (sent, rest ++ more, ap (λ (b : List ℕ). b ++ more) split ∙ append_assoc sent rest more, appended)

pub part_after : (old mid new : Option (List ℕ)) (front bytes : List ℕ) → Appends old mid front
    → AppendsPart mid new bytes → AppendsPart old new (front ++ bytes)
part_after old mid new front bytes first (sent, rest, split, appended) = (
  front ++ sent,
  rest,
  ap (λ (b : List ℕ). front ++ b) split ∙ sym (append_assoc front sent rest),
  Appends-trans old mid new front sent first appended,
)
