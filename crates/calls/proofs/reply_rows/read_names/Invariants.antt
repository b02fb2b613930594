use Rattle.std.proofs.Common.{◌≡◌, ◌<◌, ◌^◌, ◌++◌, List, ℕ, length, flat_map}
use Rattle.std.specs.Prelude.{All}
use Rattle.ipc_model.specs.declared.plain_reply.NamedType.{NamedType}
use Rattle.words.specs.Words.{word}
use Rattle.calls.proofs.reply_rows.read_names.Given as goal

-- the encoding of the decoded names, followed by the rest, is the whole input
pub record Left (whole : List ℕ) (names : List NamedType) (rest : List ℕ) : Type 0 where
  pub is : whole ≡ flat_map (λ (n : NamedType). word n.name ++ word n.bits) names ++ rest
  pub fit : All (λ (n : NamedType). (n.name < 2 ^ 32) × (n.bits < 2 ^ 32)) names

abbrev pub invariant-loop-named : goal.invariant-loop-named
invariant-loop-named l = Left l.fn.bytes l.names.items l.rest

abbrev pub decreases-loop-named : goal.decreases-loop-named
decreases-loop-named l = length l.rest
