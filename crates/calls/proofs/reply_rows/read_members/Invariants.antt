use Rattle.std.proofs.Common.{◌≡◌, ◌<◌, ◌^◌, ◌++◌, List, ℕ, length, flat_map}
use Rattle.std.specs.Prelude.{All}
use Rattle.words.specs.Words.{word}
use Rattle.calls.proofs.reply_rows.read_members.Given as goal

-- the encoding of the decoded members, followed by the rest, is the whole input
pub record Left (whole : List ℕ) (members : List ℕ) (rest : List ℕ) : Type 0 where
  pub is : whole ≡ flat_map word members ++ rest
  pub fit : All (λ name. name < 2 ^ 32) members

abbrev pub invariant-loop-name : goal.invariant-loop-name
invariant-loop-name l = Left l.fn.bytes l.members.items l.rest

abbrev pub decreases-loop-name : goal.decreases-loop-name
decreases-loop-name l = length l.rest
