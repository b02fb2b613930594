use Rattle.std.proofs.Common.{◌≡◌, ◌+◌, List, ℕ, length}
use Rattle.script.specs.vocabulary.Spaced.{column_of}
use Rattle.script.proofs.vocabulary.spaced.column_of.Given as goal

pub record Passed (column left : ℕ) (rest : List ℕ) (words : ℕ) (line : List ℕ) : Type 0 where
  pub is : column + column_of left rest ≡ column_of words line
  pub in_range : column + length rest ≡ length line

abbrev pub invariant-loop-left : goal.invariant-loop-left
invariant-loop-left l = Passed l.column l.left l.rest l.fn.words l.fn.line

abbrev pub decreases-loop-left : goal.decreases-loop-left
decreases-loop-left l = l.left
