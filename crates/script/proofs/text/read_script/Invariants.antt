use Rattle.std.proofs.Common.{◌≡◌, ◌+◌, ◌≤◌, ℕ, List, length}
use Rattle.script.specs.Scripts.{lines_of, lines_read, script_read}
use Rattle.script.specs.declared.text.Line.{Line}
use Rattle.script.proofs.ScriptsAgain.{after_lines}
use Rattle.script.proofs.text.read_script.Given as goal

-- the lines so far, followed by those of the rest, are all lines
pub record Left (text : List ℕ) (number : ℕ) (lines : List Line) (rest : List ℕ) : Type 0 where
  pub is : after_lines lines (lines_read (number + 1) (lines_of rest)) ≡ script_read text
  pub in_range : number + length rest ≤ length text

abbrev pub invariant-loop-rest : goal.invariant-loop-rest
invariant-loop-rest l = Left l.fn.text l.number l.lines.items l.rest

abbrev pub decreases-loop-rest : goal.decreases-loop-rest
decreases-loop-rest l = length l.rest
