use Rattle.std.proofs.Common.{◌≡◌, ◌++◌, drop}
use Rattle.inspect.specs.text.Strokes.{spaces_drawn}
use Rattle.inspect.proofs.text.drawing.push_spaces.Given as goal

-- the drawing so far, followed by the rest, is the whole drawing
abbrev pub invariant-loop-space : goal.invariant-loop-space
invariant-loop-space l =
    l.out.items ++ spaces_drawn (drop l.space-index l.spaces) ≡ l.fn.out.items ++ spaces_drawn l.fn.spaces
