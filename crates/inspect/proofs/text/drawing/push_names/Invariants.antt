use Rattle.std.proofs.Common.{◌≡◌, ◌++◌, drop}
use Rattle.inspect.specs.text.Strokes.{names_drawn}
use Rattle.inspect.proofs.text.drawing.push_names.Given as goal

-- the drawing so far, followed by the rest, is the whole drawing
abbrev pub invariant-loop-named : goal.invariant-loop-named
invariant-loop-named l =
    l.out.items ++ names_drawn l.space (drop l.named-index l.names) ≡ l.fn.out.items
    ++ names_drawn l.fn.space l.fn.names
