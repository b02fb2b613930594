use Rattle.std.proofs.Common.{◌≡◌, drop}
use Rattle.inspect.specs.text.Walking.{spaces_seen}
use Rattle.inspect.proofs.text.walk.see_spaces.Given as goal

-- passing the rest from here gives the same as passing all from the start
abbrev pub invariant-loop-space : goal.invariant-loop-space
invariant-loop-space g l =
    spaces_seen g.V.Visitor.seen (drop l.space-index l.spaces) (g.V.Visitor.view l.visitor)
    ≡ spaces_seen g.V.Visitor.seen l.fn.spaces (g.V.Visitor.view l.fn.visitor)
