use Rattle.std.proofs.Common.{◌≡◌, drop}
use Rattle.inspect.specs.text.Walking.{names_seen}
use Rattle.inspect.proofs.text.walk.see_names.Given as goal

-- passing the rest from here gives the same as passing all from the start
abbrev pub invariant-loop-named : goal.invariant-loop-named
invariant-loop-named g l =
    names_seen g.V.Visitor.seen l.space (drop l.named-index l.names) (g.V.Visitor.view l.visitor)
    ≡ names_seen g.V.Visitor.seen l.fn.space l.fn.names (g.V.Visitor.view l.fn.visitor)
