use Rattle.std.proofs.Common.{◌≡◌, drop}
use Rattle.inspect.specs.text.Walking.{rights_seen}
use Rattle.inspect.proofs.text.walk.see_rights.Given as goal

-- passing the rest from here gives the same as passing all from the start
abbrev pub invariant-loop-carried : goal.invariant-loop-carried
invariant-loop-carried g l =
    rights_seen g.V.Visitor.seen l.queue (drop l.carried-index l.rights) (g.V.Visitor.view l.visitor)
    ≡ rights_seen g.V.Visitor.seen l.fn.queue l.fn.rights (g.V.Visitor.view l.fn.visitor)
