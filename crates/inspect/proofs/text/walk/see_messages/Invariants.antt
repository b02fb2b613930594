use Rattle.std.proofs.Common.{◌≡◌, drop}
use Rattle.inspect.specs.text.Walking.{messages_seen}
use Rattle.inspect.proofs.text.walk.see_messages.Given as goal

-- passing the rest from here gives the same as passing all from the start
abbrev pub invariant-loop-message : goal.invariant-loop-message
invariant-loop-message g l =
    messages_seen g.V.Visitor.seen l.queue (drop l.message-index l.messages) (g.V.Visitor.view l.visitor)
    ≡ messages_seen g.V.Visitor.seen l.fn.queue l.fn.messages (g.V.Visitor.view l.fn.visitor)
