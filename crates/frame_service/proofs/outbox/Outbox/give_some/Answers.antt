use Rattle.std.proofs.Common.{ℕ, List, take, drop, ap, subst, ◌∙◌}
use Rattle.std.specs.Io.KnownBytes.{Appends}
use Rattle.frame_service.specs.Boxes.{OutboxValue}
use Rattle.frame_service.proofs.Boxes.{gives_some}
use Rattle.frame_service.proofs.outbox.Outbox.give_some.Goals as goal

pub returns-in-Ok : goal.returns-in-Ok
returns-in-Ok g c =
    let n = c.in-Ok.count in
    gives_some g.W.Write.contents c.args.self.now c.write.new.self _ n
    (c.advance.ensures.items ∙ ap (λ (v : OutboxValue g.row.W.Denot). drop n v.bytes) c.self.view_is)
    (subst (λ (bs : List ℕ). Appends (g.W.Write.contents c.args.self.now.stream)
    (g.W.Write.contents c.write.new.self) bs)
    (ap (take n) c.as_slice.ensures ∙ ap (λ (v : OutboxValue g.row.W.Denot). take n v.bytes) c.self.view_is)
    (subst (λ (v : OutboxValue g.row.W.Denot). Appends (g.W.Write.contents v.stream)
    (g.W.Write.contents c.write.new.self) (take n c.as_slice.result.now))
    c.self.view_is c.in-Ok.ensures.bytes))
