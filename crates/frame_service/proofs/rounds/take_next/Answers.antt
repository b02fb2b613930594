use Rattle.std.proofs.Common.{Some, IfSome, Ok, sym, subst, ◌∙◌}
use Rattle.frame_service.specs.Boxes.{InboxValue, inbox_remaining}
use Rattle.frame_service.specs.Asking.{TookNext}
use Rattle.frame_service.proofs.Turns.{took_in_place}
use Rattle.frame_service.proofs.rounds.take_next.Goals as goal

pub returns-in-Some : goal.returns-in-Some
returns-in-Some g c =
    let inbox = c.args.inbox.now in
    subst (λ (b : InboxValue _). IfSome (inbox_remaining g.S.Read.remaining inbox)
    (λ input. TookNext g.A.Asker.answer g.A.Asker.makes g.A.Asker.lacks c.args.asker.now input
    (Ok (Some c.take_frame-pending.result)) c.take_frame-pending.new.asker (inbox_remaining g.S.Read.remaining b)))
    (sym c.advance.ensures)
    (took_in_place g.A.Asker.answer g.A.Asker.makes g.A.Asker.lacks g.A.Asker.acknowledges g.A.Asker.fails g.A.Asker.looks
    c.args.asker.now c.take_frame-pending.new.asker
    c.in-Some.content.now c.in-Some.field-0-1.now inbox.bytes (g.S.Read.remaining inbox.stream)
    c.take_frame-pending.result (sym c.unread.ensures ∙ c.in-Some.ensures.found) c.take_frame-pending.ensures)
