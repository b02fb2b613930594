use Rattle.std.proofs.Common.{List, ℕ, subst, arith}
use Rattle.disk.specs.Slots.{slot_of}
use Rattle.recover.specs.Headers.{Says}
use Rattle.recover.proofs.Fronts.{front_read, says_of_front}
use Rattle.recover.proofs.headers.read_header.Goals as goal

pub returns-clause-said : goal.returns-clause-said
returns-clause-said g c = λ honest.
    let slot : List ℕ = slot_of (g.D.Disk.view c.args.disk.now).seen c.args.slot in
    says_of_front c.args.size 24 slot c.header_in.result c.requires.most (omega arith)
    (subst (λ l. Says c.args.size l c.header_in.result)
    (front_read slot c.read.new.buffer _ c.in_ok-count.count (c.in_ok-count.ensures.count honest)
    (c.in_ok-count.ensures.bytes honest)) c.header_in.ensures)
