use Rattle.std.proofs.Common.{subst}
use Rattle.disk.specs.Slots.{Slots}
use Rattle.recover.specs.Headers.{SayAll}
use Rattle.recover.proofs.opening.read_synced.Goals as goal

pub returns-clause-said : goal.returns-clause-said
returns-clause-said g c = λ honest.
    let h = c.in_ok-headers.headers in
    subst (λ (s : Slots). SayAll s h.image0 h.image1 h.segment0 h.segment1) (c.in_ok-sync_all.ensures.seen honest)
    (c.in_ok-headers.ensures.said honest)
