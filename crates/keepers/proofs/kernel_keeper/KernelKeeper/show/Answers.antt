use Rattle.keepers.specs.Tokens.{SessionValue, session_of}
use Rattle.keepers.proofs.Histories.{looks}
use Rattle.keepers.proofs.kernel_keeper.KernelKeeper.show.Goals as goal

pub invariant_of-result : goal.invariant_of-result
invariant_of-result g c =
    let own_state = c.session.inside.own_state in
    let old : SessionValue =
    session_of own_state.number own_state.space own_state.acknowledged own_state.tickets.numbers
    own_state.places.numbers c.session.inside.past in
    let learns = c.show-learned.ensures.learns in (
      looks g.L.Founding.base old c.show-learned.new.seen own_state.share.amount learns.history c.session.invariant.0
          learns.begins,
      c.session.invariant.1,
    )
