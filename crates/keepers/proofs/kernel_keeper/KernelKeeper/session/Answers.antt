use Rattle.std.proofs.Common.{ℕ, arith, sym, subst}
use Rattle.keepers.specs.Tokens.{IsSession, session_of}
use Rattle.keepers.proofs.Cores.{new_session}
use Rattle.keepers.proofs.kernel_keeper.KernelKeeper.session.Goals as goal

pub invariant_of-result : goal.invariant_of-result
invariant_of-result g c =
    let own = c.admission.inside in
    let admitted = c.admission.invariant in (
      subst (λ (n : ℕ). IsSession g.L.Founding.base
          (session_of own.number 1 n c.empty.result.numbers c.empty-2.result.numbers c.in-Ok.past) own.share.amount)
          (sym c.none.ensures)
          (new_session g.L.Founding.base own.number c.in-Ok.past c.empty.result.numbers c.empty-2.result.numbers
          own.share.amount c.empty.ensures c.empty-2.ensures admitted.1 c.in-Ok.ensures.history),
      omega (arith, admitted.0),
    )
