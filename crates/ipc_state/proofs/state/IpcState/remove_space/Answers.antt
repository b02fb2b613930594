use Rattle.std.proofs.Common.{◌≡◌, ℕ, ◌+◌, ◌<◌, None, ap, sym, ◌∙◌, arith}
use Rattle.std.specs.FinMap.{get, remove}
use Rattle.ipc_model.specs.calls.PortCalls.{names_in}
use Rattle.ipc_model.specs.state.Ipc.{Ipc, without_name}
use Rattle.ipc_state.specs.Running.{Running}
use Rattle.ipc_state.proofs.Kept.{all_gone, one_gone, same_alongside}
use Rattle.ipc_state.proofs.state.IpcState.remove_space.Goals as goal

went : (state : Ipc) (old new : Running) (space name next : ℕ) → new ≡ record old { current = state } → next ≡ name
    → ((q : ℕ) → q < name + 1 → get (names_in state space) q ≡ None) → (q : ℕ) → q < next + 1
    → get (names_in new.current space) q ≡ None
went state old new space name next is same gone q less =
    ap (λ (r : Running). get (names_in r.current space) q) is ∙ gone q (omega (arith, same, less))

pub loop-name-preserved : goal.loop-name-preserved
loop-name-preserved c =
    let old = c.loop-name.self.current in
    record {
      gone =
          went (without_name old c.args.number c.in-Some.name) c.loop-name.self c.remove_name.new.self c.args.number
          c.in-Some.name c.from-at.result c.in_ok-remove_name.ensures.ok c.from-at.ensures
          (one_gone old c.args.number c.loop-name.at c.in-Some.name c.loop-name.invariant.gone
          (λ q more less. ap (λ (r : Running). get (names_in r.current c.args.number) q) (sym c.self.view_is)
          ∙ c.in-Some.ensures.next.2 q more less));
      alongside =
          ap (λ (r : Running). record r.current { spaces = remove r.current.spaces c.args.number })
          c.in_ok-remove_name.ensures.ok ∙ same_alongside old c.args.number c.in-Some.name
          ∙ c.loop-name.invariant.alongside;
      before = ap (λ (r : Running). r.before) c.in_ok-remove_name.ensures.ok ∙ c.loop-name.invariant.before;
      fits = omega (arith, c.from-at.ensures, c.in-Some.ensures.fits);
    }

pub close_space-requires : goal.close_space-requires
close_space-requires c = record {
  empty =
      all_gone c.loop-name.self.current c.args.number c.loop-name.at c.loop-name.invariant.gone
      (λ q more. ap (λ (r : Running). get (names_in r.current c.args.number) q) (sym c.self.view_is)
      ∙ c.in_default.ensures.next q more);
}
