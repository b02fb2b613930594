use Rattle.std.proofs.Common.{◌≡◌, ℕ, [], take, get_or, cond, Bool, sym, ◌∙◌, ap, arith}
use Rattle.ipc_model.specs.rights.CopyOut.{wants_name}
use Rattle.ipc_model.specs.calls.PortCalls.{names_in}
use Rattle.rights.specs.Wanting.{named_after}
use Rattle.rights.proofs.Naming.{blank, one_wants}
use Rattle.rights.proofs.wanted.names_needed.Goals as goal
use Rattle.rights.proofs.wanted.names_needed.Goals.{then-wants_name, else-wants_name}

pub loop-index-preserved : goal.loop-index-preserved
loop-index-preserved c =
    let rights = c.args.rights.now in
    let i : ℕ = c.loop-index.index in
    let names = names_in c.args.state.now.current c.args.space in
    let more = one_wants names rights i blank c.loop-index-test.true in
    let before = c.loop-index.invariant.rest in
    elim c.if-wants_name.branch [
      | then-wants_name w ↦
          let one : cond {A = ℕ} (wants_name names (named_after [] (take i rights)) (get_or rights i blank).kind
          (get_or rights i blank).port) 1 0 ≡ 1 = ap
          (λ (b : Bool). cond {A = ℕ} b 1 0) (sym c.wants_name.ensures ∙ w.if-wants_name.true) in
          record { few = omega (arith, c.loop-index.invariant.few); rest = omega (arith, one, more, before) }
      | else-wants_name w ↦
          let none : cond {A = ℕ} (wants_name names (named_after [] (take i rights)) (get_or rights i blank).kind
          (get_or rights i blank).port) 1 0 ≡ 0 = ap
          (λ (b : Bool). cond {A = ℕ} b 1 0) (sym c.wants_name.ensures ∙ w.if-wants_name.false) in
          record { few = omega (arith, c.loop-index.invariant.few); rest = omega (arith, none, more, before) }
    ]
