use Rattle.std.proofs.Common.{ℕ, ◌+◌, sym, subst, arith}
use Rattle.ipc_model.specs.calls.PortCalls.{names_in}
use Rattle.kernel.specs.Copying.{gathered_all, gathered_none, name_more, AreGathered}
use Rattle.snapshot.specs.Rows.{named_row}
use Rattle.kernel.proofs.copying.names_of.Goals as goal

pub loop-name-init : goal.loop-name-init
loop-name-init c = record {
  gathered =
      gathered_none named_row (names_in c.args.state.now.current c.args.space) c.new-names.result.items
      c.new-names.ensures.items;
  fits = omega arith;
}

pub loop-name-preserved : goal.loop-name-preserved
loop-name-preserved c =
    let names = names_in c.args.state.now.current c.args.space in
    record {
      gathered = subst (λ (n : ℕ). AreGathered named_row names c.push.new.self.items (n + 1)) (sym c.from-at.ensures)
          (name_more names c.loop-name.names.items c.push.new.self.items c.loop-name.at c.in-Some.name c.in-Some.entry
          c.in-Some.ensures.next c.in_ok-push.ensures.items c.loop-name.invariant.gathered);
      fits = omega (arith, c.from-at.ensures, c.in-Some.ensures.fits);
    }

pub returns : goal.returns
returns c =
    gathered_all named_row (names_in c.args.state.now.current c.args.space) c.loop-name.names.items c.loop-name.at
    c.in_default.ensures.next c.loop-name.invariant.gathered
