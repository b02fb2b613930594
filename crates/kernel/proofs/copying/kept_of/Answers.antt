use Rattle.std.proofs.Common.{ℕ, Option, [], ◌+◌, ◌∷◌, ◌++◌, sym, ◌∙◌, ap, subst, arith}
use Rattle.ipc_model.specs.declared.reply.NumberedReply.{NumberedReply}
use Rattle.kernel.specs.Copying.{gathered_none, kept_row, space_more, spaces_all, AreGathered}
use Rattle.kernel.proofs.copying.kept_of.Goals as goal

pub loop-number-init : goal.loop-number-init
loop-number-init c = record {
  gathered =
      gathered_none (kept_row c.args.kept.now) c.args.state.now.current.spaces c.new-rows.result.items
      c.new-rows.ensures.items;
  fits = omega arith;
}

pub loop-number-preserved : goal.loop-number-preserved
loop-number-preserved c =
    let state = c.args.state.now.current in
    let row = kept_row c.args.kept.now in
    let before = c.loop-number.rows.items in
    record {
      gathered =
          subst (λ (n : ℕ). AreGathered row state.spaces c.push.new.self.items (n + 1)) (sym c.from-at.ensures)
          (space_more row state before c.push.new.self.items c.loop-number.at c.in-Some.number c.in-Some.ensures.0
          c.in-Some.ensures.1 c.in-Some.ensures.2
          (c.in_ok-push.ensures.items ∙ ap
          (λ (kept : Option NumberedReply). before ++ kept ∷ []) (c.in_ok-row.ensures ∙ c.get.ensures))
          c.loop-number.invariant.gathered);
      fits = omega (arith, c.from-at.ensures);
    }

pub returns : goal.returns
returns c =
    spaces_all (kept_row c.args.kept.now) c.args.state.now.current c.loop-number.rows.items c.loop-number.at c.requires
    c.in_default.ensures c.loop-number.invariant.gathered
