use Rattle.std.proofs.Common.{◌+◌, ◌≤◌, [], ◌∷◌, arith, rules, sym, ◌∙◌}
use Rattle.history.proofs.Moves.{counts_as}
use Rattle.history.proofs.tokens.Storing.add.Goals as goal

pub swap_as-requires : goal.swap_as-requires
swap_as-requires g c =
    let i = c.self.invariant in
    let less : c.self.inside.stored ≤ c.self.inside.stored + c.args.more = omega arith in (
      search rules,
      (
        search rules,
        (
          i.0 ∙ sym c.args.mark.now.named,
          counts_as _ _ c.self.inside.stored ((c.self.inside.stored + c.args.more) ∷ []) i.1 less,
        ),
      ),
    )
