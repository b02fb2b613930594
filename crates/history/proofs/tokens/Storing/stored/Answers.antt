use Rattle.std.proofs.Common.{rules, sym, ◌∙◌}
use Rattle.history.proofs.Moves.{hands_out_as}
use Rattle.history.proofs.tokens.Storing.stored.Goals as goal

pub split_pass-pass-requires : goal.split_pass-pass-requires
split_pass-pass-requires g c =
    let i = c.self.invariant in
    (search rules, (search rules, (i.0 ∙ sym c.args.mark.now.named, hands_out_as _ _ c.self.inside.stored i.1)))
