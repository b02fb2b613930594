use Rattle.std.proofs.Common.{rules, sym, ap, ◌∙◌}
use Rattle.history.specs.Marks.{knowing}
use Rattle.history.proofs.Moves.{copies_as}
use Rattle.history.proofs.tokens.Stored.again.Goals as goal

pub split_pass-own-requires : goal.split_pass-own-requires
split_pass-own-requires g c =
    let i = c.self.invariant in
    (search rules, (search rules, (i.0 ∙ sym c.args.mark.now.named, copies_as _ _)))

pub split_pass-pass-requires : goal.split_pass-pass-requires
split_pass-pass-requires g c =
    let i = c.self.invariant in
    let t = c.split_pass-own.ensures in
    (search rules, (search rules, (t.kept.0.0 ∙ i.0 ∙ sym c.args.mark.now.named, copies_as _ _)))

pub invariant_of-self : goal.invariant_of-self
invariant_of-self g c =
    let i = c.self.invariant in
    let t = c.split_pass-own.ensures in
    (t.given.0 ∙ i.0, t.given.2, t.given.1 ∙ ap (λ v. knowing v.known) i.2)
