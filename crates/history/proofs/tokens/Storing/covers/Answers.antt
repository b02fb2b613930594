use Rattle.std.proofs.Common.{rules, sym, ap, ◌∙◌}
use Rattle.history.proofs.Moves.{compares, takes_in}
use Rattle.history.proofs.tokens.Storing.covers.Goals as goal

pub join_pass-requires : goal.join_pass-requires
join_pass-requires g c =
    let i = c.self.invariant in
    let k = c.known.invariant in (
      search rules,
      (
        search rules,
        (
          (i.0 ∙ sym c.args.mark.now.named, k.0 ∙ sym i.0, k.1),
          takes_in _ _ _ _,
        ),
      ),
    )

pub load_as-requires : goal.load_as-requires
load_as-requires g c =
    let i = c.self.invariant in
    let j = c.join_pass.ensures in (
      search rules,
      (
        search rules,
        (
          j.0.0 ∙ i.0 ∙ sym c.args.mark.now.named,
          compares _ _ (ap (λ v. v.counts) j.1 ∙ ap (λ v. v.counts) i.1),
        ),
      ),
    )
