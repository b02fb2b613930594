use Rattle.std.proofs.Common.{◌≡◌, ◌⊎◌, ◌∙◌, sym, ap, subst}
use Rattle.std.specs.Prelude.{IfOk, OnOk, OnErr, ◌++◌}
use Rattle.history.specs.Entries.{Begins}
use Rattle.history.specs.Pasts.{PastValue}
use Rattle.keepers.specs.Keeping.{BothPastsValue, entries_of_call}
use Rattle.keepers.proofs.Cores.{both_back, both_begin, both_kept, both_seen}
use Rattle.keepers.proofs.making.apply_with_witness.Goals as goal

pub returns-clause-seen : goal.returns-clause-seen
returns-clause-seen g c =
    let old : BothPastsValue = record { number = c.args.number; kept = c.level.new.kept; mine = c.level.new.mine } in
    subst (λ (v : BothPastsValue). OnOk c.submit_with_both-both_pasts.result.1 (v.mine.entries ≡ v.kept.entries))
    (sym c.both_pasts.view_is)
    (both_seen old c.submit_with_both-both_pasts.result.0 c.args.space c.args.call.now
    c.submit_with_both-both_pasts.result.1
    (c.in_default.ensures.level ∙ ap (λ (p : PastValue). p.entries) (sym c.level.ensures.same))
    c.submit_with_both-both_pasts.ensures.learned c.submit_with_both-both_pasts.ensures.unlearned)

pub returns-clause-begins : goal.returns-clause-begins
returns-clause-begins g c =
    let old : BothPastsValue = record { number = c.args.number; kept = c.level.new.kept; mine = c.level.new.mine } in
    subst (λ (v : BothPastsValue). Begins c.args.seen.entries v.mine.entries) (sym c.both_pasts.view_is)
    (both_begin old c.submit_with_both-both_pasts.result.0 c.args.space c.args.call.now _
    c.submit_with_both-both_pasts.result.1 c.args.seen.entries c.level.ensures.begins
    c.submit_with_both-both_pasts.ensures.learned c.submit_with_both-both_pasts.ensures.unlearned
    c.submit_with_both-both_pasts.ensures.err)

pub returns-clause-err : goal.returns-clause-err
returns-clause-err g c =
    let old : BothPastsValue = record { number = c.args.number; kept = c.level.new.kept; mine = c.level.new.mine } in
    subst (λ (v : BothPastsValue). OnErr c.submit_with_both-both_pasts.result.1
    ((c.submit_with_both-both_pasts.new.half ≡ c.args.half.now) × (v.kept ≡ c.args.kept)
    × ((v.mine.entries ≡ c.args.seen.entries) ⊎ (v.mine.entries ≡ c.args.kept.entries))))
    (sym c.both_pasts.view_is)
    (both_back old c.submit_with_both-both_pasts.result.0 c.args.space c.args.call.now _
    c.submit_with_both-both_pasts.result.1 c.args.kept c.args.seen.entries c.level.ensures.same
    c.in_default.ensures.level c.submit_with_both-both_pasts.ensures.err)

pub returns-clause-kept : goal.returns-clause-kept
returns-clause-kept g c =
    let old : BothPastsValue = record { number = c.args.number; kept = c.level.new.kept; mine = c.level.new.mine } in
    subst (λ (v : BothPastsValue). IfOk c.submit_with_both-both_pasts.result.1
    (λ ticket. v.kept.entries ≡ c.args.kept.entries
    ++ entries_of_call c.args.number c.args.space c.args.call.now ticket)) (sym c.both_pasts.view_is)
    (both_kept old c.submit_with_both-both_pasts.result.0 c.args.space c.args.call.now
    c.submit_with_both-both_pasts.result.1 c.args.kept c.level.ensures.same
    c.submit_with_both-both_pasts.ensures.learned c.submit_with_both-both_pasts.ensures.unlearned)
