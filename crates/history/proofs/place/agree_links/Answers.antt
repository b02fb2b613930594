use Rattle.std.proofs.Common.{slice_get, ap, sym, ◌∙◌, arith}
use Rattle.history.proofs.Links.{same_link_cell, links_next}
use Rattle.history.proofs.place.agree_links.Goals as goal

pub compare_at-requires-clause-cell : goal.compare_at-requires-clause-cell
compare_at-requires-clause-cell g c =
    let so_far = c.loop-at.invariant in
    let at = ap (λ l. slice_get l c.loop-at.at) (sym so_far.1) ∙ c.again_at-note.ensures.note in
    rw so_far.0 (same_link_cell (λ n. n.cell)
    (λ n. n.known) g.L.Founding.first c.args.mine.now.items c.args.theirs.now.items c.again_at-note.result
    c.loop-at.at c.requires.mine c.requires.theirs so_far.2 at (omega arith))

pub loop-at-preserved : goal.loop-at-preserved
loop-at-preserved g c =
    let so_far = c.loop-at.invariant in
    let at = ap (λ l. slice_get l c.loop-at.at) (sym so_far.1) ∙ c.again_at-note.ensures.note in
    let known = rw so_far.0 at c.compare_at.ensures.known in (
      c.compare_at.ensures.same ∙ so_far.0,
      c.again_at-note.ensures.same ∙ so_far.1,
      links_next (λ n. n.cell) (λ n. n.known) g.L.Founding.first c.args.mine.now.items c.args.theirs.now.items
          c.again_at-note.result c.loop-at.at c.requires.mine c.requires.theirs so_far.2 at (omega arith) known,
    )
