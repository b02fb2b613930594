use Rattle.std.proofs.Common.{◌-◌, ◌≤◌, length, map, take, ap, ◌∙◌, arith}
use Rattle.std.proofs.lemmas.List.{length-map}
use Rattle.history.proofs.Knowing.{beyond, front_cells}
use Rattle.history.proofs.meeting.begin_in_block_before.Goals as goal

pub compare_last-requires-clause-within : goal.compare_last-requires-clause-within
compare_last-requires-clause-within g c =
    let mine = c.args.place.now.links in
    let theirs = c.args.later.now.links in
    let starts = rw (c.agree.ensures.same.0, c.agree.ensures.same.1) at c.in-Some.ensures.start in
    let less : length mine ≤ length theirs = omega (arith, c.requires.blocks) in
    let left =
    beyond g.L.Founding.first mine theirs _ _ _ _ c.in-Some.start c.requires.notes c.requires.more
    c.requires.leads (c.agree.ensures.begins less) starts in (
      omega (arith, c.args.notes.now.ok),
      omega (arith, left.0, c.args.notes.now.ok, length-map c.args.more.now.items (λ n. n.cell)),
    )

pub compare_last-requires-clause-cell : goal.compare_last-requires-clause-cell
compare_last-requires-clause-cell g c = λ some.
    let mine = c.args.place.now.links in
    let theirs = c.args.later.now.links in
    let starts = rw (c.agree.ensures.same.0, c.agree.ensures.same.1) at c.in-Some.ensures.start in
    let less : length mine ≤ length theirs = omega (arith, c.requires.blocks) in
    let left =
    beyond g.L.Founding.first mine theirs _ _ _ _ c.in-Some.start c.requires.notes c.requires.more
    c.requires.leads (c.agree.ensures.begins less) starts in
    left.1 (c.len-long.result - 1)
    (omega (arith, some, c.args.notes.now.ok, length-map c.args.notes.now.items (λ n. n.cell)))
    (omega (arith, some))

pub returns-clause-less : goal.returns-clause-less
returns-clause-less g c = λ answered.
    let mine = c.args.place.now.links in
    let theirs = c.args.later.now.links in
    let starts = rw (c.agree.ensures.same.0, c.agree.ensures.same.1) at c.in-Some.ensures.start in
    let less : length mine ≤ length theirs = omega (arith, c.requires.blocks) in
    let left =
    beyond g.L.Founding.first mine theirs _ _ _ _ c.in-Some.start c.requires.notes c.requires.more
    c.requires.leads (c.agree.ensures.begins less) starts in
    omega (arith, left.0, c.args.notes.now.ok, length-map c.args.more.now.items (λ n. n.cell))

pub returns-clause-cells : goal.returns-clause-cells
returns-clause-cells g c = λ answered.
    let mine = c.args.place.now.links in
    let theirs = c.args.later.now.links in
    let starts = rw (c.agree.ensures.same.0, c.agree.ensures.same.1) at c.in-Some.ensures.start in
    let less : length mine ≤ length theirs = omega (arith, c.requires.blocks) in
    let front =
    front_cells g.L.Founding.first mine theirs _ _ _ _ c.in-Some.start c.requires.notes c.requires.more
    c.requires.leads (c.agree.ensures.begins less) starts
    (omega (arith, c.args.notes.now.ok, length-map c.args.notes.now.items (λ n. n.cell))) in
    front ∙ ap (λ k. take k (map (λ n. n.cell) c.args.more.now.items)) (length-map c.args.notes.now.items (λ n. n.cell))
