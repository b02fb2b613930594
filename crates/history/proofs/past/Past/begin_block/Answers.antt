use Rattle.std.proofs.Common.{◌≡◌, ◌+◌, length, map, ap, ◌∙◌, arith}
use Rattle.std.specs.Arc.{arc_value}
use Rattle.std.proofs.lemmas.List.{length-map, length_push}
use Rattle.history.specs.Blocks.{PlaceValue}
use Rattle.history.specs.Pasts.{PastValue}
use Rattle.history.proofs.Knowing.{past_next, known_long}
use Rattle.history.proofs.past.Past.begin_block.Goals as goal

pub invariant_of-self-2 : goal.invariant_of-self-2
invariant_of-self-2 g c =
    let long : c.len.result ≡ length (map (λ n. n.cell) c.self.inside.notes.items) =
    omega (arith, c.self.inside.notes.ok, length-map c.self.inside.notes.items (λ n. n.cell)) in
    rw c.in_ok-begin.ensures.ok
    (past_next g.L.Founding.first
    (arc_value c.args.block) c.self.inside.place _ _ c.len.result c.self.invariant long)

pub returns-clause-ok : goal.returns-clause-ok
returns-clause-ok g c =
    let moved = c.in_ok-begin.ensures.ok in
    let old = c.self.view_is in
    let entries = ap (λ (v : PastValue). v.entries) old in
    let long : c.len.result ≡ length c.args.self.now.entries =
    omega (
      arith,
      c.self.inside.notes.ok,
      length-map c.self.inside.notes.items (λ n. n.known),
      known_long _ c.self.invariant.notes.entries,
      ap length entries,
    ) in
    let blocks : length c.begin.new.self.links ≡ c.args.self.now.blocks + 1 =
    ap (λ (v : PlaceValue). length v.links) moved
    ∙ (length_push c.self.inside.place.links _ ∙ ap (λ (v : PastValue). v.blocks + 1) old) in
    let start = ap (λ (v : PlaceValue). v.start) moved ∙ long in
    let block = ap (λ (v : PlaceValue). v.block) moved in
    λ i. record { entries = entries i; blocks = blocks i; start = start i; block = block i }
