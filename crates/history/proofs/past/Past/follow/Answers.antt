use Rattle.std.proofs.Common.{◌≡◌, ◌++◌, true, length, drop, ap, ◌∙◌, arith}
use Rattle.std.proofs.lemmas.List.{length-map}
use Rattle.history.specs.Blocks.{PlaceValue}
use Rattle.history.specs.Pasts.{PastValue}
use Rattle.history.proofs.Knowing.{followed, known_long}
use Rattle.history.proofs.past.Past.follow.Goals as goal

pub invariant_of-self-2 : goal.invariant_of-self-2
invariant_of-self-2 g c =
    let mine = c.self.inside.notes.items in
    let theirs = c.other.inside.notes.items in
    let answered : c.begin_in_block_before.result ≡ true = c.if-not-begin_in_block_before.false in
    let same = c.begin_in_block_before.ensures.same in
    let more : c.copy_rest.new.notes.items ≡ mine ++ drop (length mine) theirs =
    cc (c.copy_rest.ensures.new, c.in_ok-reserve.ensures.items, same.2, same.3) in
    rw (c.in_ok-place.ensures.place ∙ same.1)
    (followed (λ n. n.cell) (λ n. n.known) g.L.Founding.first c.other.inside.place mine theirs
    c.copy_rest.new.notes.items c.self.invariant.notes.entries c.other.invariant
    (c.begin_in_block_before.ensures.cells answered) (c.begin_in_block_before.ensures.begins answered) more).0

pub returns-clause-moved : goal.returns-clause-moved
returns-clause-moved g c = λ done.
    let mine = c.self.inside.notes.items in
    let theirs = c.other.inside.notes.items in
    let answered : c.begin_in_block_before.result ≡ true = c.if-not-begin_in_block_before.false in
    let same = c.begin_in_block_before.ensures.same in
    let more : c.copy_rest.new.notes.items ≡ mine ++ drop (length mine) theirs =
    cc (c.copy_rest.ensures.new, c.in_ok-reserve.ensures.items, same.2, same.3) in
    let all =
    (followed (λ n. n.cell) (λ n. n.known) g.L.Founding.first c.other.inside.place mine theirs
    c.copy_rest.new.notes.items c.self.invariant.notes.entries c.other.invariant
    (c.begin_in_block_before.ensures.cells answered) (c.begin_in_block_before.ensures.begins answered) more).1 in
    let old = c.other.view_is in
    let place = c.in_ok-place.ensures.place ∙ same.1 in
    let entries = all ∙ ap (λ (v : PastValue). v.entries) old in
    let blocks = ap (λ (v : PlaceValue). length v.links) place ∙ ap (λ (v : PastValue). v.blocks) old in
    let start = ap (λ (v : PlaceValue). v.start) place ∙ ap (λ (v : PastValue). v.start) old in
    let block = ap (λ (v : PlaceValue). v.block) place ∙ ap (λ (v : PastValue). v.block) old in (
      λ i. record { entries = entries i; blocks = blocks i; start = start i; block = block i },
      rw (← c.self.view_is, ← c.other.view_is)
          (omega (
            arith,
            c.begin_in_block_before.ensures.less answered,
            known_long _ c.self.invariant.notes.entries,
            known_long _ c.other.invariant.notes.entries,
            length-map mine (λ n. n.known),
            length-map theirs (λ n. n.known),
          )),
      rw (← c.self.view_is, ← c.other.view_is) (c.begin_in_block_before.ensures.begins answered),
    )
