use Rattle.std.proofs.Common.{◌≡◌, length, ap, ◌∙◌, arith}
use Rattle.std.proofs.lemmas.List.{length-map}
use Rattle.history.specs.Blocks.{BlockNames, PlaceValue, names_after}
use Rattle.history.proofs.Links.{links_long, left_cell, left_start}
use Rattle.history.proofs.place.Place.left.Goals as goal

pub compare_at-requires-clause-cell : goal.compare_at-requires-clause-cell
compare_at-requires-clause-cell g c =
    let first = g.L.Founding.first in
    let at : c.len.result ≡ length c.args.self.now.links =
    omega (
      arith,
      links_long _ _ _ c.self.invariant.notes,
      length-map c.self.inside.links.items (λ n. n.known),
      c.self.inside.links.ok,
      ap (λ (v : PlaceValue). length v.links) c.self.view_is,
    ) in
    let cell =
    c.in_ok-start.ensures.cell ∙
    (ap (λ (n : BlockNames). n.link) c.deref.ensures
    ∙ (c.self.invariant.here.same_link ∙ ap
    (λ (v : PlaceValue). (names_after first v.links).link) c.self.view_is)) in
    left_cell (λ n. n.cell) (λ n. n.known) first c.other.inside.links.items c.args.self.now.links c.args.other.now.links
    c.len.result c.in_ok-start.note.cell c.other.invariant.notes
    (ap (λ (v : PlaceValue). v.links) c.other.view_is) at c.requires.more c.requires.begins cell

pub returns-clause-start : goal.returns-clause-start
returns-clause-start g c =
    let at : c.len.result ≡ length c.args.self.now.links =
    omega (
      arith,
      links_long _ _ _ c.self.invariant.notes,
      length-map c.self.inside.links.items (λ n. n.known),
      c.self.inside.links.ok,
      ap (λ (v : PlaceValue). length v.links) c.self.view_is,
    ) in
    left_start (λ n. n.cell) (λ n. n.known) g.L.Founding.first c.other.inside.links.items c.args.self.now.links
    c.args.other.now.links c.len.result c.in_ok-start.start c.in_ok-start.note.known c.other.invariant.notes
    (ap (λ (v : PlaceValue). v.links) c.other.view_is) at c.requires.more c.in_ok-start.ensures.start
    c.compare_at.ensures.known
