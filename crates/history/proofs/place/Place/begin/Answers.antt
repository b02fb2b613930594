use Rattle.std.proofs.Common.{◌≡◌, ℕ, List, [], ◌∷◌, ◌++◌, ap, ◌∙◌}
use Rattle.std.specs.Arc.{arc_value}
use Rattle.history.specs.Blocks.{BlockNames, LinkValue, PlaceValue, names_after, next_names, names_of_numbers}
use Rattle.history.proofs.Links.{begins_block, links_more}
use Rattle.history.proofs.place.Place.begin.Goals as goal

-- what the new link says
link_is : (made : LinkValue) (here block : List ℕ) (h r : BlockNames) (long : ℕ)
    → made ≡ record { start = long; next = next_names (names_of_numbers here) long (names_of_numbers block) }
    → here ≡ h.link ∷ h.cells → block ≡ r.link ∷ r.cells → made ≡ record { start = long; next = next_names h long r }
link_is made here block h r long is a b =
    is ∙ ap (λ (n : List ℕ). let v : LinkValue = record {
      start = long;
      next = next_names (names_of_numbers n) long (names_of_numbers block);
    } in v) a
    ∙ ap (λ (n : List ℕ). let v : LinkValue = record { start = long; next = next_names h long (names_of_numbers n) } in
    v) b

pub invariant_of-self-in-Ok : goal.invariant_of-self-in-Ok
invariant_of-self-in-Ok g c =
    let first = g.L.Founding.first in
    let block = arc_value c.args.block in
    let tells =
    link_is c.new-link.result c.of-here.result.numbers c.of-own.result.numbers
    (names_after first c.args.self.now.links) block c.args.long c.new-link.ensures c.of-here.ensures
    (c.of-own.ensures ∙ ap (λ (n : BlockNames). n.link ∷ n.cells) c.deref.ensures) in
    begins_block (λ n. n.cell) (λ n. n.known) first c.self.inside.links.items c.push_reserved.new.self.items
    c.in-Ok.note c.new-link.result
    (arc_value c.self.inside.block) block c.self.inside.start c.args.long c.args.self.now.links
    c.self.invariant (ap (λ (v : PlaceValue). v.links) c.self.view_is)
    (c.push_reserved.ensures.items ∙ ap (λ l. l ++ c.in-Ok.note ∷ []) c.in_ok-reserve.ensures.items)
    (c.in-Ok.ensures.cell ∙ ap (λ (n : BlockNames). n.link) c.deref-2.ensures) c.in-Ok.ensures.known tells c.requires

pub returns-in-Ok-clause-ok : goal.returns-in-Ok-clause-ok
returns-in-Ok-clause-ok g c =
    let first = g.L.Founding.first in
    let block = arc_value c.args.block in
    let tells =
    link_is c.new-link.result c.of-here.result.numbers c.of-own.result.numbers
    (names_after first c.args.self.now.links) block c.args.long c.new-link.ensures c.of-here.ensures
    (c.of-own.ensures ∙ ap (λ (n : BlockNames). n.link ∷ n.cells) c.deref.ensures) in
    let all =
    links_more (λ n. n.cell) (λ n. n.known) first c.self.inside.links.items c.push_reserved.new.self.items
    c.in-Ok.note c.new-link.result
    (c.push_reserved.ensures.items ∙ ap (λ l. l ++ c.in-Ok.note ∷ []) c.in_ok-reserve.ensures.items)
    c.in-Ok.ensures.known in
    let links =
    all ∙ (ap (λ (v : PlaceValue). v.links ++ c.new-link.result ∷ []) c.self.view_is ∙ ap
    (λ (l : LinkValue). c.args.self.now.links ++ l ∷ []) tells) in
    λ i. record { links = links i; start = c.args.long; block = block }
