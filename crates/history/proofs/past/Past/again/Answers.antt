use Rattle.std.proofs.Common.{◌≡◌, ◌++◌, length, map, drop, ap, ◌∙◌}
use Rattle.history.specs.Blocks.{PlaceValue}
use Rattle.history.specs.Pasts.{PastValue, known_entries}
use Rattle.history.proofs.Knowing.{again}
use Rattle.history.proofs.past.Past.again.Goals as goal

pub invariant_of-result : goal.invariant_of-result
invariant_of-result g c =
    let items =
    c.copy_rest.ensures.new ∙ ap (λ l. l ++ drop (length l) c.self.inside.notes.items) c.in_ok-notes.ensures.items
    in
    again (λ n. n.cell) (λ n. n.known) g.L.Founding.first c.self.inside.place c.in_ok-place.place
    c.self.inside.notes.items c.copy_rest.new.notes.items c.self.invariant c.in_ok-place.ensures.place items

pub returns-clause-past : goal.returns-clause-past
returns-clause-past g c =
    let old = c.self.view_is in
    let place = c.in_ok-place.ensures.place in
    let items : c.copy_rest.new.notes.items ≡ c.self.inside.notes.items =
    c.copy_rest.ensures.new ∙ ap (λ l. l ++ drop (length l) c.self.inside.notes.items) c.in_ok-notes.ensures.items
    in
    let entries = ap (λ l. known_entries (map (λ n. n.known) l)) items ∙ ap (λ (v : PastValue). v.entries) old in
    let blocks = ap (λ (v : PlaceValue). length v.links) place ∙ ap (λ (v : PastValue). v.blocks) old in
    let start = ap (λ (v : PlaceValue). v.start) place ∙ ap (λ (v : PastValue). v.start) old in
    let block = ap (λ (v : PlaceValue). v.block) place ∙ ap (λ (v : PastValue). v.block) old in
    λ i. record { entries = entries i; blocks = blocks i; start = start i; block = block i }
