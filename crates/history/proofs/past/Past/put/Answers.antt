use Rattle.std.proofs.Common.{◌≡◌, ◌-◌, ◌≤◌, [], ◌∷◌, ◌++◌, Some, Err, length, slice_get, ap, sym, ◌∙◌, arith}
use Rattle.std.proofs.lemmas.List.{length-map}
use Rattle.history.specs.declared.fault.AddFault.TheVariants.{BlockFull}
use Rattle.history.specs.Entries.{numbers_of}
use Rattle.history.specs.Blocks.{BlockNames}
use Rattle.history.specs.Pasts.{PastValue}
use Rattle.history.proofs.Knowing.{past_more, entries_more, known_long, block_cell}
use Rattle.history.proofs.past.Past.put.Goals as goal

pub invariant_of-self-in-Ok : goal.invariant_of-self-in-Ok
invariant_of-self-in-Ok g c =
    let first = g.L.Founding.first in
    let place = c.self.inside.place in
    let items = c.self.inside.notes.items in
    let long : c.len.result ≡ length items = omega (arith, c.in_ok-reserve.ensures.len, c.self.inside.notes.ok) in
    let begun : place.start ≤ length items = omega (arith, c.self.invariant.begun, length-map items (λ n. n.cell)) in
    let same = block_cell first place.block place.links place.start (length items) c.block.ensures.here begun in
    let set : slice_get place.block.cells (length items - place.start) ≡ Some c.in-Ok.note.cell =
    cc (c.block.ensures.block, long, c.start.ensures, c.in-Ok.ensures.cell) in
    past_more (λ n. n.cell) (λ n. n.known) first place items c.push_reserved.new.self.items c.in-Ok.note c.args.held.value
    c.self.invariant (c.push_reserved.ensures.items ∙ ap (λ l. l ++ c.in-Ok.note ∷ []) c.in_ok-reserve.ensures.items)
    (sym same ∙ set) c.in-Ok.ensures.known
    (c.requires ∙ ap (λ (v : PastValue). numbers_of v.entries) (sym c.self.view_is))

pub returns-in-Ok-clause-ok : goal.returns-in-Ok-clause-ok
returns-in-Ok-clause-ok g c =
    let all =
    entries_more (λ n. n.cell) (λ n. n.known) c.self.inside.notes.items c.push_reserved.new.self.items c.in-Ok.note
    c.args.held.value
    (c.push_reserved.ensures.items ∙ ap (λ l. l ++ c.in-Ok.note ∷ []) c.in_ok-reserve.ensures.items)
    c.in-Ok.ensures.known in
    let entries = all ∙ ap (λ (v : PastValue). v.entries ++ c.args.held.value.entry ∷ []) c.self.view_is in
    let old = c.self.view_is in
    λ i. record {
      entries = entries i;
      blocks = (old i).blocks;
      start = (old i).start;
      block = (old i).block;
    }

pub returns-in-Err-clause-full : goal.returns-in-Err-clause-full
returns-in-Err-clause-full g c =
    let items = c.self.inside.notes.items in
    let long : c.len.result ≡ length items = omega (arith, c.in_ok-reserve.ensures.len, c.self.inside.notes.ok) in
    let begun : c.self.inside.place.start ≤ length items =
    omega (arith, c.self.invariant.begun, length-map items (λ n. n.cell)) in
    λ full.
    let why : c.in-Err.fault ≡ BlockFull = cc full in
    let past : length c.block.result.now.cells ≤ c.len.result - c.start.result = c.in-Err.ensures.full (ap Err why) in
    rw (← c.self.view_is) (omega (
      arith,
      past,
      ap (λ (n : BlockNames). length n.cells) c.block.ensures.block,
      c.start.ensures,
      known_long _ c.self.invariant.notes.entries,
      length-map items (λ n. n.known),
    ))
