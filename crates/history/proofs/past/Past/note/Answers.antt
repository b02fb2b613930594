use Rattle.std.proofs.Common.{◌≡◌, ◌+◌, ℕ, Some, length, slice_get, ap, sym, ◌∙◌, arith}
use Rattle.std.proofs.lemmas.List.{length-map}
use Rattle.history.specs.Pasts.{PastValue}
use Rattle.history.proofs.Knowing.{known_entry, known_long, seen_cell}
use Rattle.history.proofs.past.Past.note.Goals as goal

pub again_at-note-requires : goal.again_at-note-requires
again_at-note-requires g c =
    omega (
      arith,
      c.if-at-all.false,
      c.len.ensures,
      c.start.ensures.start,
      c.start-2.ensures,
      known_long _ c.self.invariant.notes.entries,
      length-map c.self.inside.notes.items (λ n. n.known),
      ap (λ (v : PastValue). v.start) c.self.view_is,
      ap (λ (v : PastValue). length v.entries) c.self.view_is,
    )

pub returns-clause-note : goal.returns-clause-note
returns-clause-note g c =
    let place = c.self.inside.place in
    let items = c.self.inside.notes.items in
    let note = c.again_at-note.result in
    let at : slice_get items (place.start + c.args.at) ≡ Some note =
    ap (λ (s : ℕ). slice_get items (s + c.args.at)) (sym c.start-2.ensures) ∙ c.again_at-note.ensures.note in
    let known =
    known_entry (λ n. n.cell) (λ n. n.known) items note (place.start + c.args.at) c.self.invariant.notes.entries at in
    rw (← c.self.view_is) (
      seen_cell (λ n. n.cell) (λ n. n.known) g.L.Founding.first place.block place.links place.start c.args.at items
          note c.block.ensures.here c.self.invariant.notes at,
      known.0,
      known.1,
    )
