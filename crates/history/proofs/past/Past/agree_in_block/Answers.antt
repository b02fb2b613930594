use Rattle.std.proofs.Common.{◌≡◌, ◌-◌, ◌≤◌, length, sym, ◌∙◌, ap, arith}
use Rattle.std.proofs.lemmas.List.{length-map}
use Rattle.history.specs.Pasts.{PastValue}
use Rattle.history.proofs.Places.{same_whole}
use Rattle.history.proofs.Knowing.{known_long, alongside}
use Rattle.history.proofs.past.Past.agree_in_block.Goals as goal

pub compare_last-requires-clause-cell : goal.compare_last-requires-clause-cell
compare_last-requires-clause-cell g c = λ some.
    let mine = c.self.inside.place.links in
    let theirs = c.other.inside.place.links in
    let long : length mine ≡ length theirs =
    ap (λ (v : PastValue). v.blocks) c.self.view_is
    ∙ (c.requires ∙ sym (ap (λ (v : PastValue). v.blocks) c.other.view_is)) in
    let same = same_whole mine theirs long c.agree.ensures.begins in
    alongside g.L.Founding.first mine theirs _ _ _ _
    (c.min-both.result - 1) c.self.invariant.notes c.other.invariant.notes same
    (omega (arith, some, c.self.inside.notes.ok, length-map c.self.inside.notes.items (λ n. n.cell)))
    (omega (arith, some, c.other.inside.notes.ok, length-map c.other.inside.notes.items (λ n. n.cell)))

pub returns-clause-begins : goal.returns-clause-begins
returns-clause-begins g c = λ less.
    let mine = c.self.inside.notes.items in
    let theirs = c.other.inside.notes.items in
    let short : length mine ≤ length theirs =
    omega (
      arith,
      less,
      known_long _ c.self.invariant.notes.entries,
      known_long _ c.other.invariant.notes.entries,
      length-map mine (λ n. n.known),
      length-map theirs (λ n. n.known),
      ap (λ (v : PastValue). length v.entries) c.self.view_is,
      ap (λ (v : PastValue). length v.entries) c.other.view_is,
    ) in
    rw (← c.self.view_is, ← c.other.view_is)
    (c.compare_last.ensures.begins
    (omega (
      arith,
      short,
      c.min-both.ensures,
      c.len.ensures,
      c.len-2.ensures,
      c.self.inside.notes.ok,
      c.other.inside.notes.ok,
    )))

pub returns-clause-goes_on : goal.returns-clause-goes_on
returns-clause-goes_on g c = λ less.
    let mine = c.self.inside.notes.items in
    let theirs = c.other.inside.notes.items in
    let short : length theirs ≤ length mine =
    omega (
      arith,
      less,
      known_long _ c.self.invariant.notes.entries,
      known_long _ c.other.invariant.notes.entries,
      length-map mine (λ n. n.known),
      length-map theirs (λ n. n.known),
      ap (λ (v : PastValue). length v.entries) c.self.view_is,
      ap (λ (v : PastValue). length v.entries) c.other.view_is,
    ) in
    rw (← c.self.view_is, ← c.other.view_is)
    (c.compare_last.ensures.goes_on
    (omega (
      arith,
      short,
      c.min-both.ensures,
      c.len.ensures,
      c.len-2.ensures,
      c.self.inside.notes.ok,
      c.other.inside.notes.ok,
    )))
