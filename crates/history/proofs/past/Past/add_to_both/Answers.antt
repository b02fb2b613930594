use Rattle.std.proofs.Common.{◌≡◌, ◌-◌, ◌≤◌, [], ◌∷◌, ◌++◌, length, map, drop, subst, sym, ◌∙◌, ap, arith}
use Rattle.std.proofs.lemmas.List.{length-map, length_push}
use Rattle.history.specs.Entries.{Begins}
use Rattle.history.specs.Blocks.{PlaceValue}
use Rattle.history.specs.Pasts.{PastValue, known_entries}
use Rattle.history.proofs.Places.{same_whole}
use Rattle.history.proofs.Knowing.{known_long, alongside, learned}
use Rattle.history.proofs.Beginnings.{begins_same}
use Rattle.history.proofs.past.Past.add_to_both.Goals as goal

pub compare_last-requires-clause-within : goal.compare_last-requires-clause-within
compare_last-requires-clause-within g c =
    let now = c.self.view_is ∙ c.in-Ok.ensures.ok in
    let one = length_push c.args.self.now.entries c.args.entry in
    let mine = known_long _ c.other.invariant.notes.entries in
    let theirs = known_long _ c.self.invariant.notes.entries in (
      omega (arith, c.in_ok-reserve.ensures.len, c.other.inside.notes.ok, ap length c.in_ok-reserve.ensures.items),
      omega (
        arith,
        c.in_ok-reserve.ensures.len,
        c.other.inside.notes.ok,
        mine,
        theirs,
        one,
        c.requires.entries,
        ap (λ (v : PastValue). length v.entries) now,
        ap (λ (v : PastValue). length v.entries) c.other.view_is,
        length-map c.other.inside.notes.items (λ n. n.known),
        length-map c.self.inside.notes.items (λ n. n.known),
      ),
    )

pub compare_last-requires-clause-cell : goal.compare_last-requires-clause-cell
compare_last-requires-clause-cell g c = λ some.
    let now = c.self.view_is ∙ c.in-Ok.ensures.ok in
    let one = length_push c.args.self.now.entries c.args.entry in
    let mine = known_long _ c.other.invariant.notes.entries in
    let theirs = known_long _ c.self.invariant.notes.entries in
    let long : length c.other.inside.place.links ≡ length c.self.inside.place.links =
    ap (λ (v : PastValue). v.blocks) c.other.view_is
    ∙ (sym c.requires.blocks ∙ sym (ap (λ (v : PastValue). v.blocks) now)) in
    let links = same_whole c.other.inside.place.links c.self.inside.place.links long c.agree.ensures.begins in
    rw c.in_ok-reserve.ensures.items
    (alongside g.L.Founding.first c.other.inside.place.links c.self.inside.place.links _ _ _ _
    (c.len-own.result - 1) c.other.invariant.notes c.self.invariant.notes links
    (omega (
      arith,
      some,
      c.in_ok-reserve.ensures.len,
      c.other.inside.notes.ok,
      length-map c.other.inside.notes.items (λ n. n.cell),
    ))
    (omega (
      arith,
      some,
      c.in_ok-reserve.ensures.len,
      c.other.inside.notes.ok,
      mine,
      theirs,
      one,
      c.requires.entries,
      ap (λ (v : PastValue). length v.entries) now,
      ap (λ (v : PastValue). length v.entries) c.other.view_is,
      length-map c.other.inside.notes.items (λ n. n.known),
      length-map c.self.inside.notes.items (λ n. n.known),
      length-map c.self.inside.notes.items (λ n. n.cell),
    )))

pub copy_rest-requires : goal.copy_rest-requires
copy_rest-requires g c =
    let now = c.self.view_is ∙ c.in-Ok.ensures.ok in
    let one = length_push c.args.self.now.entries c.args.entry in
    let mine = known_long _ c.other.invariant.notes.entries in
    let theirs = known_long _ c.self.invariant.notes.entries in
    omega (
      arith,
      c.compare_last.ensures.room,
      ap length c.compare_last.ensures.same_theirs,
      c.in_ok-reserve.ensures.ok,
      c.in_ok-reserve.ensures.len,
      c.other.inside.notes.ok,
      mine,
      theirs,
      one,
      c.requires.entries,
      ap (λ (v : PastValue). length v.entries) now,
      ap (λ (v : PastValue). length v.entries) c.other.view_is,
      length-map c.other.inside.notes.items (λ n. n.known),
      length-map c.self.inside.notes.items (λ n. n.known),
    )

pub invariant_of-other-in-Ok : goal.invariant_of-other-in-Ok
invariant_of-other-in-Ok g c =
    let now = c.self.view_is ∙ c.in-Ok.ensures.ok in
    let items = c.other.inside.notes.items in
    let all = c.self.inside.notes.items in
    let one = length_push c.args.self.now.entries c.args.entry in
    let long : length c.other.inside.place.links ≡ length c.self.inside.place.links =
    ap (λ (v : PastValue). v.blocks) c.other.view_is
    ∙ (sym c.requires.blocks ∙ sym (ap (λ (v : PastValue). v.blocks) now)) in
    let links = same_whole c.other.inside.place.links c.self.inside.place.links long c.agree.ensures.begins in
    let less : length items ≤ length all =
    omega (
      arith,
      known_long _ c.other.invariant.notes.entries,
      known_long _ c.self.invariant.notes.entries,
      one,
      c.requires.entries,
      ap (λ (v : PastValue). length v.entries) now,
      ap (λ (v : PastValue). length v.entries) c.other.view_is,
      length-map items (λ n. n.known),
      length-map all (λ n. n.known),
    ) in
    let more : c.copy_rest.new.notes.items ≡ items ++ drop (length items) all =
    cc (
      c.copy_rest.ensures.new,
      c.in_ok-reserve.ensures.items,
      c.compare_last.ensures.same_mine,
      c.compare_last.ensures.same_theirs,
    ) in
    let begins =
    rw c.in_ok-reserve.ensures.items at
    (c.compare_last.ensures.begins
    (omega (
      arith,
      c.in_ok-reserve.ensures.len,
      c.other.inside.notes.ok,
      ap length c.in_ok-reserve.ensures.items,
    ))) in
    rw c.agree.ensures.same.0 (learned (λ n. n.cell)
    (λ n. n.known) g.L.Founding.first c.other.inside.place c.self.inside.place items all
    c.copy_rest.new.notes.items c.other.invariant c.self.invariant links less begins more).0

pub returns-in-Ok-clause-ok : goal.returns-in-Ok-clause-ok
returns-in-Ok-clause-ok g c =
    let now = c.self.view_is ∙ c.in-Ok.ensures.ok in
    let old = c.other.view_is in
    let items = c.other.inside.notes.items in
    let all = c.self.inside.notes.items in
    let one = length_push c.args.self.now.entries c.args.entry in
    let long : length c.other.inside.place.links ≡ length c.self.inside.place.links =
    ap (λ (v : PastValue). v.blocks) old ∙ (sym c.requires.blocks ∙ sym (ap (λ (v : PastValue). v.blocks) now)) in
    let links = same_whole c.other.inside.place.links c.self.inside.place.links long c.agree.ensures.begins in
    let less : length items ≤ length all =
    omega (
      arith,
      known_long _ c.other.invariant.notes.entries,
      known_long _ c.self.invariant.notes.entries,
      one,
      c.requires.entries,
      ap (λ (v : PastValue). length v.entries) now,
      ap (λ (v : PastValue). length v.entries) old,
      length-map items (λ n. n.known),
      length-map all (λ n. n.known),
    ) in
    let more : c.copy_rest.new.notes.items ≡ items ++ drop (length items) all =
    cc (
      c.copy_rest.ensures.new,
      c.in_ok-reserve.ensures.items,
      c.compare_last.ensures.same_mine,
      c.compare_last.ensures.same_theirs,
    ) in
    let begins =
    rw c.in_ok-reserve.ensures.items at
    (c.compare_last.ensures.begins
    (omega (
      arith,
      c.in_ok-reserve.ensures.len,
      c.other.inside.notes.ok,
      ap length c.in_ok-reserve.ensures.items,
    ))) in
    let whole =
    (learned (λ n. n.cell) (λ n. n.known) g.L.Founding.first c.other.inside.place c.self.inside.place items all
    c.copy_rest.new.notes.items c.other.invariant c.self.invariant links less begins more).1 in
    let kept =
    ap (λ l. known_entries (map (λ n. n.known) l))
    (c.copy_rest.ensures.same ∙ c.compare_last.ensures.same_theirs) in
    let before : Begins c.args.other.now.entries (c.args.self.now.entries ++ c.args.entry ∷ []) =
    subst (λ (v : PastValue). Begins v.entries (c.args.self.now.entries ++ c.args.entry ∷ [])) old
    (subst (λ (v : PastValue). Begins (known_entries (map (λ n. n.known) items)) v.entries) now begins) in
    let same = begins_same c.args.other.now.entries c.args.self.now.entries c.args.entry before c.requires.entries in
    let entries = kept ∙ ap (λ (v : PastValue). v.entries) now in
    let blocks =
    ap (λ (v : PlaceValue). length v.links) c.agree.ensures.same.1 ∙ ap (λ (v : PastValue). v.blocks) now in
    let start = ap (λ (v : PlaceValue). v.start) c.agree.ensures.same.1 ∙ ap (λ (v : PastValue). v.start) now in
    let block = ap (λ (v : PlaceValue). v.block) c.agree.ensures.same.1 ∙ ap (λ (v : PastValue). v.block) now in
    let entries' = whole ∙ (ap (λ (v : PastValue). v.entries) now ∙ ap (λ l. l ++ c.args.entry ∷ []) same) in
    let blocks' =
    ap (λ (v : PlaceValue). length v.links) c.agree.ensures.same.0 ∙ ap (λ (v : PastValue). v.blocks) old in
    let start' = ap (λ (v : PlaceValue). v.start) c.agree.ensures.same.0 ∙ ap (λ (v : PastValue). v.start) old in
    let block' = ap (λ (v : PlaceValue). v.block) c.agree.ensures.same.0 ∙ ap (λ (v : PastValue). v.block) old in (
      λ i. record { entries = entries i; blocks = blocks i; start = start i; block = block i },
      λ i. record { entries = entries' i; blocks = blocks' i; start = start' i; block = block' i },
    )
