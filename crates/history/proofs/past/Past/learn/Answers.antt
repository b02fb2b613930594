use Rattle.std.proofs.Common.{◌≡◌, ◌≤◌, ◌++◌, length, map, drop, sym, ◌∙◌, ap, arith}
use Rattle.std.proofs.lemmas.List.{length-map}
use Rattle.history.specs.Blocks.{PlaceValue}
use Rattle.history.specs.Pasts.{PastValue, known_entries}
use Rattle.history.proofs.Places.{same_whole}
use Rattle.history.proofs.Knowing.{known_long, learned}
use Rattle.history.proofs.Placed.{begins_split, begins_itself, nothing_more}
use Rattle.history.proofs.past.Past.learn.Goals as goal

pub invariant_of-self-then-own-theirs : goal.invariant_of-self-then-own-theirs
invariant_of-self-then-own-theirs g c =
    let place = c.self.inside.place in
    let other = c.other.inside.place in
    let mine = c.self.inside.notes.items in
    let theirs = c.other.inside.notes.items in
    let long : length place.links ≡ length other.links =
    ap (λ (v : PastValue). v.blocks) c.self.view_is
    ∙ (c.requires ∙ sym (ap (λ (v : PastValue). v.blocks) c.other.view_is)) in
    let links = same_whole place.links other.links long c.agree.ensures.begins in
    let more : c.copy_rest.new.notes.items ≡ mine ++ drop (length mine) theirs =
    cc (
      c.copy_rest.ensures.new,
      c.in_ok-reserve.ensures.items,
      c.compare_last.ensures.same_mine,
      c.compare_last.ensures.same_theirs,
    ) in
    let begins = c.compare_last.ensures.begins (omega (arith, c.self.inside.notes.ok, c.other.inside.notes.ok)) in
    rw c.agree.ensures.same.0 (learned (λ n. n.cell)
    (λ n. n.known) g.L.Founding.first place other mine theirs c.copy_rest.new.notes.items c.self.invariant c.other.invariant links
    (omega (arith, c.self.inside.notes.ok, c.other.inside.notes.ok)) begins more).0

pub returns-in_ok-reserve-clause-ok : goal.returns-in_ok-reserve-clause-ok
returns-in_ok-reserve-clause-ok g c =
    let place = c.self.inside.place in
    let other = c.other.inside.place in
    let mine = c.self.inside.notes.items in
    let theirs = c.other.inside.notes.items in
    let long : length place.links ≡ length other.links =
    ap (λ (v : PastValue). v.blocks) c.self.view_is
    ∙ (c.requires ∙ sym (ap (λ (v : PastValue). v.blocks) c.other.view_is)) in
    let links = same_whole place.links other.links long c.agree.ensures.begins in
    let more : c.copy_rest.new.notes.items ≡ mine ++ drop (length mine) theirs =
    cc (
      c.copy_rest.ensures.new,
      c.in_ok-reserve.ensures.items,
      c.compare_last.ensures.same_mine,
      c.compare_last.ensures.same_theirs,
    ) in
    let begins = c.compare_last.ensures.begins (omega (arith, c.self.inside.notes.ok, c.other.inside.notes.ok)) in
    let all =
    (learned (λ n. n.cell) (λ n. n.known) g.L.Founding.first place other mine theirs c.copy_rest.new.notes.items c.self.invariant c.other.invariant links
    (omega (arith, c.self.inside.notes.ok, c.other.inside.notes.ok)) begins more).1 in
    let own = ap (λ (v : PastValue). v.entries) c.self.view_is in
    let others = ap (λ (v : PastValue). v.entries) c.other.view_is in
    let entries =
    all ∙ (begins_split (known_entries (map (λ n. n.known) mine)) (known_entries (map (λ n. n.known) theirs)) begins
    ∙ (λ i. own i ++ drop (length (own i)) (others i))) in
    let moved = c.agree.ensures.same.0 in
    let old = c.self.view_is in
    let blocks = ap (λ (v : PlaceValue). length v.links) moved ∙ ap (λ (v : PastValue). v.blocks) old in
    let start = ap (λ (v : PlaceValue). v.start) moved ∙ ap (λ (v : PastValue). v.start) old in
    let block = ap (λ (v : PlaceValue). v.block) moved ∙ ap (λ (v : PastValue). v.block) old in
    λ i. record { entries = entries i; blocks = blocks i; start = start i; block = block i }

pub returns-in_ok-reserve-clause-begins : goal.returns-in_ok-reserve-clause-begins
returns-in_ok-reserve-clause-begins g c =
    let place = c.self.inside.place in
    let other = c.other.inside.place in
    let mine = c.self.inside.notes.items in
    let theirs = c.other.inside.notes.items in
    let long : length place.links ≡ length other.links =
    ap (λ (v : PastValue). v.blocks) c.self.view_is
    ∙ (c.requires ∙ sym (ap (λ (v : PastValue). v.blocks) c.other.view_is)) in
    let links = same_whole place.links other.links long c.agree.ensures.begins in
    let more : c.copy_rest.new.notes.items ≡ mine ++ drop (length mine) theirs =
    cc (
      c.copy_rest.ensures.new,
      c.in_ok-reserve.ensures.items,
      c.compare_last.ensures.same_mine,
      c.compare_last.ensures.same_theirs,
    ) in
    let begins = c.compare_last.ensures.begins (omega (arith, c.self.inside.notes.ok, c.other.inside.notes.ok)) in
    let all =
    (learned (λ n. n.cell) (λ n. n.known) g.L.Founding.first place other mine theirs c.copy_rest.new.notes.items c.self.invariant c.other.invariant links
    (omega (arith, c.self.inside.notes.ok, c.other.inside.notes.ok)) begins more).1 in
    rw (all, ← c.self.view_is, ← c.other.view_is) (begins, begins_itself _)

-- the other has nothing more
pub returns-else-own-theirs-clause-ok : goal.returns-else-own-theirs-clause-ok
returns-else-own-theirs-clause-ok g c =
    let mine = c.self.inside.notes.items in
    let theirs = c.other.inside.notes.items in
    let old = c.self.view_is in
    let moved = c.agree.ensures.same.0 in
    let less : length theirs ≤ length mine = omega (arith, c.self.inside.notes.ok, c.other.inside.notes.ok) in
    let none : length c.args.other.now.entries ≤ length c.args.self.now.entries =
    omega (
      arith,
      less,
      known_long _ c.self.invariant.notes.entries,
      known_long _ c.other.invariant.notes.entries,
      length-map mine (λ n. n.known),
      length-map theirs (λ n. n.known),
      ap (λ (v : PastValue). length v.entries) old,
      ap (λ (v : PastValue). length v.entries) c.other.view_is,
    )
    in
    let entries =
    ap (λ l. known_entries (map (λ n. n.known) l)) c.compare_last.ensures.same_mine
    ∙ (ap (λ (v : PastValue). v.entries) old
    ∙ nothing_more c.args.self.now.entries c.args.other.now.entries none) in
    let blocks = ap (λ (v : PlaceValue). length v.links) moved ∙ ap (λ (v : PastValue). v.blocks) old in
    let start = ap (λ (v : PlaceValue). v.start) moved ∙ ap (λ (v : PastValue). v.start) old in
    let block = ap (λ (v : PlaceValue). v.block) moved ∙ ap (λ (v : PastValue). v.block) old in
    λ i. record { entries = entries i; blocks = blocks i; start = start i; block = block i }

pub returns-else-own-theirs-clause-begins : goal.returns-else-own-theirs-clause-begins
returns-else-own-theirs-clause-begins g c =
    rw (c.compare_last.ensures.same_mine, ← c.self.view_is, ← c.other.view_is) (
      begins_itself _,
      c.compare_last.ensures.goes_on
          (omega (arith, c.self.inside.notes.ok, c.other.inside.notes.ok)),
    )
