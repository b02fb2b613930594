use Rattle.std.proofs.Common.{◌≡◌, map, take}
use Rattle.history.specs.Blocks.{known_links}
use Rattle.history.proofs.place.agree_links.Given as goal

abbrev pub invariant-loop-at : goal.invariant-loop-at
invariant-loop-at g l =
    (l.mine.items ≡ l.initial.mine.items) × (l.theirs.items ≡ l.initial.theirs.items)
    × (take l.at (known_links (map (λ n. n.known) l.initial.mine.items))
    ≡ take l.at (known_links (map (λ n. n.known) l.initial.theirs.items)))
