use Rattle.std.proofs.Common.{◌≡◌, ◌++◌, drop, map}
use Rattle.waiting.specs.Places.{place_of_name}
use Rattle.kernel.proofs.places.push_names.Given as goal

-- the places so far, followed by those of the remaining names, are all places
abbrev pub invariant-loop-name : goal.invariant-loop-name
invariant-loop-name l =
    l.places.items ++ map (place_of_name l.space) (drop l.name-index l.names) ≡ l.fn.places.items
    ++ map (place_of_name l.space) l.names
