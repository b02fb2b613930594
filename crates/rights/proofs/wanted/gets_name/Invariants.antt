use Rattle.std.proofs.Common.{◌≡◌, ◌==◌, [], take, false}
use Rattle.std.specs.List.{list_any}
use Rattle.rights.specs.Wanting.{named_after}
use Rattle.rights.proofs.wanted.gets_name.Given as goal

abbrev pub invariant-loop-right : goal.invariant-loop-right
invariant-loop-right l = list_any (λ named. named == l.port) (named_after [] (take l.right-index l.rights)) ≡ false
