-- The numbers of rights to a port, over all spaces and all queues.
use Rattle.std.specs.Prelude.{◌≡◌, ℕ, ◌+◌, Bool, ◌&&◌, ◌==◌, cond, List, [], ◌∷◌, count_by, refl}
use Rattle.std.proofs.Common.{◌∙◌, sym, arith}
use Rattle.std.proofs.lemmas.List.Sums.{sum_by-cons}
use Rattle.ipc_laws.specs.MapSums.{total, weigh}
use Rattle.ipc_laws.specs.Weights.{names_weigh, port_weigh, state_weigh, weigh-placed}
use Rattle.ipc_model.specs.declared.message.RightKind.{RightKind}
use Rattle.ipc_model.specs.state.Placed.{Right, count_of, placed, same_kind}
use Rattle.ipc_model.specs.state.Ipc.{Ipc}
use Rattle.spaces.specs.Passed.{right_weight}

count_weighs : {X : Type 0} (test : X → Bool) (xs : List X) → count_by test xs ≡ weigh (λ x. cond (test x) 1 0) xs
count_weighs test [] = refl
count_weighs test (x ∷ xs) = sum_by-cons (λ y. cond (test y) 1 0) x xs ∙ omega (arith, count_weighs test xs)

-- the count is the sum of the rights in spaces and the rights in ports, each with the targets of requests
pub counted_apart : (wanted : RightKind) (state : Ipc) (serial : ℕ)
    → total (λ space names. names_weigh (right_weight wanted serial) names) state.spaces + total
    (port_weigh (right_weight wanted serial)) state.ports ≡ count_of wanted state serial
unfolding state_weigh
counted_apart wanted state serial =
    sym (count_weighs (λ (r : Right). same_kind r.kind wanted && r.port == serial) (placed state)
    ∙ weigh-placed (right_weight wanted serial) state)
