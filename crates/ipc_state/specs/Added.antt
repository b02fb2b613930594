-- A space that was added and immediately changed.
use Rattle.std.specs.Prelude.{◌≡◌, ℕ, cond, Bool, Some}
use Rattle.std.proofs.Common.{◌∙◌, ap}
use Rattle.std.specs.Cmp.{nat_cmp_total}
use Rattle.std.specs.Ordering.{nat_cmp}
use Rattle.std.specs.FinMap as finmap
use Rattle.std.specs.FinMap.{FinMap, get-insert}
use Rattle.ipc_laws.specs.MapSums.{insert-insert, same_key}
use Rattle.ipc_model.specs.calls.PortCalls.{names_in}
use Rattle.ipc_model.specs.state.Ipc.{Ipc, Names, with_names}
use Rattle.ipc_state.specs.There.{or_empty}

module _ (state : Ipc) (space : ℕ) (names : Names) where
  pub added_there : finmap.get (with_names state space names).spaces space ≡ Some names
  added_there =
      get-insert nat_cmp_total state.spaces space names space
      ∙ ap (λ (b : Bool). cond b (Some names) (finmap.get state.spaces space)) (same_key space)

  pub names_added : names_in (with_names state space names) space ≡ names
  names_added = ap or_empty added_there

  pub added_again : (others : Names)
      → with_names (with_names state space names) space others ≡ with_names state space others
  added_again others =
      ap (λ (spaces : FinMap nat_cmp Names). record state { spaces = spaces })
      (insert-insert state.spaces space names others)
