-- A space that doesn't exist has no names.
use Rattle.std.proofs.Common.{◌≡◌, ℕ, None, ap, ◌∙◌}
use Rattle.std.specs.Prelude.{[]}
use Rattle.std.specs.FinMap as finmap
use Rattle.ipc_model.specs.calls.PortCalls.{names_in}
use Rattle.ipc_laws.specs.MapLaws.{entries_none}
use Rattle.ipc_model.specs.state.Ipc.{Ipc, Names}
use Rattle.ipc_state.specs.There.{or_empty}

module _ (state : Ipc) (space : ℕ) (gone : finmap.get state.spaces space ≡ None) where
  no_names : names_in state space ≡ finmap.empty
  no_names = ap or_empty gone

  pub no_entries : finmap.entries (names_in state space) ≡ []
  no_entries = ap (λ (names : Names). finmap.entries names) no_names ∙ entries_none
