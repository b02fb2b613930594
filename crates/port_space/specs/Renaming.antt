-- An entry of a space that moves to another name.
use Rattle.std.specs.Prelude.{ℕ, None, Some}
use Rattle.std.specs.FinMap as map
use Rattle.ipc_model.specs.state.Ipc.{Names}

-- the names after the entry of one name, if there is one, moved to another name
abbrev pub under_other_name : Names → ℕ → ℕ → Names
under_other_name names from to =
    elim (map.get names from) as (λ _. Names)
    [ None ↦ names | Some entry ↦ map.insert (map.remove names from) to entry ]
