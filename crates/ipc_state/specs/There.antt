-- Changes of the names of an existing space.
use Rattle.std.specs.Prelude.{◌≡◌, ℕ, Option, None, Some, IsSome, option_and_then}
use Rattle.std.proofs.Common.{refl, sym}
use Rattle.std.specs.Ordering.{nat_cmp}
use Rattle.std.specs.FinMap as finmap
use Rattle.ipc_model.specs.declared.entry.Entry.{Entry}
use Rattle.ipc_model.specs.calls.PortCalls.{names_in}
use Rattle.ipc_model.specs.state.Ipc.{Ipc, Names, entry_at, with_names, with_changed, with_entry, without_name}

abbrev pub or_empty : Option Names → Names
or_empty None = finmap.empty
or_empty (Some names) = names

abbrev changed_to : Ipc → ℕ → (Names → Names) → Option Names → Ipc
changed_to state space change None = state
changed_to state space change (Some names) = with_names state space (change names)

is_there : (state : Ipc) (space : ℕ) (change : Names → Names) (o : Option Names) → IsSome o
    → changed_to state space change o ≡ with_names state space (change (or_empty o))
is_there state space change None there = absurd (cc there)
is_there state space change (Some names) there = refl

module _ (state : Ipc) (space : ℕ) (there : IsSome (finmap.get state.spaces space)) where
  pub changed_there : (change : Names → Names)
      → with_changed state space change ≡ with_names state space (change (names_in state space))
  changed_there change = is_there state space change (finmap.get state.spaces space) there

  -- a name is added or replaced
  pub entry_put : (name : ℕ) (entry : Entry)
      → with_entry state space name entry ≡ with_names state space (finmap.insert (names_in state space) name entry)
  entry_put name entry = changed_there (λ (names : Names). finmap.insert names name entry)

  -- a name is removed
  pub name_gone : (name : ℕ) → without_name state space name
      ≡ with_names state space (finmap.remove (names_in state space) name)
  name_gone name = changed_there (λ (names : Names). finmap.remove names name)

-- the entry of a name, whether its space exists or not
pub entry_named : (state : Ipc) (space name : ℕ) → entry_at state space name ≡ finmap.get (names_in state space) name
entry_named state space name = go (finmap.get state.spaces space)
  where
    go : (o : Option Names) → option_and_then (λ (names : Names). finmap.get names name) o
        ≡ finmap.get (or_empty o) name
    go None = sym (finmap.get-empty nat_cmp name)
    go (Some names) = refl
