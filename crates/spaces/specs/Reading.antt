-- The names of one space, or none if it doesn't exist.
use Rattle.std.proofs.Common.{◌≡◌, ℕ, ◌<◌, ◌&&◌, ◌==◌, not, false, List, Option, None, Some, option_map, sym, ◌∙◌, ap}
use Rattle.std.specs.Prelude.{find}
use Rattle.std.specs.List.{list_any}
use Rattle.std.specs.Ordering.{nat_cmp}
use Rattle.std.specs.FinMap.{empty, get, len, get-empty, len-empty}
use Rattle.codes.specs.declared.name.TheConstants.{MACH_PORT_DEAD}
use Rattle.ipc_laws.specs.MapLaws.{entries_none}
use Rattle.ipc_model.specs.calls.PortCalls.{stands_elsewhere}
use Rattle.ipc_model.specs.declared.entry.Entry.{Entry}
use Rattle.ipc_model.specs.state.Ipc.{Names, IsUnused, is_number, name_of_port, port_held}
use Rattle.spaces.specs.Slots.{SpaceMap}

abbrev pub names_of : SpaceMap → ℕ → Names
names_of spaces space = elim (get spaces space) as (λ _. Names) [ None ↦ empty | Some names ↦ names ]

module _ (spaces : SpaceMap) (space : ℕ) (gone : None ≡ get spaces space) where
  pub no_names : names_of spaces space ≡ empty
  no_names = ap (λ (o : Option Names). elim o as (λ _. Names) [ None ↦ empty | Some n ↦ n ]) (sym gone)

  pub none_counted : 0 ≡ len (names_of spaces space)
  none_counted = sym (ap (λ (n : Names). len n) no_names ∙ len-empty nat_cmp Entry)

  pub no_name : (name : ℕ) → get (names_of spaces space) name ≡ None
  no_name name = ap (λ (n : Names). get n name) no_names ∙ get-empty nat_cmp name

  pub no_port : (port : ℕ) → None ≡ name_of_port (names_of spaces space) port
  no_port port =
      sym (ap (λ (n : Names). name_of_port n port) no_names ∙ ap
      (λ (es : List (ℕ × Entry)). option_map (λ e. e.0) (find (λ e. is_number (port_held e.1) port) es))
      entries_none)

  pub nowhere : (name port : ℕ) → false ≡ stands_elsewhere (names_of spaces space) name port
  nowhere name port =
      sym (ap (λ (n : Names). stands_elsewhere n name port) no_names ∙ ap
      (λ (es : List (ℕ × Entry)). list_any (λ e. is_number (port_held e.1) port && not (e.0 == name)) es)
      entries_none)

  pub unused : (name : ℕ) → 0 < name → name < MACH_PORT_DEAD → IsUnused (names_of spaces space) name
  unused name least below = record { least = least; below_dead = below; free = no_name name }
