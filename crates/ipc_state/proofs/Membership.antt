-- A name is a member of a set if its port's numbers name the set.
use Rattle.std.proofs.Common.{◌≡◌, ℕ, eqb, Bool, false, cond, Option, None, Some, option_and_then, refl, sym, ◌∙◌, ap}
use Rattle.std.specs.FinMap as finmap
use Rattle.std.specs.Option.{option_eq}
use Rattle.ipc_model.specs.declared.entry.Entry.{Entry}
use Rattle.ipc_model.specs.declared.port.PortState.{PortState}
use Rattle.ipc_model.specs.state.Ipc.{Ipc, is_member, is_number, received_port}
use Rattle.ipc_state.specs.Members.{set_in}
use Rattle.ipc_state.specs.SetNames.{member_port}

named : (o : Option PortState) (set : ℕ)
    → option_eq eqb (option_and_then (λ (p : PortState). p.set) o) (Some set)
    ≡ elim o as (λ _. Bool) [ None ↦ false | Some port ↦ is_number port.set set ]
named None set = refl
named (Some port) set =
    elim port.set as (λ (s : Option ℕ). option_eq eqb s (Some set) ≡ is_number s set) [ None ↦ refl | Some n ↦ refl ]

pub member_if : (state : Ipc) (set port : ℕ) (o : Option Entry) (b : Bool)
    → option_and_then received_port o ≡ Some port → option_eq eqb (set_in state.ports port) (Some set) ≡ b
    → cond b (Some port) None ≡ member_port state set o
member_if state set port None b here is = absurd (cc here)
member_if state set port (Some entry) b here is =
    let member = sym (named (finmap.get state.ports port) set) ∙ is in
    let all =
    ap (λ (r : Option ℕ). elim (option_and_then (λ (serial : ℕ). finmap.get state.ports serial) r) as (λ _. Bool)
    [ None ↦ false | Some p ↦ is_number p.set set ]) here ∙ member in
    ap (λ (x : Bool). cond x (Some port) None) (sym all) ∙ ap
    (λ (r : Option ℕ). cond (is_member state set entry) r None) (sym here)
