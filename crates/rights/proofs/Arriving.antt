-- MACH_PORT_NULL and MACH_PORT_DEAD change nothing when they arrive.
use Rattle.std.proofs.Common.{◌≡◌, ℕ, Some, refl, sym, ◌∙◌, ap}
use Rattle.std.specs.Ordering.{nat_cmp}
use Rattle.std.specs.FinMap as finmap
use Rattle.std.specs.FinMap.{FinMap}
use Rattle.ipc_model.specs.declared.message.PortInMessage.{PortInMessage}
use Rattle.ipc_model.specs.declared.message.PortInMessage.TheVariants as in_message
use Rattle.ipc_model.specs.declared.message.RightKind.{RightKind}
use Rattle.ipc_model.specs.rights.CopyOut.{names_after}
use Rattle.ipc_laws.specs.MapSums.{insert-same}
use Rattle.ipc_model.specs.state.Ipc.{Ipc, Names, with_names}

no_names_after : (names : Names) (kind : RightKind) (port : PortInMessage) (name : ℕ)
    → ((serial : ℕ) → port ≡ in_message.Live serial → ⊥) → names_after names kind port name ≡ names
no_names_after names kind in_message.Null name none = refl
no_names_after names kind in_message.Dead name none = refl
no_names_after names kind (in_message.Live serial) name none = absurd (none serial refl)

pub unmoved : (state : Ipc) (space : ℕ) (names : Names) (kind : RightKind) (port : PortInMessage) (name : ℕ)
    → ((serial : ℕ) → port ≡ in_message.Live serial → ⊥)
    → finmap.get state.spaces space ≡ Some names → state ≡ with_names state space (names_after names kind port name)
unmoved state space names kind port name none there =
    ap (λ (spaces : FinMap nat_cmp Names). record state { spaces = spaces })
    (sym (insert-same state.spaces space names there) ∙ ap
    (λ (n : Names). finmap.insert state.spaces space n) (sym (no_names_after names kind port name none)))
