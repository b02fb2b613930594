-- The effect of a send.
use Rattle.std.specs.Prelude.{◌≡◌, ℕ, List, ◌++◌, Option, Result, Ok, Err}
use Rattle.codes.specs.declared.kern_return.KernReturn.{KernReturn}
use Rattle.codes.specs.declared.kern_return.KernReturn.TheVariants.{SendInvalidHeader}
use Rattle.ipc_model.specs.calls.Tests.{and_then, or_refused}
use Rattle.ipc_model.specs.declared.message.Message.{Message}
use Rattle.ipc_model.specs.effects.Effects.{Effect}
use Rattle.ipc_model.specs.messages.Items.{Item}
use Rattle.ipc_model.specs.messages.Messages.{UsedParts}
use Rattle.ipc_model.specs.messages.Sending.{Ready, header_disposition, reply_disposition, items_if_complex, ready_of_items, sent}
use Rattle.ipc_model.specs.rights.Dispositions.{Disposition}
use Rattle.ipc_model.specs.state.Ipc.{Ipc}

-- the message, its port and the new state are those of `ready`, whose notices are appended to the pending effects
abbrev pub ReadyIs : Ipc → List Effect → List Effect → Ready → Message × ℕ → Type 0
ReadyIs new waiting after ready found =
    (found.0 ≡ ready.message) × (found.1 ≡ ready.port) × (new ≡ ready.state) × (after ≡ waiting ++ ready.notices)

-- the message made ready, or the refusal, for a message of a valid size
abbrev pub of_dispositions : Ipc → ℕ → UsedParts → Result Ready KernReturn
of_dispositions state space parts =
    and_then (or_refused SendInvalidHeader (header_disposition parts.remote_disposition))
    (λ (destination : Disposition).
    and_then (reply_disposition parts.local_disposition parts.local) (λ (reply : Option Disposition).
    and_then (items_if_complex parts.complex parts.body)
    (λ (items : List Item). ready_of_items state space parts destination reply items)))

-- a message that was ready was sent
abbrev pub WasSent : Result Ready KernReturn → Ipc → List Effect → Type 0
WasSent (Ok ready) new effects = (new ≡ (sent ready).0) × (effects ≡ (sent ready).1)
WasSent (Err code) new effects = ⊥
