-- A message that is ready carries rights to live ports only.
use Rattle.std.proofs.Common.{◌≡◌, ℕ, Bool, true, false, ◌&&◌, List, [], ◌∷◌, Option, None, Some, Result, Ok, refl, subst, arith}
use Rattle.std.specs.List.{list_all}
use Rattle.std.specs.Prelude.{IsSome, IfOk}
use Rattle.std.specs.FinMap as finmap
use Rattle.codes.specs.declared.kern_return.KernReturn.{KernReturn}
use Rattle.ipc_model.specs.declared.message.CarriedRight.{CarriedRight}
use Rattle.ipc_model.specs.declared.message.Message.{Message}
use Rattle.ipc_model.specs.declared.message.PortInMessage.{PortInMessage}
use Rattle.ipc_model.specs.declared.message.PortInMessage.TheVariants as in_message
use Rattle.ipc_model.specs.declared.message.RightKind.{RightKind}
use Rattle.ipc_model.specs.messages.Sending.{Ready, ready_to_send}
use Rattle.ipc_model.specs.state.Circular.{Acyclic}
use Rattle.ipc_model.specs.state.Lawful.{Lawful}
use Rattle.ipc_model.specs.state.Ipc.{Ipc, Names, lives}
use Rattle.ipc_laws.specs.Hands.{mid_of}
use Rattle.ipc_laws.specs.LawfulLaws.{at_rest}
use Rattle.ipc_laws.specs.MapSums.{weigh}
use Rattle.ipc_laws.specs.ReadyKeep.{MidReady, ready_mid}
use Rattle.ipc_laws.specs.Takes.{own_weight}
use Rattle.ipc_laws.specs.Weights.{any_of, carried_weigh, place_weigh, reply_weigh, message_weigh}
use Rattle.rights.specs.Passed.{carries_live, is_live, is_live_port, is_live_reply}
use Rattle.words.specs.Words.{AreBytes}

module _ (state : Ipc) where
  port_live : (kind : RightKind) (port : PortInMessage)
      → ((q : ℕ) → lives state q ≡ false → place_weigh (any_of q) kind port ≡ 0) → is_live_port state port ≡ true
  port_live kind in_message.Null none = refl
  port_live kind in_message.Dead none = refl
  port_live kind (in_message.Live serial) none =
      elim (lives state serial) as (λ (b : Bool). lives state serial ≡ b → b ≡ true) [
        | true ↦ λ (_ : _). refl
        | false ↦ λ (dead : _). absurd (omega (arith, none serial dead, own_weight serial kind))
      ] refl

  reply_live : (reply : Option CarriedRight) → ((q : ℕ) → lives state q ≡ false → reply_weigh (any_of q) reply ≡ 0)
      → is_live_reply state reply ≡ true
  reply_live None none = refl
  reply_live (Some right) none = port_live right.kind right.port none

  both : (b c : Bool) → b ≡ true → c ≡ true → (b && c) ≡ true
  both true c one two = two
  both false c one two = absurd (cc one)

  rights_live : (rights : List CarriedRight)
      → ((q : ℕ) → lives state q ≡ false → weigh (carried_weigh (any_of q)) rights ≡ 0)
      → list_all (is_live state) rights ≡ true
  rights_live [] none = refl
  rights_live (right ∷ rights) none =
      both (is_live state right) (list_all (is_live state) rights)
      (port_live right.kind right.port (λ q dead. omega (arith, none q dead)))
      (rights_live rights (λ q dead. omega (arith, none q dead)))

  message_live : (queue : ℕ) (message : Message)
      → ((q : ℕ) → lives state q ≡ false → message_weigh (any_of q) queue message ≡ 0)
      → carries_live state message ≡ true
  message_live queue message none =
      both (is_live_reply state message.reply) (list_all (is_live state) message.rights)
      (reply_live message.reply (λ q dead. omega (arith, none q dead)))
      (rights_live message.rights (λ q dead. omega (arith, none q dead)))

pub ready_live : (old : Ipc) (space : ℕ) (bytes : List ℕ) (ready : Ready) → AreBytes bytes → Lawful old → Acyclic old
    → IsSome (finmap.get old.spaces space) → ready_to_send old space bytes ≡ Ok ready
    → carries_live ready.state ready.message ≡ true
ready_live old space bytes ready fits lawful acyclic there is = by_case (finmap.get old.spaces space) refl there
  where
    of_mid : MidReady ready → carries_live ready.state ready.message ≡ true
    of_mid mid = message_live ready.state ready.port ready.message (λ q dead. mid.mid.in_hand q dead)

    by_case : (o : Option Names) → finmap.get old.spaces space ≡ o → IsSome o
        → carries_live ready.state ready.message ≡ true
    by_case None at some = absurd (cc some)
    by_case (Some names) at some =
        let done : IfOk (ready_to_send old space bytes) MidReady =
        ready_mid old space names bytes fits (mid_of old (at_rest old lawful) acyclic) at in
        of_mid (subst (λ (r : Result Ready KernReturn). IfOk r MidReady) is done)
