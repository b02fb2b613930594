-- How a conversation begins whose caller is that of a new session.
use Rattle.std.proofs.Common.{◌≡◌, ℕ, List, Option, subst}
use Rattle.frame_service.specs.Conversing.{Begins}
use Rattle.frame_service.specs.declared.conversation.Conversation.{Conversation}
use Rattle.ipc_model.specs.state.State.{State}
use Rattle.keepers.specs.Tokens.{SessionValue}
use Rattle.frame_service.specs.Boxes.{InboxValue, OutboxValue}
use Rattle.socket_server.specs.Connecting.{AcknowledgesOne, AskedValue, ConnectedValue, LacksOne, LooksOne, MakesOne, answer_of}
use Rattle.socket_server.specs.Serving.{BeginsNew, IsNewSession, from_stream, to_stream, unconfined}

module _ {S W Turn Known Latest : Type 0} (remaining : S → Option (List ℕ)) (contents : W → Option (List ℕ)) (base : State) where
  abbrev FirstBegins : ConnectedValue → InboxValue S → OutboxValue W
      → Conversation S W ConnectedValue AskedValue Turn Known Latest → Type 0
  FirstBegins =
      Begins remaining contents answer_of (MakesOne base) (LacksOne base) (AcknowledgesOne base)
      (λ old asked fault new. new ≡ old) (LooksOne base)

  pub begins_new : (reader : S) (writer : W) (talk : Conversation S W ConnectedValue AskedValue Turn Known Latest)
      (session : SessionValue) (first : ConnectedValue) (inbox : InboxValue S) (outbox : OutboxValue W)
      → first ≡ unconfined session → inbox ≡ from_stream reader → outbox ≡ to_stream writer → IsNewSession session
      → FirstBegins first inbox outbox talk → BeginsNew remaining contents base reader writer talk
  begins_new reader writer talk session first inbox outbox asks reads writes new begins = (
    session,
    new,
    subst (λ (a : ConnectedValue). FirstBegins a (from_stream reader) (to_stream writer) talk) asks
        (subst (λ (i : InboxValue S). FirstBegins first i (to_stream writer) talk) reads
        (subst (λ (o : OutboxValue W). FirstBegins first inbox o talk) writes begins)),
  )
