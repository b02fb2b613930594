-- A connection served as one session: how its conversation begins.
use Rattle.std.specs.Prelude.{◌≡◌, ℕ, List, [], Option, None, Some}
use Rattle.codes.specs.declared.name.TheConstants.{FIRST_SPACE}
use Rattle.frame_service.specs.Conversing.{Begins}
use Rattle.frame_service.specs.declared.conversation.Conversation.{Conversation}
use Rattle.ipc_model.specs.state.State.{State}
use Rattle.keepers.specs.Tokens.{SessionValue}
use Rattle.frame_service.specs.Boxes.{InboxValue, OutboxValue}
use Rattle.frame_service.specs.declared.inbox.Source.TheVariants.{Open}
use Rattle.socket_server.specs.Connecting.{AcknowledgesOne, AskedValue, ConnectedValue, LacksOne, LooksOne, MakesOne, answer_of}

-- a session that has made no call
pub record IsNewSession (session : SessionValue) : Type 0 where
  pub space : session.task.space ≡ FIRST_SPACE
  pub acknowledged : session.task.acknowledged ≡ 0
  pub tickets : session.task.tickets ≡ []
  pub places : session.task.places ≡ []

-- the caller of a connection that isn't confined yet
abbrev pub unconfined : SessionValue → ConnectedValue
unconfined session = record { session = Some session; since = None }

-- nothing came yet, and nothing is to go out
abbrev pub from_stream : {S : Type 0} → S → InboxValue S
from_stream stream = record { stream = stream; bytes = []; source = Open }

abbrev pub to_stream : {W : Type 0} → W → OutboxValue W
to_stream stream = record { stream = stream; bytes = [] }

module _ {S W Turn Known Latest : Type 0} (remaining : S → Option (List ℕ)) (contents : W → Option (List ℕ)) (base : State) where
  -- A conversation that begins with one new session of a store with this founding state, over these streams.
  abbrev pub BeginsNew : S → W → Conversation S W ConnectedValue AskedValue Turn Known Latest → Type 0
  BeginsNew reader writer talk =
      (session : SessionValue) × IsNewSession session
      × Begins remaining contents answer_of (MakesOne base) (LacksOne base) (AcknowledgesOne base)
      (λ old asked fault new. new ≡ old) (LooksOne base) (unconfined session) (from_stream reader) (to_stream writer) talk
