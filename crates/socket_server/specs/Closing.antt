-- Why a worker may close a connection.
use Rattle.std.specs.Prelude.{◌≡◌, ◌≢◌, ◌⊎◌, true, is_some, length}
use Rattle.frame_service.specs.Conversing.{over_of}
use Rattle.frame_service.specs.declared.conversation.Conversation.{Conversation}
use Rattle.socket_server.specs.declared.standing.Progress.{Progress}
use Rattle.socket_server.specs.declared.standing.Standing.{Standing}
use Rattle.socket_server.specs.declared.standing.Timed.TheVariants.{Room}
use Rattle.socket_server.specs.declared.standing.Timer.TheVariants.{Expired}

-- The connection failed, in a way that is named; or the peer has accepted no output for too long; or the conversation
-- has ended and the peer accepted all output.
abbrev pub MayClose : Standing → Progress → Type 0
MayClose standing progress =
    (is_some standing.failure ≡ true)
    ⊎ (((progress.unsent ≢ 0) × (standing.timer ≡ Expired Room)) ⊎ ((progress.unsent ≡ 0) × (progress.has_ended ≡ true)))

-- the same of a connection with this conversation
abbrev pub IsOver : {S W C T Turn Known Latest : Type 0} → Conversation S W C T Turn Known Latest → Standing → Type 0
IsOver talk standing =
    (is_some standing.failure ≡ true)
    ⊎ (((length talk.outbox.bytes ≢ 0) × (standing.timer ≡ Expired Room))
    ⊎ ((length talk.outbox.bytes ≡ 0)
    × (is_some (over_of talk.fault talk.pending.frames.items talk.input_end) ≡ true)))
