-- The bytes that a relay reads and writes on its two sides, by the outcome. If the content of a stream is unknown,
-- nothing is promised about it.
use Rattle.std.specs.Prelude.{◌≡◌, ◌⊎◌, ℕ, ◌-◌, ◌^◌, List, [], ◌∷◌, ◌++◌, length, ⊤, Option, Some, IfSome, Result, Ok, Err}
use Rattle.std.specs.Io.KnownBytes.{Appends, Consumes}
use Rattle.wire.specs.Frame.{IsContentLength, IsReadOf}
use Rattle.wire.specs.Writing.{AppendsPart}
use Rattle.wire.specs.declared.fault.WireFault.{WireFault}
use Rattle.wire.specs.declared.fault.WireFault.TheVariants.{Short, Device}
use Rattle.words.specs.Words.{frame_encoding}

-- One side of a relay: the input that is left, the bytes written, and those of them that aren't flushed yet.
pub record Side : Type 0 where
  pub left : Option (List ℕ)
  pub written : Option (List ℕ)
  pub waiting : List ℕ

abbrev pub side : Option (List ℕ) → Option (List ℕ) → List ℕ → Side
side left written waiting = record { left = left; written = written; waiting = waiting }

-- a side after something was read from it
abbrev pub as_left : Option (List ℕ) → Side → Side
as_left left now = side left now.written now.waiting

-- the contents of the frames in the input, and of the peer's replies to them
abbrev pub Exchanges : Type 0
Exchanges = List (List ℕ × List ℕ)

abbrev pub requests_encoding : Exchanges → List ℕ
requests_encoding [] = []
requests_encoding (exchange ∷ exchanges) = frame_encoding exchange.0 ++ requests_encoding exchanges

abbrev pub replies_encoding : Exchanges → List ℕ
replies_encoding [] = []
replies_encoding (exchange ∷ exchanges) = frame_encoding exchange.1 ++ replies_encoding exchanges

-- each is the content of a frame
abbrev pub AreFrames : Exchanges → Type 0
AreFrames [] = ⊤
AreFrames (exchange ∷ exchanges) =
    IsContentLength (length exchange.0) × IsContentLength (length exchange.1) × AreFrames exchanges

-- the bytes that aren't flushed after some exchanges: none, if there was at least one
abbrev pub waiting_after : List ℕ → Exchanges → List ℕ
waiting_after waiting [] = waiting
waiting_after waiting (exchange ∷ exchanges) = []

-- a whole frame with this content was read from the front
pub record IsTaken (old : Option (List ℕ)) (content : List ℕ) (new : Option (List ℕ)) : Type 0 where
  pub fits : IsContentLength (length content)
  pub taken : Consumes old new (frame_encoding content)

-- the input was at its end
abbrev pub TakesAll : Option (List ℕ) → Option (List ℕ) → Type 0
TakesAll old new = IfSome old (λ rest. (rest ≡ []) × (new ≡ Some []))

-- no frame could be read, and no byte after the fault was read
abbrev pub IsUnread : Option (List ℕ) → WireFault → Option (List ℕ) → Type 0
IsUnread old fault new = IfSome old (λ rest. IsReadOf rest (Err fault) new)

-- no reply could be read, or the peer had ended
abbrev pub IsUnanswered : Option (List ℕ) → WireFault → Option (List ℕ) → Type 0
IsUnanswered old fault new = IsUnread old fault new ⊎ ((fault ≡ Short) × TakesAll old new)

-- The frames of these exchanges were read from the front of the input and sent to the peer. Their replies were read
-- from the peer and written to the output. All were whole and in order, and all of it was flushed.
pub record Exchanged (own peer : Side) (exchanges : Exchanges) (own_now peer_now : Side) : Type 0 where
  pub frames : AreFrames exchanges
  pub read : Consumes own.left own_now.left (requests_encoding exchanges)
  pub sent : Appends peer.written peer_now.written (requests_encoding exchanges)
  pub sent_on : peer_now.waiting ≡ waiting_after peer.waiting exchanges
  pub heard : Consumes peer.left peer_now.left (replies_encoding exchanges)
  pub replied : Appends own.written own_now.written (replies_encoding exchanges)
  pub left_waiting : own_now.waiting ≡ waiting_after own.waiting exchanges

-- The outcome of a relay between its own side (`own`) and its peer's.
module _ (own peer own_new peer_new : Side) where
  -- the input is at its end after these exchanges
  pub record RelaysAll : Type 0 where
    pub exchanges : Exchanges
    pub exchanged : Exchanged own peer exchanges own_new peer_new
    pub all : IfSome own.left (λ input. own_new.left ≡ Some [])

  -- after some exchanges no frame can be read from the input
  pub record StopsReading (fault : WireFault) : Type 0 where
    pub exchanges : Exchanges
    pub left : Option (List ℕ)
    pub exchanged : Exchanged own peer exchanges (as_left left own_new) peer_new
    pub unread : IsUnread left fault own_new.left

  -- The next frame can't be sent: a prefix of it is written, or all of it but it can't be flushed. Nothing more is read
  -- on either side.
  pub record StopsSending (fault : WireFault) : Type 0 where
    pub exchanges : Exchanges
    pub left : Option (List ℕ)
    pub peer_mid : Side
    pub exchanged : Exchanged own peer exchanges (as_left left own_new) peer_mid
    pub request : List ℕ
    pub taken : IsTaken left request own_new.left
    pub part : AppendsPart peer_mid.written peer_new.written (frame_encoding request)
    pub unheard : peer_new.left ≡ peer_mid.left
    pub fault_is : fault ≡ Device

  -- the next frame is sent and flushed, but no reply to it can be read; nothing is written for it
  pub record StopsHearing (fault : WireFault) : Type 0 where
    pub exchanges : Exchanges
    pub left : Option (List ℕ)
    pub peer_mid : Side
    pub exchanged : Exchanged own peer exchanges (as_left left own_new) peer_mid
    pub request : List ℕ
    pub taken : IsTaken left request own_new.left
    pub sent : Appends peer_mid.written peer_new.written (frame_encoding request)
    pub sent_on : peer_new.waiting ≡ []
    pub unanswered : IsUnanswered peer_mid.left fault peer_new.left

  -- the next frame is answered, but the reply can't be written: a prefix of it is written, or all of it but it can't be
  -- flushed
  pub record StopsTelling (fault : WireFault) : Type 0 where
    pub exchanges : Exchanges
    pub own_mid : Side
    pub peer_mid : Side
    pub exchanged : Exchanged own peer exchanges own_mid peer_mid
    pub request : List ℕ
    pub taken : IsTaken own_mid.left request own_new.left
    pub sent : Appends peer_mid.written peer_new.written (frame_encoding request)
    pub sent_on : peer_new.waiting ≡ []
    pub reply : List ℕ
    pub answered : IsTaken peer_mid.left reply peer_new.left
    pub part : AppendsPart own_mid.written own_new.written (frame_encoding reply)
    pub fault_is : fault ≡ Device

  -- the relay answered the maximum number of frames
  pub record StopsAtMost (fault : WireFault) : Type 0 where
    pub exchanges : Exchanges
    pub exchanged : Exchanged own peer exchanges own_new peer_new
    pub most : length exchanges ≡ 2 ^ 64 - 1
    pub fault_is : fault ≡ Device

  abbrev pub Ends : Result (Unit {0}) WireFault → Type 0
  Ends (Ok done) = RelaysAll
  Ends (Err fault) =
      StopsReading fault ⊎ (StopsSending fault ⊎ (StopsHearing fault ⊎ (StopsTelling fault ⊎ StopsAtMost fault)))
