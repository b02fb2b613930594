-- A relay after some frames, and its outcome.
use Rattle.std.proofs.Common.{◌≡◌, inl, inr, ℕ, List, [], ◌∷◌, ◌++◌, length, Result, Err, refl, sym, ap, subst, ◌∙◌, ◌+◌, arith, append_assoc, length-append}
use Rattle.std.proofs.lemmas.List.{append-nil}
use Rattle.std.specs.Io.KnownBytes.{Appends, Consumes}
use Rattle.std.proofs.KnownBytes.{Appends-nil, Appends-trans, Consumes-nil, Consumes-trans}
use Rattle.wire.specs.Writing.{AppendsPart}
use Rattle.wire.specs.declared.fault.WireFault.{WireFault}
use Rattle.wire.specs.declared.fault.WireFault.TheVariants.{Device}
use Rattle.words.specs.Words.{frame_encoding}
use Rattle.relay.specs.Relaying.{AreFrames, Ends, Exchanged, Exchanges, IsTaken, Side, replies_encoding, requests_encoding, waiting_after}

-- some frames were relayed
pub record Going (own peer own_now peer_now : Side) (count : ℕ) : Type 0 where
  pub exchanges : Exchanges
  pub exchanged : Exchanged own peer exchanges own_now peer_now
  pub counted : length exchanges ≡ count

pub begun : (own peer : Side) → Going own peer own peer 0
begun own peer = record {
  exchanges = [];
  exchanged = record {
    frames = tt;
    read = Consumes-nil own.left;
    sent = Appends-nil peer.written;
    sent_on = refl;
    heard = Consumes-nil peer.left;
    replied = Appends-nil own.written;
    left_waiting = refl;
  };
  counted = refl;
}

frames-push : (exchanges : Exchanges) (exchange : List ℕ × List ℕ) → AreFrames exchanges → AreFrames (exchange ∷ [])
    → AreFrames (exchanges ++ exchange ∷ [])
frames-push [] exchange so_far is = is
frames-push (first ∷ exchanges) exchange so_far is = (so_far.0, so_far.1, frames-push exchanges exchange so_far.2 is)

requests_encoding-push : (exchanges : Exchanges) (exchange : List ℕ × List ℕ)
    → requests_encoding exchanges ++ frame_encoding exchange.0 ≡ requests_encoding (exchanges ++ exchange ∷ [])
requests_encoding-push [] exchange = sym (append-nil (frame_encoding exchange.0))
requests_encoding-push (first ∷ exchanges) exchange =
    append_assoc (frame_encoding first.0) (requests_encoding exchanges) (frame_encoding exchange.0) ∙ ap
    (λ l. frame_encoding first.0 ++ l) (requests_encoding-push exchanges exchange)

replies_encoding-push : (exchanges : Exchanges) (exchange : List ℕ × List ℕ)
    → replies_encoding exchanges ++ frame_encoding exchange.1 ≡ replies_encoding (exchanges ++ exchange ∷ [])
replies_encoding-push [] exchange = sym (append-nil (frame_encoding exchange.1))
replies_encoding-push (first ∷ exchanges) exchange =
    append_assoc (frame_encoding first.1) (replies_encoding exchanges) (frame_encoding exchange.1) ∙ ap
    (λ l. frame_encoding first.1 ++ l) (replies_encoding-push exchanges exchange)

nothing_waits : (waiting : List ℕ) (exchanges : Exchanges) (exchange : List ℕ × List ℕ)
    → [] ≡ waiting_after waiting (exchanges ++ exchange ∷ [])
nothing_waits waiting [] exchange = refl
nothing_waits waiting (first ∷ exchanges) exchange = refl

-- one more frame
pub goes_on : (own peer own_mid peer_mid own_now peer_now : Side) (count : ℕ) (request reply : List ℕ)
    → Going own peer own_mid peer_mid count → IsTaken own_mid.left request own_now.left
    → Appends peer_mid.written peer_now.written (frame_encoding request) → peer_now.waiting ≡ []
    → IsTaken peer_mid.left reply peer_now.left → Appends own_mid.written own_now.written (frame_encoding reply)
    → own_now.waiting ≡ [] → Going own peer own_now peer_now (count + 1)
goes_on own peer own_mid peer_mid own_now peer_now count request reply so_far asked sent sent_on answered replied
    left_waiting =
    let exchange : List ℕ × List ℕ = (request, reply) in
    let before = so_far.exchanged in
    let requests = requests_encoding-push so_far.exchanges exchange in
    let replies = replies_encoding-push so_far.exchanges exchange in
    record {
      exchanges = so_far.exchanges ++ exchange ∷ [];
      exchanged = record {
        frames = frames-push so_far.exchanges exchange before.frames (asked.fits, answered.fits, tt);
        read =
            subst (Consumes own.left own_now.left) requests
            (Consumes-trans own.left own_mid.left own_now.left _ _ before.read asked.taken);
        sent =
            subst (Appends peer.written peer_now.written) requests
            (Appends-trans peer.written peer_mid.written peer_now.written _ _ before.sent sent);
        sent_on = sent_on ∙ nothing_waits peer.waiting so_far.exchanges exchange;
        heard =
            subst (Consumes peer.left peer_now.left) replies
            (Consumes-trans peer.left peer_mid.left peer_now.left _ _ before.heard answered.taken);
        replied =
            subst (Appends own.written own_now.written) replies
            (Appends-trans own.written own_mid.written own_now.written _ _ before.replied replied);
        left_waiting = left_waiting ∙ nothing_waits own.waiting so_far.exchanges exchange;
      };
      counted = omega (arith, so_far.counted, length-append so_far.exchanges (exchange ∷ []));
    }

-- the outcome as the clause of the result has it
ended_as : (own peer own_new peer_new : Side) (fault : WireFault) (result : Result (Unit {0}) WireFault)
    → result ≡ Err fault → Ends own peer own_new peer_new (Err fault) → Ends own peer own_new peer_new result
ended_as own peer own_new peer_new fault result is ends = subst (Ends own peer own_new peer_new) (sym is) ends

pub ends_telling : (own peer own_mid peer_mid own_new peer_new : Side) (count : ℕ) (request reply : List ℕ)
    (fault : WireFault) (result : Result (Unit {0}) WireFault) → Going own peer own_mid peer_mid count
    → IsTaken own_mid.left request own_new.left
    → Appends peer_mid.written peer_new.written (frame_encoding request) → peer_new.waiting ≡ []
    → IsTaken peer_mid.left reply peer_new.left → AppendsPart own_mid.written own_new.written (frame_encoding reply)
    → fault ≡ Device → result ≡ Err fault → Ends own peer own_new peer_new result
ends_telling own peer own_mid peer_mid own_new peer_new count request reply fault result so_far taken sent sent_on
    answered part device is = ended_as own peer own_new peer_new fault result is (inr (inr (inr (inl (record {
      exchanges = so_far.exchanges;
      own_mid = own_mid;
      peer_mid = peer_mid;
      exchanged = so_far.exchanged;
      request = request;
      taken = taken;
      sent = sent;
      sent_on = sent_on;
      reply = reply;
      answered = answered;
      part = part;
      fault_is = device;
    })))))
