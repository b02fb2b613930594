-- A port's oldest message, and the state after it was taken.
use Rattle.std.specs.Prelude.{IsSome, ◌≡◌, ℕ, ◌+◌, ◌<◌, ◌^◌, Bool, true, false, nat_lt, All, List, [], ◌∷◌, ◌++◌, length, drop, Option, None, Some, option_map, MatchBool, refl}
use Rattle.std.proofs.Common.{sym, ◌∙◌, ap, subst, arith}
use Rattle.std.specs.FinMap as finmap
use Rattle.codes.specs.declared.kern_return.KernReturn.TheVariants.{Success, RcvHeaderErrorSpace}
use Rattle.ipc_model.specs.declared.message.CarriedRight.{CarriedRight}
use Rattle.ipc_model.specs.declared.plain_reply.PlainReply.{PlainReply}
use Rattle.ipc_model.specs.declared.plain_reply.PlainReply.TheVariants as reply
use Rattle.ipc_model.specs.declared.message.Message.{Message}
use Rattle.ipc_model.specs.declared.port.PortState.{PortState}
use Rattle.ipc_model.specs.effects.Effects.{Effect}
use Rattle.ipc_model.specs.messages.Messages.{header_length, message_encoding}
use Rattle.ipc_model.specs.messages.Receiving.{ReceiveArguments, Received, TakesOut, TooLarge, arriving, body_names, destination_consumed, lacks_names, message_size, received_body, received_encoding, reply_kind_number, reply_name, without_message, without_oldest}
use Rattle.ipc_model.specs.rights.CopyOut.{Arrives}
use Rattle.ipc_model.specs.rights.Dispositions.{number_of_kind}
use Rattle.ipc_model.specs.calls.PortCalls.{names_in}
use Rattle.ipc_model.specs.state.Lawful.{Lawful, LawfulMessage, LawfulNames}
use Rattle.ipc_model.specs.state.Ipc.{Names, Ipc, next_count, with_names}
use Rattle.ipc_laws.specs.ReceiveArgumentLaws.{as_many_names}
use Rattle.ipc_laws.specs.RecordedReceives.{body_long, names_left}
use Rattle.ipc_laws.specs.ReceiveLaws.{large_answer}
use Rattle.rights.specs.Passed.{messages_at, messages_in, numbers_of, lives_in, seen_message, seen_right, PortNumbers}
use Rattle.msg_header.specs.declared.header.Header.{Header}
use Rattle.msg_header.specs.HeaderLaws.{header_and_body}
use Rattle.msg_header.specs.Headers.{header_bits, header_encoding}
use Rattle.receiving.specs.ShownNames.{arrived_small, lawful_fit, names_shown, shown_are_given}
use Rattle.receiving.specs.Shows.{encoding_in}
use Rattle.receiving.specs.Taking.{OfOldest}

-- the messages of a live port
pub messages_of_port : (state : Ipc) (serial : ℕ) (port : PortState) → finmap.get state.ports serial ≡ Some port
    → messages_at state.ports serial ≡ port.messages
messages_of_port state serial port live = ap messages_in live

first_less : (first : Message) (later : List Message) → 0 < length (first ∷ later)
first_less first later = omega arith

pub oldest_lawful : (state : Ipc) (serial : ℕ) (port : PortState) (message : Message) (later : List Message)
    → Lawful state → finmap.get state.ports serial ≡ Some port → port.messages ≡ message ∷ later → LawfulMessage message
oldest_lawful state serial port message later lawful live first =
    (subst (λ (l : List Message). All LawfulMessage l) first (lawful.ports serial port live).2.messages) 0 message
    (first_less message later)

pub body_names_seen : (lives : ℕ → Bool) (reply : Option CarriedRight) (given : List ℕ)
    → body_names (option_map (seen_right lives) reply) given ≡ body_names reply given
body_names_seen lives None given = refl
body_names_seen lives (Some right) given = refl

-- names and queues can be changed in either order
pub names_then_oldest : (state : Ipc) (space serial : ℕ) (names : Names)
    → without_oldest (with_names state space names) serial ≡ with_names (without_oldest state serial) space names
names_then_oldest state space serial names = elim (finmap.get state.ports serial) as (λ (o : Option PortState).
    (elim o as (λ _. Ipc) [
      | None ↦ with_names state space names
      | Some port ↦
          record (with_names state space names) {
            ports = finmap.insert state.ports serial
                (record port { messages = drop 1 port.messages; sequence_number = (without port) });
          }
    ])
    ≡ with_names (elim o as (λ _. Ipc) [
      | None ↦ state
      | Some port ↦ record state {
        ports = finmap.insert state.ports serial
            (record port { messages = drop 1 port.messages; sequence_number = (without port) });
      }
    ]) space names) [
      | None ↦ refl
      | Some port ↦ refl
    ]
  where
    without : PortState → ℕ
    without port = next_count port.sequence_number

-- the outcome for the message that was found
pub was_large : (old : Ipc) (space : ℕ) (names : Names) (arguments : ReceiveArguments) (member serial : ℕ)
    (port : PortState) (message : Message) (answer : PlainReply) (new : Ipc) (effects : List Effect)
    → nat_lt arguments.limit (message_size message) ≡ true
    → TooLarge old member serial message arguments.large answer new effects
    → TakesOut old space names arguments member serial port message answer new effects
was_large old space names arguments member serial port message answer new effects large is =
    subst (λ (b : Bool). MatchBool b (TooLarge old member serial message arguments.large answer new effects)
    (MatchBool (lacks_names names message)
    ((answer ≡ without_message RcvHeaderErrorSpace 0 0) × (new ≡ old) × (effects ≡ []))
    (Received old space names member serial port message answer new effects))) (sym large) is

pub was_lacking : (old : Ipc) (space : ℕ) (names : Names) (arguments : ReceiveArguments) (member serial : ℕ)
    (port : PortState) (message : Message) (answer : PlainReply) (new : Ipc) (effects : List Effect)
    → nat_lt arguments.limit (message_size message) ≡ false → lacks_names names message ≡ true
    → answer ≡ without_message RcvHeaderErrorSpace 0 0 → new ≡ old → effects ≡ []
    → TakesOut old space names arguments member serial port message answer new effects
was_lacking old space names arguments member serial port message answer new effects small lacks is same none =
    subst (λ (b : Bool). MatchBool b (TooLarge old member serial message arguments.large answer new effects)
    (MatchBool (lacks_names names message)
    ((answer ≡ without_message RcvHeaderErrorSpace 0 0) × (new ≡ old) × (effects ≡ []))
    (Received old space names member serial port message answer new effects))) (sym small)
    (subst (λ (b : Bool). MatchBool b
    ((answer ≡ without_message RcvHeaderErrorSpace 0 0) × (new ≡ old) × (effects ≡ []))
    (Received old space names member serial port message answer new effects)) (sym lacks) (is, same, none))

pub was_received : (old : Ipc) (space : ℕ) (names : Names) (arguments : ReceiveArguments) (member serial : ℕ)
    (port : PortState) (message : Message) (answer : PlainReply) (new : Ipc) (effects : List Effect)
    → nat_lt arguments.limit (message_size message) ≡ false → lacks_names names message ≡ false
    → Received old space names member serial port message answer new effects
    → TakesOut old space names arguments member serial port message answer new effects
was_received old space names arguments member serial port message answer new effects small fits is =
    subst (λ (b : Bool). MatchBool b (TooLarge old member serial message arguments.large answer new effects)
    (MatchBool (lacks_names names message)
    ((answer ≡ without_message RcvHeaderErrorSpace 0 0) × (new ≡ old) × (effects ≡ []))
    (Received old space names member serial port message answer new effects))) (sym small)
    (subst (λ (b : Bool). MatchBool b
    ((answer ≡ without_message RcvHeaderErrorSpace 0 0) × (new ≡ old) × (effects ≡ []))
    (Received old space names member serial port message answer new effects)) (sym fits) is)

-- a live port and its messages; `sent`, with the rights of dead ports replaced, is the oldest
pub record Known (state : Ipc) (serial : ℕ) (sent : Message) : Type 0 where
  pub port : PortState
  pub later : List Message
  pub live : finmap.get state.ports serial ≡ Some port
  pub first : port.messages ≡ seen_message (lives_in state.ports) sent ∷ later

numbered : (o : Option PortState) (numbers : PortNumbers) → Some numbers ≡ option_map numbers_of o → (port : PortState)
    × (o ≡ Some port)
numbered None numbers is = absurd (cc is)
numbered (Some port) numbers is = (port, refl)

pub known : (state : Ipc) (serial : ℕ) (sent : Message) (numbers : PortNumbers)
    → messages_at state.ports serial
    ≡ seen_message (lives_in state.ports) sent ∷ drop 1 (messages_at state.ports serial)
    → Some numbers ≡ option_map numbers_of (finmap.get state.ports serial) → Known state serial sent
known state serial sent numbers oldest is =
    let port = numbered (finmap.get state.ports serial) numbers is in
    record {
      port = port.0;
      later = drop 1 (messages_at state.ports serial);
      live = port.1;
      first = sym (messages_of_port state serial port.0 port.1) ∙ oldest;
    }

pub oldest_small : (state : Ipc) (serial : ℕ) (sent : Message) → Known state serial sent
    → OfOldest state serial (λ _ message. LawfulMessage message) → message_size sent < 2 ^ 32
oldest_small state serial sent is lawful =
    omega (arith, (lawful is.port (seen_message (lives_in state.ports) sent) is.later is.live is.first).small)

pub oldest_long : (state : Ipc) (serial : ℕ) (sent : Message) (given : List ℕ) → Known state serial sent
    → OfOldest state serial (λ _ message. LawfulMessage message)
    → OfOldest state serial (λ _ message. length given ≡ length (arriving message))
    → length (received_body sent (body_names sent.reply given)) ≡ length sent.body
oldest_long state serial sent given is lawful many =
    let seen : Message = seen_message (lives_in state.ports) sent in
    let long =
    body_long seen (body_names seen.reply given) (lawful is.port seen is.later is.live is.first)
    (names_left seen.reply seen.rights given (many is.port seen is.later is.live is.first)) in
    ap (λ (names : List ℕ). length (received_body sent names))
    (sym (body_names_seen (lives_in state.ports) sent.reply given)) ∙ long

-- the encodings of header and body together are the received message
pub encoding_of_header : (message : Message) (member seqno : ℕ) (given : List ℕ) (header : Header)
    (first mid last : List ℕ) → length (received_body message (body_names message.reply given)) ≡ length message.body
    → header ≡ record {
      size = message_size message;
      remote_disposition = reply_kind_number message.reply;
      local_disposition = number_of_kind message.destination;
      complex = message.complex;
      remote = reply_name message.reply given;
      local = member;
      id = message.id;
    } → first ≡ [] → mid ≡ first ++ header_encoding header seqno
    → last ≡ mid ++ received_body message (body_names message.reply given)
    → last ≡ received_encoding message member seqno given
encoding_of_header message member seqno given header first mid last long is none header_is last_is =
    let body : List ℕ = received_body message (body_names message.reply given) in
    let size : header.size ≡ header_length + length body =
    ap (λ (h : Header). h.size) is ∙ ap (λ (n : ℕ). header_length + n) (sym long) in
    last_is ∙ ap (λ (l : List ℕ). l ++ body) (header_is ∙ ap (λ (l : List ℕ). l ++ header_encoding header seqno) none)
    ∙ header_and_body header seqno body size
    ∙ ap (λ (h : Header). message_encoding (header_bits h) h.remote h.local seqno h.id body) is

-- a message that was taken whole
pub whole_received : (old : Ipc) (space : ℕ) (names : Names) (member serial : ℕ) (port : PortState)
    (message : Message) (answer : PlainReply) (mid new : Ipc) (effects before : List Effect)
    (rights : List CarriedRight)
    (given encoding : List ℕ) (after : Names) (size : ℕ)
    → rights ≡ arriving message → Arrives names rights given after → size ≡ message_size message
    → encoding ≡ received_encoding message member port.sequence_number given
    → answer ≡ reply.Message Success size member encoding
    → mid ≡ with_names old space after → new ≡ without_oldest mid serial → before ≡ []
    → effects ≡ before ++ destination_consumed message.destination serial
    → Received old space names member serial port message answer new effects
whole_received old space names member serial port message answer mid new effects before rights given encoding after size
    are arrives size_is encoding_is is named taken none consumed = (
      given,
      after,
      subst (λ (l : List CarriedRight). Arrives names l given after) are arrives,
      is ∙ ap (λ (n : ℕ). reply.Message Success n member encoding) size_is
          ∙ ap (reply.Message Success (message_size message) member) encoding_is,
      taken ∙ ap (λ (s : Ipc). without_oldest s serial) named ∙ names_then_oldest old space serial after,
      consumed ∙ ap (λ (l : List Effect). l ++ destination_consumed message.destination serial) none,
    )

-- A reply is determined by the choices that it shows.

pub large_reported : (old : Ipc) (space : ℕ) (names : Names) (arguments : ReceiveArguments) (member serial : ℕ)
    (port : PortState)
    (message : Message) (answer : PlainReply) (new : Ipc) (effects : List Effect) (other : PlainReply) (last : Ipc)
    (others : List Effect)
    → nat_lt arguments.limit (message_size message) ≡ true
    → TooLarge old member serial message arguments.large answer new effects
    → TakesOut old space names arguments member serial port message other last others → answer ≡ other
large_reported old space names arguments member serial port message answer new effects other last others large is may =
    let too : TooLarge old member serial message arguments.large other last others =
    subst (λ (b : Bool). MatchBool b (TooLarge old member serial message arguments.large other last others)
    (MatchBool (lacks_names names message)
    ((other ≡ without_message RcvHeaderErrorSpace 0 0) × (last ≡ old) × (others ≡ []))
    (Received old space names member serial port message other last others))) large may in
    large_answer old member serial message arguments.large answer new effects is
    ∙ sym (large_answer old member serial message arguments.large other last others too)

small_takes : (old : Ipc) (space : ℕ) (names : Names) (arguments : ReceiveArguments) (member serial : ℕ)
    (port : PortState) (message : Message) (other : PlainReply) (last : Ipc) (others : List Effect)
    → nat_lt arguments.limit (message_size message) ≡ false
    → TakesOut old space names arguments member serial port message other last others
    → MatchBool (lacks_names names message)
    ((other ≡ without_message RcvHeaderErrorSpace 0 0) × (last ≡ old) × (others ≡ []))
    (Received old space names member serial port message other last others)
small_takes old space names arguments member serial port message other last others small may =
    subst (λ (b : Bool). MatchBool b (TooLarge old member serial message arguments.large other last others)
    (MatchBool (lacks_names names message)
    ((other ≡ without_message RcvHeaderErrorSpace 0 0) × (last ≡ old) × (others ≡ []))
    (Received old space names member serial port message other last others))) small may

pub lacking_reported : (old : Ipc) (space : ℕ) (names : Names) (arguments : ReceiveArguments) (member serial : ℕ)
    (port : PortState) (message : Message) (answer : PlainReply) (other : PlainReply) (last : Ipc)
    (others : List Effect)
    → nat_lt arguments.limit (message_size message) ≡ false → lacks_names names message ≡ true
    → answer ≡ without_message RcvHeaderErrorSpace 0 0
    → TakesOut old space names arguments member serial port message other last others → answer ≡ other
lacking_reported old space names arguments member serial port message answer other last others small lacks is may =
    let too : (other ≡ without_message RcvHeaderErrorSpace 0 0) × (last ≡ old) × (others ≡ []) =
    subst (λ (b : Bool). MatchBool b ((other ≡ without_message RcvHeaderErrorSpace 0 0) × (last ≡ old) × (others ≡ []))
    (Received old space names member serial port message other last others)) lacks
    (small_takes old space names arguments member serial port message other last others small may) in
    is ∙ sym too.0

pub whole_reported : (old : Ipc) (space : ℕ) (names : Names) (arguments : ReceiveArguments) (member serial : ℕ)
    (port : PortState)
    (message : Message) (answer : PlainReply) (wanted : List ℕ) (other : PlainReply) (last : Ipc) (others : List Effect)
    → nat_lt arguments.limit (message_size message) ≡ false → lacks_names names message ≡ false → LawfulMessage message
    → LawfulNames names
    → ((after : Names) → Arrives names (arriving message) wanted after
    → answer ≡ reply.Message Success (message_size message) member
    (received_encoding message member port.sequence_number wanted))
    → wanted ≡ names_shown (encoding_in other)
    → TakesOut old space names arguments member serial port message other last others → answer ≡ other
whole_reported old space names arguments member serial port message answer wanted other last others small fits lawful
    named
    alike shows may =
    let whole : Received old space names member serial port message other last others =
    subst (λ (b : Bool). MatchBool b ((other ≡ without_message RcvHeaderErrorSpace 0 0) × (last ≡ old) × (others ≡ []))
    (Received old space names member serial port message other last others)) fits
    (small_takes old space names arguments member serial port message other last others small may) in
    let given : List ℕ = whole.0 in
    let many = as_many_names names (arriving message) given whole.1 whole.2 in
    let same : wanted ≡ given =
    shows ∙ ap (λ (r : PlainReply). names_shown (encoding_in r)) whole.3
    ∙ shown_are_given message member port.sequence_number given lawful many
    (arrived_small names (arriving message) given whole.1 (lawful_fit names named) whole.2) in
    alike whole.1 (subst (λ (l : List ℕ). Arrives names (arriving message) l whole.1) (sym same) whole.2)
    ∙ ap (λ (l : List ℕ). reply.Message Success (message_size message) member
    (received_encoding message member port.sequence_number l)) same ∙ sym whole.3

pub names_lawful : (state : Ipc) (space : ℕ) → Lawful state → IsSome (finmap.get state.spaces space)
    → LawfulNames (names_in state space)
names_lawful state space lawful there = by_case (finmap.get state.spaces space) refl there
  where
    by_case : (o : Option Names) → finmap.get state.spaces space ≡ o → IsSome o
        → LawfulNames (elim o as (λ _. Names) [ None ↦ finmap.empty | Some names ↦ names ])
    by_case None at is = absurd (cc is)
    by_case (Some names) at is = (lawful.spaces space names at).2
