-- A receive that takes its message from the port that was found, and its reply.
use Rattle.std.specs.Prelude.{◌≡◌, ℕ, Bool, true, false, nat_lt, Contains, List, [], ◌∷◌, Option, None, Some, Result, Ok, IfOk, is_some, MatchBool, MatchOption, if◌then◌else◌, refl}
use Rattle.std.proofs.Common.{sym, ◌∙◌, ap, subst}
use Rattle.std.proofs.lemmas.Bool.{eq-eqb, eqb-true}
use Rattle.std.specs.FinMap as finmap
use Rattle.codes.specs.declared.kern_return.KernReturn.{KernReturn}
use Rattle.codes.specs.declared.kern_return.KernReturn.TheVariants.{Success, RcvTooLarge, RcvHeaderErrorSpace}
use Rattle.ipc_model.specs.declared.plain_reply.PlainReply.{PlainReply}
use Rattle.ipc_model.specs.declared.plain_reply.PlainReply.TheVariants as reply
use Rattle.ipc_model.specs.declared.message.Message.{Message}
use Rattle.ipc_model.specs.declared.port.PortState.{PortState}
use Rattle.ipc_model.specs.effects.Effects.{Effect}
use Rattle.ipc_model.specs.messages.Receiving.{HoldsReceiveRight, ReceiveArguments, ReceiveRefused, Received, Receives, TakesMessage, TakesOut, TooLarge, lacks_names, message_size, oldest, received_encoding, without_message}
use Rattle.ipc_model.specs.state.Ipc.{Names, Ipc}
use Rattle.ipc_laws.specs.ReceiveLaws.{large_answer}
use Rattle.rights.specs.Passed.{messages_at}
use Rattle.receiving.specs.Shows.{preferred_by}
use Rattle.receiving.specs.SourceLaws.{one_serial}
use Rattle.receiving.specs.Sources.{IsPreferred, IsSource, has_message, oldest_lacks, source_list}
use Rattle.receiving.specs.Taking.{OfOldest}
use Rattle.receiving.specs.TakingLaws.{messages_of_port}
use Rattle.receiving.specs.declared.asked.Preference.{Preference}
use Rattle.receiving.specs.declared.asked.Preference.TheVariants as preference

-- the port that was found, with its oldest message
record Found (state : Ipc) (serial : ℕ) : Type 0 where
  port : PortState
  message : Message
  later : List Message
  live : finmap.get state.ports serial ≡ Some port
  first : port.messages ≡ message ∷ later

found : (state : Ipc) (serial : ℕ) → has_message state serial ≡ true → Found state serial
found state serial has = by_port (finmap.get state.ports serial) refl has
  where
    by_messages : (port : PortState) (messages : List Message) → finmap.get state.ports serial ≡ Some port
        → port.messages ≡ messages → is_some (oldest messages) ≡ true → Found state serial
    by_messages port [] live is some = absurd (cc some)
    by_messages port (message ∷ later) live is some =
        record { port = port; message = message; later = later; live = live; first = is }

    by_port : (o : Option PortState) → finmap.get state.ports serial ≡ o
        → is_some (oldest (elim o as (λ _. List Message) [ None ↦ [] | Some port ↦ port.messages ])) ≡ true
        → Found state serial
    by_port None at some = absurd (cc some)
    by_port (Some port) at some = by_messages port port.messages at refl some

-- a receive with this refusal, or with none
abbrev ReceivesBy : Option KernReturn → Ipc → ℕ → Names → ReceiveArguments → PlainReply → Ipc → List Effect → Type 0
ReceivesBy refusal old space names arguments answer new effects =
    MatchOption refusal (TakesMessage old space names arguments answer new effects)
    (λ code. ReceiveRefused code old answer new effects)

pub receives_found : (old : Ipc) (space : ℕ) (names : Names) (arguments : ReceiveArguments) (member serial : ℕ)
    (answer : PlainReply) (new : Ipc) (effects : List Effect) → IsSource old names arguments member serial
    → OfOldest old serial (λ port message. TakesOut old space names arguments member serial port message answer new
    effects) → Receives old space names arguments answer new effects
receives_found old space names arguments member serial answer new effects source takes =
    let is = found old serial source.has in
    subst (λ (refusal : Option KernReturn). ReceivesBy refusal old space names arguments answer new effects)
    (sym source.passes) (record {
      member = member;
      serial = serial;
      port = is.port;
      message = is.message;
      later = is.later;
      is_source = source.among;
      holds = source.holds;
      live = is.live;
      first = is.first;
      takes = takes is.port is.message is.later is.live is.first;
    })

-- The reply names the member that was found.
shown_member : (old : Ipc) (names : Names) (arguments : ReceiveArguments) (wanted : Preference)
    (member serial other port : ℕ)
    → IsPreferred old names arguments wanted member serial → wanted ≡ preference.Member other
    → Contains (source_list old names arguments) other → HoldsReceiveRight names other port
    → has_message old port ≡ true → other ≡ member
shown_member old names arguments wanted member serial other port prefers is among holds has =
    let here = subst (λ (p : Preference). IsPreferred old names arguments p member serial) is prefers in
    sym (eqb-true member other (here other port among holds has (eq-eqb other other refl)))

has_first : (state : Ipc) (serial : ℕ) (port : PortState) (message : Message) (later : List Message)
    → finmap.get state.ports serial ≡ Some port → port.messages ≡ message ∷ later → has_message state serial ≡ true
has_first state serial port message later live first =
    ap (λ (l : List Message). is_some (oldest l)) (messages_of_port state serial port live ∙ first)

-- another receive that took the message of the port that was found
abbrev pub HasOneAnswer : Ipc → ℕ → Names → ReceiveArguments → ℕ → ℕ → PlainReply → PlainReply → Ipc → List Effect
    → Type 0
HasOneAnswer old space names arguments member serial answer other last others =
    OfOldest old serial (λ port message. TakesOut old space names arguments member serial port message other last others
    → answer ≡ other)

same_source : (old : Ipc) (space : ℕ) (names : Names) (arguments : ReceiveArguments)
    (member serial other_member other_serial : ℕ) (port : PortState) (message : Message) (later : List Message)
    (answer other : PlainReply) (last : Ipc) (others : List Effect)
    → HasOneAnswer old space names arguments member serial answer other last others
    → HoldsReceiveRight names member serial
    → HoldsReceiveRight names other_member other_serial → other_member ≡ member
    → finmap.get old.ports other_serial ≡ Some port → port.messages ≡ message ∷ later
    → TakesOut old space names arguments other_member other_serial port message other last others → answer ≡ other
same_source old space names arguments member serial other_member other_serial port message later answer other last
    others alike here there same live first may =
    let serials : other_serial ≡ serial =
    one_serial names member other_serial serial
    (subst (λ (n : ℕ). HoldsReceiveRight names n other_serial) same there) here in
    alike port message later (subst (λ (s : ℕ). finmap.get old.ports s ≡ Some port) serials live) first
    (subst (λ (s : ℕ). TakesOut old space names arguments member s port message other last others) serials
    (subst (λ (n : ℕ). TakesOut old space names arguments n other_serial port message other last others) same may))

by_code : (answer : PlainReply) (code : KernReturn) (size member : ℕ) (encoding : List ℕ)
    → answer ≡ reply.Message code size member encoding
    → preferred_by answer ≡ preferred_by (reply.Message code size member encoding)
by_code answer code size member encoding is = ap preferred_by is

-- a message for whose rights the space lacks names
lacking_first : (arguments : ReceiveArguments) (names : Names) (state : Ipc) (serial : ℕ) (port : PortState)
    (message : Message)
    (later : List Message) → finmap.get state.ports serial ≡ Some port → port.messages ≡ message ∷ later
    → oldest_lacks arguments names (messages_at state.ports serial)
    ≡ (if nat_lt arguments.limit (message_size message) then false else lacks_names names message)
lacking_first arguments names state serial port message later live first =
    ap (oldest_lacks arguments names) (messages_of_port state serial port live ∙ first)

both_lack : (large lacks : Bool) → (if large then false else lacks) ≡ true → (large ≡ false) × (lacks ≡ true)
both_lack true lacks is = absurd (cc is)
both_lack false lacks is = (refl, is)

-- if the space lacks names for the message that was found, the reply says so
lacking_answer : (old : Ipc) (space : ℕ) (names : Names) (arguments : ReceiveArguments) (member serial : ℕ)
    (answer : PlainReply) (new : Ipc) (effects : List Effect) → has_message old serial ≡ true
    → OfOldest old serial (λ port message. TakesOut old space names arguments member serial port message answer new
    effects) → oldest_lacks arguments names (messages_at old.ports serial) ≡ true
    → answer ≡ without_message RcvHeaderErrorSpace 0 0
lacking_answer old space names arguments member serial answer new effects has takes lacks =
    let is = found old serial has in
    let both =
    both_lack (nat_lt arguments.limit (message_size is.message)) (lacks_names names is.message)
    (sym (lacking_first arguments names old serial is.port is.message is.later is.live is.first) ∙ lacks) in
    let small : MatchBool (lacks_names names is.message)
    ((answer ≡ without_message RcvHeaderErrorSpace 0 0) × (new ≡ old) × (effects ≡ []))
    (Received old space names member serial is.port is.message answer new effects) =
    subst (λ (b : Bool). MatchBool b (TooLarge old member serial is.message arguments.large answer new effects)
    (MatchBool (lacks_names names is.message)
    ((answer ≡ without_message RcvHeaderErrorSpace 0 0) × (new ≡ old) × (effects ≡ []))
    (Received old space names member serial is.port is.message answer new effects))) both.0
    (takes is.port is.message is.later is.live is.first) in
    let short : (answer ≡ without_message RcvHeaderErrorSpace 0 0) × (new ≡ old) × (effects ≡ []) =
    subst (λ (b : Bool). MatchBool b ((answer ≡ without_message RcvHeaderErrorSpace 0 0) × (new ≡ old) × (effects ≡ []))
    (Received old space names member serial is.port is.message answer new effects)) both.1 small in
    short.0

module _ (old : Ipc) (space : ℕ) (names : Names) (arguments : ReceiveArguments) (member serial : ℕ)
    (wanted : Preference)
    (answer : PlainReply) (new : Ipc) (effects : List Effect) (source : IsSource old names arguments member serial)
    (prefers : IsPreferred old names arguments wanted member serial)
    (takes : OfOldest old serial
    (λ port message. TakesOut old space names arguments member serial port message answer new effects))
    (other : PlainReply) (last : Ipc) (others : List Effect)
    (alike : HasOneAnswer old space names arguments member serial answer other last others)
    (shows : wanted ≡ preferred_by other) where
  by_member : (name port_serial : ℕ) (port : PortState) (message : Message) (later : List Message) (code : KernReturn)
      (size : ℕ) (encoding : List ℕ) → Contains (source_list old names arguments) name
      → HoldsReceiveRight names name port_serial
      → finmap.get old.ports port_serial ≡ Some port → port.messages ≡ message ∷ later
      → TakesOut old space names arguments name port_serial port message other last others
      → other ≡ reply.Message code size name encoding
      → preferred_by (reply.Message code size name encoding) ≡ preference.Member name → answer ≡ other
  by_member name port_serial port message later code size encoding among holds live first may is by =
      let same =
      shown_member old names arguments wanted member serial name port_serial prefers
      (shows ∙ by_code other code size name encoding is ∙ by) among holds
      (has_first old port_serial port message later live first) in
      same_source old space names arguments member serial name port_serial port message later answer other last others
      alike source.holds holds same live first may

  by_lacking : (name port_serial : ℕ) (port : PortState) (message : Message) (later : List Message)
      → Contains (source_list old names arguments) name → HoldsReceiveRight names name port_serial
      → finmap.get old.ports port_serial ≡ Some port → port.messages ≡ message ∷ later
      → nat_lt arguments.limit (message_size message) ≡ false → lacks_names names message ≡ true
      → other ≡ without_message RcvHeaderErrorSpace 0 0 → answer ≡ other
  by_lacking name port_serial port message later among holds live first small lacks is =
      let here =
      subst (λ (p : Preference). IsPreferred old names arguments p member serial)
      (shows ∙ by_code other RcvHeaderErrorSpace 0 0 [] is) prefers in
      let there =
      lacking_first arguments names old port_serial port message later live first ∙ ap
      (λ (b : Bool). if b then false else lacks_names names message) small ∙ lacks in
      let own = here name port_serial among holds (has_first old port_serial port message later live first) there in
      lacking_answer old space names arguments member serial answer new effects source.has takes own ∙ sym is

  by_outcome : (name port_serial : ℕ) (port : PortState) (message : Message) (later : List Message)
      → Contains (source_list old names arguments) name → HoldsReceiveRight names name port_serial
      → finmap.get old.ports port_serial ≡ Some port → port.messages ≡ message ∷ later
      → TakesOut old space names arguments name port_serial port message other last others → answer ≡ other
  by_outcome name port_serial port message later among holds live first may =
      elim (nat_lt arguments.limit (message_size message))
      as (λ (large : Bool). nat_lt arguments.limit (message_size message) ≡ large
      → MatchBool large (TooLarge old name port_serial message arguments.large other last others)
      (MatchBool (lacks_names names message)
      ((other ≡ without_message RcvHeaderErrorSpace 0 0) × (last ≡ old) × (others ≡ []))
      (Received old space names name port_serial port message other last others))
      → answer ≡ other) [
        | true ↦ λ (_ : _) (too : _). by_member name port_serial port message later RcvTooLarge (message_size message)
            [] among holds live first may
            (large_answer old name port_serial message arguments.large other last others too) refl
        | false ↦ λ (small : _) (rest : _). elim (lacks_names names message)
            as (λ (lacks : Bool). lacks_names names message ≡ lacks
            → MatchBool lacks ((other ≡ without_message RcvHeaderErrorSpace 0 0) × (last ≡ old) × (others ≡ []))
            (Received old space names name port_serial port message other last others) → answer ≡ other) [
              | true ↦ λ (lacks : _) (short : _). by_lacking name port_serial port message later among holds live first
                  small lacks short.0
              | false ↦ λ (_ : _) (whole : _). by_member name port_serial port message later Success
                  (message_size message) (received_encoding message name port.sequence_number whole.0) among holds live
                  first may whole.3 refl
            ] refl rest
      ] refl may

  -- receives with the same choices have the same reply
  pub receives_one_answer : Receives old space names arguments other last others → answer ≡ other
  receives_one_answer may =
      let taken : ReceivesBy None old space names arguments other last others =
      subst (λ (refusal : Option KernReturn). ReceivesBy refusal old space names arguments other last others)
      source.passes may in
      by_outcome taken.member taken.serial taken.port taken.message taken.later taken.is_source taken.holds taken.live
      taken.first taken.takes

-- the fact about a result's value, if the value is known
pub of_ok : {X Y : Type 0} (P : X → Type 0) (r : Result X Y) (x : X) → r ≡ Ok x → IfOk r P → P x
of_ok P r x is holds = subst (λ (q : Result _ _). IfOk q P) is holds
