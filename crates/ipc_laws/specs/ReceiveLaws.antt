-- A receive's reply determines what it left.
use Rattle.std.specs.Prelude.{◌≡◌, ℕ, ◌<◌, Bool, true, false, nat_lt, All, List, [], ◌∷◌, length, Option, None, Some, MatchBool, MatchOption}
use Rattle.std.proofs.Common.{sym, ◌∙◌, ap, subst, arith}
use Rattle.std.specs.FinMap as finmap
use Rattle.codes.specs.declared.kern_return.KernReturn.{KernReturn}
use Rattle.codes.specs.declared.kern_return.KernReturn.TheVariants.{Success, RcvTooLarge, RcvHeaderErrorSpace}
use Rattle.codes.specs.KernReturn.{number_of}
use Rattle.ipc_model.specs.declared.plain_reply.PlainReply.{PlainReply}
use Rattle.ipc_model.specs.declared.plain_reply.PlainReply.TheVariants as reply
use Rattle.ipc_model.specs.declared.message.Message.{Message}
use Rattle.ipc_model.specs.declared.port.PortState.{PortState}
use Rattle.ipc_model.specs.effects.Effects.{Effect}
use Rattle.ipc_model.specs.state.Lawful.{LawfulMessage}
use Rattle.ipc_laws.specs.LawfulLaws.{LawfulAtRest}
use Rattle.ipc_laws.specs.ListLaws.{some_same}
use Rattle.ipc_laws.specs.ReceiveArgumentLaws.{one_arrival, one_choice, as_many_names, encoding_reported}
use Rattle.ipc_model.specs.messages.Receiving.{ReceiveArguments, Receives, TakesMessage, TakesOut, TooLarge, Received, HoldsReceiveRight, received_encoding, receive_refusal, lacks_names, message_size, arriving, without_message, without_oldest}
use Rattle.ipc_model.specs.rights.CopyOut.{Arrives}
use Rattle.ipc_model.specs.state.Ipc.{Ipc, Names, received_port, with_names}

-- what a reply of mach_msg shows
code_shown : PlainReply → ℕ
code_shown (reply.Message code size member message) = number_of code
code_shown _ = 0

member_shown : PlainReply → ℕ
member_shown (reply.Message code size member message) = member
member_shown _ = 0

message_shown : PlainReply → List ℕ
message_shown (reply.Message code size member message) = message
message_shown _ = []

one_serial : (names : Names) (member serial other : ℕ) → HoldsReceiveRight names member serial
    → HoldsReceiveRight names member other → serial ≡ other
one_serial names member serial other here there =
    let entry : here.0 ≡ there.0 = some_same here.0 there.0 (sym here.1 ∙ there.1) in
    some_same serial other (sym here.2 ∙ ap received_port entry ∙ there.2)

-- the code of a receive says whether the message was too large, or lacked names, or was received
pub data Outcomes (old : Ipc) (space : ℕ) (names : Names) (arguments : ReceiveArguments) (member serial : ℕ)
    (port : PortState) (message : Message) (answer : PlainReply) (new : Ipc) (effects : List Effect) : Type 0 where
  was_large : TooLarge old member serial message arguments.large answer new effects
      → Outcomes old space names arguments member serial port message answer new effects
  was_lacking : answer ≡ without_message RcvHeaderErrorSpace 0 0 → new ≡ old → effects ≡ []
      → Outcomes old space names arguments member serial port message answer new effects
  was_received : Received old space names member serial port message answer new effects
      → Outcomes old space names arguments member serial port message answer new effects

pub outcome_of : (old : Ipc) (space : ℕ) (names : Names) (arguments : ReceiveArguments) (member serial : ℕ)
    (port : PortState) (message : Message) (answer : PlainReply) (new : Ipc) (effects : List Effect)
    → TakesOut old space names arguments member serial port message answer new effects
    → Outcomes old space names arguments member serial port message answer new effects
outcome_of old space names arguments member serial port message answer new effects takes =
    elim (nat_lt arguments.limit (message_size message))
    as (λ (b : Bool). MatchBool b (TooLarge old member serial message arguments.large answer new effects)
    (MatchBool (lacks_names names message)
    ((answer ≡ without_message RcvHeaderErrorSpace 0 0) × (new ≡ old) × (effects ≡ []))
    (Received old space names member serial port message answer new effects))
    → Outcomes old space names arguments member serial port message answer new effects) [
      | true ↦ λ (here : _). was_large here
      | false ↦ λ (here : _). elim (lacks_names names message) as (λ (b : Bool).
          MatchBool b ((answer ≡ without_message RcvHeaderErrorSpace 0 0) × (new ≡ old) × (effects ≡ []))
          (Received old space names member serial port message answer new effects)
          → Outcomes old space names arguments member serial port message answer new effects) [
            | true ↦ λ (short : _). was_lacking short.0 short.1 short.2
            | false ↦ λ (whole : _). was_received whole
          ] here
    ] takes

-- what two receives with one reply left
pub record SameLeft (one other : Ipc) (effects others : List Effect) : Type 0 where
  pub state : one ≡ other
  pub effects_are : effects ≡ others

-- a reply to a receive whose message was too large reports it, whether it stayed or was destroyed
pub large_answer : (old : Ipc) (member serial : ℕ) (message : Message) (keeps : Bool) (answer : PlainReply) (new : Ipc)
    (effects : List Effect) → TooLarge old member serial message keeps answer new effects
    → answer ≡ without_message RcvTooLarge (message_size message) member
large_answer old member serial message true answer new effects large = large.0
large_answer old member serial message false answer new effects large = large.0

same_large : (old : Ipc) (member serial : ℕ) (message : Message) (keeps : Bool) (answer : PlainReply) (one other : Ipc)
    (effects others : List Effect)
    → TooLarge old member serial message keeps answer one effects
    → TooLarge old member serial message keeps answer other others → SameLeft one other effects others
same_large old member serial message true answer one other effects others here there =
    record { state = here.1 ∙ sym there.1; effects_are = here.2 ∙ sym there.2 }
same_large old member serial message false answer one other effects others here there =
    record { state = here.1 ∙ sym there.1; effects_are = here.2 ∙ sym there.2 }

same_received : (old : Ipc) (space : ℕ) (names : Names) (member serial : ℕ) (port : PortState) (message : Message)
    (answer : PlainReply) (one other : Ipc) (effects others : List Effect)
    → LawfulMessage message → Received old space names member serial port message answer one effects
    → Received old space names member serial port message answer other others → SameLeft one other effects others
unfolding message_shown
same_received old space names member serial port message answer one other effects others lawful here there =
    let encodings : received_encoding message member port.sequence_number here.0
    ≡ received_encoding message member port.sequence_number there.0 = ap message_shown (sym here.3 ∙ there.3) in
    let given : here.0 ≡ there.0 = one_choice names (arriving message) here.0 there.0 here.1 there.1 here.2 there.2
    (encoding_reported message member port.sequence_number here.0 there.0 lawful
    (as_many_names names (arriving message) here.0 here.1 here.2)
    (as_many_names names (arriving message) there.0 there.1 there.2) encodings) in
    let after : here.1 ≡ there.1 =
    one_arrival names (arriving message) here.0 here.1 there.1 here.2
    (subst (λ (g : List ℕ). Arrives names (arriving message) g there.1) (sym given) there.2) in
    record {
      state = here.4 ∙ ap (λ (n : Names). with_names (without_oldest old serial) space n) after ∙ sym there.4;
      effects_are = here.5 ∙ sym there.5;
    }

-- which message two receives from one name took
record SameMessage (old : Ipc) (serial other_serial : ℕ) (port other_port : PortState)
    (message other_message : Message) : Type 0 where
  same_serial : serial ≡ other_serial
  same_port : port ≡ other_port
  same_message : message ≡ other_message

first_or : Message → List Message → Message
first_or d [] = d
first_or d (message ∷ messages) = message

same_message_of : (old : Ipc) (space : ℕ) (names : Names) (arguments : ReceiveArguments) (answer : PlainReply)
    (one other : Ipc) (effects others : List Effect)
    (here : TakesMessage old space names arguments answer one effects)
    (there : TakesMessage old space names arguments answer other others)
    → here.member ≡ there.member → SameMessage old here.serial there.serial here.port there.port here.message
    there.message
unfolding first_or
same_message_of old space names arguments answer one other effects others here there member =
    let serial : here.serial ≡ there.serial =
    one_serial names here.member here.serial there.serial here.holds
    (subst (λ (m : ℕ). HoldsReceiveRight names m there.serial) (sym member) there.holds) in
    let port : here.port ≡ there.port =
    some_same here.port there.port (sym here.live ∙ ap (λ (s : ℕ). finmap.get old.ports s) serial ∙ there.live) in
    record {
      same_serial = serial;
      same_port = port;
      same_message =
          ap (first_or here.message) (sym here.first ∙ ap (λ (p : PortState). p.messages) port ∙ there.first);
    }

same_large_of : (old : Ipc) (space : ℕ) (names : Names) (arguments : ReceiveArguments) (answer : PlainReply)
    (one other : Ipc) (effects others : List Effect)
    (here : TakesMessage old space names arguments answer one effects)
    (there : TakesMessage old space names arguments answer other others)
    → TooLarge old here.member here.serial here.message arguments.large answer one effects
    → TooLarge old there.member there.serial there.message arguments.large answer other others
    → SameLeft one other effects others
unfolding member_shown
same_large_of old space names arguments answer one other effects others here there first second =
    let member : here.member ≡ there.member =
    ap member_shown
    (sym (large_answer old here.member here.serial here.message arguments.large answer one effects first)
    ∙ large_answer old there.member there.serial there.message arguments.large answer other others second) in
    let same = same_message_of old space names arguments answer one other effects others here there member in
    let moved : TooLarge old here.member here.serial here.message arguments.large answer other others =
    subst (λ (m : ℕ). TooLarge old m here.serial here.message arguments.large answer other others) (sym member)
    (subst (λ (s : ℕ). TooLarge old there.member s here.message arguments.large answer other others)
    (sym same.same_serial)
    (subst (λ (m : Message). TooLarge old there.member there.serial m arguments.large answer other others)
    (sym same.same_message) second)) in
    same_large old here.member here.serial here.message arguments.large answer one other effects others first moved

same_received_of : (old : Ipc) (space : ℕ) (names : Names) (arguments : ReceiveArguments) (answer : PlainReply)
    (one other : Ipc) (effects others : List Effect)
    (here : TakesMessage old space names arguments answer one effects)
    (there : TakesMessage old space names arguments answer other others)
    → LawfulMessage here.message
    → Received old space names here.member here.serial here.port here.message answer one effects
    → Received old space names there.member there.serial there.port there.message answer other others
    → SameLeft one other effects others
unfolding member_shown
same_received_of old space names arguments answer one other effects others here there lawful first second =
    let member : here.member ≡ there.member = ap member_shown (sym first.3 ∙ second.3) in
    let same = same_message_of old space names arguments answer one other effects others here there member in
    let moved : Received old space names here.member here.serial here.port here.message answer other others =
    subst (λ (m : ℕ). Received old space names m here.serial here.port here.message answer other others) (sym member)
    (subst (λ (s : ℕ). Received old space names there.member s here.port here.message answer other others)
    (sym same.same_serial)
    (subst (λ (p : PortState). Received old space names there.member there.serial p here.message answer other others)
    (sym same.same_port)
    (subst (λ (m : Message). Received old space names there.member there.serial there.port m answer other others)
    (sym same.same_message) second))) in
    same_received old space names here.member here.serial here.port here.message answer one other effects others lawful
    first moved

large_code : (answer : PlainReply) (size member : ℕ) → answer ≡ without_message RcvTooLarge size member
    → code_shown answer ≡ 0x1000_4004
unfolding code_shown
large_code answer size member is = ap code_shown is

lacking_code : (answer : PlainReply) → answer ≡ without_message RcvHeaderErrorSpace 0 0 → code_shown answer ≡ 0x1000_600b
unfolding code_shown
lacking_code answer is = ap code_shown is

received_code : (answer : PlainReply) (size member : ℕ) (encoding : List ℕ)
    → answer ≡ reply.Message Success size member encoding → code_shown answer ≡ 0
unfolding code_shown
received_code answer size member encoding is = ap code_shown is

outcomes_same : (old : Ipc) (space : ℕ) (names : Names) (arguments : ReceiveArguments) (answer : PlainReply)
    (one other : Ipc) (effects others : List Effect)
    (here : TakesMessage old space names arguments answer one effects)
    (there : TakesMessage old space names arguments answer other others)
    → LawfulMessage here.message
    → Outcomes old space names arguments here.member here.serial here.port here.message answer one effects
    → Outcomes old space names arguments there.member there.serial there.port there.message answer other others
    → SameLeft one other effects others
outcomes_same old space names arguments answer one other effects others here there lawful (was_large first)
    (was_large second) =
    same_large_of old space names arguments answer one other effects others here there first second
outcomes_same old space names arguments answer one other effects others here there lawful (was_large first)
    (was_lacking is as_before none) =
    absurd (omega (
      arith,
      large_code answer _ _
          (large_answer old here.member here.serial here.message arguments.large answer one effects first),
      lacking_code answer is,
    ))
outcomes_same old space names arguments answer one other effects others here there lawful (was_large first)
    (was_received second) =
    absurd (omega (
      arith,
      large_code answer _ _
          (large_answer old here.member here.serial here.message arguments.large answer one effects first),
      received_code answer _ _ _ second.3,
    ))
outcomes_same old space names arguments answer one other effects others here there lawful
    (was_lacking is as_before none) (was_large second) =
    absurd (omega (
      arith,
      large_code answer _ _
          (large_answer old there.member there.serial there.message arguments.large answer other others second),
      lacking_code answer is,
    ))
outcomes_same old space names arguments answer one other effects others here there lawful
    (was_lacking is as_before none) (was_lacking is_too as_before_too none_too) =
    record { state = as_before ∙ sym as_before_too; effects_are = none ∙ sym none_too }
outcomes_same old space names arguments answer one other effects others here there lawful
    (was_lacking is as_before none) (was_received second) =
    absurd (omega (arith, lacking_code answer is, received_code answer _ _ _ second.3))
outcomes_same old space names arguments answer one other effects others here there lawful (was_received first)
    (was_large second) =
    absurd (omega (
      arith,
      received_code answer _ _ _ first.3,
      large_code answer _ _
          (large_answer old there.member there.serial there.message arguments.large answer other others second),
    ))
outcomes_same old space names arguments answer one other effects others here there lawful (was_received first)
    (was_lacking is as_before none) =
    absurd (omega (arith, received_code answer _ _ _ first.3, lacking_code answer is))
outcomes_same old space names arguments answer one other effects others here there lawful (was_received first)
    (was_received second) =
    same_received_of old space names arguments answer one other effects others here there lawful first second

-- a receive as its definition has it, whatever the test of its sources said
abbrev pub Refuses : Option KernReturn → Ipc → ℕ → Names → ReceiveArguments → PlainReply → Ipc → List Effect → Type 0
Refuses refusal old space names arguments answer new effects =
    MatchOption refusal (TakesMessage old space names arguments answer new effects)
    (λ code. (answer ≡ without_message code 0 0) × (new ≡ old) × (effects ≡ []))

-- two receives with one reply leave one state and one list of effects
zero_less : (first : Message) (later : List Message) → 0 < length (first ∷ later)
zero_less first later = omega arith

pub same_taking : (old : Ipc) (space : ℕ) (names : Names) (arguments : ReceiveArguments) (answer : PlainReply)
    (one other : Ipc) (effects others : List Effect)
    → LawfulAtRest old → TakesMessage old space names arguments answer one effects
    → TakesMessage old space names arguments answer other others → SameLeft one other effects others
same_taking old space names arguments answer one other effects others lawful here there =
    let port_is = (lawful.ports here.serial here.port here.live).2 in
    let first_is : LawfulMessage here.message =
    (subst (λ (l : List Message). All LawfulMessage l) here.first port_is.messages) 0 here.message
    (zero_less here.message here.later) in
    outcomes_same old space names arguments answer one other effects others here there first_is
    (outcome_of old space names arguments here.member here.serial here.port here.message answer one effects here.takes)
    (outcome_of old space names arguments there.member there.serial there.port there.message answer other others
    there.takes)

pub same_receive : (old : Ipc) (space : ℕ) (names : Names) (arguments : ReceiveArguments) (answer : PlainReply)
    (one other : Ipc) (effects others : List Effect)
    → LawfulAtRest old → Receives old space names arguments answer one effects
    → Receives old space names arguments answer other others → SameLeft one other effects others
same_receive old space names arguments answer one other effects others lawful here there =
    elim (receive_refusal old names arguments)
    as (λ (r : Option KernReturn). Refuses r old space names arguments answer one effects
    → Refuses r old space names arguments answer other others → SameLeft one other effects others) [
      | None ↦ λ (first : _) (second : _). same_taking old space names arguments answer one other effects others lawful
          first second
      | Some code ↦ λ (first : _) (second : _).
          record { state = first.1 ∙ sym second.1; effects_are = first.2 ∙ sym second.2 }
    ] here there
