-- What receives that have records answer.
use Rattle.std.specs.Prelude.{◌≡◌, ℕ, ◌+◌, ◌*◌, ◌≤◌, ◌<◌, Bool, true, false, nat_lt, List, [], ◌∷◌, ◌++◌, length, take, drop, flat_map, Option, None, Some, IfSome, Result, MatchOption, MatchBool, if◌then◌else◌, refl}
use Rattle.std.proofs.Common.{◌∙◌, ap, sym, subst, arith, length-append}
use Rattle.std.proofs.lemmas.Bool.{ltb-false, ltb-true}
use Rattle.std.proofs.lemmas.List.{length-drop, length-map}
use Rattle.std.specs.FinMap as finmap
use Rattle.codes.specs.declared.kern_return.KernReturn.{KernReturn}
use Rattle.codes.specs.declared.kern_return.KernReturn.TheVariants.{Success, RcvTooLarge, RcvHeaderErrorSpace, RcvPortDied, RcvInvalidName, RcvPortChanged, RcvInSet, RcvTimedOut}
use Rattle.codes.specs.declared.limits.TheConstants.{MAX_MESSAGE_SIZE}
use Rattle.codes.specs.declared.name.TheConstants.{MACH_PORT_DEAD, MACH_PORT_NULL}
use Rattle.ipc_model.specs.calls.PlainStep.{has_record}
use Rattle.ipc_model.specs.declared.plain_call.PlainCall.{PlainCall}
use Rattle.ipc_model.specs.declared.plain_call.PlainCall.TheVariants as call
use Rattle.ipc_model.specs.declared.plain_reply.PlainReply.{PlainReply}
use Rattle.ipc_model.specs.declared.plain_reply.PlainReply.TheVariants as reply
use Rattle.ipc_model.specs.declared.message.CarriedRight.{CarriedRight}
use Rattle.ipc_model.specs.declared.message.Message.{Message}
use Rattle.ipc_model.specs.declared.port.PortState.{PortState}
use Rattle.ipc_model.specs.effects.Effects.{Effect}
use Rattle.ipc_model.specs.messages.Items.{Item, item_encoding, items_encoding, items_of, filled, body_filled, is_port_item, padded, AreItems}
use Rattle.ipc_model.specs.messages.Messages.{header_length, message_encoding}
use Rattle.ipc_model.specs.messages.Receiving.{ReceiveArguments, Receives, TakesMessage, TakesOut, TooLarge, Received, lacks_names, arriving, reply_right, reply_name, body_names, received_bits, received_body, received_encoding, receive_refusal, refusal_of_sources, sources, is_in_set, all_empty, message_size, without_message}
use Rattle.ipc_model.specs.state.Lawful.{LawfulMessage, HoldsPorts}
use Rattle.ipc_model.specs.state.Ipc.{Ipc, Names}
use Rattle.ipc_model.specs.encodings.PlainCalls.{IsOfReceive}
use Rattle.ipc_laws.specs.ItemLaws.{item_length, items_read}
use Rattle.ipc_laws.specs.LawfulLaws.{LawfulAtRest}
use Rattle.ipc_laws.specs.ReceiveArgumentLaws.{as_many_names, length-kinds, length-words-take, port_count}
use Rattle.ipc_laws.specs.ReceiveKeep.{oldest_lawful}
use Rattle.ipc_laws.specs.ReceiveLaws.{large_answer}
use Rattle.words.specs.WordLaws.{length-word}
use Rattle.words.specs.Words.{word}

-- A body is as long with its ports' names as without them.
filled_long : (items : List Item) (names : List ℕ) → AreItems items → length names ≡ port_count items
    → length (items_encoding (filled items names)) ≡ length (items_encoding items)
unfolding port_count
filled_long [] names fit many = refl
filled_long (item ∷ items) names fit many =
    elim (is_port_item item) as (λ (b : Bool). is_port_item item ≡ b
    → length names ≡ (elim b as (λ _. ℕ) [ true ↦ item.number | false ↦ 0 ]) + port_count items
    → length (items_encoding (if b
    then record item { content = flat_map word (take item.number names) } ∷ filled items (drop item.number names)
    else item ∷ filled items names)) ≡ length (items_encoding (item ∷ items))) [
      | false ↦ λ (_ : _) (here : _).
          omega (
            arith,
            length-append (item_encoding item) (items_encoding (filled items names)),
            length-append (item_encoding item) (items_encoding items),
            filled_long items names fit.1 (omega (arith, here)),
          )
      | true ↦ λ (port : _) (here : _).
          let n : ℕ = item.number in
          let next : Item = record item { content = flat_map word (take n names) } in
          let content : length item.content ≡ padded (n * 32) =
          fit.0.long ∙ ap (λ (k : ℕ). padded (n * k)) (fit.0.ports port) in
          omega (
            arith,
            length-append (item_encoding next) (items_encoding (filled items (drop n names))),
            length-append (item_encoding item) (items_encoding items),
            item_length next,
            item_length item,
            length-words-take n names (omega (arith, here)),
            content,
            filled_long items (drop n names) fit.1 (omega (arith, here, length-drop n names)),
          )
    ] refl many

ports_long : (message : Message) (names : List ℕ) → LawfulMessage message → HoldsPorts message.body message.rights
    → length names ≡ length message.rights
    → length (body_filled (items_of message.body) message.body names) ≡ length message.body
ports_long message names lawful holds many =
    let read = items_read message.body holds.items lawful.bytes holds.tiled in
    let counted : length message.rights ≡ port_count holds.items =
    sym (length-map message.rights (λ (r : CarriedRight). r.kind)) ∙ ap length holds.kinds ∙ length-kinds holds.items in
    ap (λ (items : Result (List Item) KernReturn). length (body_filled items message.body names)) holds.tiled
    ∙ filled_long holds.items names read.fit (many ∙ counted) ∙ read.long

pub body_long : (message : Message) (names : List ℕ) → LawfulMessage message → length names ≡ length message.rights
    → length (received_body message names) ≡ length message.body
body_long message names lawful many =
    elim message.complex as (λ (b : Bool). MatchBool b (HoldsPorts message.body message.rights) (message.rights ≡ [])
    → length (if b then body_filled (items_of message.body) message.body names else message.body)
    ≡ length message.body) [
      | true ↦ λ (ports : _). ports_long message names lawful ports many
      | false ↦ λ (_ : _). refl
    ] lawful.ports

pub names_left : (reply : Option CarriedRight) (rights : List CarriedRight) (given : List ℕ)
    → length given ≡ length (reply_right reply ++ rights) → length (body_names reply given) ≡ length rights
names_left None rights given many = many
names_left (Some right) rights given many = omega (arith, many, length-drop 1 given)

pub encoding_long : (bits remote local seqno id : ℕ) (body : List ℕ)
    → length (message_encoding bits remote local seqno id body) ≡ header_length + length body
encoding_long bits remote local seqno id body =
    let size : ℕ = header_length + length body in
    let after_seqno : List ℕ = word id ++ body in
    let after_local : List ℕ = word seqno ++ after_seqno in
    let after_remote : List ℕ = word local ++ after_local in
    let after_size : List ℕ = word remote ++ after_remote in
    omega (
      arith,
      length-append (word bits) (word size ++ after_size),
      length-append (word size) after_size,
      length-append (word remote) after_remote,
      length-append (word local) after_local,
      length-append (word seqno) after_seqno,
      length-append (word id) body,
      length-word bits,
      length-word size,
      length-word remote,
      length-word local,
      length-word seqno,
      length-word id,
    )

received_long : (message : Message) (member seqno : ℕ) (given : List ℕ) → LawfulMessage message
    → length given ≡ length (arriving message)
    → length (received_encoding message member seqno given) ≡ message_size message
received_long message member seqno given lawful many =
    encoding_long (received_bits message) (reply_name message.reply given) member seqno message.id
    (received_body message (body_names message.reply given))
    ∙ ap (λ (n : ℕ). header_length + n)
    (body_long message (body_names message.reply given) lawful (names_left message.reply message.rights given many))

-- A receive that has a record brings a message of its size, or destroyed one and brings none.
pub record ReceiveDone (arguments : ReceiveArguments) (answer : PlainReply) : Type 0 where
  pub code : KernReturn
  pub size : ℕ
  pub member : ℕ
  pub message : List ℕ
  pub answer_is : answer ≡ reply.Message code size member message
  pub brings : IsOfReceive arguments.limit code size member message
  pub small : length message ≤ MAX_MESSAGE_SIZE

abbrev pub call_of : ReceiveArguments → PlainCall
call_of arguments = call.Receive arguments.limit arguments.large arguments.name arguments.waited

-- a receive that is refused with another code has no record
abbrev HasNone : KernReturn → Type 0
HasNone code =
    (limit name : ℕ) (large waited : Bool)
    → has_record (call.Receive limit large name waited) (without_message code 0 MACH_PORT_NULL) ≡ true → ⊥

lacking_none : HasNone RcvHeaderErrorSpace
lacking_none limit name true waited e = cc e
lacking_none limit name false waited e = cc e

died_none : HasNone RcvPortDied
died_none limit name true waited e = cc e
died_none limit name false waited e = cc e

invalid_none : HasNone RcvInvalidName
invalid_none limit name true waited e = cc e
invalid_none limit name false waited e = cc e

changed_none : HasNone RcvPortChanged
changed_none limit name true waited e = cc e
changed_none limit name false waited e = cc e

in_set_none : HasNone RcvInSet
in_set_none limit name true waited e = cc e
in_set_none limit name false waited e = cc e

timed_out_none : HasNone RcvTimedOut
timed_out_none limit name true waited e = cc e
timed_out_none limit name false waited e = cc e

either_none : (b : Bool) (one other : KernReturn) → HasNone one → HasNone other → HasNone (if b then one else other)
either_none true one other a b = a
either_none false one other a b = b

refusals_none : (old : Ipc) (names : Names) (arguments : ReceiveArguments) → IfSome
    (receive_refusal old names arguments) HasNone
refusals_none old names arguments =
    elim (sources old names arguments.name (finmap.get names arguments.name))
    as (λ (o : Option (List ℕ)). IfSome (refusal_of_sources old names arguments o) HasNone) [
      | None ↦ either_none arguments.waited RcvPortDied RcvInvalidName died_none invalid_none
      | Some among ↦ elim (is_in_set old names arguments.name)
          as (λ (b : Bool). IfSome (if b then Some (if arguments.waited then RcvPortChanged else RcvInSet)
          else if all_empty old names among then Some RcvTimedOut else None) HasNone) [
            | true ↦ either_none arguments.waited RcvPortChanged RcvInSet changed_none in_set_none
            | false ↦ elim (all_empty old names among) as (λ (b : Bool). IfSome
                (if b then Some RcvTimedOut else None) HasNone) [ true ↦ timed_out_none | false ↦ tt ]
          ]
    ]

-- the message of a receive is lawful, and the name of its port is one that may be reported
record Reportable (message : Message) (member : ℕ) : Type 0 where
  lawful : LawfulMessage message
  named : (MACH_PORT_NULL < member) × (member < MACH_PORT_DEAD)

destroyed_done : (old : Ipc) (member serial : ℕ) (arguments : ReceiveArguments) (message : Message) (answer : PlainReply)
    (new : Ipc) (effects : List Effect) → Reportable message member
    → nat_lt arguments.limit (message_size message) ≡ true
    → TooLarge old member serial message arguments.large answer new effects → ReceiveDone arguments answer
destroyed_done old member serial arguments message answer new effects reportable larger large =
    record {
      code = RcvTooLarge;
      size = message_size message;
      member = member;
      message = [];
      answer_is = large_answer old member serial message arguments.large answer new effects large;
      brings = (
        (omega arith, reportable.lawful.small, reportable.lawful.whole_words),
        reportable.named.0,
        reportable.named.1,
        (ltb-true arguments.limit (message_size message) larger, refl),
      );
      small = omega arith;
    }

brought_done : (old : Ipc) (space member serial : ℕ) (names : Names) (arguments : ReceiveArguments) (port : PortState)
    (message : Message) (answer : PlainReply) (new : Ipc) (effects : List Effect) → Reportable message member
    → nat_lt arguments.limit (message_size message) ≡ false
    → Received old space names member serial port message answer new effects → ReceiveDone arguments answer
brought_done old space member serial names arguments port message answer new effects reportable within
    (given, after, arrives, shown, same, are) =
    let long =
    received_long message member port.sequence_number given reportable.lawful
    (as_many_names names (arriving message) given after arrives) in
    record {
      code = Success;
      size = message_size message;
      member = member;
      message = received_encoding message member port.sequence_number given;
      answer_is = shown;
      brings = (
        (omega arith, reportable.lawful.small, reportable.lawful.whole_words),
        reportable.named.0,
        reportable.named.1,
        (ltb-false arguments.limit (message_size message) within, long),
      );
      small = omega (arith, long, reportable.lawful.small);
    }

taken_done : (old : Ipc) (space member serial : ℕ) (names : Names) (arguments : ReceiveArguments) (port : PortState)
    (message : Message) (answer : PlainReply) (new : Ipc) (effects : List Effect) → Reportable message member
    → TakesOut old space names arguments member serial port message answer new effects
    → has_record (call_of arguments) answer ≡ true → ReceiveDone arguments answer
taken_done old space member serial names arguments port message answer new effects reportable takes recorded =
    elim (nat_lt arguments.limit (message_size message))
    as (λ (b : Bool). nat_lt arguments.limit (message_size message) ≡ b
    → MatchBool b (TooLarge old member serial message arguments.large answer new effects)
    (MatchBool (lacks_names names message)
    ((answer ≡ without_message RcvHeaderErrorSpace 0 MACH_PORT_NULL) × (new ≡ old) × (effects ≡ []))
    (Received old space names member serial port message answer new effects))
    → ReceiveDone arguments answer) [
      | true ↦ λ (larger : _) (large : _). destroyed_done old member serial arguments message answer new effects
          reportable
          larger large
      | false ↦ λ (within : _) (here : _). elim (lacks_names names message) as (λ (b : Bool).
          MatchBool b ((answer ≡ without_message RcvHeaderErrorSpace 0 MACH_PORT_NULL) × (new ≡ old) × (effects ≡ []))
          (Received old space names member serial port message answer new effects) → ReceiveDone arguments answer) [
            | true ↦ λ (lacks : _). absurd
                (lacking_none arguments.limit arguments.name arguments.large arguments.waited
                (subst (λ (a : PlainReply). has_record (call_of arguments) a ≡ true) lacks.0 recorded))
            | false ↦ λ (whole : _). brought_done old space member serial names arguments port message answer new
                effects reportable within whole
          ] here
    ] refl takes

message_taken : (old : Ipc) (space : ℕ) (names : Names) (arguments : ReceiveArguments) (answer : PlainReply) (new : Ipc)
    (effects : List Effect) → LawfulAtRest old → finmap.get old.spaces space ≡ Some names
    → TakesMessage old space names arguments answer new effects → has_record (call_of arguments) answer ≡ true
    → ReceiveDone arguments answer
message_taken old space names arguments answer new effects lawful there taken recorded =
    let named = (lawful.spaces space names there).2.named taken.member taken.holds.0 taken.holds.1 in
    taken_done old space taken.member taken.serial names arguments taken.port taken.message answer new effects
    (record {
      lawful =
          oldest_lawful taken.port taken.message taken.later (lawful.ports taken.serial taken.port taken.live).2
          taken.first;
      named = (named.0, named.1);
    }) taken.takes recorded

pub receive_done : (old : Ipc) (space : ℕ) (names : Names) (arguments : ReceiveArguments) (answer : PlainReply)
    (new : Ipc) (effects : List Effect) → LawfulAtRest old → finmap.get old.spaces space ≡ Some names
    → Receives old space names arguments answer new effects → has_record (call_of arguments) answer ≡ true
    → ReceiveDone arguments answer
receive_done old space names arguments answer new effects lawful there receives recorded =
    elim (receive_refusal old names arguments)
    as (λ (o : Option KernReturn). IfSome o HasNone
    → MatchOption o (TakesMessage old space names arguments answer new effects)
    (λ code. (answer ≡ without_message code 0 MACH_PORT_NULL) × (new ≡ old) × (effects ≡ []))
    → ReceiveDone arguments answer) [
      | None ↦ λ (_ : _) (takes : _). message_taken old space names arguments answer new effects lawful there takes
          recorded
      | Some code ↦ λ (none : _) (refused : _). absurd
          (none arguments.limit arguments.name arguments.large arguments.waited
          (subst (λ (a : PlainReply). has_record (call_of arguments) a ≡ true) refused.0 recorded))
    ] (refusals_none old names arguments) receives

-- Receives that have records, from lawful states.
abbrev pub RecordedReceivesAreDone : Type 0
RecordedReceivesAreDone =
    (old : Ipc) (space : ℕ) (names : Names) (arguments : ReceiveArguments) (answer : PlainReply) (new : Ipc)
    (effects : List Effect)
    → LawfulAtRest old → finmap.get old.spaces space ≡ Some names
    → Receives old space names arguments answer new effects
    → has_record (call_of arguments) answer ≡ true → ReceiveDone arguments answer

pub recorded_receives : RecordedReceivesAreDone
recorded_receives old space names arguments answer new effects lawful there receives recorded =
    receive_done old space names arguments answer new effects lawful there receives recorded
