-- A receive leaves a state that is lawful with the effects: the message's rights go through the call's hand to names,
-- or are released.
use Rattle.std.specs.Prelude.{◌≡◌, ◌≢◌, ℕ, ◌+◌, ◌≤◌, Bool, true, false, not, ◌&&◌, ◌||◌, ◌==◌, nat_lt, All, drop, List, [], ◌∷◌, ◌++◌, Option, None, Some, is_none, MatchOption, MatchBool, if◌then◌else◌, refl}
use Rattle.std.proofs.Common.{sym, ◌∙◌, ap, subst, arith}
use Rattle.std.proofs.lemmas.Bool.{ltb-false}
use Rattle.std.proofs.lemmas.List.Elements.{All-tail}
use Rattle.std.specs.List.{list_any}
use Rattle.std.specs.Ordering.{nat_cmp}
use Rattle.std.specs.FinMap as finmap
use Rattle.codes.specs.declared.kern_return.KernReturn.{KernReturn}
use Rattle.codes.specs.declared.kern_return.KernReturn.TheVariants.{RcvHeaderErrorSpace}
use Rattle.codes.specs.declared.limits.TheConstants.{MAX_NAMES}
use Rattle.ipc_model.specs.declared.plain_reply.PlainReply.{PlainReply}
use Rattle.ipc_model.specs.declared.message.CarriedRight.{CarriedRight}
use Rattle.ipc_model.specs.declared.message.Message.{Message}
use Rattle.ipc_model.specs.declared.message.PortInMessage.{PortInMessage}
use Rattle.ipc_model.specs.declared.message.PortInMessage.TheVariants as in_message
use Rattle.ipc_model.specs.declared.message.RightKind.{RightKind}
use Rattle.ipc_model.specs.declared.message.RightKind.TheVariants as kind
use Rattle.ipc_model.specs.declared.port.PortState.{PortState}
use Rattle.ipc_laws.specs.Arrivals.{HasName, arrived_mid, not_unnamed, named_there, same_live}
use Rattle.ipc_laws.specs.CallsKeep.{Kept, kept_as}
use Rattle.ipc_model.specs.state.Circular.{Acyclic, is_receive_right}
use Rattle.ipc_model.specs.rights.CopyOut.{Arrives, names_after, wants_name, named_with, names_needed}
use Rattle.ipc_model.specs.effects.Effects.{Effect, releases_of}
use Rattle.ipc_laws.specs.EffectRanks.{fewer_edges, changed_edges, or_later}
use Rattle.ipc_laws.specs.EffectWeights.{releases_carry}
use Rattle.ipc_laws.specs.EffectsKeep.{releases_wait, waiting-append}
use Rattle.ipc_laws.specs.Hands.{Hand, MidCall, empty_hand, mid_of, mid_hand, mid_port, kept_of_mid}
use Rattle.ipc_model.specs.state.Lawful.{LawfulPort, LawfulMessage}
use Rattle.ipc_laws.specs.LawfulLaws.{LawfulAtRest}
use Rattle.ipc_laws.specs.MapLaws.{get-here}
use Rattle.ipc_laws.specs.MapSums.{weigh, weigh-append, insert-insert, insert-same}
use Rattle.ipc_laws.specs.Others.{number_same, with_port_spaces}
use Rattle.ipc_model.specs.messages.Receiving.{ReceiveArguments, Receives, TakesMessage, TakesOut, TooLarge, Received, receive_refusal, message_size, lacks_names, without_oldest, destination_consumed, arriving, reply_right, without_message}
use Rattle.ipc_model.specs.state.Ipc.{Ipc, Names, with_names, with_port, next_count, name_of_port}
use Rattle.ipc_laws.specs.Takes.{Quiet, with_right, next_fits}
use Rattle.ipc_laws.specs.Weights.{Weight, carried_weigh, reply_weigh, message_weigh, port_weigh, effect_weigh, receive_of, any_of}

-- A message is taken out, and its rights are in hand.

abbrev message_hand : ℕ → Message → Hand
message_hand serial message w = message_weigh w serial message

abbrev oldest_out : PortState → PortState
oldest_out p = record p { messages = drop 1 p.messages; sequence_number = next_count p.sequence_number }

any_dropped : {A : Type 0} (test : A → Bool) (xs : List A) → list_any test (drop 1 xs) ≡ true → list_any test xs ≡ true
any_dropped test [] is = is
any_dropped test (x ∷ xs) is = or_later (test x) (list_any test xs) is

all_later : {A : Type 0} (P : A → Type 0) (xs : List A) → All P xs → All P (drop 1 xs)
all_later P [] all = all
all_later P (x ∷ xs) all = All-tail P x xs all

out_weighs : (w : Weight) (serial : ℕ) (port : PortState) (message : Message) (later : List Message)
    → port.messages ≡ message ∷ later
    → port_weigh w serial (oldest_out port) + message_weigh w serial message ≡ port_weigh w serial port
out_weighs w serial port message later is =
    omega (
      arith,
      ap (λ (l : List Message). weigh (message_weigh w serial) l) is,
      ap (λ (l : List Message). weigh (message_weigh w serial) (drop 1 l)) is,
    )

oldest_mid : (state : Ipc) (serial : ℕ) (port : PortState) (message : Message) (later : List Message)
    → MidCall state empty_hand → finmap.get state.ports serial ≡ Some port → port.messages ≡ message ∷ later
    → MidCall (without_oldest state serial) (message_hand serial message)
oldest_mid state serial port message later mid at is =
    let lawful : LawfulPort port = (mid.parts.ports serial port at).2 in
    mid_port state serial oldest_out empty_hand (message_hand serial message) (record {
      port = port;
      there = at;
      lawful =
          record {
            limit = lawful.limit;
            sequence_number = next_fits port.sequence_number lawful.sequence_number;
            make_send_count = lawful.make_send_count;
            messages = all_later LawfulMessage port.messages lawful.messages;
          };
      receives = λ (q : ℕ). omega (arith, out_weighs (receive_of q) serial port message later is);
      none_dead = λ (q : ℕ) (dead : _). omega (arith, out_weighs (any_of q) serial port message later is);
      set = λ (set : ℕ) (is : _). is;
      acyclic =
          fewer_edges state (with_port state serial oldest_out)
          (changed_edges state serial oldest_out
          (λ (inner : ℕ) (p : PortState) (e : _). any_dropped
          (λ (m : Message). list_any (is_receive_right inner) m.rights) p.messages e)) mid.acyclic;
    }) mid

-- the destination right is no receive right

no_receive : (q serial : ℕ) (what : RightKind) → what ≢ kind.Receive → receive_of q what serial ≡ 0
no_receive q serial kind.Receive apart = absurd (apart refl)
no_receive q serial kind.Send apart = refl
no_receive q serial kind.SendOnce apart = refl

consumed_quiet : (what : RightKind) (serial : ℕ) → Quiet (destination_consumed what serial)
consumed_quiet kind.Receive serial = record { waits = tt; receives = λ (q : ℕ). refl }
consumed_quiet kind.Send serial = record { waits = (tt, tt); receives = λ (q : ℕ). refl }
consumed_quiet kind.SendOnce serial = record { waits = tt; receives = λ (q : ℕ). refl }

-- the message was lawful
pub oldest_lawful : (port : PortState) (message : Message) (later : List Message) → LawfulPort port
    → port.messages ≡ message ∷ later → LawfulMessage message
oldest_lawful port message later lawful is =
    let all : All LawfulMessage (message ∷ later) =
    subst (λ (l : List Message). All LawfulMessage l) is lawful.messages in
    all 0 message (omega arith)

-- a message that was too large is destroyed
destroyed_kept : (state : Ipc) (serial : ℕ) (message : Message) → MidCall state (message_hand serial message)
    → LawfulMessage message → Kept state (destination_consumed message.destination serial ++ releases_of message)
destroyed_kept state serial message mid lawful =
    let consumed = consumed_quiet message.destination serial in
    kept_of_mid state (message_hand serial message)
    (destination_consumed message.destination serial ++ releases_of message) mid
    (waiting-append (destination_consumed message.destination serial) (releases_of message) consumed.waits
    (releases_wait message))
    (λ (q : ℕ). omega (
      arith,
      weigh-append (effect_weigh (receive_of q)) (destination_consumed message.destination serial)
          (releases_of message),
      consumed.receives q,
      releases_carry (receive_of q) serial message,
      no_receive q serial message.destination lawful.destination,
    ))

-- Rights arrive one after another.

-- room for the names that they need, if every port that needs none has a name
record Fits (start now : Names) (named : List ℕ) (rights : List CarriedRight) : Type 0 where
  room : finmap.len now + names_needed start named rights ≤ MAX_NAMES
  known : (serial : ℕ) → (is_none (name_of_port start serial) && not (list_any (λ port. port == serial) named)) ≡ false
      → HasName now serial

none_is : (o : Option ℕ) → is_none o ≡ true → o ≡ None
none_is None e = refl
none_is (Some n) e = absurd (cc e)

front_true : (b c : Bool) → (b && c) ≡ true → b ≡ true
front_true true c e = refl
front_true false c e = absurd (cc e)

-- a port that needs no name by the count has one
has_one : (start now : Names) (named : List ℕ) (rights : List CarriedRight) (what : RightKind) (port : PortInMessage)
    → Fits start now named rights → wants_name start named what port ≡ false → (serial : ℕ)
    → port ≡ in_message.Live serial → (what ≢ kind.SendOnce) × HasName now serial
has_one start now named rights what in_message.Null fits unwanted serial is = absurd (cc is)
has_one start now named rights what in_message.Dead fits unwanted serial is = absurd (cc is)
has_one start now named rights kind.SendOnce (in_message.Live n) fits unwanted serial is = absurd (cc unwanted)
has_one start now named rights kind.Send (in_message.Live n) fits unwanted serial is =
    ((λ (e : _). cc e), subst (HasName now) (same_live n serial is) (fits.known n unwanted))
has_one start now named rights kind.Receive (in_message.Live n) fits unwanted serial is =
    ((λ (e : _). cc e), subst (HasName now) (same_live n serial is) (fits.known n unwanted))

wants_none : (now : Names) (what : RightKind) (port : PortInMessage) → wants_name now [] what port ≡ true
    → ((serial : ℕ) → port ≡ in_message.Live serial → (what ≢ kind.SendOnce) × HasName now serial) → ⊥
wants_none now what in_message.Null wants has = cc wants
wants_none now what in_message.Dead wants has = cc wants
wants_none now kind.SendOnce (in_message.Live n) wants has = (has n refl).0 refl
wants_none now kind.Send (in_message.Live n) wants has =
    not_unnamed now n (has n refl).1
    (none_is (name_of_port now n) (front_true (is_none (name_of_port now n)) (not false) wants))
wants_none now kind.Receive (in_message.Live n) wants has =
    not_unnamed now n (has n refl).1
    (none_is (name_of_port now n) (front_true (is_none (name_of_port now n)) (not false) wants))

-- so a right that needs a name now was counted
counted : (start now : Names) (named : List ℕ) (rights : List CarriedRight) (what : RightKind) (port : PortInMessage)
    → Fits start now named rights → wants_name now [] what port ≡ true → wants_name start named what port ≡ true
counted start now named rights what port fits wants =
    elim (wants_name start named what port) as (λ (b : Bool). wants_name start named what port ≡ b → b ≡ true) [
      | true ↦ λ (_ : _). refl
      | false ↦ λ (unwanted : _). absurd
          (wants_none now what port wants (has_one start now named rights what port fits unwanted))
    ] refl

-- (one more port has a name)
one_named : (start now after : Names) (named : List ℕ) (rights : List CarriedRight) (what : RightKind) (n : ℕ)
    → Fits start now named rights → ((serial : ℕ) → HasName now serial → HasName after serial) → what ≢ kind.SendOnce
    → ((serial : ℕ) → in_message.Live n ≡ in_message.Live serial → what ≢ kind.SendOnce → HasName after serial)
    → (serial : ℕ) → (is_none (name_of_port start serial) && not
    (n == serial || list_any (λ port. port == serial) named)) ≡ false → HasName after serial
one_named start now after named rights what n fits still apart own serial unwanted =
    elim (n == serial) as (λ (b : Bool). (n == serial) ≡ b
    → (is_none (name_of_port start serial) && not (b || list_any (λ port. port == serial) named)) ≡ false
    → HasName after serial) [
      | true ↦ λ (same : _) (_ : _). own serial (ap (λ k. in_message.Live k) (number_same n serial same)) apart
      | false ↦ λ (_ : _) (e : _). still serial (fits.known serial e)
    ] refl unwanted

-- the ports that have names, once one more right has arrived
known_later : (start now after : Names) (named : List ℕ) (rights : List CarriedRight) (what : RightKind)
    (port : PortInMessage) → Fits start now named rights → ((serial : ℕ) → HasName now serial → HasName after serial)
    → ((serial : ℕ) → port ≡ in_message.Live serial → what ≢ kind.SendOnce → HasName after serial)
    → (serial : ℕ) → (is_none (name_of_port start serial) && not
    (list_any (λ port. port == serial) (named_with named what port))) ≡ false → HasName after serial
known_later start now after named rights what in_message.Null fits still own serial unwanted =
    still serial (fits.known serial unwanted)
known_later start now after named rights what in_message.Dead fits still own serial unwanted =
    still serial (fits.known serial unwanted)
known_later start now after named rights kind.SendOnce (in_message.Live n) fits still own serial unwanted =
    still serial (fits.known serial unwanted)
known_later start now after named rights kind.Send (in_message.Live n) fits still own serial unwanted =
    one_named start now after named rights kind.Send n fits still (λ (is : _). cc is) own serial unwanted
known_later start now after named rights kind.Receive (in_message.Live n) fits still own serial unwanted =
    one_named start now after named rights kind.Receive n fits still (λ (is : _). cc is) own serial unwanted

arrives_mid : (state : Ipc) (space : ℕ) (start now : Names) (named : List ℕ) (rights : List CarriedRight)
    (given : List ℕ) (after : Names) (hand : Hand)
    → MidCall (with_names state space now) (λ w. hand w + weigh (carried_weigh w) rights)
    → Fits start now named rights → Arrives now rights given after → MidCall (with_names state space after) hand
arrives_mid state space start now named [] given after hand mid fits (_, same) =
    subst (λ (n : Names). MidCall (with_names state space n) hand) (sym same)
    (mid_hand (with_names state space now) (λ w. hand w + 0) hand mid (λ (q : ℕ). omega arith)
    (λ (q : ℕ) (dead : _). omega arith))
arrives_mid state space start now named (right ∷ rights) given after hand mid fits (name, others, _, may, rest) =
    let here : Ipc = with_names state space now in
    let later : Hand = λ w. hand w + weigh (carried_weigh w) rights in
    let wants : Bool = wants_name start named right.kind right.port in
    let next : Names = names_after now right.kind right.port name in
    let in_hand : MidCall here (with_right later right) =
    mid_hand here (λ w. hand w + (carried_weigh w right + weigh (carried_weigh w) rights))
    (with_right later right) mid (λ (q : ℕ). omega arith) (λ (q : ℕ) (dead : _). omega arith) in
    let arrived =
    arrived_mid here space now later right.kind right.port name in_hand (get-here state.spaces space now) may
    (λ (needs : _). omega (
      arith,
      fits.room,
      ap {B = ℕ} (λ (b : Bool). if b then 1 else 0)
          (counted start now named (right ∷ rights) right.kind right.port fits needs),
    )) in
    let moved : MidCall (with_names state space next) later =
    subst (λ (s : finmap.FinMap nat_cmp Names). MidCall (record state { spaces = s }) later)
    (insert-insert state.spaces space now next) arrived.mid in
    arrives_mid state space start next (named_with named right.kind right.port) rights others after hand moved (record {
      room =
          elim wants as (λ (b : Bool). wants ≡ b
          → finmap.len now + ((if b then 1 else 0) + names_needed start
          (named_with named right.kind right.port) rights) ≤ MAX_NAMES
          → finmap.len next + names_needed start (named_with named right.kind right.port) rights ≤ MAX_NAMES) [
            | true ↦ λ (_ : _) (room : _). omega (arith, room, arrived.more)
            | false ↦ λ (unwanted : _) (room : _). omega (
              arith,
              room,
              arrived.same (has_one start now named
                  (right ∷ rights) right.kind right.port fits unwanted),
            )
          ] refl fits.room;
      known = known_later start now next named (right ∷ rights) right.kind right.port fits arrived.still arrived.own;
    }) rest

reply_weighs : (w : Weight) (reply : Option CarriedRight)
    → weigh (carried_weigh w) (reply_right reply) ≡ reply_weigh w reply
reply_weighs w None = refl
reply_weighs w (Some right) = omega arith

-- at first the names that ports have are those of the space
known_first : (names : Names) (serial : ℕ) → (is_none (name_of_port names serial) && not false) ≡ false
    → HasName names serial
known_first names serial unwanted =
    elim (name_of_port names serial)
    as (λ (o : Option ℕ). name_of_port names serial ≡ o → (is_none o && not false) ≡ false → HasName names serial) [
      | None ↦ λ (_ : _) (e : _). absurd (cc e)
      | Some name ↦ λ (is : _) (_ : _). let at = named_there names serial name is in
          record { name = name; entry = at.0; at = at.1; held = at.2 }
    ] refl unwanted

-- A message is received.
received_kept : (old : Ipc) (space member serial : ℕ) (names : Names) (port : PortState) (message : Message)
    (later : List Message) (answer : PlainReply) (new : Ipc) (effects : List Effect) → LawfulAtRest old → Acyclic old
    → finmap.get old.spaces space ≡ Some names
    → finmap.get old.ports serial ≡ Some port → port.messages ≡ message ∷ later → lacks_names names message ≡ false
    → Received old space names member serial port message answer new effects → Kept new effects
received_kept old space member serial names port message later answer new effects lawful acyclic there at is room
    (given, after, arrives, _, same, are) =
    let out : Ipc = without_oldest old serial in
    let taken : MidCall out (message_hand serial message) =
    oldest_mid old serial port message later (mid_of old lawful acyclic) at is in
    let there_out : finmap.get out.spaces space ≡ Some names =
    ap (λ (s : finmap.FinMap nat_cmp Names). finmap.get s space) (with_port_spaces old serial oldest_out) ∙ there in
    let same_state : with_names out space names ≡ out =
    ap (λ (s : finmap.FinMap nat_cmp Names). record out { spaces = s })
    (insert-same out.spaces space names there_out) in
    let message_lawful : LawfulMessage message = oldest_lawful port message later (lawful.ports serial port at).2 is in
    let all_weigh : (w : Weight) → weigh (carried_weigh w) (arriving message)
    ≡ reply_weigh w message.reply + weigh (carried_weigh w) message.rights =
    λ (w : Weight). omega (
      arith,
      weigh-append (carried_weigh w) (reply_right message.reply) message.rights,
      reply_weighs w message.reply,
    ) in
    let in_hand : MidCall out (λ w. empty_hand w + weigh (carried_weigh w) (arriving message)) =
    mid_hand out (message_hand serial message)
    (λ w. empty_hand w + weigh (carried_weigh w) (arriving message)) taken
    (λ (q : ℕ). omega (
      arith,
      all_weigh (receive_of q),
      no_receive q serial message.destination message_lawful.destination,
    ))
    (λ (q : ℕ) (dead : _). omega (arith, all_weigh (any_of q))) in
    let arrived : MidCall (with_names out space after) empty_hand =
    arrives_mid out space names names [] (arriving message) given after empty_hand
    (subst (λ (s : Ipc). MidCall s (λ w. empty_hand w + weigh (carried_weigh w) (arriving message)))
    (sym same_state) in_hand)
    (record {
      room = ltb-false MAX_NAMES (finmap.len names + names_needed names [] (arriving message)) room;
      known = λ (n : ℕ) (unwanted : _). known_first names n unwanted;
    }) arrives in
    let consumed = consumed_quiet message.destination serial in
    subst (λ (s : Ipc). Kept s effects) (sym same)
    (subst (λ (l : List Effect). Kept (with_names out space after) l) (sym are)
    (kept_of_mid (with_names out space after) empty_hand
    (destination_consumed message.destination serial) arrived consumed.waits consumed.receives))

too_large_kept : (old : Ipc) (member serial : ℕ) (port : PortState) (message : Message) (later : List Message)
    (large : Bool) (answer : PlainReply) (new : Ipc) (effects : List Effect) → LawfulAtRest old → Acyclic old
    → finmap.get old.ports serial ≡ Some port → port.messages ≡ message ∷ later
    → TooLarge old member serial message large answer new effects → Kept new effects
too_large_kept old member serial port message later true answer new effects lawful acyclic at is (_, same, are) =
    kept_as old new effects lawful acyclic same are
too_large_kept old member serial port message later false answer new effects lawful acyclic at is (_, same, are) =
    let taken : MidCall (without_oldest old serial) (message_hand serial message) =
    oldest_mid old serial port message later (mid_of old lawful acyclic) at is in
    subst (λ (s : Ipc). Kept s effects) (sym same)
    (subst (λ (l : List Effect). Kept (without_oldest old serial) l) (sym are)
    (destroyed_kept (without_oldest old serial) serial message taken
    (oldest_lawful port message later (lawful.ports serial port at).2 is)))

-- A receive.

taken_out_kept : (old : Ipc) (space member serial : ℕ) (names : Names) (arguments : ReceiveArguments)
    (port : PortState)
    (message : Message) (later : List Message) (answer : PlainReply) (new : Ipc) (effects : List Effect) → LawfulAtRest old
    → Acyclic old → finmap.get old.spaces space ≡ Some names
    → finmap.get old.ports serial ≡ Some port → port.messages ≡ message ∷ later
    → TakesOut old space names arguments member serial port message answer new effects → Kept new effects
taken_out_kept old space member serial names arguments port message later answer new effects lawful acyclic there at is
    takes =
    elim (nat_lt arguments.limit (message_size message))
    as (λ (b : Bool). MatchBool b (TooLarge old member serial message arguments.large answer new effects)
    (MatchBool (lacks_names names message)
    ((answer ≡ without_message RcvHeaderErrorSpace 0 0) × (new ≡ old) × (effects ≡ []))
    (Received old space names member serial port message answer new effects)) → Kept new effects) [
      | true ↦ λ (large : _). too_large_kept old member serial port message later arguments.large answer new effects
          lawful acyclic at is large
      | false ↦ elim (lacks_names names message)
          as (λ (b : Bool). lacks_names names message ≡ b
          → MatchBool b ((answer ≡ without_message RcvHeaderErrorSpace 0 0) × (new ≡ old) × (effects ≡ []))
          (Received old space names member serial port message answer new effects) → Kept new effects) [
            | true ↦ λ (_ : _) (refused : _). kept_as old new effects lawful acyclic refused.1 refused.2
            | false ↦ λ (room : _) (received : _). received_kept old space member serial names port message later answer
                new effects lawful acyclic there at is room received
          ] refl
    ] takes

pub receive_kept : (old : Ipc) (space : ℕ) (names : Names) (arguments : ReceiveArguments) (answer : PlainReply)
    (new : Ipc) (effects : List Effect) → LawfulAtRest old → Acyclic old → finmap.get old.spaces space ≡ Some names
    → Receives old space names arguments answer new effects → Kept new effects
receive_kept old space names arguments answer new effects lawful acyclic there receives =
    elim (receive_refusal old names arguments)
    as (λ (o : Option KernReturn). MatchOption o (TakesMessage old space names arguments answer new effects)
    (λ code. (answer ≡ without_message code 0 0) × (new ≡ old) × (effects ≡ [])) → Kept new effects) [
      | None ↦ λ (taken : _). taken_out_kept old space taken.member taken.serial names arguments taken.port
          taken.message taken.later answer new effects lawful acyclic there taken.live taken.first taken.takes
      | Some code ↦ λ (refused : _). kept_as old new effects lawful acyclic refused.1 refused.2
    ] receives
