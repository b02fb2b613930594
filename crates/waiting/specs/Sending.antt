-- If a send finds no room before a step that doesn't report its places, it finds none after the step.
use Rattle.std.proofs.Common.{◌≡◌, ℕ, Bool, true, false, ◌&&◌, not, List, [], ◌∷◌, ◌++◌, flat_map, Option, None, Some, option_map, option_and_then, Result, Ok, Err, refl, sym, ◌∙◌, ap, subst}
use Rattle.std.specs.Prelude.{if◌then◌else◌, ◌==◌, nat_lt, length, zero, suc}
use Rattle.codes.specs.declared.kern_return.KernReturn.{KernReturn}
use Rattle.codes.specs.declared.kern_return.KernReturn.TheVariants.{SendInvalidDest, SendInvalidHeader, SendInvalidReply, SendInvalidRight, SendNoBuffer, SendTimedOut}
use Rattle.codes.specs.declared.limits.TheConstants.{MAX_MESSAGE_PORTS}
use Rattle.ipc_model.specs.calls.Tests.{Tests, and_then, or_refused, unless_failing}
use Rattle.codes.specs.declared.name.TheConstants.{MACH_PORT_NULL}
use Rattle.ipc_model.specs.declared.entry.Entry.{Entry}
use Rattle.words.specs.Numbers.{little_number}
use Rattle.ipc_model.specs.declared.message.CarriedRight.{CarriedRight}
use Rattle.ipc_model.specs.declared.message.PortInMessage.{PortInMessage}
use Rattle.ipc_model.specs.declared.message.RightKind.{RightKind}
use Rattle.ipc_model.specs.declared.message.RightKind.TheVariants as kind
use Rattle.ipc_model.specs.effects.Effects.{Effect}
use Rattle.ipc_model.specs.messages.Items.{Item, after_item, is_long_form, items_of, items_within, names_of_item, tests_of_item}
use Rattle.ipc_model.specs.messages.Messages.{UsedParts}
use Rattle.ipc_model.specs.messages.Sending.{Ready, TakenDestination, destination_at, destination_of, TakenHeader, TakenReply, TakenRights, header_disposition, is_full, items_if_complex, live_port, passed, ports_in, ready_by_parts, ready_message, ready_of_items, reply_disposition, reply_goes_first, take_destination, take_destination_first, take_header, take_item, take_items, take_reply, take_reply_first, take_right, take_rights, tests_of_queue, tests_of_size}
use Rattle.ipc_model.specs.rights.CopyIn.{Taken, copy_in}
use Rattle.ipc_model.specs.rights.Dispositions.{Disposition, disposition_of, received_kind}
use Rattle.ipc_model.specs.state.Placed.{same_kind}
use Rattle.ipc_model.specs.state.Ipc.{Ipc, entry_at, is_null_or_dead}
use Rattle.waiting.specs.Copying.{Alike, Both, TakenOf, copy_in_alike}
use Rattle.waiting.specs.Waiting.{names_in_items, port_of}

-- two results that are both the same code, or both of related values
abbrev BothDone : {X : Type 0} → (X → X → Type 0) → Result X KernReturn → Result X KernReturn → Type 0
BothDone R (Ok x) (Ok y) = R x y
BothDone R (Ok x) (Err code) = ⊥
BothDone R (Err code) (Ok y) = ⊥
BothDone R (Err code) (Err other) = other ≡ code

then_done : {X Y : Type 0} (R : X → X → Type 0) (S : Y → Y → Type 0) (first second : Result X KernReturn)
    (f g : X → Result Y KernReturn) → BothDone R first second → ((x y : X) → R x y → BothDone S (f x) (g y))
    → BothDone S (and_then first f) (and_then second g)
then_done R S (Ok x) (Ok y) f g are later = later x y are
then_done R S (Ok x) (Err code) f g are later = absurd are
then_done R S (Err code) (Ok y) f g are later = absurd are
then_done R S (Err code) (Err other) f g are later = are

or_done : {X : Type 0} (R : X → X → Type 0) (code : KernReturn) (first second : Option X) → Both R first second
    → BothDone R (or_refused code first) (or_refused code second)
or_done R code None None are = refl
or_done R code None (Some y) are = absurd are
or_done R code (Some x) None are = absurd are
or_done R code (Some x) (Some y) are = are

-- if the first finds no room, neither does the second
abbrev Follows : {X : Type 0} → Result X KernReturn → Result X KernReturn → Type 0
Follows first second = first ≡ Err SendTimedOut → second ≡ Err SendTimedOut

then_follows : {X Y : Type 0} (R : X → X → Type 0) (first second : Result X KernReturn) (f g : X → Result Y KernReturn)
    → BothDone R first second → ((x y : X) → R x y → Follows (f x) (g y))
    → Follows (and_then first f) (and_then second g)
then_follows R (Ok x) (Ok y) f g are later = later x y are
then_follows R (Ok x) (Err code) f g are later = absurd are
then_follows R (Err code) (Ok y) f g are later = absurd are
then_follows {X} {Y} R (Err code) (Err other) f g are later =
    subst (λ (c : KernReturn). Follows {X = Y} (Err code) (Err c)) (sym are) (λ is. is)

unless_follows : {X : Type 0} (tests : Tests) (first second : Result X KernReturn) → Follows first second
    → Follows (unless_failing tests first) (unless_failing tests second)
unless_follows [] first second follows = follows
unless_follows (test ∷ tests) first second follows =
    elim test.0 as (λ (b : Bool). Follows (if b then Err test.1 else unless_failing tests first)
    (if b then Err test.1 else unless_failing tests second)) [
      | true ↦ λ (is : _). is
      | false ↦ unless_follows tests first second follows
    ]

module _ (space remote : ℕ) (wanted wanted_port : ℕ → Type 0) where
  abbrev Like : Ipc → Ipc → Type 0
  Like one other = Alike space remote wanted wanted_port one other

  -- the right of a destination and its live port
  record DestinationAlike (one other : TakenDestination) : Type 0 where
    right : other.taken.right ≡ one.taken.right
    notices : other.taken.notices ≡ one.taken.notices
    states : Like one.taken.state other.taken.state
    port : other.port ≡ one.port
    is_wanted : wanted_port one.port

  record ReplyAlike (one other : TakenReply) : Type 0 where
    reply : other.reply ≡ one.reply
    notices : other.notices ≡ one.notices
    states : Like one.state other.state

  record HeaderAlike (one other : TakenHeader) : Type 0 where
    kind : other.kind ≡ one.kind
    port : other.port ≡ one.port
    is_wanted : wanted_port one.port
    reply : other.reply ≡ one.reply
    states : Like one.state other.state
    notices : other.notices ≡ one.notices

  record RightsAlike (one other : TakenRights) : Type 0 where
    rights : other.rights ≡ one.rights
    states : Like one.state other.state
    notices : other.notices ≡ one.notices

  same_live : (a b : PortInMessage) → b ≡ a → Both {X = ℕ} (λ m n. n ≡ m) (live_port a) (live_port b)
  same_live a b is =
      subst (λ (p : PortInMessage). Both {X = ℕ} (λ m n. n ≡ m) (live_port a) (live_port p)) (sym is) (go (live_port a))
    where
      go : (o : Option ℕ) → Both {X = ℕ} (λ m n. n ≡ m) o o
      go None = tt
      go (Some n) = refl

  destination : (one other : Ipc) (disposition : Disposition) → wanted remote → Like one other
      → BothDone DestinationAlike (take_destination one space remote disposition)
      (take_destination other space remote disposition)
  destination one other disposition want alike =
      then_done (TakenOf space remote wanted wanted_port remote one) DestinationAlike
      (or_refused SendInvalidDest (copy_in one space remote disposition))
      (or_refused SendInvalidDest (copy_in other space remote disposition))
      destination_of destination_of
      (or_done (TakenOf space remote wanted wanted_port remote one) SendInvalidDest _ _
      (copy_in_alike space remote wanted wanted_port one other remote disposition want alike)) live
    where
      live : (x y : Taken) → TakenOf space remote wanted wanted_port remote one x y
          → BothDone DestinationAlike (destination_of x) (destination_of y)
      live x y is =
          go (live_port x.right.port) refl (live_port y.right.port)
          (same_live x.right.port y.right.port (ap (λ (r : CarriedRight). r.port) is.right))
        where
          go : (o : Option ℕ) → live_port x.right.port ≡ o → (p : Option ℕ) → Both {X = ℕ} (λ m n. n ≡ m) o p
              → BothDone DestinationAlike
              (and_then (or_refused SendInvalidDest o) (λ (serial : ℕ). Ok (destination_at x serial)))
              (and_then (or_refused SendInvalidDest p) (λ (serial : ℕ). Ok (destination_at y serial)))
          go None at None are = refl
          go None at (Some n) are = absurd are
          go (Some m) at None are = absurd are
          go (Some m) at (Some n) are =
              record {
                right = is.right;
                notices = is.notices;
                states = is.states;
                port = are;
                is_wanted = alike.port m (is.to m at);
              }

  reply_alike : (one other : Ipc) (name : ℕ) (disposition : Option Disposition) → wanted name → Like one other
      → BothDone ReplyAlike (take_reply one space name disposition) (take_reply other space name disposition)
  reply_alike one other name None want alike = record { reply = refl; notices = refl; states = alike }
  reply_alike one other name (Some disposition) want alike = go (is_null_or_dead name)
    where
      taken_reply : Taken → Result TakenReply KernReturn
      taken_reply taken = Ok (record { reply = Some taken.right; state = taken.state; notices = taken.notices })

      go : (b : Bool) → BothDone ReplyAlike
          (if b then Ok (record {
            reply = Some (record { kind = received_kind disposition; port = passed name });
            state = one;
            notices = [];
          }) else and_then
          (or_refused SendInvalidReply (copy_in one space name disposition)) taken_reply)
          (if b then Ok (record {
            reply = Some (record { kind = received_kind disposition; port = passed name });
            state = other;
            notices = [];
          })
          else and_then (or_refused SendInvalidReply (copy_in other space name disposition)) taken_reply)
      go true = record { reply = refl; notices = refl; states = alike }
      go false =
          then_done (TakenOf space remote wanted wanted_port name one) ReplyAlike
          (or_refused SendInvalidReply (copy_in one space name disposition))
          (or_refused SendInvalidReply (copy_in other space name disposition)) taken_reply taken_reply
          (or_done (TakenOf space remote wanted wanted_port name one) SendInvalidReply _ _
          (copy_in_alike space remote wanted wanted_port one other name disposition want alike))
          (λ x y is. record {
            reply = ap (λ (r : CarriedRight). Some r) is.right;
            notices = is.notices;
            states = is.states;
          })

  header_alike : (one other : Ipc) (by : Disposition) (local : ℕ) (reply : Option Disposition) → wanted remote
      → wanted local → Like one other
      → BothDone HeaderAlike (take_header one space remote by local reply)
      (take_header other space remote by local reply)
  header_alike one other by local reply want want_local alike = go (reply_goes_first by reply)
    where
      reply_first : Ipc → Result TakenHeader KernReturn
      reply_first state = take_reply_first state space remote by local reply

      reply_last : Ipc → Result TakenHeader KernReturn
      reply_last state = take_destination_first state space remote by local reply

      both_notices : (a b c d : List Effect) → c ≡ a → d ≡ b → c ++ d ≡ a ++ b
      both_notices a b c d first second =
          ap (λ (l : List Effect). l ++ d) first ∙ ap (λ (l : List Effect). a ++ l) second

      go : (b : Bool) → BothDone HeaderAlike (if b then reply_first one else reply_last one)
          (if b then reply_first other else reply_last other)
      go true =
          then_done ReplyAlike HeaderAlike (take_reply one space local reply) (take_reply other space local reply) _ _
          (reply_alike one other local reply want_local alike) (λ x y first.
          then_done DestinationAlike HeaderAlike (take_destination x.state space remote by)
          (take_destination y.state space remote by) _ _ (destination x.state y.state by want first.states)
          (λ u v second. record {
            kind = ap (λ (r : CarriedRight). r.kind) second.right;
            port = second.port;
            is_wanted = second.is_wanted;
            reply = first.reply;
            states = second.states;
            notices = both_notices _ _ _ _ first.notices second.notices;
          }))
      go false =
          then_done DestinationAlike HeaderAlike (take_destination one space remote by)
          (take_destination other space remote by) _ _ (destination one other by want alike) (λ x y first.
          then_done ReplyAlike HeaderAlike (take_reply x.taken.state space local reply)
          (take_reply y.taken.state space local reply) _ _
          (reply_alike x.taken.state y.taken.state local reply want_local first.states) (λ u v second. record {
            kind = ap (λ (r : CarriedRight). r.kind) first.right;
            port = first.port;
            is_wanted = first.is_wanted;
            reply = second.reply;
            states = second.states;
            notices = both_notices _ _ _ _ first.notices second.notices;
          }))

  -- The rights of the body.

  abbrev pub AllWanted : List ℕ → Type 0
  AllWanted [] = Unit {0}
  AllWanted (name ∷ names) = wanted name × AllWanted names

  right_alike : (one other : TakenRights) (name : ℕ) (disposition : Disposition) → wanted name → RightsAlike one other
      → Both RightsAlike (take_right space name disposition one) (take_right space name disposition other)
  right_alike one other name disposition want alike = go (is_null_or_dead name)
    where
      more : (taken : TakenRights) → Taken → TakenRights
      more taken next =
          record {
            rights = taken.rights ++ next.right ∷ [];
            state = next.state;
            notices = taken.notices ++ next.notices;
          }

      mapped : (o p : Option Taken) → Both (TakenOf space remote wanted wanted_port name one.state) o p
          → Both RightsAlike (option_map (more one) o) (option_map (more other) p)
      mapped None None are = tt
      mapped None (Some y) are = absurd are
      mapped (Some x) None are = absurd are
      mapped (Some x) (Some y) are = record {
        rights =
            ap (λ (l : List CarriedRight). l ++ y.right ∷ []) alike.rights ∙ ap
            (λ (r : CarriedRight). one.rights ++ r ∷ []) are.right;
        states = are.states;
        notices =
            ap (λ (l : List Effect). l ++ y.notices) alike.notices ∙ ap
            (λ (l : List Effect). one.notices ++ l) are.notices;
      }

      go : (b : Bool) → Both RightsAlike
          (if b then Some (record one {
            rights = one.rights
                ++ (record { kind = received_kind disposition; port = passed name }) ∷ [];
          })
          else option_map (more one) (copy_in one.state space name disposition))
          (if b then Some (record other {
            rights = other.rights
                ++ (record { kind = received_kind disposition; port = passed name }) ∷ [];
          })
          else option_map (more other) (copy_in other.state space name disposition))
      go true =
          record {
            rights = ap (λ (l : List CarriedRight). l
                ++ (record { kind = received_kind disposition; port = passed name }) ∷ []) alike.rights;
            states = alike.states;
            notices = alike.notices;
          }
      go false =
          mapped (copy_in one.state space name disposition) (copy_in other.state space name disposition)
          (copy_in_alike space remote wanted wanted_port one.state other.state name disposition want alike.states)

  rights_alike : (one other : TakenRights) (disposition : Disposition) (names : List ℕ) → AllWanted names
      → RightsAlike one other → Both RightsAlike (take_rights space disposition names one)
      (take_rights space disposition names other)
  rights_alike one other disposition [] want alike = alike
  rights_alike one other disposition (name ∷ names) want alike =
      go (λ x y is. rights_alike x y disposition names want.1 is) (take_right space name disposition one)
      (take_right space name disposition other) (right_alike one other name disposition want.0 alike)
    where
      next : Option TakenRights → Option TakenRights
      next o =
          elim o as (λ _. Option TakenRights) [ None ↦ None | Some taken ↦ take_rights space disposition names taken ]

      go : ((x y : TakenRights) → RightsAlike x y
          → Both RightsAlike (take_rights space disposition names x) (take_rights space disposition names y))
          → (o p : Option TakenRights) → Both RightsAlike o p → Both RightsAlike (next o) (next p)
      go later None None are = tt
      go later None (Some y) are = absurd are
      go later (Some x) None are = absurd are
      go later (Some x) (Some y) are = later x y are

  item_alike : (one other : TakenRights) (item : Item) (disposition : Option Disposition)
      → AllWanted (names_of_item item) → RightsAlike one other
      → Both RightsAlike (take_item space item disposition one) (take_item space item disposition other)
  item_alike one other item None want alike = alike
  item_alike one other item (Some disposition) want alike =
      rights_alike one other disposition (names_of_item item) want alike

  wanted_front : (names others : List ℕ) → AllWanted (names ++ others) → AllWanted names
  wanted_front [] others want = tt
  wanted_front (name ∷ names) others want = (want.0, wanted_front names others want.1)

  wanted_back : (names others : List ℕ) → AllWanted (names ++ others) → AllWanted others
  wanted_back [] others want = want
  wanted_back (name ∷ names) others want = wanted_back names others want.1

  items_alike : (one other : TakenRights) (items : List Item) → AllWanted (flat_map names_of_item items)
      → RightsAlike one other → Both RightsAlike (take_items space items one) (take_items space items other)
  items_alike one other [] want alike = alike
  items_alike one other (item ∷ items) want alike =
      go (λ x y is. items_alike x y items (wanted_back (names_of_item item) (flat_map names_of_item items) want) is)
      (take_item space item (disposition_of item.type_name) one)
      (take_item space item (disposition_of item.type_name) other)
      (item_alike one other item (disposition_of item.type_name)
      (wanted_front (names_of_item item) (flat_map names_of_item items) want) alike)
    where
      next : Option TakenRights → Option TakenRights
      next o = elim o as (λ _. Option TakenRights) [ None ↦ None | Some taken ↦ take_items space items taken ]

      go : ((x y : TakenRights) → RightsAlike x y
          → Both RightsAlike (take_items space items x) (take_items space items y)) → (o p : Option TakenRights)
          → Both RightsAlike o p → Both RightsAlike (next o) (next p)
      go later None None are = tt
      go later None (Some y) are = absurd are
      go later (Some x) None are = absurd are
      go later (Some x) (Some y) are = later x y are

  -- The queue.

  queue_follows : (parts : UsedParts) (items : List Item) (header other_header : TakenHeader)
      (taken other_taken : TakenRights) → HeaderAlike header other_header → RightsAlike taken other_taken
      → Follows (unless_failing (tests_of_queue (ready_message parts items header taken))
      (Ok (ready_message parts items header taken)))
      (unless_failing (tests_of_queue (ready_message parts items other_header other_taken))
      (Ok (ready_message parts items other_header other_taken)))
  queue_follows parts items header other_header taken other_taken headers rights is =
      let one : Ready = ready_message parts items header taken in
      let other : Ready = ready_message parts items other_header other_taken in
      let tests =
      full_of (is_full one.state one.port) refl
      (not (same_kind one.message.destination kind.SendOnce)) refl one is in
      let full : is_full other.state other.port ≡ true =
      ap (is_full other_taken.state) headers.port ∙ rights.states.full header.port headers.is_wanted tests.0 in
      let stopped : not (same_kind other.message.destination kind.SendOnce) ≡ true =
      ap (λ (k : RightKind). not (same_kind k kind.SendOnce)) headers.kind ∙ tests.1 in
      ap (λ (b : Bool). if (b && not (same_kind other.message.destination kind.SendOnce)) then Err SendTimedOut
      else Ok other) full ∙ ap (λ (b : Bool). if b then Err SendTimedOut else Ok other) stopped
    where
      full_of : {f s : Bool} (b : Bool) → f ≡ b → (c : Bool) → s ≡ c → (ready : Ready)
          → (if (b && c) then Err SendTimedOut else Ok ready) ≡ Err SendTimedOut → (f ≡ true) × (s ≡ true)
      full_of true full true stopped ready e = (full, stopped)
      full_of true full false stopped ready e = absurd (cc e)
      full_of false full c stopped ready e = absurd (cc e)

  -- A send that finds no room in the first state finds none in the second.
  of_items : (one other : Ipc) (parts : UsedParts) (by : Disposition) (reply : Option Disposition) (items : List Item)
      → parts.remote ≡ remote → wanted remote → wanted parts.local → AllWanted (flat_map names_of_item items)
      → Like one other
      → Follows (ready_of_items one space parts by reply items) (ready_of_items other space parts by reply items)
  of_items one other parts by reply items at want want_local want_items alike =
      unless_follows ((nat_lt MAX_MESSAGE_PORTS (ports_in items), SendNoBuffer) ∷
      (is_null_or_dead parts.remote, SendInvalidDest) ∷ []) _ _
      (then_follows HeaderAlike (take_header one space parts.remote by parts.local reply)
      (take_header other space parts.remote by parts.local reply) _ _
      (subst (λ (n : ℕ). BothDone HeaderAlike (take_header one space n by parts.local reply)
      (take_header other space n by parts.local reply)) (sym at)
      (header_alike one other by parts.local reply want want_local alike)) (λ x y header.
      then_follows RightsAlike (or_refused SendInvalidRight (take_items space items (start x)))
      (or_refused SendInvalidRight (take_items space items (start y))) _ _
      (or_done RightsAlike SendInvalidRight _ _
      (items_alike (start x) (start y) items want_items
      (record { rights = refl; states = header.states; notices = refl })))
      (λ u v rights. queue_follows parts items x y u v header rights)))
    where
      start : TakenHeader → TakenRights
      start header = record { rights = []; state = header.state; notices = [] }

  pub of_parts : (one other : Ipc) (parts : UsedParts) → parts.remote ≡ remote → wanted remote → wanted parts.local
      → AllWanted (names_in_items (items_if_complex parts.complex parts.body)) → Like one other
      → ready_by_parts one space parts ≡ Err SendTimedOut → ready_by_parts other space parts ≡ Err SendTimedOut
  of_parts one other parts at want want_local want_items alike =
      unless_follows (tests_of_size parts.size) _ _
      (by_disposition (or_refused SendInvalidHeader (header_disposition parts.remote_disposition))
      (reply_disposition parts.local_disposition parts.local)
      (items_if_complex parts.complex parts.body) want_items)
    where
      by_disposition : (d : Result Disposition KernReturn) (r : Result (Option Disposition) KernReturn)
          (i : Result (List Item) KernReturn) → AllWanted (names_in_items i)
          → Follows (and_then d (λ (by : Disposition). and_then r
          (λ (reply : Option Disposition). and_then i
          (λ (items : List Item). ready_of_items one space parts by reply items))))
          (and_then d (λ (by : Disposition). and_then r
          (λ (reply : Option Disposition). and_then i
          (λ (items : List Item). ready_of_items other space parts by reply items))))
      by_disposition (Err code) r i wants = λ is. is
      by_disposition (Ok by) (Err code) i wants = λ is. is
      by_disposition (Ok by) (Ok reply) (Err code) wants = λ is. is
      by_disposition (Ok by) (Ok reply) (Ok items) wants =
          of_items one other parts by reply items at want want_local wants alike

-- Only the test of the queue has the code MACH_SEND_TIMED_OUT.

abbrev Untimed : {X : Type 0} → Result X KernReturn → Type 0
Untimed result = result ≡ Err SendTimedOut → ⊥

fine : {X : Type 0} (x : X) → Untimed (Ok x)
fine x is = cc is

abbrev IsOther : KernReturn → Type 0
IsOther SendTimedOut = ⊥
IsOther code = Unit {0}

-- no test has the code MACH_SEND_TIMED_OUT
abbrev AreOther : Tests → Type 0
AreOther [] = Unit {0}
AreOther (test ∷ tests) = IsOther test.1 × AreOther tests

abbrev code_in : {X : Type 0} → Result X KernReturn → KernReturn → KernReturn
code_in (Ok x) code = code
code_in (Err other) code = other

other_code : {X : Type 0} (code : KernReturn) → IsOther code → Untimed {X = X} (Err code)
other_code {X} code other is = subst IsOther (ap (λ (r : Result X KernReturn). code_in r code) is) other

abbrev failed : {X : Type 0} → KernReturn → Result X KernReturn
failed code = Err code

or_untimed : {X : Type 0} (code : KernReturn) (o : Option X) → IsOther code → Untimed (or_refused code o)
or_untimed code None other = other_code code other
or_untimed code (Some x) other = fine x

then_untimed : {X Y : Type 0} (r : Result X KernReturn) (f : X → Result Y KernReturn) → Untimed r
    → ((x : X) → r ≡ Ok x → Untimed (f x)) → Untimed (and_then r f)
then_untimed (Ok x) f first later = later x refl
then_untimed {X} {Y} (Err code) f first later =
    λ is. first (ap failed (ap (λ (r : Result Y KernReturn). code_in r code) is))

unless_untimed : {X : Type 0} (tests : Tests) (r : Result X KernReturn) → AreOther tests → Untimed r
    → Untimed (unless_failing tests r)
unless_untimed [] r others rest = rest
unless_untimed (test ∷ tests) r others rest =
    elim test.0 as (λ (b : Bool). Untimed (if b then Err test.1 else unless_failing tests r))
    [ true ↦ other_code test.1 others.0 | false ↦ unless_untimed tests r others.1 rest ]

if_untimed : {X : Type 0} (b : Bool) (one other : Result X KernReturn) → Untimed one → Untimed other
    → Untimed (if b then one else other)
if_untimed true one other first second = first
if_untimed false one other first second = second

within_untimed : (n : ℕ) (bytes : List ℕ) → Untimed (items_within n bytes)
within_untimed zero bytes = fine _
within_untimed (suc n) [] = fine _
within_untimed (suc n) (b ∷ bytes) =
    unless_untimed (tests_of_item (b ∷ bytes)) _ (tt, (tt, (tt, (tt, (tt, tt)))))
    (then_untimed (items_within n (after_item (b ∷ bytes) (is_long_form (little_number 4 (b ∷ bytes))))) _
    (within_untimed n (after_item (b ∷ bytes) (is_long_form (little_number 4 (b ∷ bytes))))) (λ items _. fine _))

items_untimed : (complex : Bool) (body : List ℕ) → Untimed (items_if_complex complex body)
unfolding items_of
items_untimed complex body = if_untimed complex _ _ (within_untimed (length body) body) (fine [])

reply_untimed : (state : Ipc) (space name : ℕ) (disposition : Option Disposition)
    → Untimed (take_reply state space name disposition)
reply_untimed state space name None = fine _
reply_untimed state space name (Some disposition) =
    if_untimed (is_null_or_dead name) _ _ (fine _)
    (then_untimed (or_refused SendInvalidReply (copy_in state space name disposition))
    (λ (taken : Taken). Ok (record { reply = Some taken.right; state = taken.state; notices = taken.notices }))
    (or_untimed SendInvalidReply (copy_in state space name disposition) tt) (λ taken _. fine _))

destination_untimed : (state : Ipc) (space name : ℕ) (disposition : Disposition)
    → Untimed (take_destination state space name disposition)
destination_untimed state space name disposition =
    then_untimed (or_refused SendInvalidDest (copy_in state space name disposition)) _
    (or_untimed SendInvalidDest (copy_in state space name disposition) tt) (λ taken _.
    then_untimed (or_refused SendInvalidDest (live_port taken.right.port)) _
    (or_untimed SendInvalidDest (live_port taken.right.port) tt) (λ serial _. fine _))

header_untimed : (state : Ipc) (space remote : ℕ) (by : Disposition) (local : ℕ) (reply : Option Disposition)
    → Untimed (take_header state space remote by local reply)
header_untimed state space remote by local reply =
    if_untimed (reply_goes_first by reply) _ _
    (then_untimed (take_reply state space local reply) _ (reply_untimed state space local reply)
    (λ first _. then_untimed (take_destination first.state space remote by) _
    (destination_untimed first.state space remote by) (λ second _. fine _)))
    (then_untimed (take_destination state space remote by) _ (destination_untimed state space remote by)
    (λ first _. then_untimed (take_reply first.taken.state space local reply) _
    (reply_untimed first.taken.state space local reply) (λ second _. fine _)))

-- If the destination's name isn't in use, the header isn't taken.
no_header : (state : Ipc) (space remote : ℕ) (by : Disposition) (local : ℕ) (reply : Option Disposition)
    → entry_at state space remote ≡ None → (header : TakenHeader)
    → take_header state space remote by local reply ≡ Ok header → ⊥
no_header state space remote by local reply none header is =
    go (take_header state space remote by local reply) is
    (header_alike space remote (λ _. Unit {0})
    (λ _. ⊥) state state by local reply tt tt
    (record {
      entries = λ name _. refl;
      port = λ serial to. cc (sym (ap (option_and_then port_of) none) ∙ to);
      full = λ serial _ full. full;
    }))
  where
    go : (r : Result TakenHeader KernReturn) → r ≡ Ok header
        → BothDone (HeaderAlike space remote (λ _. Unit {0}) (λ _. ⊥)) r r → ⊥
    go (Ok x) is both = both.is_wanted
    go (Err code) is both = absurd (cc is)

-- If a send finds no room, its destination's name is in use.
pub has_destination : (state : Ipc) (space : ℕ) (parts : UsedParts)
    → ready_by_parts state space parts ≡ Err SendTimedOut → (entry : Entry)
    × (entry_at state space parts.remote ≡ Some entry)
has_destination state space parts is = go (entry_at state space parts.remote) refl
  where
    untimed : entry_at state space parts.remote ≡ None → Untimed (ready_by_parts state space parts)
    untimed none =
        unless_untimed (tests_of_size parts.size) _ (tt, (tt, tt))
        (then_untimed (or_refused SendInvalidHeader (header_disposition parts.remote_disposition)) _
        (or_untimed SendInvalidHeader (header_disposition parts.remote_disposition) tt) (λ by _.
        then_untimed (reply_disposition parts.local_disposition parts.local) _
        (if_untimed (parts.local_disposition == 0 && parts.local == MACH_PORT_NULL) _ _ (fine None)
        (then_untimed (or_refused SendInvalidHeader (header_disposition parts.local_disposition)) _
        (or_untimed SendInvalidHeader (header_disposition parts.local_disposition) tt)
        (λ disposition _. fine _))) (λ reply _.
        then_untimed (items_if_complex parts.complex parts.body) _ (items_untimed parts.complex parts.body) (λ items _.
        unless_untimed ((nat_lt MAX_MESSAGE_PORTS (ports_in items), SendNoBuffer) ∷
        (is_null_or_dead parts.remote, SendInvalidDest) ∷ []) _ (tt, (tt, tt))
        (then_untimed (take_header state space parts.remote by parts.local reply) _
        (header_untimed state space parts.remote by parts.local reply)
        (λ header at. absurd (no_header state space parts.remote by parts.local reply none header at)))))))

    go : (o : Option Entry) → entry_at state space parts.remote ≡ o → (entry : Entry)
        × (entry_at state space parts.remote ≡ Some entry)
    go None at = absurd (untimed at is)
    go (Some entry) at = (entry, at)
