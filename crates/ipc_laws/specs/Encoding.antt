-- An image can encode every lawful state whose queues are short enough to count.
use Rattle.std.specs.Prelude.{◌≡◌, ℕ, zero, suc, ◌+◌, ◌-◌, ◌^◌, ◌<◌, ◌≤◌, Bool, true, false, cond, T, All, List, [], ◌∷◌, length, Option, None, Some, MatchBool, refl}
use Rattle.std.proofs.Common.{sym, ◌∙◌, ap, inl, inr, arith}
use Rattle.std.proofs.lemmas.Bool.{eqb-false}
use Rattle.std.proofs.lemmas.List.Elements.{All-nil, All-cons, All-head, All-tail}
use Rattle.std.specs.Cmp.{nat_cmp_total}
use Rattle.std.specs.Ordering.{nat_cmp}
use Rattle.std.specs.FinMap as finmap
use Rattle.std.specs.FinMap.{FinMap, find, get-entries, entries_sorted, is_sorted, len-entries, len-remove}
use Rattle.std.specs.FinMap.Entries.{below_all}
use Rattle.codes.specs.declared.kern_return.KernReturn.TheVariants.{Success, RcvTooLarge}
use Rattle.codes.specs.declared.limits.TheConstants.{MAX_FRAME_CONTENT, MAX_SPACES}
use Rattle.codes.specs.declared.name.TheConstants.{MACH_PORT_NULL}
use Rattle.ipc_model.specs.declared.entry.Entry.{Entry}
use Rattle.ipc_model.specs.declared.entry.Entry.TheVariants.{Port, SendOnce, Set, Dead}
use Rattle.ipc_model.specs.declared.message.CarriedRight.{CarriedRight}
use Rattle.ipc_model.specs.declared.message.Message.{Message}
use Rattle.ipc_model.specs.declared.message.PortInMessage.{PortInMessage}
use Rattle.ipc_model.specs.declared.message.PortInMessage.TheVariants.{Null, Live}
use Rattle.ipc_model.specs.declared.message.PortInMessage.TheVariants as in_message
use Rattle.ipc_model.specs.declared.message.RightKind.TheVariants as kind
use Rattle.ipc_model.specs.declared.plain_call.PlainCall.{PlainCall}
use Rattle.ipc_model.specs.declared.plain_call.PlainCall.TheVariants as call
use Rattle.ipc_model.specs.declared.plain_reply.PlainReply.{PlainReply}
use Rattle.ipc_model.specs.declared.port.PortState.{PortState}
use Rattle.ipc_model.specs.declared.reply.NumberedReply.{NumberedReply}
use Rattle.ipc_model.specs.encodings.Encodings.{numbered_encoding}
use Rattle.ipc_laws.specs.AllocateKeep.{held_weighs}
use Rattle.ipc_laws.specs.Dangling.{not_equal, later_found, front_of, back_of, left_apart, port_part}
use Rattle.ipc_laws.specs.EffectWeights.{lives_some}
use Rattle.ipc_laws.specs.EffectsKeep.{dangles_none, entry_part}
use Rattle.ipc_laws.specs.ImageLaws.{Encodable, EncodableIpc, EncodableKept, EncodableEntry, EncodableLivePort, EncodableMessage, EncodableNamed, EncodableNames, EncodablePlace, EncodablePort, EncodableReplyRight, EncodableRight, EncodableSet, EncodableSpace, EncodableTarget}
use Rattle.ipc_model.specs.state.Lawful.{Lawful, LawfulEntry, LawfulMessage, LawfulNames, HoldsPorts, ShortQueues}
use Rattle.ipc_laws.specs.FrameLengths.{IsWithin, message_length, short_within, wide, within}
use Rattle.ipc_laws.specs.LawfulLaws.{LawfulAtRest, at_rest}
use Rattle.ipc_laws.specs.MapLaws.{get-left}
use Rattle.ipc_laws.specs.MapSums.{weigh, same_key}
use Rattle.ipc_laws.specs.PortCallLaws.{is_short}
use Rattle.ipc_laws.specs.RecordedReplies.{HasReply, replies_by_call}
use Rattle.ipc_laws.specs.RecordedSteps.{length-numbered_reply}
use Rattle.ipc_laws.specs.ReferencesKeep.{none_released}
use Rattle.ipc_model.specs.state.Ipc.{Ipc, Names, lives}
use Rattle.ipc_model.specs.state.LawfulState.{LawfulState, IsKeptReply}
use Rattle.ipc_model.specs.state.State.{State}
use Rattle.ipc_laws.specs.Takes.{own_weight}
use Rattle.ipc_laws.specs.Weights.{Weight, target_weigh, entry_weigh, carried_weigh, reply_weigh, message_weigh, port_weigh, state_weigh, any_of}

-- what holds of all that a map has holds of its entries
all_of : {X : Type 0} (P : ℕ × X → Type 0) (es : List (ℕ × X)) → T (is_sorted nat_cmp es)
    → ((k : ℕ) (x : X) → find nat_cmp k es ≡ Some x → P (k, x)) → All P es
all_of P [] sorted each = All-nil P
all_of P (e ∷ es) sorted each =
    All-cons P e es (each e.0 e.1 (ap (λ (b : Bool). cond b (Some e.1) (find nat_cmp e.0 es)) (same_key e.0)))
    (all_of P es (back_of (below_all nat_cmp e.0 es) (is_sorted nat_cmp es) sorted)
    (λ (k : ℕ) (x : _) (there : _). each k x
    (later_found k x e es (front_of (below_all nat_cmp e.0 es) (is_sorted nat_cmp es) sorted) there)))

all_entries : {X : Type 0} (P : ℕ × X → Type 0) (m : FinMap nat_cmp X)
    → ((k : ℕ) (x : X) → finmap.get m k ≡ Some x → P (k, x)) → All P (finmap.entries m)
all_entries P m each =
    all_of P (finmap.entries m) (entries_sorted m) (λ (k : ℕ) (x : _) (there : _). each k x (get-entries m k ∙ there))

less_still : (k n : ℕ) → (k ≡ n → ⊥) → k < suc n → k < n
less_still k n apart less = omega (arith, less, eqb-false k n (not_equal k n apart))

one_at_most : (b : Bool) (n : ℕ) → n ≤ cond b (n - 1) n + 1
one_at_most true n = omega arith
one_at_most false n = omega arith

-- a map whose keys are below n has at most n entries
few_keys : {X : Type 0} (n : ℕ) (m : FinMap nat_cmp X) → ((k : ℕ) (x : X) → finmap.get m k ≡ Some x → k < n)
    → finmap.len m ≤ n
few_keys {X} zero m below =
    elim (finmap.entries m) as (λ (es : List (ℕ × X)). finmap.entries m ≡ es → finmap.len m ≤ 0) [
      | [] ↦ λ (is : _). omega (arith, len-entries m, ap length is)
      | e ∷ es ↦ λ (is : _). absurd (omega (
        arith,
        below e.0 e.1 (get-entries m e.0 ∙ ap (find nat_cmp e.0) is ∙ ap
            (λ (b : Bool). cond b (Some e.1) (find nat_cmp e.0 es)) (same_key e.0)),
      ))
    ] refl
few_keys {X} (suc n) m below =
    let left : FinMap nat_cmp X = finmap.remove m n in
    let rest : finmap.len left ≤ n = few_keys n left (λ (k : ℕ) (x : X) (there : _).
    let apart = left_apart m n k x there in
    less_still k n apart (below k x (sym (get-left m n k apart) ∙ there))) in
    omega (arith, rest, one_at_most (finmap.contains_key m n) (finmap.len m), len-remove nat_cmp_total m n)

-- a right of a lawful state names a port with a serial that a long word holds

serial_fits : (state : Ipc) (q : ℕ) → LawfulAtRest state → 1 ≤ state_weigh (any_of q) state → (0 < q) × (q < 2 ^ 64)
serial_fits state q lawful weighs = elim (lives state q) as (λ (b : Bool). lives state q ≡ b → (0 < q) × (q < 2 ^ 64)) [
  | true ↦ λ (live : _).
      let at = lives_some state q live in
      let bounds = lawful.ports q at.0 at.1 in
      (bounds.0, omega (arith, bounds.1, lawful.next.1))
  | false ↦ λ (dead : _). absurd (omega (arith, dangles_none state [] lawful q dead, weighs))
] refl

target_fits : (state : Ipc) (target : Option ℕ) → LawfulAtRest state
    → ((w : Weight) → target_weigh w target ≤ state_weigh w state) → EncodableTarget target
target_fits state None lawful part = tt
target_fits state (Some serial) lawful part =
    serial_fits state serial lawful (omega (arith, part (any_of serial), own_weight serial kind.SendOnce))

entry_fits : (state : Ipc) (entry : Entry) → LawfulAtRest state → LawfulEntry entry
    → ((w : Weight) → entry_weigh w entry ≤ state_weigh w state) → EncodableEntry entry
entry_fits state (Port rights) lawful fits part = (
  (serial_fits state rights.port lawful
      (omega (arith, part (any_of rights.port), held_weighs rights.port (Port rights) fits refl))).1,
  omega (arith, fits.1),
  target_fits state rights.dead_name_target lawful (λ (w : Weight). omega (arith, part w)),
)
entry_fits state (SendOnce port target) lawful fits part = (
  (serial_fits state port lawful (omega (arith, part (any_of port), own_weight port kind.SendOnce))).1,
  target_fits state target lawful (λ (w : Weight). omega (arith, part w)),
)
entry_fits state Set lawful fits part = tt
entry_fits state (Dead references) lawful fits part = omega (arith, fits.1)

names_fit : (state : Ipc) (space : ℕ) (names : Names) → LawfulAtRest state
    → finmap.get state.spaces space ≡ Some names → EncodableNames names
names_fit state space names lawful there =
    let own : LawfulNames names = (lawful.spaces space names there).2 in
    record {
      few = omega (arith, own.few);
      entries = all_entries EncodableNamed names (λ (name : ℕ) (entry : Entry) (at : _).
          let bounds = own.named name entry at in (
            omega (arith, bounds.1),
            entry_fits state entry lawful bounds.2
                (λ (w : Weight). entry_part w state space name names entry there at),
          ));
    }

-- what holds of all parts of a list that weigh no more than the whole

all_parts : {A : Type 0} (f : Weight → A → ℕ) (P Q : A → Type 0) (bound : Weight → ℕ) (xs : List A)
    → ((w : Weight) → weigh (f w) xs ≤ bound w) → ((x : A) → ((w : Weight) → f w x ≤ bound w) → P x → Q x) → All P xs
    → All Q xs
all_parts f P Q bound [] within each all = All-nil Q
all_parts f P Q bound (x ∷ xs) within each all =
    All-cons Q x xs (each x (λ (w : Weight). omega (arith, within w)) (All-head P x xs all))
    (all_parts f P Q bound xs (λ (w : Weight). omega (arith, within w)) each (All-tail P x xs all))

right_fits : (state : Ipc) (right : CarriedRight) → LawfulAtRest state
    → ((w : Weight) → carried_weigh w right ≤ state_weigh w state) → EncodableRight right
right_fits state right lawful part =
    elim right.port as (λ (p : PortInMessage).
    ((w : Weight) → carried_weigh w (record { kind = right.kind; port = p }) ≤ state_weigh w state)
    → EncodablePlace p) [
      | Null ↦ λ (_ : _). tt
      | in_message.Dead ↦ λ (_ : _). tt
      | Live serial ↦ λ (within : _).
          (serial_fits state serial lawful (omega (arith, within (any_of serial), own_weight serial right.kind))).1
    ] part

reply_fits : (state : Ipc) (reply : Option CarriedRight) → LawfulAtRest state
    → ((w : Weight) → reply_weigh w reply ≤ state_weigh w state) → EncodableReplyRight reply
reply_fits state None lawful part = tt
reply_fits state (Some right) lawful part = right_fits state right lawful part

few_rights : (message : Message) → LawfulMessage message → length message.rights < 2 ^ 32
few_rights message lawful =
    elim message.complex as (λ (b : Bool). MatchBool b (HoldsPorts message.body message.rights) (message.rights ≡ [])
    → length message.rights < 2 ^ 32) [
      | true ↦ λ (holds : HoldsPorts message.body message.rights). omega (arith, holds.few)
      | false ↦ λ (none : _). omega (arith, ap length none)
    ] lawful.ports

any_right : CarriedRight → Type 0
any_right right = Unit {0}

all_any : (rights : List CarriedRight) → All any_right rights
unfolding any_right
all_any [] = All-nil any_right
all_any (right ∷ rights) = All-cons any_right right rights tt (all_any rights)

message_fits : (state : Ipc) (queue : ℕ) (message : Message) → LawfulAtRest state → LawfulMessage message
    → ((w : Weight) → message_weigh w queue message ≤ state_weigh w state) → EncodableMessage message
message_fits state queue message lawful own part = record {
  reply = reply_fits state message.reply lawful (λ (w : Weight). omega (arith, part w));
  id = own.id;
  size = omega (arith, own.small);
  few_rights = few_rights message own;
  rights =
      all_parts carried_weigh any_right EncodableRight (λ (w : Weight). state_weigh w state) message.rights
      (λ (w : Weight). omega (arith, part w))
      (λ (right : CarriedRight) (within : _) (_ : _). right_fits state right lawful within)
      (all_any message.rights);
}

set_fits : (state : Ipc) (serial : ℕ) (port : PortState) (set : Option ℕ) → LawfulAtRest state
    → finmap.get state.ports serial ≡ Some port → port.set ≡ set → EncodableSet set
set_fits state serial port None lawful at is = tt
set_fits state serial port (Some set) lawful at is =
    elim (lawful.sets serial set port at is) as (λ _. (0 < set) × (set < 2 ^ 32)) [
      | inl held ↦
          let (space, names, name, entry, there, named, receives, alongside) = held in
          let bounds = (lawful.spaces space names there).2.named set Set alongside in
          (bounds.0, omega (arith, bounds.1))
      | inr waits ↦ absurd (none_released serial waits)
    ]

port_fits : (state : Ipc) (serial : ℕ) (port : PortState) → LawfulAtRest state → ShortQueues state
    → finmap.get state.ports serial ≡ Some port → EncodablePort port
port_fits state serial port lawful short at =
    let own = (lawful.ports serial port at).2 in
    let part : (w : Weight) → port_weigh w serial port ≤ state_weigh w state =
    λ (w : Weight). port_part w state serial port at in
    record {
      limit = omega (arith, own.limit);
      sequence_number = own.sequence_number;
      make_send_count = own.make_send_count;
      set = set_fits state serial port port.set lawful at refl;
      no_senders_target = target_fits state port.no_senders_target lawful (λ (w : Weight). omega (arith, part w));
      port_destroyed_target =
          target_fits state port.port_destroyed_target lawful (λ (w : Weight). omega (arith, part w));
      few_messages = short serial port at;
      messages =
          all_parts (λ (w : Weight). message_weigh w serial) LawfulMessage EncodableMessage
          (λ (w : Weight). state_weigh w state) port.messages (λ (w : Weight). omega (arith, part w))
          (λ (message : Message) (within : _) (fits : _). message_fits state serial message lawful fits within)
          own.messages;
    }

ipc_is_encodable : (state : Ipc) → Lawful state → ShortQueues state → EncodableIpc state
ipc_is_encodable state lawful short = record {
  next = lawful.next.1;
  few_spaces =
      omega (
        arith,
        few_keys (MAX_SPACES + 1) state.spaces
            (λ (space : ℕ) (names : Names) (there : _). omega (arith, (lawful.spaces space names there).1)),
      );
  spaces =
      all_entries EncodableSpace state.spaces
      (λ (space : ℕ) (names : Names) (there : _). (
        omega (arith, (lawful.spaces space names there).1),
        names_fit state space names (at_rest state lawful) there,
      ));
  few_ports = omega (arith, lawful.few_ports);
  ports =
      all_entries EncodableLivePort state.ports
      (λ (serial : ℕ) (port : PortState) (at : _). (
        omega (arith, (lawful.ports serial port at).1, lawful.next.1),
        port_fits state serial port (at_rest state lawful) short at,
      ));
}

-- A reply that stands in a record is short.
short_reply : (given answer : PlainReply) → answer ≡ given → is_short given ≡ true → IsWithin 32780 answer
short_reply given answer is short = within 32780 given answer is (wide given (short_within given short))

recorded_short : (c : PlainCall) (answer : PlainReply) → HasReply c answer → IsWithin 32780 answer
recorded_short (call.Attach space) answer has = absurd has
recorded_short call.Names answer has = absurd has
recorded_short (call.Type name) answer has = absurd has
recorded_short (call.GetRefs name kind) answer has = absurd has
recorded_short (call.GetReceiveStatus name) answer has = absurd has
recorded_short (call.GetSetStatus name) answer has = absurd has
recorded_short (call.Rename from to) answer has = short_reply _ answer has refl
recorded_short (call.AllocateName kind name) answer has = short_reply _ answer has refl
recorded_short (call.Allocate kind) answer has = short_reply _ answer has.2 refl
recorded_short (call.Destroy name) answer has = short_reply _ answer has refl
recorded_short (call.Deallocate name) answer has = short_reply _ answer has refl
recorded_short (call.ModRefs name kind delta) answer has = short_reply _ answer has refl
recorded_short (call.SetQlimit name limit) answer has = short_reply _ answer has refl
recorded_short (call.SetMscount name count) answer has = short_reply _ answer has refl
recorded_short (call.SetSeqno name seqno) answer has = short_reply _ answer has refl
recorded_short (call.MoveMember member after) answer has = short_reply _ answer has refl
recorded_short (call.RequestNotification name variant sync notify_name disposition) answer has =
    short_reply _ answer has.2 refl
recorded_short (call.InsertRight name right_name disposition) answer has = short_reply _ answer has refl
recorded_short (call.ExtractRight name disposition) answer has = short_reply _ answer has.3 refl
recorded_short (call.SpaceCreate name disposition) answer has = short_reply _ answer has.4 refl
recorded_short call.SpaceDestroy answer has = short_reply _ answer has refl
recorded_short (call.Send message) answer has =
    within 32780 _ answer has (record { bytes = omega (arith, message_length Success 0 MACH_PORT_NULL []) })
recorded_short (call.Receive limit large name waited) answer (inl has) =
    within 32780 _ answer has.answer_is
    (record {
      bytes = omega (
        arith,
        message_length Success has.size has.member has.message,
        has.whole,
        has.has_size.1,
      );
    })
recorded_short (call.Receive limit large name waited) answer (inr has) =
    within 32780 _ answer has.answer_is
    (record { bytes = omega (arith, message_length RcvTooLarge has.size has.member []) })

-- what a space keeps fits in a frame
pub kept_within : (kept : NumberedReply) → IsKeptReply kept → length (numbered_encoding kept) ≤ MAX_FRAME_CONTENT
kept_within kept is =
    let short = recorded_short is.call kept.reply ((replies_by_call is.call kept.reply).0 is.reply) in
    omega (arith, length-numbered_reply kept, short.bytes)

kept_is_encodable : (kept : NumberedReply) → IsKeptReply kept → EncodableKept kept
kept_is_encodable kept is = record {
  request = is.request;
  call = is.call;
  recorded = is.reply.recorded;
  fits = is.reply.fits;
  short = omega (arith, kept_within kept is);
}

-- A lawful state with short queues is one that its encoding determines.
abbrev pub LawfulIsEncodable : Type 0
LawfulIsEncodable = (state : State) → LawfulState state → ShortQueues state.ipc → Encodable state

pub lawful_is_encodable : LawfulIsEncodable
lawful_is_encodable state lawful short = record {
  ipc = ipc_is_encodable state.ipc lawful.ipc short;
  kept = λ (space : ℕ) (answer : NumberedReply) (at : _).
      let kept = lawful.kept space answer at in (kept.0, kept_is_encodable answer kept.1);
}
