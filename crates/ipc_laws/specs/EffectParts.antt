-- Effects keep the names of spaces and what ports keep lawful.
use Rattle.std.specs.Prelude.{◌≡◌, ◌≢◌, ℕ, zero, suc, ◌+◌, ◌-◌, ◌/◌, ◌%◌, ◌^◌, ◌<◌, ◌≤◌, Bool, true, false, cond, ◌==◌, ◌&&◌, not, All, List, [], ◌∷◌, ◌++◌, map, Option, None, Some, is_some, option_map, if◌then◌else◌, MatchBool, refl}
use Rattle.std.proofs.Common.{sym, ◌∙◌, ap, subst, inl, inr, arith}
use Rattle.std.proofs.lemmas.List.Elements.{All-map, All-push}
use Rattle.std.proofs.lemmas.List.{length-map}
use Rattle.ipc_laws.specs.Dangling.{left_apart}
use Rattle.std.proofs.lemmas.List.{append-nil}
use Rattle.ipc_model.specs.declared.message.PortInMessage.TheVariants.{Live}
use Rattle.std.specs.Ordering.{nat_cmp}
use Rattle.std.specs.FinMap as finmap
use Rattle.std.specs.FinMap.{FinMap, len-insert, len-remove}
use Rattle.std.specs.Cmp.{nat_cmp_total}
use Rattle.codes.specs.declared.limits.TheConstants.{MAX_PORTS, MAX_SPACES, MAX_DEAD_REFERENCES}
use Rattle.ipc_model.specs.declared.entry.Entry.{Entry}
use Rattle.ipc_model.specs.declared.entry.Entry.TheVariants.{Port, SendOnce, Set, Dead}
use Rattle.ipc_model.specs.declared.entry.PortRights.{PortRights}
use Rattle.ipc_model.specs.declared.message.CarriedRight.{CarriedRight}
use Rattle.ipc_model.specs.declared.message.Message.{Message}
use Rattle.ipc_model.specs.declared.message.RightKind.{RightKind}
use Rattle.ipc_model.specs.declared.message.RightKind.TheVariants as kind
use Rattle.ipc_model.specs.declared.port.PortState.{PortState}
use Rattle.ipc_model.specs.state.Circular.{is_circular}
use Rattle.ipc_model.specs.effects.Effects.{Effect, release, notify, effect, notified, entry_after_death, port_after_death, message_after_death, right_after_death, without_target, one_more_if, after_death, map_values, notified_no_senders, receive_released_to, released, released_if_live}
use Rattle.ipc_laws.specs.EffectWeights.{moved_out, sent_or_died}
use Rattle.ipc_model.specs.messages.Items.{Item, items_of}
use Rattle.ipc_model.specs.state.Lawful.{LawfulEntry, LawfulNames, LawfulMessage, LawfulPort, LawfulReply, HoldsPorts, IsStoredItem}
use Rattle.ipc_laws.specs.ListLaws.{some_same}
use Rattle.ipc_laws.specs.MapLaws.{get-here, get-there, get-left, get-map_values, len-map_values}
use Rattle.ipc_model.specs.messages.Notices.{Notice, notice_message}
use Rattle.ipc_model.specs.messages.Notices as notice
use Rattle.ipc_laws.specs.Others.{number_same, number_decided}
use Rattle.ipc_model.specs.state.Placed.{send_count}
use Rattle.ipc_model.specs.state.Ipc.{Ipc, Names, with_port, lives, port_held}
use Rattle.words.specs.Words.{AreBytes, word}

-- the parts of being lawful that don't concern counts of rights or sets
pub record Parts (state : Ipc) : Type 0 where
  pub first_space : (names : Names) × (finmap.get state.spaces 1 ≡ Some names)
  pub spaces : (space : ℕ) (names : Names) → finmap.get state.spaces space ≡ Some names → (0 < space)
      × (space ≤ MAX_SPACES) × LawfulNames names
  pub ports : (serial : ℕ) (port : PortState) → finmap.get state.ports serial ≡ Some port → (0 < serial)
      × (serial < state.next) × LawfulPort port
  pub few_ports : finmap.len state.ports ≤ MAX_PORTS
  pub next : (0 < state.next) × (state.next < 2 ^ 64)

-- a live port changes

pub with_port_there : (state : Ipc) (serial : ℕ) (change : PortState → PortState) (port : PortState)
    → finmap.get state.ports serial ≡ Some port
    → with_port state serial change ≡ record state { ports = finmap.insert state.ports serial (change port) }
with_port_there state serial change port there =
    ap (λ (o : Option PortState). elim o as (λ _. Ipc)
    [ None ↦ state | Some p ↦ record state { ports = finmap.insert state.ports serial (change p) } ]) there

pub inserted_parts : (state : Ipc) (serial : ℕ) (port changed : PortState) → finmap.get state.ports serial ≡ Some port
    → LawfulPort changed → Parts state → Parts (record state { ports = finmap.insert state.ports serial changed })
inserted_parts state serial port changed there lawful parts = record {
  first_space = parts.first_space;
  spaces = parts.spaces;
  ports =
      λ (k : ℕ) (p : PortState) (at : _). elim (number_decided k serial)
      as (λ _. (0 < k) × (k < state.next) × LawfulPort p) [
        | inl apart ↦ parts.ports k p (sym (get-there state.ports serial changed k apart) ∙ at)
        | inr same ↦
            let bounds = parts.ports serial port there in
            let is : changed ≡ p =
            some_same changed p (sym (get-here state.ports serial changed)
            ∙ ap (finmap.get (finmap.insert state.ports serial changed)) (sym same) ∙ at) in (
              subst (λ (n : ℕ). 0 < n) (sym same) bounds.0,
              subst (λ (n : ℕ). n < state.next) (sym same) bounds.1,
              subst LawfulPort is lawful,
            )
      ];
  few_ports =
      omega (
        arith,
        parts.few_ports,
        len-insert nat_cmp_total state.ports serial changed ∙ ap
            (λ (b : Bool). cond b (finmap.len state.ports) (finmap.len state.ports + 1)) (ap is_some there),
      );
  next = parts.next;
}

pub changed_parts : (state : Ipc) (serial : ℕ) (change : PortState → PortState) (port : PortState)
    → finmap.get state.ports serial ≡ Some port → ((p : PortState) → LawfulPort p → LawfulPort (change p)) → Parts state
    → Parts (with_port state serial change)
changed_parts state serial change port there keeps parts =
    subst Parts (sym (with_port_there state serial change port there))
    (inserted_parts state serial port (change port) there (keeps port (parts.ports serial port there).2) parts)

-- whether the port lives or not
pub any_changed_parts : (state : Ipc) (serial : ℕ) (change : PortState → PortState)
    → ((p : PortState) → LawfulPort p → LawfulPort (change p)) → Parts state → Parts (with_port state serial change)
any_changed_parts state serial change keeps parts =
    elim (finmap.get state.ports serial)
    as (λ (o : Option PortState). finmap.get state.ports serial ≡ o → Parts (with_port state serial change)) [
      | None ↦ λ (none : _). subst Parts
          (sym (ap (λ (o : Option PortState). elim o as (λ _. Ipc)
          [ None ↦ state | Some p ↦ record state { ports = finmap.insert state.ports serial (change p) } ]) none))
          parts
      | Some port ↦ λ (there : _). changed_parts state serial change port there keeps parts
    ] refl

-- the notices are lawful messages

no_bytes : AreBytes []
no_bytes i = omega arith

pub byte_more : (b : ℕ) (bytes : List ℕ) → b < 256 → AreBytes bytes → AreBytes (b ∷ bytes)
byte_more b bytes first rest zero = first
byte_more b bytes first rest (suc i) = rest i

pub word_more : (n : ℕ) (bytes : List ℕ) → AreBytes bytes → AreBytes (word n ++ bytes)
word_more n bytes rest =
    byte_more (n % 256) (n / 256 % 256 ∷ n / 65536 % 256 ∷ n / 16777216 % 256 ∷ bytes) (omega arith)
    (byte_more (n / 256 % 256) (n / 65536 % 256 ∷ n / 16777216 % 256 ∷ bytes) (omega arith)
    (byte_more (n / 65536 % 256) (n / 16777216 % 256 ∷ bytes) (omega arith)
    (byte_more (n / 16777216 % 256) bytes (omega arith) rest)))

two_words : (m n : ℕ) → AreBytes (word m ++ word n)
two_words m n =
    subst AreBytes (ap (λ l. word m ++ l) (append-nil (word n))) (word_more m (word n ++ []) (word_more n [] no_bytes))

not_receive : kind.SendOnce ≢ kind.Receive
not_receive e = cc e

two_items_notice : (what : Notice) (id : ℕ) (m n : ℕ) → id < 2 ^ 32
    → LawfulMessage (record {
      destination = kind.SendOnce;
      reply = None;
      id = id;
      complex = false;
      rights = [];
      body = word m ++ word n;
    })
two_items_notice what id m n small = record {
  destination = not_receive;
  reply = tt;
  id = small;
  whole_words = refl;
  small = omega arith;
  bytes = two_words m n;
  ports = refl;
}

destroyed_item : Item
destroyed_item = record { type_name = 16; bits = 32; number = 1; is_long = false; content = 0 ∷ 0 ∷ 0 ∷ 0 ∷ [] }

one_element : {X : Type 0} (P : X → Type 0) (x : X) → P x → All P (x ∷ [])
one_element P x holds zero d less = holds
one_element P x holds (suc k) d less = absurd (omega (arith, less))

no_bytes_but_zero : All (λ (byte : ℕ). byte ≡ 0) (0 ∷ 0 ∷ 0 ∷ 0 ∷ [])
no_bytes_but_zero zero d less = refl
no_bytes_but_zero (suc zero) d less = refl
no_bytes_but_zero (suc (suc zero)) d less = refl
no_bytes_but_zero (suc (suc (suc zero))) d less = refl
no_bytes_but_zero (suc (suc (suc (suc k)))) d less = absurd (omega (arith, less))

one_stored : All IsStoredItem (destroyed_item ∷ [])
unfolding destroyed_item
one_stored = one_element IsStoredItem destroyed_item (omega arith, no_bytes_but_zero)

destroyed_ports : (serial : ℕ)
    → HoldsPorts (notice.notice_body (notice.PortDestroyed serial))
    ((record { kind = kind.Receive; port = Live serial }) ∷ [])
unfolding destroyed_item items_of
destroyed_ports serial = record {
  items = destroyed_item ∷ [];
  tiled = refl;
  has_port = (destroyed_item, (0, omega arith, refl), refl);
  stored = one_stored;
  kinds = refl;
  few = omega arith;
}

notice_lawful : (what : Notice) → LawfulMessage (notice_message what)
notice_lawful (notice.PortDeleted name) = two_items_notice (notice.PortDeleted name) 65 0x1001200f name (omega arith)
notice_lawful (notice.PortDestroyed serial) = record {
  destination = not_receive;
  reply = tt;
  id = omega arith;
  whole_words = refl;
  small = omega arith;
  bytes = two_words 0x10012010 0;
  ports = destroyed_ports serial;
}
notice_lawful (notice.NoSenders count) = two_items_notice (notice.NoSenders count) 70 0x10012002 count (omega arith)
notice_lawful notice.SendOnce = record {
  destination = not_receive;
  reply = tt;
  id = omega arith;
  whole_words = refl;
  small = omega arith;
  bytes = no_bytes;
  ports = refl;
}
notice_lawful (notice.DeadName name) = two_items_notice (notice.DeadName name) 72 0x1001200f name (omega arith)

queued_lawful : (message : Message) → LawfulMessage message → (port : PortState) → LawfulPort port
    → LawfulPort (record port { messages = port.messages ++ message ∷ [] })
queued_lawful message lawful port is = record {
  limit = is.limit;
  sequence_number = is.sequence_number;
  make_send_count = is.make_send_count;
  messages = All-push LawfulMessage port.messages message is.messages lawful;
}

notified_parts : (state : Ipc) (target : ℕ) (what : Notice) → Parts state → Parts (notified state target what)
notified_parts state target what parts =
    any_changed_parts state target
    (λ (p : PortState). record p { messages = p.messages ++ notice_message what ∷ [] })
    (queued_lawful (notice_message what) (notice_lawful what)) parts

less_if : (b : Bool) (n : ℕ) → cond b (n - 1) n ≤ n
less_if true n = omega arith
less_if false n = omega arith

pub fewer_left : {X : Type 0} (m : FinMap nat_cmp X) (k : ℕ) → finmap.len (finmap.remove m k) ≤ finmap.len m
fewer_left m k =
    subst (λ (n : ℕ). n ≤ finmap.len m) (sym (len-remove nat_cmp_total m k))
    (less_if (finmap.contains_key m k) (finmap.len m))

-- a port's death

pub mapped_some : {X : Type 0} (g : X → X) (o : Option X) (y : X) → option_map g o ≡ Some y → (x : X) × (o ≡ Some x)
    × (g x ≡ y)
mapped_some g None y e = absurd (cc e)
mapped_some g (Some x) y e = (x, refl, some_same (g x) y e)

-- no name holds the port's receive right
abbrev pub NotReceived : Ipc → ℕ → Type 0
NotReceived state serial =
    (space name : ℕ) (names : Names) (rights : PortRights) → finmap.get state.spaces space ≡ Some names
    → finmap.get names name ≡ Some (Port rights) → rights.port ≡ serial → rights.receive ≡ false

dead_lawful : (rights : PortRights) → rights.receive ≡ false → LawfulEntry (Port rights)
    → LawfulEntry (Dead (rights.send + one_more_if rights.dead_name_target))
dead_lawful rights none lawful =
    let some : 0 < rights.send =
    elim lawful.0 as (λ _. 0 < rights.send) [ inl receive ↦ absurd (cc (sym receive ∙ none)) | inr send ↦ send ] in
    elim rights.dead_name_target as (λ (o : Option ℕ). (0 < rights.send + one_more_if o)
    × (rights.send + one_more_if o ≤ MAX_DEAD_REFERENCES)) [
      | None ↦ (omega (arith, some), omega (arith, lawful.1))
      | Some target ↦ (omega (arith, some), omega (arith, lawful.1))
    ]

entry_lawful_after : (serial : ℕ) (entry : Entry)
    → ((rights : PortRights) → entry ≡ Port rights → rights.port ≡ serial → rights.receive ≡ false) → LawfulEntry entry
    → LawfulEntry (entry_after_death serial entry)
entry_lawful_after serial (Port rights) none lawful =
    elim (rights.port == serial) as (λ (b : Bool). (rights.port == serial) ≡ b
    → LawfulEntry (if b then Dead (rights.send + one_more_if rights.dead_name_target)
    else Port (record rights { dead_name_target = without_target serial rights.dead_name_target }))) [
      | true ↦ λ (e : _). dead_lawful rights (none rights refl (number_same rights.port serial e)) lawful
      | false ↦ λ (e : _). lawful
    ] refl
entry_lawful_after serial (SendOnce port target) none lawful =
    elim (port == serial) as (λ (b : Bool). LawfulEntry
    (if b then Dead (1 + one_more_if target) else SendOnce port (without_target serial target))) [
      | true ↦ elim target as (λ (o : Option ℕ). (0 < 1 + one_more_if o) × (1 + one_more_if o ≤ MAX_DEAD_REFERENCES))
          [ None ↦ (omega arith, omega arith) | Some t ↦ (omega arith, omega arith) ]
      | false ↦ tt
    ]
entry_lawful_after serial Set none lawful = tt
entry_lawful_after serial (Dead references) none lawful = lawful

held_after : (serial other : ℕ) (entry : Entry) → port_held (entry_after_death serial entry) ≡ Some other
    → port_held entry ≡ Some other
held_after serial other (Port rights) is =
    elim (rights.port == serial) as (λ (b : Bool). port_held
    (if b then Dead (rights.send + one_more_if rights.dead_name_target)
    else Port (record rights { dead_name_target = without_target serial rights.dead_name_target })) ≡ Some other
    → Some rights.port ≡ Some other) [
      | true ↦ λ (e : _). absurd (cc e)
      | false ↦ λ (e : _). e
    ] is
held_after serial other (SendOnce port target) is =
    elim (port == serial) as (λ (b : Bool). port_held
    (if b then Dead (1 + one_more_if target) else SendOnce port (without_target serial target)) ≡ Some other
    → None ≡ Some other) [
      | true ↦ λ (e : _). e
      | false ↦ λ (e : _). e
    ] is
held_after serial other Set is = is
held_after serial other (Dead references) is = is

names_after_death : (state : Ipc) (serial space : ℕ) (names : Names) → NotReceived state serial
    → finmap.get state.spaces space ≡ Some names → LawfulNames names
    → LawfulNames (map_values (entry_after_death serial) names)
names_after_death state serial space names none there lawful = record {
  few = omega (arith, len-map_values (entry_after_death serial) names, lawful.few);
  named = λ (name : ℕ) (entry : Entry) (at : _).
      let was =
      mapped_some (entry_after_death serial) (finmap.get names name) entry
      (sym (get-map_values (entry_after_death serial) names name) ∙ at) in
      let first = lawful.named name was.0 was.1 in (
        first.0,
        first.1,
        subst LawfulEntry was.2
            (entry_lawful_after serial was.0
            (λ (rights : PortRights) (is : _) (port : _). none space name names rights there
            (was.1 ∙ ap Some is) port) first.2),
      );
  one_name = λ (one other port : ℕ) (first second : Entry) (at : _) (at_too : _) (held : _) (held_too : _).
      let was =
      mapped_some (entry_after_death serial) (finmap.get names one) first
      (sym (get-map_values (entry_after_death serial) names one) ∙ at) in
      let was_too =
      mapped_some (entry_after_death serial) (finmap.get names other) second
      (sym (get-map_values (entry_after_death serial) names other) ∙ at_too) in
      lawful.one_name one other port was.0 was_too.0 was.1 was_too.1
      (held_after serial port was.0 (ap port_held was.2 ∙ held))
      (held_after serial port was_too.0 (ap port_held was_too.2 ∙ held_too));
}

right_kinds : (serial : ℕ) (rights : List CarriedRight)
    → map (λ (r : CarriedRight). r.kind) (map (right_after_death serial) rights) ≡ map
    (λ (r : CarriedRight). r.kind) rights
right_kinds serial [] = refl
right_kinds serial (right ∷ rights) = ap (λ (l : List RightKind). right.kind ∷ l) (right_kinds serial rights)

mapped_none : (serial : ℕ) (rights : List CarriedRight) → rights ≡ [] → map (right_after_death serial) rights ≡ []
mapped_none serial rights none = ap (map (right_after_death serial)) none

reply_lawful_after : (serial : ℕ) (reply : Option CarriedRight) → LawfulReply reply
    → LawfulReply (option_map (right_after_death serial) reply)
reply_lawful_after serial None lawful = tt
reply_lawful_after serial (Some right) lawful = lawful

message_lawful_after : (serial : ℕ) (message : Message) → LawfulMessage message
    → LawfulMessage (message_after_death serial message)
message_lawful_after serial message lawful = record {
  destination = lawful.destination;
  reply = reply_lawful_after serial message.reply lawful.reply;
  id = lawful.id;
  whole_words = lawful.whole_words;
  small = lawful.small;
  bytes = lawful.bytes;
  ports =
      elim message.complex as (λ (b : Bool). MatchBool b (HoldsPorts message.body message.rights) (message.rights ≡ [])
      → MatchBool b (HoldsPorts message.body (map (right_after_death serial) message.rights))
      (map (right_after_death serial) message.rights ≡ [])) [
        | true ↦ λ (holds : _). record {
          items = holds.items;
          tiled = holds.tiled;
          has_port = holds.has_port;
          stored = holds.stored;
          kinds = right_kinds serial message.rights ∙ holds.kinds;
          few = omega (arith, length-map message.rights (right_after_death serial), holds.few);
        }
        | false ↦ λ (none : _). mapped_none serial message.rights none
      ] lawful.ports;
}

port_lawful_after : (serial : ℕ) (port : PortState) → LawfulPort port → LawfulPort (port_after_death serial port)
port_lawful_after serial port lawful = record {
  limit = lawful.limit;
  sequence_number = lawful.sequence_number;
  make_send_count = lawful.make_send_count;
  messages =
      All-map LawfulMessage (message_after_death serial) port.messages
      (λ (k : ℕ) (d : Message) (less : _). message_lawful_after serial _ (lawful.messages k d less));
}

dead_parts : (state : Ipc) (serial : ℕ) → NotReceived state serial → Parts state → Parts (after_death state serial)
dead_parts state serial none parts = record {
  first_space = (
    map_values (entry_after_death serial) parts.first_space.0,
    get-map_values (map_values (entry_after_death serial)) state.spaces 1
        ∙ ap (option_map (map_values (entry_after_death serial))) parts.first_space.1,
  );
  spaces = λ (space : ℕ) (names : Names) (at : _).
      let was =
      mapped_some (map_values (entry_after_death serial)) (finmap.get state.spaces space) names
      (sym (get-map_values (map_values (entry_after_death serial)) state.spaces space) ∙ at) in
      let first = parts.spaces space was.0 was.1 in
      (first.0, first.1, subst LawfulNames was.2 (names_after_death state serial space was.0 none was.1 first.2));
  ports = λ (k : ℕ) (port : PortState) (at : _).
      let was =
      mapped_some (port_after_death serial) (finmap.get (finmap.remove state.ports serial) k) port
      (sym (get-map_values (port_after_death serial) (finmap.remove state.ports serial) k) ∙ at) in
      let there : finmap.get state.ports k ≡ Some was.0 =
      sym (get-left state.ports serial k (left_apart state.ports serial k was.0 was.1)) ∙ was.1 in
      let first = parts.ports k was.0 there in
      (first.0, first.1, subst LawfulPort was.2 (port_lawful_after serial was.0 first.2));
  few_ports =
      omega (
        arith,
        len-map_values (port_after_death serial) (finmap.remove state.ports serial),
        fewer_left state.ports serial,
        parts.few_ports,
      );
  next = parts.next;
}

-- one effect

no_senders_parts : (state : Ipc) (serial : ℕ) (port : PortState) (target : Option ℕ) → Parts state
    → Parts (notified_no_senders state serial port target)
no_senders_parts state serial port None parts = parts
no_senders_parts state serial port (Some target) parts =
    notified_parts (with_port state serial (λ (p : PortState). record p { no_senders_target = None })) target
    (notice.NoSenders port.make_send_count)
    (any_changed_parts state serial (λ (p : PortState). record p { no_senders_target = None })
    (λ (p : PortState) (l : _). record {
      limit = l.limit;
      sequence_number = l.sequence_number;
      make_send_count = l.make_send_count;
      messages = l.messages;
    }) parts)

moved_lawful : (p : PortState) → LawfulPort p → LawfulPort (moved_out p)
moved_lawful p lawful =
    record {
      limit = lawful.limit;
      sequence_number = omega arith;
      make_send_count = omega arith;
      messages = lawful.messages;
    }

receive_parts : (state : Ipc) (serial : ℕ) (port : PortState) (target : Option ℕ) → NotReceived state serial
    → Parts state → Parts (receive_released_to state serial port target).0
receive_parts state serial port None none parts = dead_parts state serial none parts
receive_parts state serial port (Some target) none parts =
    elim (lives state target && not (is_circular state serial target))
    as (λ (b : Bool). Parts (sent_or_died b state serial port target).0) [
      | true ↦ notified_parts (with_port state serial moved_out) target (notice.PortDestroyed serial)
          (any_changed_parts state serial moved_out moved_lawful parts)
      | false ↦ dead_parts state serial none parts
    ]

release_parts : (state : Ipc) (serial : ℕ) (port : PortState) (what : RightKind)
    → (what ≡ kind.Receive → NotReceived state serial) → Parts state → Parts (released state serial port what).0
release_parts state serial port kind.Send none parts =
    elim (send_count state serial == 0)
    as (λ (b : Bool). Parts (if b then notified_no_senders state serial port port.no_senders_target else state))
    [ true ↦ no_senders_parts state serial port port.no_senders_target parts | false ↦ parts ]
release_parts state serial port kind.SendOnce none parts = notified_parts state serial notice.SendOnce parts
release_parts state serial port kind.Receive none parts =
    receive_parts state serial port port.port_destroyed_target (none refl) parts

-- An effect keeps these parts lawful, if a receive right that is released stands under no name.
pub effect_parts : (state : Ipc) (first : Effect)
    → ((serial : ℕ) (port : PortState) → first ≡ release kind.Receive serial → finmap.get state.ports serial ≡ Some port
    → NotReceived state serial) → Parts state → Parts (effect state first).0
unfolding effect
effect_parts state (release what serial) none parts =
    elim (finmap.get state.ports serial)
    as (λ (o : Option PortState). finmap.get state.ports serial ≡ o
    → Parts (released_if_live state serial what o).0) [
      | None ↦ λ (absent : _). parts
      | Some port ↦ λ (there : _). release_parts state serial port what
          (λ (is : _). none serial port (ap (λ (k : RightKind). release k serial) is) there) parts
    ] refl
effect_parts state (notify target what) none parts = notified_parts state target what parts
