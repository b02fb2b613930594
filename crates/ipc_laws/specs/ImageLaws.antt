-- An image has one encoding: bytes that begin with a state's image begin with no other state's.
use Rattle.std.specs.Prelude.{◌≡◌, ℕ, zero, suc, ◌+◌, ◌^◌, ◌<◌, Bool, true, false, ◌==◌, List, [], ◌∷◌, ◌++◌, length, map, flat_map, All, cond, Option, None, Some, is_some, if◌then◌else◌, refl}
use Rattle.std.proofs.lemmas.List.Elements.{All-nil, All-cons}
use Rattle.std.proofs.Common.{sym, ◌∙◌, ap, arith, append_assoc}
use Rattle.std.specs.Cmp.{nat_cmp_total}
use Rattle.std.specs.Ordering.{nat_cmp, eq_by_cmp}
use Rattle.std.specs.FinMap as finmap
use Rattle.std.specs.FinMap.{FinMap, find, get-empty, get-entries, len-entries, nat_cmp-IsAntisymmetric, same_entries_map, same_map}
use Rattle.codes.specs.declared.call_number.TheConstants.{NUMBERED}
use Rattle.codes.specs.declared.store_version.StoreVersion.{StoreVersion}
use Rattle.codes.specs.declared.store_version.StoreVersion.TheVariants.{One, Two}
use Rattle.ipc_model.specs.calls.PlainStep.{has_record}
use Rattle.ipc_model.specs.declared.entry.Entry.{Entry}
use Rattle.ipc_model.specs.declared.entry.Entry.TheVariants.{Port, SendOnce, Set, Dead}
use Rattle.ipc_model.specs.declared.message.CarriedRight.{CarriedRight}
use Rattle.ipc_model.specs.declared.message.Message.{Message}
use Rattle.ipc_model.specs.declared.message.PortInMessage.{PortInMessage}
use Rattle.ipc_model.specs.declared.message.PortInMessage.TheVariants as in_message
use Rattle.ipc_model.specs.declared.message.RightKind.{RightKind}
use Rattle.ipc_model.specs.declared.message.RightKind.TheVariants as kind
use Rattle.ipc_model.specs.declared.plain_call.PlainCall.{PlainCall}
use Rattle.ipc_model.specs.declared.port.PortState.{PortState}
use Rattle.ipc_model.specs.declared.reply.NumberedReply.{NumberedReply}
use Rattle.ipc_model.specs.rights.Dispositions.{number_of_kind}
use Rattle.ipc_model.specs.encodings.Images.{number_or_0, entry_encoding, names_encoding, place_encoding, carried_encoding, reply_right_encoding, message_image, port_encoding, kept_encoding, space_encoding, image_encoding_of}
use Rattle.ipc_model.specs.state.Lawful.{kind_of_number}
use Rattle.ipc_laws.specs.ListLaws.{same_front, same_back, same_head, same_tail}
use Rattle.ipc_model.specs.messages.Receiving.{message_size}
use Rattle.ipc_model.specs.state.Ipc.{Ipc, Names}
use Rattle.ipc_model.specs.state.State.{KeptReplies, State}
use Rattle.ipc_model.specs.store.Recovery.{KeepsWhatItMay}
use Rattle.ipc_laws.specs.EncodingLaws.{word_once, long_word_once, frame_once, reply_encoding_once}
use Rattle.ipc_laws.specs.EncodingReading.{all_head, all_tail}
use Rattle.ipc_laws.specs.MapSums.{key_is}
use Rattle.ipc_model.specs.encodings.Encodings.{numbered_encoding}
use Rattle.ipc_model.specs.encodings.PlainCalls.{number_of_bool, reply_encoding, FitsReply}
use Rattle.words.specs.Words.{word, long_word, frame_encoding}

-- What the encoding of a state needs: each number fits in its word, and where 0 means none, an actual value isn't 0.

-- the port of a request's target
abbrev pub EncodableTarget : Option ℕ → Type 0
EncodableTarget None = Unit {0}
EncodableTarget (Some serial) = (0 < serial) × (serial < 2 ^ 64)

-- the name of a set
abbrev pub EncodableSet : Option ℕ → Type 0
EncodableSet None = Unit {0}
EncodableSet (Some name) = (0 < name) × (name < 2 ^ 32)

-- what stands in a port's place in a message
abbrev pub EncodablePlace : PortInMessage → Type 0
EncodablePlace in_message.Null = Unit {0}
EncodablePlace in_message.Dead = Unit {0}
EncodablePlace (in_message.Live serial) = serial < 2 ^ 64

abbrev pub EncodableRight : CarriedRight → Type 0
EncodableRight right = EncodablePlace right.port

abbrev pub EncodableReplyRight : Option CarriedRight → Type 0
EncodableReplyRight None = Unit {0}
EncodableReplyRight (Some right) = EncodableRight right

-- a queued message: few enough rights to count, and a size that its word holds
pub record EncodableMessage (message : Message) : Type 0 where
  pub reply : EncodableReplyRight message.reply
  pub id : message.id < 2 ^ 32
  pub size : message_size message < 2 ^ 32
  pub few_rights : length message.rights < 2 ^ 32
  pub rights : All EncodableRight message.rights

-- what a live port keeps
pub record EncodablePort (port : PortState) : Type 0 where
  pub limit : port.limit < 2 ^ 32
  pub sequence_number : port.sequence_number < 2 ^ 32
  pub make_send_count : port.make_send_count < 2 ^ 32
  pub set : EncodableSet port.set
  pub no_senders_target : EncodableTarget port.no_senders_target
  pub port_destroyed_target : EncodableTarget port.port_destroyed_target
  pub few_messages : length port.messages < 2 ^ 32
  pub messages : All EncodableMessage port.messages

-- what a name stands for
abbrev pub EncodableEntry : Entry → Type 0
EncodableEntry (Port rights) = (rights.port < 2 ^ 64) × (rights.send < 2 ^ 32) × EncodableTarget rights.dead_name_target
EncodableEntry (SendOnce port target) = (port < 2 ^ 64) × EncodableTarget target
EncodableEntry Set = Unit {0}
EncodableEntry (Dead references) = references < 2 ^ 32

-- a name with what it stands for
abbrev pub EncodableNamed : ℕ × Entry → Type 0
EncodableNamed e = (e.0 < 2 ^ 32) × EncodableEntry e.1

-- the names of a space
pub record EncodableNames (names : Names) : Type 0 where
  pub few : finmap.len names < 2 ^ 32
  pub entries : All EncodableNamed (finmap.entries names)

-- a space by its number, and a live port by its serial
abbrev pub EncodableSpace : ℕ × Names → Type 0
EncodableSpace e = (e.0 < 2 ^ 32) × EncodableNames e.1

abbrev pub EncodableLivePort : ℕ × PortState → Type 0
EncodableLivePort e = (e.0 < 2 ^ 64) × EncodablePort e.1

-- An IPC state whose encoding determines it.
pub record EncodableIpc (state : Ipc) : Type 0 where
  pub next : state.next < 2 ^ 64
  pub few_spaces : finmap.len state.spaces < 2 ^ 32
  pub spaces : All EncodableSpace (finmap.entries state.spaces)
  pub few_ports : finmap.len state.ports < 2 ^ 32
  pub ports : All EncodableLivePort (finmap.entries state.ports)

-- what a space may keep: its numbers fit, and it stands in a record of some call
pub record EncodableKept (kept : NumberedReply) : Type 0 where
  pub request : (0 < kept.request) × (kept.request < 2 ^ 32)
  pub call : PlainCall
  pub recorded : has_record call kept.reply ≡ true
  pub fits : FitsReply kept.reply
  pub short : length (numbered_encoding kept) < 2 ^ 32

-- A state whose encoding determines it.
pub record Encodable (state : State) : Type 0 where
  pub ipc : EncodableIpc state.ipc
  pub kept : (space : ℕ) (answer : NumberedReply) → finmap.get state.kept space ≡ Some answer
      → (is_some (finmap.get state.ipc.spaces space) ≡ true) × EncodableKept answer

-- Equal bytes that begin with encodings of this form begin with the encoding of one thing, if the things satisfy P.
abbrev pub HasOneEncoding : {A : Type 0} → (A → List ℕ) → (A → Type 0) → Type 0
HasOneEncoding {A} encoding P =
    (a b : A) (x y : List ℕ) → P a → P b → encoding a ++ x ≡ encoding b ++ y → (a ≡ b) × (x ≡ y)

module _ {A : Type 0} where
  -- equal bytes that begin with the encodings of equally many things
  pub list_once : (encoding : A → List ℕ) (P : A → Type 0) → HasOneEncoding encoding P
      → (some others : List A) (x y : List ℕ)
      → All P some → All P others → length some ≡ length others
      → flat_map encoding some ++ x ≡ flat_map encoding others ++ y → (some ≡ others) × (x ≡ y)
  list_once encoding P once [] [] x y are are_too long e = (refl, e)
  list_once encoding P once [] (b ∷ more_too) x y are are_too long e = absurd (omega (arith, long))
  list_once encoding P once (a ∷ more) [] x y are are_too long e = absurd (omega (arith, long))
  list_once encoding P once (a ∷ more) (b ∷ more_too) x y are are_too long e =
      let whole =
      sym (append_assoc (encoding a) (flat_map encoding more) x) ∙ e
      ∙ append_assoc (encoding b) (flat_map encoding more_too) y in
      let first =
      once a b (flat_map encoding more ++ x) (flat_map encoding more_too ++ y) (all_head P a more are)
      (all_head P b more_too are_too) whole in
      let others =
      list_once encoding P once more more_too x y (all_tail P a more are) (all_tail P b more_too are_too)
      (omega (arith, long)) first.1 in
      ((λ i. first.0 i ∷ others.0 i), others.1)

  -- equal bytes that begin with a count and the encodings of that many things
  pub counted_once : (encoding : A → List ℕ) (P : A → Type 0) → HasOneEncoding encoding P
      → (some others : List A) (x y : List ℕ)
      → length some < 2 ^ 32 → length others < 2 ^ 32 → All P some → All P others
      → word (length some) ++ (flat_map encoding some ++ x) ≡ word (length others) ++ (flat_map encoding others ++ y)
      → (some ≡ others) × (x ≡ y)
  counted_once encoding P once some others x y few few_too are are_too e =
      let counts =
      word_once (length some) (length others) (flat_map encoding some ++ x)
      (flat_map encoding others ++ y) few few_too e in
      list_once encoding P once some others x y are are_too counts.0 counts.1

module _ {X : Type 0} where
  -- equal bytes that begin with a finite map: how many keys it has, and its entries
  pub map_once : (encoding : ℕ × X → List ℕ) (P : ℕ × X → Type 0) → HasOneEncoding encoding P
      → (m n : FinMap nat_cmp X) (x y : List ℕ)
      → finmap.len m < 2 ^ 32 → finmap.len n < 2 ^ 32 → All P (finmap.entries m) → All P (finmap.entries n)
      → word (finmap.len m) ++ (flat_map encoding (finmap.entries m) ++ x) ≡ word (finmap.len n)
      ++ (flat_map encoding (finmap.entries n) ++ y) → (m ≡ n) × (x ≡ y)
  map_once encoding P once m n x y few few_too are are_too e =
      let counts =
      word_once (finmap.len m) (finmap.len n) (flat_map encoding (finmap.entries m) ++ x)
      (flat_map encoding (finmap.entries n) ++ y) few few_too e in
      let long = sym (len-entries m) ∙ counts.0 ∙ len-entries n in
      let parts = list_once encoding P once (finmap.entries m) (finmap.entries n) x y are are_too long counts.1 in
      (same_entries_map m n parts.0, parts.1)

-- where 0 means none, a number is read back
none_if_0 : ℕ → Option ℕ
none_if_0 zero = None
none_if_0 (suc n) = Some (suc n)

target_back : (target : Option ℕ) → EncodableTarget target → none_if_0 (number_or_0 target) ≡ target
unfolding none_if_0
target_back None fits = refl
target_back (Some zero) fits = absurd (omega (arith, fits.0))
target_back (Some (suc n)) fits = refl

set_back : (set : Option ℕ) → EncodableSet set → none_if_0 (number_or_0 set) ≡ set
unfolding none_if_0
set_back None fits = refl
set_back (Some zero) fits = absurd (omega (arith, fits.0))
set_back (Some (suc n)) fits = refl

target_fits : (target : Option ℕ) → EncodableTarget target → number_or_0 target < 2 ^ 64
target_fits None fits = omega arith
target_fits (Some n) fits = fits.1

set_fits : (set : Option ℕ) → EncodableSet set → number_or_0 set < 2 ^ 32
set_fits None fits = omega arith
set_fits (Some n) fits = fits.1

-- a request's target or none, and a set's name or none
abbrev target_encoding : Option ℕ → List ℕ
target_encoding target = long_word (number_or_0 target)

target_once : HasOneEncoding target_encoding EncodableTarget
target_once a b x y fits fits_too e =
    let parts = long_word_once (number_or_0 a) (number_or_0 b) x y (target_fits a fits) (target_fits b fits_too) e in
    (sym (target_back a fits) ∙ ap none_if_0 parts.0 ∙ target_back b fits_too, parts.1)

abbrev set_encoding : Option ℕ → List ℕ
set_encoding set = word (number_or_0 set)

set_once : HasOneEncoding set_encoding EncodableSet
set_once a b x y fits fits_too e =
    let parts = word_once (number_or_0 a) (number_or_0 b) x y (set_fits a fits) (set_fits b fits_too) e in
    (sym (set_back a fits) ∙ ap none_if_0 parts.0 ∙ set_back b fits_too, parts.1)

-- a byte that is a kind, and one that is a yes or no
kind_back : (k : RightKind) → kind_of_number (number_of_kind k) ≡ k
kind_back kind.Receive = refl
kind_back kind.Send = refl
kind_back kind.SendOnce = refl

kind_once : (a b : RightKind) (x y : List ℕ) → number_of_kind a ∷ x ≡ number_of_kind b ∷ y → (a ≡ b) × (x ≡ y)
kind_once a b x y e = (
  sym (kind_back a) ∙ ap kind_of_number (same_head (number_of_kind a) (number_of_kind b) x y e) ∙ kind_back b,
  same_tail (number_of_kind a) (number_of_kind b) x y e,
)

bool_back : (b : Bool) → (number_of_bool b == 1) ≡ b
bool_back true = refl
bool_back false = refl

bool_once : (a b : Bool) (x y : List ℕ) → number_of_bool a ∷ x ≡ number_of_bool b ∷ y → (a ≡ b) × (x ≡ y)
bool_once a b x y e = (
  sym (bool_back a) ∙ ap (λ (n : ℕ). n == 1) (same_head (number_of_bool a) (number_of_bool b) x y e) ∙ bool_back b,
  same_tail (number_of_bool a) (number_of_bool b) x y e,
)

-- what stands in a port's place, in two numbers
abbrev place_tag : PortInMessage → ℕ
place_tag in_message.Null = 0
place_tag in_message.Dead = 1
place_tag (in_message.Live serial) = 2

abbrev place_serial : PortInMessage → ℕ
place_serial in_message.Null = 0
place_serial in_message.Dead = 0
place_serial (in_message.Live serial) = serial

abbrev place_of : ℕ → ℕ → PortInMessage
place_of tag serial = if tag == 0 then in_message.Null else if tag == 1 then in_message.Dead else in_message.Live serial

place_apart : (place : PortInMessage) (rest : List ℕ)
    → place_encoding place ++ rest ≡ place_tag place ∷ (long_word (place_serial place) ++ rest)
place_apart in_message.Null rest = refl
place_apart in_message.Dead rest = refl
place_apart (in_message.Live serial) rest = refl

place_back : (place : PortInMessage) → place_of (place_tag place) (place_serial place) ≡ place
place_back in_message.Null = refl
place_back in_message.Dead = refl
place_back (in_message.Live serial) = refl

place_fits : (place : PortInMessage) → EncodablePlace place → place_serial place < 2 ^ 64
place_fits in_message.Null fits = omega arith
place_fits in_message.Dead fits = omega arith
place_fits (in_message.Live serial) fits = fits

pub place_once : HasOneEncoding place_encoding EncodablePlace
place_once a b x y fits fits_too e =
    let whole = sym (place_apart a x) ∙ e ∙ place_apart b y in
    let serials_a = long_word (place_serial a) ++ x in
    let serials_b = long_word (place_serial b) ++ y in
    let tags = same_head (place_tag a) (place_tag b) serials_a serials_b whole in
    let serials =
    long_word_once (place_serial a) (place_serial b) x y (place_fits a fits) (place_fits b fits_too)
    (same_tail (place_tag a) (place_tag b) serials_a serials_b whole) in
    (sym (place_back a) ∙ (λ i. place_of (tags i) (serials.0 i)) ∙ place_back b, serials.1)

pub carried_once : HasOneEncoding carried_encoding EncodableRight
carried_once a b x y fits fits_too e =
    let kinds = kind_once a.kind b.kind (place_encoding a.port ++ x) (place_encoding b.port ++ y) e in
    let places = place_once a.port b.port x y fits fits_too kinds.1 in
    ((λ i. record { kind = kinds.0 i; port = places.0 i }), places.1)

kind_is_not_0 : (k : RightKind) → 0 ≡ number_of_kind k → ⊥
kind_is_not_0 kind.Receive e = omega (arith, e)
kind_is_not_0 kind.Send e = omega (arith, e)
kind_is_not_0 kind.SendOnce e = omega (arith, e)

pub reply_right_once : HasOneEncoding reply_right_encoding EncodableReplyRight
reply_right_once None None x y fits fits_too e = (
  refl,
  (place_once in_message.Null in_message.Null x y tt tt
      (same_tail 0 0 (place_encoding in_message.Null ++ x) (place_encoding in_message.Null ++ y) e)).1,
)
reply_right_once None (Some b) x y fits fits_too e =
    absurd (kind_is_not_0 b.kind (same_head 0 (number_of_kind b.kind) (place_encoding in_message.Null ++ x)
    (place_encoding b.port ++ y) e))
reply_right_once (Some a) None x y fits fits_too e =
    absurd (kind_is_not_0 a.kind (sym
    (same_head (number_of_kind a.kind) 0 (place_encoding a.port ++ x) (place_encoding in_message.Null ++ y) e)))
reply_right_once (Some a) (Some b) x y fits fits_too e =
    let rights = carried_once a b x y fits fits_too e in
    ((λ i. Some (rights.0 i)), rights.1)

-- a message's image in its parts, and what follows it
abbrev after_rights : Message → List ℕ → List ℕ
after_rights message rest =
    word (length message.rights) ++ (flat_map carried_encoding message.rights ++ (message.body ++ rest))

abbrev after_reply : Message → List ℕ → List ℕ
after_reply message rest =
    word message.id ++ (word (message_size message) ++ (number_of_bool message.complex ∷ after_rights message rest))

message_apart : (message : Message) (rest : List ℕ)
    → message_image message ++ rest
    ≡ number_of_kind message.destination ∷ (reply_right_encoding message.reply ++ after_reply message rest)
message_apart message rest = simp append_assoc

same_size : (m n : ℕ) → 24 + m ≡ 24 + n → m ≡ n
same_size m n e = omega (arith, e)

pub message_once : HasOneEncoding message_image EncodableMessage
message_once a b x y fits fits_too e =
    let whole = sym (message_apart a x) ∙ e ∙ message_apart b y in
    let flag_a = number_of_bool a.complex ∷ after_rights a x in
    let flag_b = number_of_bool b.complex ∷ after_rights b y in
    let destination =
    kind_once a.destination b.destination (reply_right_encoding a.reply ++ after_reply a x)
    (reply_right_encoding b.reply ++ after_reply b y) whole in
    let reply =
    reply_right_once a.reply b.reply (after_reply a x) (after_reply b y) fits.reply fits_too.reply destination.1 in
    let id =
    word_once a.id b.id (word (message_size a) ++ flag_a)
    (word (message_size b) ++ flag_b) fits.id fits_too.id reply.1 in
    let size = word_once (message_size a) (message_size b) flag_a flag_b fits.size fits_too.size id.1 in
    let complex = bool_once a.complex b.complex (after_rights a x) (after_rights b y) size.1 in
    let rights =
    counted_once carried_encoding EncodableRight carried_once a.rights b.rights (a.body ++ x)
    (b.body ++ y) fits.few_rights fits_too.few_rights fits.rights fits_too.rights complex.1 in
    let long = same_size (length a.body) (length b.body) size.0 in
    let body = same_front a.body b.body x y long rights.1 in (
      (λ i. record {
        destination = destination.0 i;
        reply = reply.0 i;
        id = id.0 i;
        complex = complex.0 i;
        rights = rights.0 i;
        body = body i;
      }),
      same_back a.body b.body x y long rights.1,
    )

-- a port's encoding in its parts, and what follows it
abbrev after_targets : PortState → List ℕ → List ℕ
after_targets port rest = word (length port.messages) ++ (flat_map message_image port.messages ++ rest)

abbrev after_set : PortState → List ℕ → List ℕ
after_set port rest =
    target_encoding port.no_senders_target ++ (target_encoding port.port_destroyed_target ++ after_targets port rest)

abbrev after_counts : PortState → List ℕ → List ℕ
after_counts port rest = set_encoding port.set ++ after_set port rest

port_apart : (port : PortState) (rest : List ℕ)
    → port_encoding port ++ rest ≡ word port.limit
    ++ (word port.sequence_number ++ (word port.make_send_count ++ after_counts port rest))
port_apart port rest = simp append_assoc

pub port_once : HasOneEncoding port_encoding EncodablePort
port_once a b x y fits fits_too e =
    let whole = sym (port_apart a x) ∙ e ∙ port_apart b y in
    let counts_a = word a.make_send_count ++ after_counts a x in
    let counts_b = word b.make_send_count ++ after_counts b y in
    let limit =
    word_once a.limit b.limit (word a.sequence_number ++ counts_a)
    (word b.sequence_number ++ counts_b) fits.limit fits_too.limit whole in
    let number =
    word_once a.sequence_number b.sequence_number counts_a counts_b fits.sequence_number fits_too.sequence_number
    limit.1 in
    let count =
    word_once a.make_send_count b.make_send_count (after_counts a x)
    (after_counts b y) fits.make_send_count fits_too.make_send_count number.1 in
    let set = set_once a.set b.set (after_set a x) (after_set b y) fits.set fits_too.set count.1 in
    let destroyed_a = target_encoding a.port_destroyed_target ++ after_targets a x in
    let destroyed_b = target_encoding b.port_destroyed_target ++ after_targets b y in
    let no_senders =
    target_once a.no_senders_target b.no_senders_target destroyed_a destroyed_b fits.no_senders_target
    fits_too.no_senders_target set.1 in
    let destroyed =
    target_once a.port_destroyed_target b.port_destroyed_target (after_targets a x)
    (after_targets b y) fits.port_destroyed_target fits_too.port_destroyed_target no_senders.1 in
    let messages =
    counted_once message_image EncodableMessage message_once a.messages b.messages x y fits.few_messages
    fits_too.few_messages fits.messages fits_too.messages destroyed.1 in
    let same : a ≡ b = λ i. record {
      limit = limit.0 i;
      sequence_number = number.0 i;
      make_send_count = count.0 i;
      set = set.0 i;
      messages = messages.0 i;
      no_senders_target = no_senders.0 i;
      port_destroyed_target = destroyed.0 i;
    } in
    (same, messages.1)

-- what a name stands for: first a byte, which distinguishes the kinds of entry
abbrev entry_tag : Entry → ℕ
entry_tag (Port rights) = 1
entry_tag (SendOnce port target) = 2
entry_tag Set = 3
entry_tag (Dead references) = 4

abbrev after_tag : Entry → List ℕ → List ℕ
after_tag (Port rights) rest =
    long_word rights.port ++ (number_of_bool rights.receive ∷
    (word rights.send ++ (target_encoding rights.dead_name_target ++ rest)))
after_tag (SendOnce port target) rest = long_word port ++ (target_encoding target ++ rest)
after_tag Set rest = rest
after_tag (Dead references) rest = word references ++ rest

entry_apart : (entry : Entry) (rest : List ℕ) → entry_encoding entry ++ rest ≡ entry_tag entry ∷ after_tag entry rest
entry_apart (Port rights) rest = simp append_assoc
entry_apart (SendOnce port target) rest = simp append_assoc
entry_apart Set rest = refl
entry_apart (Dead references) rest = refl

same_entry : (a b : Entry) (x y : List ℕ) → EncodableEntry a → EncodableEntry b → entry_tag a ≡ entry_tag b
    → after_tag a x ≡ after_tag b y → (a ≡ b) × (x ≡ y)
same_entry (Port a) (Port b) x y fits fits_too tag e =
    let sends_a = word a.send ++ (target_encoding a.dead_name_target ++ x) in
    let sends_b = word b.send ++ (target_encoding b.dead_name_target ++ y) in
    let port =
    long_word_once a.port b.port (number_of_bool a.receive ∷ sends_a)
    (number_of_bool b.receive ∷ sends_b) fits.0 fits_too.0 e in
    let receive = bool_once a.receive b.receive sends_a sends_b port.1 in
    let send =
    word_once a.send b.send (target_encoding a.dead_name_target ++ x)
    (target_encoding b.dead_name_target ++ y) fits.1 fits_too.1 receive.1 in
    let target = target_once a.dead_name_target b.dead_name_target x y fits.2 fits_too.2 send.1 in (
      (λ i. Port (record { port = port.0 i; receive = receive.0 i; send = send.0 i; dead_name_target = target.0 i })),
      target.1,
    )
same_entry (SendOnce a request) (SendOnce b request_too) x y fits fits_too tag e =
    let port =
    long_word_once a b (target_encoding request ++ x) (target_encoding request_too ++ y) fits.0 fits_too.0 e in
    let target = target_once request request_too x y fits.1 fits_too.1 port.1 in
    ((λ i. SendOnce (port.0 i) (target.0 i)), target.1)
same_entry Set Set x y fits fits_too tag e = (refl, e)
same_entry (Dead a) (Dead b) x y fits fits_too tag e =
    let references = word_once a b x y fits fits_too e in
    ((λ i. Dead (references.0 i)), references.1)
same_entry a b x y fits fits_too tag e = absurd (omega (arith, tag))

pub entry_once : HasOneEncoding entry_encoding EncodableEntry
entry_once a b x y fits fits_too e =
    let whole = sym (entry_apart a x) ∙ e ∙ entry_apart b y in
    let tags = same_head (entry_tag a) (entry_tag b) (after_tag a x) (after_tag b y) whole in
    same_entry a b x y fits fits_too tags (same_tail (entry_tag a) (entry_tag b) (after_tag a x) (after_tag b y) whole)

-- a name and what it stands for
abbrev named_encoding : ℕ × Entry → List ℕ
named_encoding e = word e.0 ++ entry_encoding e.1

pub named_once : HasOneEncoding named_encoding EncodableNamed
named_once a b x y fits fits_too e =
    let whole =
    sym (append_assoc (word a.0) (entry_encoding a.1) x) ∙ e ∙ append_assoc (word b.0) (entry_encoding b.1) y in
    let name = word_once a.0 b.0 (entry_encoding a.1 ++ x) (entry_encoding b.1 ++ y) fits.0 fits_too.0 whole in
    let entry = entry_once a.1 b.1 x y fits.1 fits_too.1 name.1 in
    ((λ i. (name.0 i, entry.0 i)), entry.1)

pub names_once : HasOneEncoding names_encoding EncodableNames
names_once a b x y fits fits_too e =
    let entries_a = flat_map named_encoding (finmap.entries a) in
    let entries_b = flat_map named_encoding (finmap.entries b) in
    let whole =
    sym (append_assoc (word (finmap.len a)) entries_a x) ∙ e ∙ append_assoc (word (finmap.len b)) entries_b y in
    map_once named_encoding EncodableNamed named_once a b x y fits.few fits_too.few fits.entries fits_too.entries whole

abbrev live_port_encoding : ℕ × PortState → List ℕ
live_port_encoding e = long_word e.0 ++ port_encoding e.1

pub live_port_once : HasOneEncoding live_port_encoding EncodableLivePort
live_port_once a b x y fits fits_too e =
    let whole =
    sym (append_assoc (long_word a.0) (port_encoding a.1) x) ∙ e
    ∙ append_assoc (long_word b.0) (port_encoding b.1) y in
    let serial = long_word_once a.0 b.0 (port_encoding a.1 ++ x) (port_encoding b.1 ++ y) fits.0 fits_too.0 whole in
    let port = port_once a.1 b.1 x y fits.1 fits_too.1 serial.1 in
    ((λ i. (serial.0 i, port.0 i)), port.1)

-- What a space keeps, or that it keeps nothing.
abbrev EncodableKeptOrNone : Option NumberedReply → Type 0
EncodableKeptOrNone None = Unit {0}
EncodableKeptOrNone (Some kept) = EncodableKept kept

-- a reply that is kept is read back by its frame
kept_reply_once : HasOneEncoding (λ (kept : NumberedReply). frame_encoding (numbered_encoding kept)) EncodableKept
kept_reply_once a b x y fits fits_too e =
    let frames = frame_once (numbered_encoding a) (numbered_encoding b) x y fits.short fits_too.short e in
    let after_a : List ℕ = word a.request ++ reply_encoding a.reply in
    let after_b : List ℕ = word b.request ++ reply_encoding b.reply in
    let numbers =
    word_once NUMBERED NUMBERED (word 0 ++ after_a) (word 0 ++ after_b) (omega arith) (omega arith) frames.0 in
    let codes = word_once 0 0 after_a after_b (omega arith) (omega arith) numbers.1 in
    let requests =
    word_once a.request b.request (reply_encoding a.reply) (reply_encoding b.reply) fits.request.1 fits_too.request.1
    codes.1 in
    let replies =
    reply_encoding_once fits.call fits_too.call a.reply b.reply fits.fits fits_too.fits fits.recorded fits_too.recorded
    requests.1 in
    ((λ i. record { request = requests.0 i; reply = replies i }), frames.1)

-- the request that stands first
request_of : Option NumberedReply → ℕ
request_of None = 0
request_of (Some kept) = kept.request

-- and what follows it
after_request : Option NumberedReply → List ℕ → List ℕ
after_request None rest = rest
after_request (Some kept) rest = frame_encoding (numbered_encoding kept) ++ rest

kept_apart : (kept : Option NumberedReply) (rest : List ℕ)
    → kept_encoding Two kept ++ rest ≡ word (request_of kept) ++ after_request kept rest
unfolding request_of after_request
kept_apart None rest = refl
kept_apart (Some kept) rest =
    append_assoc (word kept.request) (frame_encoding (numbered_encoding kept)) rest

request_fits : (kept : Option NumberedReply) → EncodableKeptOrNone kept → request_of kept < 2 ^ 32
unfolding request_of
request_fits None fits = omega arith
request_fits (Some kept) fits = fits.request.1

kept_same : (a b : Option NumberedReply) (x y : List ℕ) → EncodableKeptOrNone a → EncodableKeptOrNone b
    → request_of a ≡ request_of b → after_request a x ≡ after_request b y → (a ≡ b) × (x ≡ y)
unfolding request_of after_request
kept_same None None x y fits fits_too requests e = (refl, e)
kept_same None (Some b) x y fits fits_too requests e = absurd (omega (arith, fits_too.request.0, requests))
kept_same (Some a) None x y fits fits_too requests e = absurd (omega (arith, fits.request.0, requests))
kept_same (Some a) (Some b) x y fits fits_too requests e =
    let replies = kept_reply_once a b x y fits fits_too e in
    (ap (λ (kept : NumberedReply). Some kept) replies.0, replies.1)

kept_once : HasOneEncoding (kept_encoding Two) EncodableKeptOrNone
kept_once a b x y fits fits_too e =
    let whole = sym (kept_apart a x) ∙ e ∙ kept_apart b y in
    let requests =
    word_once (request_of a) (request_of b) (after_request a x) (after_request b y) (request_fits a fits)
    (request_fits b fits_too) whole in
    kept_same a b x y fits fits_too requests.0 requests.1

-- A space as it is encoded: its number, what it keeps, and its names.
abbrev Row : Type 0
Row = ℕ × (Option NumberedReply × Names)

abbrev row_encoding : StoreVersion → Row → List ℕ
row_encoding version row = word row.0 ++ (kept_encoding version row.1.0 ++ names_encoding row.1.1)

abbrev EncodableRow : Row → Type 0
EncodableRow row = (row.0 < 2 ^ 32) × EncodableKeptOrNone row.1.0 × EncodableNames row.1.1

row_apart : (version : StoreVersion) (row : Row) (rest : List ℕ)
    → row_encoding version row ++ rest ≡ word row.0 ++ (kept_encoding version row.1.0 ++ (names_encoding row.1.1 ++ rest))
row_apart version row rest = simp append_assoc

-- in version 1 nothing is kept
abbrev MayKeep : StoreVersion → Option NumberedReply → Type 0
MayKeep One kept = kept ≡ None
MayKeep Two kept = Unit {0}

kept_of : (version : StoreVersion) (a b : Option NumberedReply) (x y : List ℕ) → MayKeep version a → MayKeep version b
    → EncodableKeptOrNone a → EncodableKeptOrNone b → kept_encoding version a ++ x ≡ kept_encoding version b ++ y
    → (a ≡ b) × (x ≡ y)
kept_of One a b x y may may_too fits fits_too e = (may ∙ sym may_too, e)
kept_of Two a b x y may may_too fits fits_too e = kept_once a b x y fits fits_too e

abbrev FitsRow : StoreVersion → Row → Type 0
FitsRow version row = MayKeep version row.1.0 × EncodableRow row

row_once : (version : StoreVersion) → HasOneEncoding (row_encoding version) (FitsRow version)
row_once version a b x y (may, fits) (may_too, fits_too) e =
    let whole = sym (row_apart version a x) ∙ e ∙ row_apart version b y in
    let spaces =
    word_once a.0 b.0 (kept_encoding version a.1.0 ++ (names_encoding a.1.1 ++ x))
    (kept_encoding version b.1.0 ++ (names_encoding b.1.1 ++ y)) fits.0 fits_too.0 whole in
    let kept =
    kept_of version a.1.0 b.1.0 (names_encoding a.1.1 ++ x) (names_encoding b.1.1 ++ y) may may_too fits.1 fits_too.1
    spaces.1 in
    let names = names_once a.1.1 b.1.1 x y fits.2 fits_too.2 kept.1 in
    ((λ i. (spaces.0 i, (kept.0 i, names.0 i))), names.1)

-- the spaces of a state as they are encoded
abbrev row_of : KeptReplies → ℕ × Names → Row
row_of kept e = (e.0, (finmap.get kept e.0, e.1))

abbrev rows_of : State → List Row
rows_of state = map (row_of state.kept) (finmap.entries state.ipc.spaces)

rows_encoding : (version : StoreVersion) (kept : KeptReplies) (es : List (ℕ × Names))
    → flat_map (space_encoding version kept) es ≡ flat_map (row_encoding version) (map (row_of kept) es)
rows_encoding version kept [] = refl
rows_encoding version kept (e ∷ es) =
    ap (λ (l : List ℕ). row_encoding version (row_of kept e) ++ l) (rows_encoding version kept es)

-- equal rows are of equal names
names_of_row : Row → ℕ × Names
names_of_row row = (row.0, row.1.1)

names_back : (kept : KeptReplies) (es : List (ℕ × Names)) → map names_of_row (map (row_of kept) es) ≡ es
unfolding names_of_row
names_back kept [] = refl
names_back kept (e ∷ es) = ap (λ (l : List (ℕ × Names)). e ∷ l) (names_back kept es)

-- and of equal replies
KeepAlike : KeptReplies → KeptReplies → List (ℕ × Names) → Type 0
KeepAlike one other [] = Unit {0}
KeepAlike one other (e ∷ es) = (finmap.get one e.0 ≡ finmap.get other e.0) × KeepAlike one other es

head_kept : (a b : Row) (more more_too : List Row) → a ∷ more ≡ b ∷ more_too → a.1.0 ≡ b.1.0
head_kept a b more more_too same = ap (λ (l : List Row). elim l as (λ _. Option NumberedReply) [ [] ↦ None | r ∷ rest ↦ r.1.0 ]) same

tail_rows : (a b : Row) (more more_too : List Row) → a ∷ more ≡ b ∷ more_too → more ≡ more_too
tail_rows a b more more_too same = ap (λ (l : List Row). elim l as (λ _. List Row) [ [] ↦ [] | r ∷ rest ↦ rest ]) same

rows_alike : (one other : KeptReplies) (es : List (ℕ × Names))
    → map (row_of one) es ≡ map (row_of other) es → KeepAlike one other es
unfolding KeepAlike
rows_alike one other [] same = tt
rows_alike one other (e ∷ es) same = (
  head_kept (row_of one e) (row_of other e) (map (row_of one) es) (map (row_of other) es) same,
  rows_alike one other es
      (tail_rows (row_of one e) (row_of other e) (map (row_of one) es) (map (row_of other) es) same),
)

alike_at : (one other : KeptReplies) (es : List (ℕ × Names)) (space : ℕ) → KeepAlike one other es
    → is_some (find nat_cmp space es) ≡ true → finmap.get one space ≡ finmap.get other space
unfolding KeepAlike
alike_at one other [] space alike there = absurd (cc there)
alike_at one other (e ∷ es) space alike there =
    elim (eq_by_cmp nat_cmp space e.0)
    as (λ (b : Bool). eq_by_cmp nat_cmp space e.0 ≡ b → is_some (cond b (Some e.1) (find nat_cmp space es)) ≡ true
    → finmap.get one space ≡ finmap.get other space) [
      | true ↦ λ (is : _) (_ : _). ap (finmap.get one) (key_is space e.0 is) ∙ alike.0
          ∙ ap (finmap.get other) (sym (key_is space e.0 is))
      | false ↦ λ (_ : _) (there : _). alike_at one other es space alike.1 there
    ] refl there

-- where nothing is there, nothing is kept
keeps_none : (state : State) (space : ℕ) → Encodable state → is_some (finmap.get state.ipc.spaces space) ≡ false
    → finmap.get state.kept space ≡ None
keeps_none state space fits gone = by (finmap.get state.kept space) refl
  where
    by : (o : Option NumberedReply) → finmap.get state.kept space ≡ o → finmap.get state.kept space ≡ None
    by None is = is
    by (Some kept) is = absurd (cc ((fits.kept space kept is).0, gone))

same_kept : (a b : State) → Encodable a → Encodable b → a.ipc.spaces ≡ b.ipc.spaces
    → KeepAlike a.kept b.kept (finmap.entries a.ipc.spaces) → a.kept ≡ b.kept
same_kept a b fits fits_too spaces alike = same_map nat_cmp_total nat_cmp-IsAntisymmetric _ _ at
  where
    at : (space : ℕ) → finmap.get a.kept space ≡ finmap.get b.kept space
    at space = by (is_some (finmap.get a.ipc.spaces space)) refl
      where
        by : (there : Bool) → is_some (finmap.get a.ipc.spaces space) ≡ there
            → finmap.get a.kept space ≡ finmap.get b.kept space
        by true there =
            alike_at a.kept b.kept (finmap.entries a.ipc.spaces) space alike
            (ap is_some (sym (get-entries a.ipc.spaces space)) ∙ there)
        by false gone =
            keeps_none a space fits gone
            ∙ sym (keeps_none b space fits_too
            (ap (λ (m : FinMap nat_cmp Names). is_some (finmap.get m space)) (sym spaces) ∙ gone))

-- each row of a state fits
rows_fit : (version : StoreVersion) (state : State) (es : List (ℕ × Names)) → Encodable state
    → KeepsWhatItMay version state → All EncodableSpace es → All (FitsRow version) (map (row_of state.kept) es)
rows_fit version state [] fits keeps all = All-nil (FitsRow version)
rows_fit version state (e ∷ es) fits keeps all =
    All-cons (FitsRow version) (row_of state.kept e) (map (row_of state.kept) es) (
      may_keep version state e.0 keeps,
      (
        (all_head EncodableSpace e es all).0,
        or_none (finmap.get state.kept e.0) refl,
        (all_head EncodableSpace e es all).1,
      ),
    )
    (rows_fit version state es fits keeps (all_tail EncodableSpace e es all))
  where
    or_none : (o : Option NumberedReply) → finmap.get state.kept e.0 ≡ o → EncodableKeptOrNone o
    or_none None is = tt
    or_none (Some kept) is = (fits.kept e.0 kept is).1

    may_keep : (version : StoreVersion) (state : State) (space : ℕ) → KeepsWhatItMay version state
        → MayKeep version (finmap.get state.kept space)
    may_keep One state space keeps =
        ap (λ (m : KeptReplies). finmap.get m space) keeps ∙ get-empty nat_cmp space
    may_keep Two state space keeps = tt

length-rows : (kept : KeptReplies) (es : List (ℕ × Names)) → length (map (row_of kept) es) ≡ length es
length-rows kept [] = refl
length-rows kept (e ∷ es) = omega (arith, length-rows kept es)

-- a state's encoding in its parts, and what follows it
abbrev after_spaces : State → List ℕ → List ℕ
after_spaces state rest =
    word (finmap.len state.ipc.ports) ++ (flat_map live_port_encoding (finmap.entries state.ipc.ports) ++ rest)

abbrev after_next : StoreVersion → State → List ℕ → List ℕ
after_next version state rest =
    word (finmap.len state.ipc.spaces)
    ++ (flat_map (space_encoding version state.kept) (finmap.entries state.ipc.spaces) ++ after_spaces state rest)

image_apart : (version : StoreVersion) (state : State) (rest : List ℕ)
    → image_encoding_of version state ++ rest ≡ long_word state.ipc.next ++ after_next version state rest
unfolding image_encoding_of
image_apart version state rest = simp append_assoc

-- the spaces, as rows
spaces_once : (version : StoreVersion) (a b : State) (x y : List ℕ) → Encodable a → Encodable b
    → KeepsWhatItMay version a → KeepsWhatItMay version b
    → flat_map (space_encoding version a.kept) (finmap.entries a.ipc.spaces) ++ x
    ≡ flat_map (space_encoding version b.kept) (finmap.entries b.ipc.spaces) ++ y
    → finmap.len a.ipc.spaces ≡ finmap.len b.ipc.spaces
    → (a.ipc.spaces ≡ b.ipc.spaces) × (a.kept ≡ b.kept) × (x ≡ y)
spaces_once version a b x y fits fits_too keeps keeps_too e counts =
    let es : List (ℕ × Names) = finmap.entries a.ipc.spaces in
    let es_too : List (ℕ × Names) = finmap.entries b.ipc.spaces in
    let rows =
    list_once (row_encoding version) (FitsRow version) (row_once version) (rows_of a) (rows_of b) x y
    (rows_fit version a es fits keeps fits.ipc.spaces) (rows_fit version b es_too fits_too keeps_too fits_too.ipc.spaces)
    (length-rows a.kept es ∙ sym (len-entries a.ipc.spaces) ∙ counts ∙ len-entries b.ipc.spaces
    ∙ sym (length-rows b.kept es_too))
    (ap (λ (l : List ℕ). l ++ x) (sym (rows_encoding version a.kept es)) ∙ e
    ∙ ap (λ (l : List ℕ). l ++ y) (rows_encoding version b.kept es_too)) in
    let entries : es ≡ es_too =
    sym (names_back a.kept es) ∙ ap (map names_of_row) rows.0 ∙ names_back b.kept es_too in
    let spaces = same_entries_map a.ipc.spaces b.ipc.spaces entries in
    let alike =
    rows_alike a.kept b.kept es (rows.0 ∙ ap (map (row_of b.kept)) (sym entries)) in
    (spaces, same_kept a b fits fits_too spaces alike, rows.1)

-- Equal bytes that begin with the image of a state begin with the image of only that state, followed by the same bytes.
abbrev pub ImagesHaveOneEncoding : Type 0
ImagesHaveOneEncoding =
    (version : StoreVersion) (a b : State) (x y : List ℕ) → Encodable a → Encodable b → KeepsWhatItMay version a
    → KeepsWhatItMay version b → image_encoding_of version a ++ x ≡ image_encoding_of version b ++ y → (a ≡ b) × (x ≡ y)

pub image_once : ImagesHaveOneEncoding
image_once version a b x y fits fits_too keeps keeps_too e =
    let whole = sym (image_apart version a x) ∙ e ∙ image_apart version b y in
    let next =
    long_word_once a.ipc.next b.ipc.next (after_next version a x) (after_next version b y) fits.ipc.next
    fits_too.ipc.next whole in
    let counts =
    word_once (finmap.len a.ipc.spaces) (finmap.len b.ipc.spaces)
    (flat_map (space_encoding version a.kept) (finmap.entries a.ipc.spaces) ++ after_spaces a x)
    (flat_map (space_encoding version b.kept) (finmap.entries b.ipc.spaces) ++ after_spaces b y) fits.ipc.few_spaces
    fits_too.ipc.few_spaces next.1 in
    let spaces =
    spaces_once version a b (after_spaces a x) (after_spaces b y) fits fits_too keeps keeps_too counts.1 counts.0 in
    let ports =
    map_once live_port_encoding EncodableLivePort live_port_once a.ipc.ports b.ipc.ports x y fits.ipc.few_ports
    fits_too.ipc.few_ports fits.ipc.ports fits_too.ipc.ports spaces.2 in (
      (λ i. record {
        ipc = record { spaces = spaces.0 i; ports = ports.0 i; next = next.0 i };
        kept = spaces.1 i;
      }),
      ports.1,
    )
