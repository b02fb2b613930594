-- A message that is ready to be queued is lawful, and its rights are in the call's hand.
use Rattle.std.specs.Prelude.{◌≡◌, ◌≢◌, ℕ, suc, ◌+◌, ◌-◌, ◌*◌, ◌%◌, ◌/◌, ◌^◌, ◌≤◌, Bool, true, false, not, ◌||◌, ◌==◌, nat_lt, Contains, List, [], ◌∷◌, ◌++◌, length, drop, map, flat_map, Option, None, Some, Result, Ok, Err, IfOk, MatchBool, if◌then◌else◌, refl}
use Rattle.std.proofs.Common.{sym, ◌∙◌, ap, arith, length-append, length-drop}
use Rattle.std.proofs.lemmas.Bool.{ltb-false, eqb-true}
use Rattle.std.proofs.lemmas.List.{length-map, length-replicate, nil_from_length}
use Rattle.std.specs.List.{list_any}
use Rattle.std.specs.FinMap as finmap
use Rattle.words.specs.Numbers.{little_bytes, little_from-lt}
use Rattle.codes.specs.declared.kern_return.KernReturn.{KernReturn}
use Rattle.codes.specs.declared.kern_return.KernReturn.TheVariants.{SendInvalidDest, SendInvalidRight, SendInvalidHeader, SendMsgTooSmall, SendNoBuffer}
use Rattle.codes.specs.declared.limits.TheConstants.{MAX_MESSAGE_SIZE, MAX_MESSAGE_PORTS}
use Rattle.ipc_model.specs.declared.message.CarriedRight.{CarriedRight}
use Rattle.ipc_model.specs.declared.message.RightKind.{RightKind}
use Rattle.ipc_model.specs.declared.message.RightKind.TheVariants as kind
use Rattle.ipc_laws.specs.CallsKeep.{first_passes}
use Rattle.ipc_model.specs.rights.Dispositions.{Disposition, disposition_of, received_kind}
use Rattle.ipc_laws.specs.EffectParts.{word_more, byte_more}
use Rattle.ipc_laws.specs.Hands.{Hand, MidCall, empty_hand, mid_hand}
use Rattle.ipc_model.specs.messages.Items.{Item, items_of, items_encoding, item_encoding, descriptor_encoding, names_of_item, words_of, is_port_item, as_stored, IsItem, AreItems}
use Rattle.ipc_laws.specs.ItemLaws.{items_read, items_back, back_bytes}
use Rattle.ipc_model.specs.state.Lawful.{LawfulMessage, HoldsPorts, kinds_of_item}
use Rattle.ipc_model.specs.messages.Messages.{used_parts, bits_of, remote_of, local_of, body_of, remote_disposition, local_disposition, is_complex, header_length}
use Rattle.ipc_laws.specs.PortItems.{is_kept, stored_fit, stored_long, all_stored, kinds_of_type, stored_kinds, no_kinds}
use Rattle.ipc_model.specs.messages.Sending as sending
use Rattle.ipc_model.specs.messages.Sending.{TakenRights, TakenHeader, Ready, ready_to_send, ready_message, take_items, take_header}
use Rattle.ipc_laws.specs.SendKeep.{MidRights, MidHeader, kinds, rights_hand, names_long, items_mid, header_mid, header_sends, reply_sends, RepliesBy}
use Rattle.ipc_model.specs.state.Ipc.{Ipc, Names, is_null_or_dead}
use Rattle.ipc_laws.specs.Takes.{Quiet, quiet_none, quiet_both}
use Rattle.ipc_model.specs.calls.Tests.{Tests, first_failing, or_refused, unless_failing}
use Rattle.ipc_laws.specs.UntouchedMessages.{and_then_if, unless_if, or_if}
use Rattle.ipc_laws.specs.Weights.{reply_weigh, message_weigh}
use Rattle.words.specs.Words.{AreBytes, word}

-- bytes that are joined

both_bytes : (xs ys : List ℕ) → AreBytes xs → AreBytes ys → AreBytes (xs ++ ys)
both_bytes [] ys first second = second
both_bytes (x ∷ xs) ys first second = byte_more x (xs ++ ys) (first 0) (both_bytes xs ys (λ k. first (suc k)) second)

two_more : (n : ℕ) (bytes : List ℕ) → AreBytes bytes → AreBytes (little_bytes 2 n ++ bytes)
two_more n bytes rest =
    byte_more (n % 256) (n / 256 % 256 ∷ bytes) (omega arith) (byte_more (n / 256 % 256) bytes (omega arith) rest)

item_bytes : (item : Item) → IsItem item → AreBytes (item_encoding item)
item_bytes item fits = elim item.is_long as (λ (b : Bool). AreBytes (descriptor_encoding item b ++ item.content)) [
  | true ↦ word_more (2 ^ 28 + 2 ^ 29)
      (little_bytes 2 item.type_name ++ (little_bytes 2 item.bits ++ (word item.number ++ item.content)))
      (two_more item.type_name (little_bytes 2 item.bits ++ (word item.number ++ item.content))
      (two_more item.bits (word item.number ++ item.content) (word_more item.number item.content fits.bytes)))
  | false ↦ word_more (item.type_name + item.bits * 2 ^ 8 + item.number * 2 ^ 16 + 2 ^ 28) item.content fits.bytes
]

no_bytes : AreBytes []
no_bytes i = omega arith

items_bytes : (items : List Item) → AreItems items → AreBytes (items_encoding items)
items_bytes [] fits = no_bytes
items_bytes (item ∷ items) fits =
    both_bytes (item_encoding item) (items_encoding items) (item_bytes item fits.0) (items_bytes items fits.1)

-- what is known of the items of a body: they were read from it, or the body isn't looked at
pub record BodyItems (bytes : List ℕ) (items : List Item) : Type 0 where
  pub fit : AreItems items
  pub complex : is_complex (bits_of bytes) ≡ true → length (items_encoding items) ≡ length (body_of bytes)
  pub plain : is_complex (bits_of bytes) ≡ false → items ≡ []

body_items : (bytes : List ℕ) → AreBytes bytes
    → IfOk (sending.items_if_complex (is_complex (bits_of bytes)) (body_of bytes)) (BodyItems bytes)
body_items bytes fits =
    elim (is_complex (bits_of bytes))
    as (λ (b : Bool). is_complex (bits_of bytes) ≡ b
    → IfOk (if b then items_of (body_of bytes) else Ok []) (BodyItems bytes)) [
      | true ↦ λ (looked : _). elim (items_of (body_of bytes))
          as (λ (r : Result (List Item) KernReturn). items_of (body_of bytes) ≡ r → IfOk r (BodyItems bytes)) [
            | Ok items ↦ λ (is : _).
                let read = items_read (body_of bytes) items (back_bytes header_length bytes fits) is in
                record {
                  fit = read.fit;
                  complex = λ (_ : _). read.long;
                  plain = λ (plain : _). absurd (cc (sym looked ∙ plain));
                }
            | Err code ↦ λ (_ : _). tt
          ] refl
      | false ↦ λ (plain : _). record {
        fit = tt;
        complex = λ (looked : _). absurd (cc (sym plain ∙ looked));
        plain = λ (_ : _). refl;
      }
    ] refl

-- the body as it is kept

abbrev kept_body : List ℕ → List Item → List ℕ
kept_body bytes items = if is_complex (bits_of bytes) then items_encoding (map as_stored items) else body_of bytes

body_long : (bytes : List ℕ) (items : List Item) → BodyItems bytes items
    → length (kept_body bytes items) ≡ length (body_of bytes)
body_long bytes items body =
    elim (is_complex (bits_of bytes))
    as (λ (b : Bool). is_complex (bits_of bytes) ≡ b
    → length (if b then items_encoding (map as_stored items) else body_of bytes) ≡ length (body_of bytes)) [
      | true ↦ λ (looked : _). stored_long items body.fit ∙ body.complex looked
      | false ↦ λ (_ : _). refl
    ] refl

body_bytes : (bytes : List ℕ) (items : List Item) → AreBytes bytes → BodyItems bytes items
    → AreBytes (kept_body bytes items)
body_bytes bytes items fits body =
    elim (is_complex (bits_of bytes))
    as (λ (b : Bool). AreBytes (if b then items_encoding (map as_stored items) else body_of bytes)) [
      | true ↦ items_bytes (map as_stored items) (stored_fit items body.fit)
      | false ↦ back_bytes header_length bytes fits
    ]

-- port items and their rights

record HasPort (items : List Item) : Type 0 where
  item : Item
  among : Contains items item
  port : is_port_item item ≡ true

later_port : (item : Item) (items : List Item) → HasPort items → HasPort (item ∷ items)
later_port item items has =
    record { item = has.item; among = (suc has.among.0, omega (arith, has.among.1), has.among.2); port = has.port }

stored_has_port : (items : List Item) → AreItems items → list_any is_port_item items ≡ true
    → HasPort (map as_stored items)
stored_has_port [] fits any = absurd (cc any)
stored_has_port (item ∷ items) fits any =
    elim (is_port_item item) as (λ (b : Bool). is_port_item item ≡ b → (b || list_any is_port_item items) ≡ true
    → HasPort (map as_stored (item ∷ items))) [
      | true ↦ λ (port : _) (_ : _).
          record { item = as_stored item; among = (0, omega arith, refl); port = (is_kept item fits.0).port ∙ port }
      | false ↦ λ (_ : _) (later : _). later_port (as_stored item) (map as_stored items)
          (stored_has_port items fits.1 later)
    ] refl any

data_kinds : (item : Item) → is_port_item item ≡ false → kinds_of_item (as_stored item) ≡ []
data_kinds item data_item =
    elim (disposition_of item.type_name)
    as (λ (o : Option Disposition). disposition_of item.type_name ≡ o → kinds_of_item (as_stored item) ≡ []) [
      | None ↦ λ (none : _). no_kinds item none
      | Some by ↦ λ (known : _). absurd (cc (sym data_item ∙ ((kinds_of_type item.type_name).some by known).0))
    ] refl

no_port_kinds : (items : List Item) → list_any is_port_item items ≡ false
    → flat_map kinds_of_item (map as_stored items) ≡ []
no_port_kinds [] none = refl
no_port_kinds (item ∷ items) none =
    elim (is_port_item item) as (λ (b : Bool). is_port_item item ≡ b → (b || list_any is_port_item items) ≡ false
    → kinds_of_item (as_stored item) ++ flat_map kinds_of_item (map as_stored items) ≡ []) [
      | true ↦ λ (_ : _) (e : _). absurd (cc e)
      | false ↦ λ (data_item : _) (later : _). ap
          (λ (l : List RightKind). l ++ flat_map kinds_of_item (map as_stored items)) (data_kinds item data_item)
          ∙ no_port_kinds items later
    ] refl none

-- as many kinds as names
as_many : (item : Item) → length (kinds_of_item (as_stored item)) ≡ length (names_of_item item)
as_many item =
    elim (disposition_of item.type_name)
    as (λ (o : Option Disposition). disposition_of item.type_name ≡ o
    → length (kinds_of_item (as_stored item)) ≡ length (names_of_item item)) [
      | None ↦ λ (none : _). ap length (no_kinds item none)
          ∙ sym (ap (λ (b : Bool). length (if b then words_of item.number item.content else []))
          ((kinds_of_type item.type_name).none none))
      | Some by ↦ λ (known : _). ap length (stored_kinds item by known)
          ∙ length-replicate item.number (received_kind by)
          ∙ sym (names_long item ((kinds_of_type item.type_name).some by known).0)
    ] refl

all_as_many : (items : List Item)
    → length (flat_map kinds_of_item (map as_stored items)) ≡ length (flat_map names_of_item items)
all_as_many [] = refl
all_as_many (item ∷ items) =
    length-append (kinds_of_item (as_stored item)) (flat_map kinds_of_item (map as_stored items))
    ∙ omega (
      arith,
      as_many item,
      all_as_many items,
      length-append (names_of_item item) (flat_map names_of_item items),
    )

-- A message is ready.

pub record MidReady (ready : Ready) : Type 0 where
  pub mid : MidCall ready.state (λ w. message_weigh w ready.port ready.message)
  pub quiet : Quiet ready.notices
  pub lawful : LawfulMessage ready.message

-- what is known of its bytes
pub record SizeFits (bytes : List ℕ) : Type 0 where
  pub whole : header_length ≤ length bytes
  pub words : length bytes % 4 ≡ 0
  pub small : length bytes ≤ MAX_MESSAGE_SIZE

either_false : (a b : Bool) → (a || b) ≡ false → (a ≡ false) × (b ≡ false)
either_false true b e = absurd (cc e)
either_false false b e = (refl, e)

not_false : (b : Bool) → not b ≡ false → b ≡ true
not_false true e = refl
not_false false e = absurd (cc e)

pub size_fits : (bytes : List ℕ) → first_failing (sending.tests_of_size (length bytes)) ≡ None → SizeFits bytes
size_fits bytes passes =
    let last : Tests = (nat_lt MAX_MESSAGE_SIZE (length bytes), SendNoBuffer) ∷ [] in
    let first =
    first_passes (nat_lt (length bytes) header_length || not (length bytes % 4 == 0), SendMsgTooSmall) last passes
    in
    let both = either_false (nat_lt (length bytes) header_length) (not (length bytes % 4 == 0)) first.0 in
    let second = first_passes (nat_lt MAX_MESSAGE_SIZE (length bytes), SendNoBuffer) [] first.1 in
    record {
      whole = ltb-false (length bytes) header_length both.0;
      words = eqb-true (length bytes % 4) 0 (not_false (length bytes % 4 == 0) both.1);
      small = ltb-false MAX_MESSAGE_SIZE (length bytes) second.0;
    }

-- a test that has passed is known later
pub pass_if : {X : Type 0} (P : X → Type 0) (tests : Tests) (r : Result X KernReturn)
    → (first_failing tests ≡ None → IfOk r P) → IfOk (unless_failing tests r) P
pass_if P [] r here = here refl
pass_if {X} P (test ∷ tests) r here =
    elim test.0 as (λ (b : Bool). ((if b then Some test.1 else first_failing tests) ≡ None → IfOk r P)
    → IfOk (if b then Err test.1 else unless_failing tests r) P) [
      | true ↦ λ (_ : _). tt
      | false ↦ λ (h : _). pass_if P tests r h
    ] here

-- a body with ports was read
looked_at : (bytes : List ℕ) (items : List Item) → BodyItems bytes items → list_any is_port_item items ≡ true
    → kept_body bytes items ≡ items_encoding (map as_stored items)
looked_at bytes items body any =
    elim (is_complex (bits_of bytes))
    as (λ (b : Bool). is_complex (bits_of bytes) ≡ b
    → (if b then items_encoding (map as_stored items) else body_of bytes)
    ≡ items_encoding (map as_stored items)) [
      | true ↦ λ (_ : _). refl
      | false ↦ λ (plain : _). absurd (cc (sym any ∙ ap (list_any is_port_item) (body.plain plain)))
    ] refl

ports_of_body : (bytes : List ℕ) (items : List Item) (rights : List CarriedRight) → BodyItems bytes items
    → kinds rights ≡ flat_map kinds_of_item (map as_stored items) → sending.ports_in items ≤ MAX_MESSAGE_PORTS
    → MatchBool (list_any is_port_item items) (HoldsPorts (kept_body bytes items) rights) (rights ≡ [])
ports_of_body bytes items rights body reported few =
    elim (list_any is_port_item items)
    as (λ (b : Bool). list_any is_port_item items ≡ b
    → MatchBool b (HoldsPorts (kept_body bytes items) rights) (rights ≡ [])) [
      | true ↦ λ (any : _).
          let has = stored_has_port items body.fit any in
          let encoding : kept_body bytes items ≡ items_encoding (map as_stored items) =
          looked_at bytes items body any in
          record {
            items = map as_stored items;
            tiled = ap items_of encoding ∙ items_back (map as_stored items) (stored_fit items body.fit);
            has_port = (has.item, has.among, has.port);
            stored = all_stored items body.fit;
            kinds = reported;
            few =
                omega (
                  arith,
                  few,
                  all_as_many items,
                  ap length reported,
                  length-map rights
                      (λ (r : CarriedRight). r.kind),
                );
          }
      | false ↦ λ (none : _). nil_from_length rights
          (omega (
            arith,
            length-map rights (λ (r : CarriedRight). r.kind),
            ap length reported,
            ap length (no_port_kinds items none),
          ))
    ] refl

ready_lawful : (bytes : List ℕ) (items : List Item) (header : TakenHeader) (taken : TakenRights) (space : ℕ)
    (hand : Hand) → AreBytes bytes → SizeFits bytes → BodyItems bytes items → sending.ports_in items ≤ MAX_MESSAGE_PORTS
    → MidHeader space header
    → MidRights space hand ([] ++ flat_map kinds_of_item (map as_stored items)) taken
    → LawfulMessage (ready_message (used_parts bytes) items header taken).message
ready_lawful bytes items header taken space hand fits size body few head rights =
    let long : length (kept_body bytes items) ≡ length (body_of bytes) = body_long bytes items body in
    let left : length (body_of bytes) ≡ length bytes - header_length = length-drop header_length bytes in
    let whole : header_length + length (kept_body bytes items) ≡ length bytes = omega (arith, long, left, size.whole) in
    record {
      destination = head.sends;
      reply = head.replies;
      id = little_from-lt 0 4 (drop 20 bytes) (back_bytes 20 bytes fits);
      whole_words = ap (λ (n : ℕ). n % 4) whole ∙ size.words;
      small = omega (arith, whole, size.small);
      bytes = body_bytes bytes items fits body;
      ports = ports_of_body bytes items taken.rights body rights.kinds few;
    }

abbrev header_hand : TakenHeader → Hand
header_hand header w = w header.kind header.port + reply_weigh w header.reply

ready_of_taken : (bytes : List ℕ) (items : List Item) (header : TakenHeader) (taken : TakenRights) (space : ℕ)
    → AreBytes bytes → SizeFits bytes → BodyItems bytes items → sending.ports_in items ≤ MAX_MESSAGE_PORTS
    → MidHeader space header
    → MidRights space (header_hand header) ([] ++ flat_map kinds_of_item (map as_stored items)) taken
    → MidReady (ready_message (used_parts bytes) items header taken)
ready_of_taken bytes items header taken space fits size body few head rights = record {
  mid =
      mid_hand taken.state (rights_hand (header_hand header) taken.rights)
      (λ w. message_weigh w header.port (ready_message (used_parts bytes) items header taken).message) rights.mid
      (λ (q : ℕ). omega arith) (λ (q : ℕ) (dead : _). omega arith);
  quiet = quiet_both header.notices taken.notices head.quiet rights.quiet;
  lawful = ready_lawful bytes items header taken space (header_hand header) fits size body few head rights;
}

start_rights : (space : ℕ) (header : TakenHeader) → MidHeader space header
    → MidRights space (header_hand header) [] (record { rights = []; state = header.state; notices = [] })
start_rights space header head = record {
  mid =
      mid_hand header.state (header_hand header) (rights_hand (header_hand header) []) head.mid (λ (q : ℕ). omega arith)
      (λ (q : ℕ) (dead : _). omega arith);
  quiet = quiet_none;
  names = head.names;
  there = head.there;
  kinds = refl;
}

of_items_mid : (old : Ipc) (space : ℕ) (names : Names) (bytes : List ℕ) (destination : Disposition)
    (reply : Option Disposition) (items : List Item) → MidCall old empty_hand → finmap.get old.spaces space ≡ Some names
    → AreBytes bytes → SizeFits bytes
    → received_kind destination ≢ kind.Receive → RepliesBy reply → BodyItems bytes items
    → IfOk (sending.ready_of_items old space (used_parts bytes) destination reply items) MidReady
of_items_mid old space names bytes destination reply items mid there fits size sends by body =
    pass_if MidReady ((nat_lt MAX_MESSAGE_PORTS (sending.ports_in items), SendNoBuffer) ∷
    (is_null_or_dead (remote_of bytes), SendInvalidDest) ∷ []) _ (λ (passes : _).
    let few : sending.ports_in items ≤ MAX_MESSAGE_PORTS =
    ltb-false MAX_MESSAGE_PORTS (sending.ports_in items)
    (first_passes (nat_lt MAX_MESSAGE_PORTS (sending.ports_in items), SendNoBuffer)
    ((is_null_or_dead (remote_of bytes), SendInvalidDest) ∷ []) passes).0 in
    and_then_if (MidHeader space) MidReady
    (take_header old space (remote_of bytes) destination (local_of bytes) reply) _
    (header_mid space (remote_of bytes) (local_of bytes) old names destination reply sends by mid there)
    (λ (header : TakenHeader) (head : _).
    let start : TakenRights = record { rights = []; state = header.state; notices = [] } in
    and_then_if (MidRights space (header_hand header) ([] ++ flat_map kinds_of_item (map as_stored items))) MidReady
    (or_refused SendInvalidRight (take_items space items start)) _
    (or_if (MidRights space (header_hand header) ([] ++ flat_map kinds_of_item (map as_stored items))) SendInvalidRight
    (take_items space items start)
    (items_mid space (header_hand header) [] items start (start_rights space header head)))
    (λ (taken : TakenRights) (rights : _). unless_if MidReady
    (sending.tests_of_queue (ready_message (used_parts bytes) items header taken))
    (Ok (ready_message (used_parts bytes) items header taken))
    (ready_of_taken bytes items header taken space fits size body few head rights))))

-- What a task's bytes become is ready with its rights in hand.
pub ready_mid : (old : Ipc) (space : ℕ) (names : Names) (bytes : List ℕ) → AreBytes bytes → MidCall old empty_hand
    → finmap.get old.spaces space ≡ Some names → IfOk (ready_to_send old space bytes) MidReady
unfolding ready_to_send
ready_mid old space names bytes fits mid there =
    pass_if MidReady (sending.tests_of_size (length bytes)) _ (λ (passes : _).
    and_then_if (λ (d : Disposition). received_kind d ≢ kind.Receive) MidReady
    (or_refused SendInvalidHeader (sending.header_disposition (remote_disposition (bits_of bytes)))) _
    (or_if (λ (d : Disposition). received_kind d ≢ kind.Receive) SendInvalidHeader
    (sending.header_disposition (remote_disposition (bits_of bytes)))
    (header_sends (remote_disposition (bits_of bytes)))) (λ (destination : Disposition) (sends : _).
    and_then_if RepliesBy MidReady (sending.reply_disposition (local_disposition (bits_of bytes)) (local_of bytes)) _
    (reply_sends (local_disposition (bits_of bytes)) (local_of bytes)) (λ (reply : Option Disposition) (by : _).
    and_then_if (BodyItems bytes) MidReady (sending.items_if_complex (is_complex (bits_of bytes)) (body_of bytes)) _
    (body_items bytes fits) (λ (items : List Item) (body : _).
    of_items_mid old space names bytes destination reply items mid there fits (size_fits bytes passes) sends by body))))
