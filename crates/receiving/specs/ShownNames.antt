-- The names in a received message's bytes, which its rights got.
use Rattle.std.specs.Prelude.{◌≡◌, ℕ, ◌+◌, ◌*◌, ◌/◌, ◌%◌, ◌^◌, ◌<◌, ◌≤◌, Bool, true, false, ◌==◌, nat_lt, All, List, [], ◌∷◌, ◌++◌, length, take, drop, flat_map, Option, None, Some, Result, Ok, Err, MatchBool, MatchOption, if◌then◌else◌, refl}
use Rattle.std.proofs.Common.{sym, ◌∙◌, ap, subst, arith, take-append-drop}
use Rattle.std.proofs.lemmas.Bool.{le-ltb, lt-ltb, eq-eqb, eqb-true, eqb-false}
use Rattle.std.proofs.lemmas.List.{length-take-le, length-drop, length-map, nil_from_length}
use Rattle.std.proofs.lemmas.List.Elements.{All-nil, All-cons, All-head, All-tail, All-take, All-drop}
use Rattle.std.specs.FinMap as finmap
use Rattle.byteorder.specs.Endian.{little_number}
use Rattle.codes.specs.declared.kern_return.KernReturn.{KernReturn}
use Rattle.ipc_laws.specs.EffectParts.{word_more}
use Rattle.ipc_laws.specs.ItemLaws.{items_back, items_read}
use Rattle.ipc_laws.specs.Arrivals.{named_there}
use Rattle.ipc_laws.specs.MapLaws.{get-there}
use Rattle.ipc_laws.specs.ReceiveArgumentLaws.{port_count, length-kinds, length-words-take}
use Rattle.ipc_model.specs.declared.entry.Entry.{Entry}
use Rattle.ipc_model.specs.declared.message.CarriedRight.{CarriedRight}
use Rattle.ipc_model.specs.declared.message.Message.{Message}
use Rattle.ipc_model.specs.declared.message.PortInMessage.{PortInMessage}
use Rattle.ipc_model.specs.declared.message.PortInMessage.TheVariants as in_message
use Rattle.ipc_model.specs.declared.message.RightKind.{RightKind}
use Rattle.ipc_model.specs.declared.message.RightKind.TheVariants as kind
use Rattle.ipc_model.specs.messages.Items.{Item, items_of, filled, body_filled, names_of_item, is_port_item, padded, words_of, AreItems}
use Rattle.ipc_model.specs.messages.Messages.{UsedParts, HasUsedParts, used_parts, header_length, message_encoding, remote_disposition, is_complex, complex_bit}
use Rattle.ipc_model.specs.messages.Receiving.{arriving, reply_right, reply_name, reply_kind_number, body_names, received_body, received_encoding}
use Rattle.ipc_model.specs.messages.Sending.{items_if_complex}
use Rattle.ipc_model.specs.rights.CopyOut.{Arrives, MayArrive, names_after, merged_entry}
use Rattle.ipc_model.specs.rights.Dispositions.{number_of_kind}
use Rattle.ipc_model.specs.state.Lawful.{LawfulMessage, LawfulNames, HoldsPorts}
use Rattle.ipc_model.specs.state.Ipc.{Names, IsUnused, name_of_port}
use Rattle.words.specs.WordLaws.{little_number-word}
use Rattle.words.specs.Words.{AreBytes, word}

-- the name of the reply right, or none if the disposition is 0
abbrev pub name_in_header : ℕ → ℕ → List ℕ
name_in_header disposition name = if disposition == 0 then [] else name ∷ []

-- the names in the port items of a body, or none if items don't tile it
abbrev pub names_in_items : Result (List Item) KernReturn → List ℕ
names_in_items (Ok items) = flat_map names_of_item items
names_in_items (Err code) = []

abbrev pub names_in_parts : UsedParts → List ℕ
names_in_parts parts =
    name_in_header parts.remote_disposition parts.remote ++ names_in_items (items_if_complex parts.complex parts.body)

-- The names in a message's bytes: the reply right's, then those of the body's ports, from the left. Fewer bytes than a
-- header contain none.
unfoldable pub names_shown : List ℕ → List ℕ
names_shown bytes = if nat_lt (length bytes) header_length then [] else names_in_parts (used_parts bytes)

-- the names in a message with these parts
pub parts_shown : (bytes : List ℕ) (parts : UsedParts) → HasUsedParts bytes parts
    → names_shown bytes ≡ names_in_parts parts
unfolding names_shown
parts_shown bytes parts is =
    ap (λ (short : Bool). if short then [] else names_in_parts (used_parts bytes))
    (le-ltb (length bytes) header_length is.whole) ∙ ap names_in_parts (sym is.parts_are)

pub none_shown : (bytes : List ℕ) → length bytes < header_length → names_shown bytes ≡ []
unfolding names_shown
none_shown bytes short =
    ap (λ (b : Bool). if b then [] else names_in_parts (used_parts bytes)) (lt-ltb (length bytes) header_length short)

-- names that fit four bytes
abbrev pub FitWords : List ℕ → Type 0
FitWords names = All (λ n. n < 2 ^ 32) names

-- The encoding of words is decoded to the same words.

words_back : (names : List ℕ) → FitWords names → words_of (length names) (flat_map word names) ≡ names
words_back [] fit = refl
words_back (name ∷ names) fit =
    let first : little_number 4 (word name ++ flat_map word names) ≡ name =
    little_number-word name (flat_map word names) (All-head (λ n. n < 2 ^ 32) name names fit) in
    let others : words_of (length names) (flat_map word names) ≡ names =
    words_back names (All-tail (λ n. n < 2 ^ 32) name names fit) in
    λ i. first i ∷ others i

front_back : (n : ℕ) (names : List ℕ) → n ≤ length names → FitWords names
    → words_of n (flat_map word (take n names)) ≡ take n names
front_back n names many fit =
    ap (λ (k : ℕ). words_of k (flat_map word (take n names))) (sym (length-take-le n names many))
    ∙ words_back (take n names) (All-take (λ n. n < 2 ^ 32) n names fit)

words_are_bytes : (names : List ℕ) → AreBytes (flat_map word names)
words_are_bytes [] i = omega arith
words_are_bytes (name ∷ names) i = word_more name (flat_map word names) (words_are_bytes names) i

-- Items filled with names are encodable, and contain these names.

filled_fit : (items : List Item) (names : List ℕ) → AreItems items → length names ≡ port_count items
    → AreItems (filled items names)
unfolding port_count
filled_fit [] names fit many = tt
filled_fit (item ∷ items) names fit many =
    elim (is_port_item item) as (λ (b : Bool). is_port_item item ≡ b
    → length names ≡ (elim b as (λ _. ℕ) [ true ↦ item.number | false ↦ 0 ]) + port_count items
    → AreItems (if b then record item { content = flat_map word (take item.number names) } ∷ filled items
    (drop item.number names) else item ∷ filled items names)) [
      | false ↦ λ (_ : _) (here : _). (fit.0, filled_fit items names fit.1 (omega (arith, here)))
      | true ↦ λ (port : _) (here : _).
          let n : ℕ = item.number in
          let four_each : 4 * n ≡ padded (n * 32) = omega arith in (
            record {
              type_name = fit.0.type_name;
              bits = fit.0.bits;
              number = fit.0.number;
              ports = fit.0.ports;
              long =
                  length-words-take n names (omega (arith, here)) ∙ four_each ∙ ap
                  (λ (k : ℕ). padded (n * k)) (sym (fit.0.ports port));
              bytes = words_are_bytes (take n names);
            },
            filled_fit items (drop n names) fit.1 (omega (arith, here, length-drop n names)),
          )
    ] refl many

filled_names : (items : List Item) (names : List ℕ) → length names ≡ port_count items → FitWords names
    → flat_map names_of_item (filled items names) ≡ names
unfolding port_count
filled_names [] names many fit = sym (nil_from_length names many)
filled_names (item ∷ items) names many fit =
    elim (is_port_item item) as (λ (b : Bool). is_port_item item ≡ b
    → length names ≡ (elim b as (λ _. ℕ) [ true ↦ item.number | false ↦ 0 ]) + port_count items
    → flat_map names_of_item (if b
    then record item { content = flat_map word (take item.number names) } ∷ filled items (drop item.number names)
    else item ∷ filled items names) ≡ names) [
      | false ↦ λ (plain : _) (here : _).
          let none : names_of_item item ≡ [] =
          ap (λ (b : Bool). if b then words_of item.number item.content else []) plain in
          let others : flat_map names_of_item (filled items names) ≡ names =
          filled_names items names (omega (arith, here)) fit in
          λ i. none i ++ others i
      | true ↦ λ (port : _) (here : _).
          let n : ℕ = item.number in
          let next : Item = record item { content = flat_map word (take n names) } in
          let first : names_of_item next ≡ take n names =
          ap (λ (b : Bool). if b then words_of n (flat_map word (take n names)) else []) port
          ∙ front_back n names (omega (arith, here)) fit in
          let others : flat_map names_of_item (filled items (drop n names)) ≡ drop n names =
          filled_names items (drop n names) (omega (arith, here, length-drop n names))
          (All-drop (λ n. n < 2 ^ 32) n names fit) in
          (λ i. first i ++ others i) ∙ take-append-drop n names
    ] refl many

-- The body of a lawful message contains the names that its ports got.

ports_shown : (body : List ℕ) (rights : List CarriedRight) (names : List ℕ) → AreBytes body → HoldsPorts body rights
    → length names ≡ length rights → FitWords names
    → names_in_items (items_of (body_filled (items_of body) body names)) ≡ names
ports_shown body rights names bytes holds many fit =
    let read = items_read body holds.items bytes holds.tiled in
    let counted : length rights ≡ port_count holds.items =
    sym (length-map rights (λ (r : CarriedRight). r.kind)) ∙ ap length holds.kinds ∙ length-kinds holds.items in
    ap (λ (items : Result (List Item) KernReturn). names_in_items (items_of (body_filled items body names))) holds.tiled
    ∙ ap names_in_items (items_back (filled holds.items names) (filled_fit holds.items names read.fit (many ∙ counted)))
    ∙ filled_names holds.items names (many ∙ counted) fit

body_shown : (message : Message) (names : List ℕ) → LawfulMessage message → length names ≡ length message.rights
    → FitWords names
    → names_in_items (items_if_complex message.complex (received_body message names)) ≡ names
body_shown message names lawful many fit =
    elim message.complex as (λ (b : Bool). MatchBool b (HoldsPorts message.body message.rights) (message.rights ≡ [])
    → names_in_items (items_if_complex b
    (if b then body_filled (items_of message.body) message.body names else message.body)) ≡ names) [
      | true ↦ λ (ports : _). ports_shown message.body message.rights names lawful.bytes ports many fit
      | false ↦ λ (none : _). sym (nil_from_length names (many ∙ ap length none))
    ] lawful.ports

-- The parts of a received message's bytes.

encoding_shown : (bits remote local seqno id : ℕ) (body : List ℕ) → bits < 2 ^ 32 → remote < 2 ^ 32
    → names_shown (message_encoding bits remote local seqno id body) ≡ name_in_header (remote_disposition bits) remote
    ++ names_in_items (items_if_complex (is_complex bits) body)
unfolding names_shown
encoding_shown bits remote local seqno id body bits_fit remote_fits =
    let encoding : List ℕ = message_encoding bits remote local seqno id body in
    let after_remote : List ℕ = word local ++ (word seqno ++ (word id ++ body)) in
    let bits_is : little_number 4 encoding ≡ bits =
    little_number-word bits (word (header_length + length body) ++ (word remote ++ after_remote)) bits_fit in
    let remote_is : little_number 4 (word remote ++ after_remote) ≡ remote =
    little_number-word remote after_remote remote_fits in
    ap (λ (short : Bool). if short then [] else names_in_parts (used_parts encoding))
    (le-ltb (length encoding) header_length (omega arith))
    ∙ (λ i. name_in_header (remote_disposition (bits_is i)) (remote_is i)
    ++ names_in_items (items_if_complex (is_complex (bits_is i)) body))

-- the bits of a received message with this reply right
abbrev bits_with : Option CarriedRight → RightKind → Bool → ℕ
bits_with reply destination complex = reply_kind_number reply + number_of_kind destination * 2 ^ 8 + complex_bit complex

kind_small : (what : RightKind) → number_of_kind what < 2 ^ 8
kind_small kind.Receive = omega arith
kind_small kind.Send = omega arith
kind_small kind.SendOnce = omega arith

reply_small : (reply : Option CarriedRight) → reply_kind_number reply < 2 ^ 8
reply_small None = omega arith
reply_small (Some right) = kind_small right.kind

bits_fit : (reply destination : ℕ) (complex : Bool) → reply < 2 ^ 8 → destination < 2 ^ 8
    → reply + destination * 2 ^ 8 + complex_bit complex < 2 ^ 32
bits_fit reply destination true r d = omega (arith, r, d)
bits_fit reply destination false r d = omega (arith, r, d)

reply_back : (reply destination : ℕ) (complex : Bool) → reply < 2 ^ 8 → destination < 2 ^ 8
    → remote_disposition (reply + destination * 2 ^ 8 + complex_bit complex) ≡ reply
reply_back reply destination true r d = omega (arith, r, d)
reply_back reply destination false r d = omega (arith, r, d)

complex_back : (reply destination : ℕ) (complex : Bool) → reply < 2 ^ 8 → destination < 2 ^ 8
    → is_complex (reply + destination * 2 ^ 8 + complex_bit complex) ≡ complex
complex_back reply destination true r d =
    eq-eqb (((reply + destination * 2 ^ 8 + 2 ^ 31) / 2 ^ 31) % 2) 1 (omega (arith, r, d))
complex_back reply destination false r d =
    let none : ((reply + destination * 2 ^ 8 + 0) / 2 ^ 31) % 2 ≡ 0 = omega (arith, r, d) in
    ap (λ (n : ℕ). n == 1) none

-- the reply right's name precedes those of the body
with_reply : (message : Message) (reply : Option CarriedRight) (remote member seqno : ℕ) (names : List ℕ)
    → LawfulMessage message → length names ≡ length message.rights → FitWords names → remote < 2 ^ 32
    → names_shown (message_encoding (bits_with reply message.destination message.complex) remote member seqno message.id
    (received_body message names)) ≡ name_in_header (reply_kind_number reply) remote ++ names
with_reply message reply remote member seqno names lawful many fit remote_fits =
    let to : ℕ = number_of_kind message.destination in
    let body : List ℕ = received_body message names in
    let reply_is : remote_disposition (bits_with reply message.destination message.complex) ≡ reply_kind_number reply =
    reply_back (reply_kind_number reply) to message.complex (reply_small reply) (kind_small message.destination) in
    let complex_is : is_complex (bits_with reply message.destination message.complex) ≡ message.complex =
    complex_back (reply_kind_number reply) to message.complex (reply_small reply)
    (kind_small message.destination) in
    let shown : names_in_items (items_if_complex message.complex body) ≡ names =
    body_shown message names lawful many fit in
    encoding_shown (bits_with reply message.destination message.complex) remote member seqno message.id body
    (bits_fit (reply_kind_number reply) to message.complex (reply_small reply) (kind_small message.destination))
    remote_fits
    ∙ (λ i. name_in_header (reply_is i) remote ++ names_in_items (items_if_complex (complex_is i) body)) ∙ ap
    (λ (l : List ℕ). name_in_header (reply_kind_number reply) remote ++ l) shown

named_by_kind : (what : RightKind) (name : ℕ) → name_in_header (number_of_kind what) name ≡ name ∷ []
named_by_kind kind.Receive name = refl
named_by_kind kind.Send name = refl
named_by_kind kind.SendOnce name = refl

given_shown : (message : Message) (reply : Option CarriedRight) (member seqno : ℕ) (given : List ℕ)
    → LawfulMessage message → length given ≡ length (reply_right reply ++ message.rights) → FitWords given
    → names_shown (message_encoding (bits_with reply message.destination message.complex)
    (reply_name reply given) member seqno message.id (received_body message (body_names reply given))) ≡ given
given_shown message None member seqno given lawful many fit =
    with_reply message None 0 member seqno given lawful many fit (omega arith)
given_shown message (Some right) member seqno [] lawful many fit = absurd (omega (arith, many))
given_shown message (Some right) member seqno (name ∷ names) lawful many fit =
    with_reply message (Some right) name member seqno names lawful (omega (arith, many))
    (All-tail (λ n. n < 2 ^ 32) name names fit) (All-head (λ n. n < 2 ^ 32) name names fit)
    ∙ ap (λ (l : List ℕ). l ++ names) (named_by_kind right.kind name)

-- The bytes of a lawful message, as received, contain the names that its rights got.
abbrev pub ShownAreGiven : Type 0
ShownAreGiven =
    (message : Message) (member seqno : ℕ) (given : List ℕ) → LawfulMessage message
    → length given ≡ length (arriving message) → FitWords given
    → names_shown (received_encoding message member seqno given) ≡ given

pub shown_are_given : ShownAreGiven
shown_are_given message member seqno given lawful many fit =
    given_shown message message.reply member seqno given lawful many fit

-- Names under which rights arrive fit four bytes, if those in use do.

abbrev pub NamesFit : Names → Type 0
NamesFit names = (name : ℕ) (entry : Entry) → finmap.get names name ≡ Some entry → name < 2 ^ 32

pub lawful_fit : (names : Names) → LawfulNames names → NamesFit names
lawful_fit names lawful name entry at = omega (arith, (lawful.named name entry at).1)

unused_fits : (names : Names) (name : ℕ) → IsUnused names name → name < 2 ^ 32
unused_fits names name unused = omega (arith, unused.below_dead)

by_port : (names : Names) (serial name : ℕ) → NamesFit names
    → MatchOption (name_of_port names serial) (IsUnused names name) (λ there. name ≡ there) → name < 2 ^ 32
by_port names serial name fit may =
    elim (name_of_port names serial)
    as (λ (o : Option ℕ). name_of_port names serial ≡ o
    → MatchOption o (IsUnused names name) (λ there. name ≡ there) → name < 2 ^ 32) [
      | None ↦ λ (_ : _) (unused : _). unused_fits names name unused
      | Some there ↦ λ (is : _) (same : _).
          let at = named_there names serial there is in
          let small : there < 2 ^ 32 = fit there at.0 at.1 in
          omega (arith, same, small)
    ] refl may

name_fits : (names : Names) (what : RightKind) (port : PortInMessage) (name : ℕ) → NamesFit names
    → MayArrive names what port name → name < 2 ^ 32
name_fits names what in_message.Null name fit may = omega (arith, may)
name_fits names what in_message.Dead name fit may = omega (arith, may)
name_fits names kind.Receive (in_message.Live serial) name fit may = by_port names serial name fit may
name_fits names kind.Send (in_message.Live serial) name fit may = by_port names serial name fit may
name_fits names kind.SendOnce (in_message.Live serial) name fit may = unused_fits names name may

one_more_fits : (names : Names) (name : ℕ) (more : Entry) → NamesFit names → name < 2 ^ 32
    → NamesFit (finmap.insert names name more)
one_more_fits names name more fit small other entry at =
    elim (other == name) as (λ (b : Bool). (other == name) ≡ b → other < 2 ^ 32) [
      | true ↦ λ (same : _). omega (arith, eqb-true other name same, small)
      | false ↦ λ (apart : _). fit other entry (sym (get-there names name more other (eqb-false other name apart)) ∙ at)
    ] refl

after_fit : (names : Names) (what : RightKind) (port : PortInMessage) (name : ℕ) → NamesFit names → name < 2 ^ 32
    → NamesFit (names_after names what port name)
after_fit names what in_message.Null name fit small = fit
after_fit names what in_message.Dead name fit small = fit
after_fit names what (in_message.Live serial) name fit small =
    one_more_fits names name (merged_entry what serial (finmap.get names name)) fit small

pub arrived_small : (names : Names) (rights : List CarriedRight) (given : List ℕ) (after : Names) → NamesFit names
    → Arrives names rights given after → FitWords given
arrived_small names [] given after fit arrives = subst FitWords (sym arrives.0) (All-nil (λ n. n < 2 ^ 32))
arrived_small names (right ∷ rights) given after fit (name, others, is, may, rest) =
    let small : name < 2 ^ 32 = name_fits names right.kind right.port name fit may in
    let more : FitWords others =
    arrived_small (names_after names right.kind right.port name) rights others after
    (after_fit names right.kind right.port name fit small) rest in
    subst FitWords (sym is) (All-cons (λ n. n < 2 ^ 32) name others small more)
