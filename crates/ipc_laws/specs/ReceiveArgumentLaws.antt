-- A receive's reply shows which message was taken, and under which names its rights arrived.
use Rattle.std.specs.Prelude.{◌≡◌, ℕ, ◌+◌, ◌*◌, ◌≤◌, Bool, true, false, List, [], ◌∷◌, ◌++◌, length, take, drop, flat_map, replicate, Option, None, Some, Result, MatchBool, MatchOption, if◌then◌else◌, refl}
use Rattle.std.proofs.Common.{sym, ◌∙◌, ap, subst, arith, append_assoc, length-append, length-drop, take-append-drop}
use Rattle.std.proofs.lemmas.List.{append_cancel_left, length-take-le, length-map, length-replicate}
use Rattle.std.proofs.lemmas.Grind.{flat_map-append}
use Rattle.codes.specs.declared.kern_return.KernReturn.{KernReturn}
use Rattle.ipc_model.specs.declared.message.CarriedRight.{CarriedRight}
use Rattle.ipc_model.specs.declared.message.Message.{Message}
use Rattle.ipc_model.specs.declared.message.PortInMessage.{PortInMessage}
use Rattle.ipc_model.specs.declared.message.PortInMessage.TheVariants as in_message
use Rattle.ipc_model.specs.declared.message.RightKind.{RightKind}
use Rattle.ipc_model.specs.declared.message.RightKind.TheVariants as kind
use Rattle.ipc_model.specs.rights.CopyOut.{Arrives, MayArrive, names_after}
use Rattle.ipc_model.specs.messages.Items.{Item, item_encoding, items_encoding, items_of, filled, body_filled, is_port_item, descriptor_encoding}
use Rattle.ipc_model.specs.state.Lawful.{LawfulMessage, HoldsPorts, kinds_of_item, kind_of_number}
use Rattle.ipc_laws.specs.ListLaws.{same_front, same_back, same_head, same_tail}
use Rattle.ipc_model.specs.messages.Messages.{message_encoding}
use Rattle.ipc_model.specs.messages.Receiving.{arriving, received_encoding, received_body, received_bits, reply_right, reply_name, body_names}
use Rattle.ipc_model.specs.state.Ipc.{Names, name_of_port, IsUnused}
use Rattle.words.specs.WordLaws.{length-word, same_word}
use Rattle.words.specs.Words.{word}

-- rights that arrive under given names leave one space
pub one_arrival : (names : Names) (rights : List CarriedRight) (given : List ℕ) (one other : Names)
    → Arrives names rights given one → Arrives names rights given other → one ≡ other
one_arrival names [] given one other here there = here.1 ∙ sym there.1
one_arrival names (right ∷ rights) given one other here there =
    let joined : here.0 ∷ here.1 ≡ there.0 ∷ there.1 = sym here.2 ∙ there.2 in
    let name : here.0 ≡ there.0 = same_head here.0 there.0 here.1 there.1 joined in
    let others : here.1 ≡ there.1 = same_tail here.0 there.0 here.1 there.1 joined in
    let moved : Arrives (names_after names right.kind right.port here.0) rights here.1 other =
    subst (λ (n : ℕ). Arrives (names_after names right.kind right.port n) rights here.1 other) (sym name)
    (subst (λ (l : List ℕ). Arrives (names_after names right.kind right.port there.0) rights l other)
    (sym others) there.4) in
    one_arrival (names_after names right.kind right.port here.0) rights here.1 one other here.4 moved

-- as many names as rights
pub as_many_names : (names : Names) (rights : List CarriedRight) (given : List ℕ) (after : Names)
    → Arrives names rights given after → length given ≡ length rights
as_many_names names [] given after arrives = ap length arrives.0
as_many_names names (right ∷ rights) given after arrives =
    let others : length arrives.1 ≡ length rights =
    as_many_names (names_after names right.kind right.port arrives.0) rights arrives.1 after arrives.4 in
    omega (arith, ap length arrives.2)

-- a name that may be chosen is a number of four bytes; any other is determined by the space
unused_same : (names : Names) (one other : ℕ) → IsUnused names one → IsUnused names other → word one ≡ word other
    → one ≡ other
unused_same names one other here there e =
    same_word one other [] [] (omega (arith, here.below_dead)) (omega (arith, there.below_dead)) (ap (λ l. l ++ []) e)

by_port : (there_is : Option ℕ) (names : Names) (one other : ℕ)
    → MatchOption there_is (IsUnused names one) (λ there. one ≡ there)
    → MatchOption there_is (IsUnused names other) (λ there. other ≡ there) → word one ≡ word other → one ≡ other
by_port None names one other here there e = unused_same names one other here there e
by_port (Some name) names one other here there e = here ∙ sym there

one_name : (names : Names) (kind : RightKind) (port : PortInMessage) (one other : ℕ) → MayArrive names kind port one
    → MayArrive names kind port other → word one ≡ word other → one ≡ other
one_name names k in_message.Null one other here there e = here ∙ sym there
one_name names k in_message.Dead one other here there e = here ∙ sym there
one_name names kind.Receive (in_message.Live serial) one other here there e =
    by_port (name_of_port names serial) names one other here there e
one_name names kind.Send (in_message.Live serial) one other here there e =
    by_port (name_of_port names serial) names one other here there e
one_name names kind.SendOnce (in_message.Live serial) one other here there e = unused_same names one other here there e

same_lengths : (one other : ℕ) → length (word one) ≡ length (word other)
same_lengths one other = length-word one ∙ sym (length-word other)

-- names whose words are the same are the same
pub one_choice : (names : Names) (rights : List CarriedRight) (one other : List ℕ) (after later : Names)
    → Arrives names rights one after → Arrives names rights other later
    → flat_map word one ≡ flat_map word other → one ≡ other
one_choice names [] one other after later here there e = here.0 ∙ sym there.0
one_choice names (right ∷ rights) one other after later here there e =
    let joined : word here.0 ++ flat_map word here.1 ≡ word there.0 ++ flat_map word there.1 =
    sym (ap (flat_map word) here.2) ∙ e ∙ ap (flat_map word) there.2 in
    let name : here.0 ≡ there.0 =
    one_name names right.kind right.port here.0 there.0 here.3 there.3
    (same_front _ _ _ _ (same_lengths here.0 there.0) joined) in
    let words : flat_map word here.1 ≡ flat_map word there.1 =
    same_back (word here.0) (word there.0) _ _ (same_lengths here.0 there.0) joined in
    let moved : Arrives (names_after names right.kind right.port here.0) rights there.1 later =
    subst (λ (n : ℕ). Arrives (names_after names right.kind right.port n) rights there.1 later)
    (sym name) there.4 in
    let others : here.1 ≡ there.1 =
    one_choice (names_after names right.kind right.port here.0) rights here.1 there.1 after later here.4 moved words
    in
    here.2 ∙ (λ i. name i ∷ others i) ∙ sym there.2

-- how many ports items hold
no_names : (names : List ℕ) → length names ≡ 0 → names ≡ []
no_names [] e = refl
no_names (name ∷ names) e = absurd (omega arith)

unfoldable pub port_count : List Item → ℕ
port_count [] = 0
port_count (item ∷ items) = elim (is_port_item item) as (λ _. ℕ) [ true ↦ item.number | false ↦ 0 ] + port_count items

length-words : (names : List ℕ) → length (flat_map word names) ≡ 4 * length names
length-words [] = refl
length-words (name ∷ names) =
    omega (arith, length-words names, length-append (word name) (flat_map word names), length-word name)

words-take-drop : (n : ℕ) (names : List ℕ)
    → flat_map word names ≡ flat_map word (take n names) ++ flat_map word (drop n names)
words-take-drop n names =
    ap (flat_map word) (sym (take-append-drop n names)) ∙ flat_map-append word (take n names) (drop n names)

pub length-words-take : (n : ℕ) (names : List ℕ) → n ≤ length names → length (flat_map word (take n names)) ≡ 4 * n
length-words-take n names fits = length-words (take n names) ∙ ap (λ k. 4 * k) (length-take-le n names fits)

-- Items with names filled in determine the names.
names_reported : (items : List Item) (one other : List ℕ) → length one ≡ port_count items → length other
    ≡ port_count items
    → items_encoding (filled items one) ≡ items_encoding (filled items other)
    → flat_map word one ≡ flat_map word other
unfolding port_count
names_reported [] one other many as_many e = ap (flat_map word) (no_names one many ∙ sym (no_names other as_many))
names_reported (item ∷ items) one other many as_many e =
    elim (is_port_item item) as (λ (b : Bool).
    length one ≡ (elim b as (λ _. ℕ) [ true ↦ item.number | false ↦ 0 ]) + port_count items
    → length other ≡ (elim b as (λ _. ℕ) [ true ↦ item.number | false ↦ 0 ]) + port_count items
    → items_encoding (if b then record item { content = flat_map word (take item.number one) } ∷ filled items
    (drop item.number one) else item ∷ filled items one)
    ≡ items_encoding (if b then record item { content = flat_map word (take item.number other) } ∷ filled items
    (drop item.number other) else item ∷ filled items other)
    → flat_map word one ≡ flat_map word other) [
      | false ↦ λ (here : _) (there : _) (is : _). names_reported items one other (omega (arith, here))
          (omega (arith, there)) (append_cancel_left (item_encoding item) _ _ is)
      | true ↦ λ (here : _) (there : _) (is : _).
          let n : ℕ = item.number in
          let front : List ℕ = descriptor_encoding item item.is_long in
          let joined : flat_map word (take n one) ++ items_encoding (filled items (drop n one))
          ≡ flat_map word (take n other) ++ items_encoding (filled items (drop n other)) =
          append_cancel_left front _ _ (sym (append_assoc front (flat_map word (take n one)) _) ∙ is
          ∙ append_assoc front (flat_map word (take n other)) _) in
          let long : length (flat_map word (take n one)) ≡ length (flat_map word (take n other)) =
          length-words-take n one (omega (arith, here)) ∙ sym (length-words-take n other (omega (arith, there))) in
          let first : flat_map word (take n one) ≡ flat_map word (take n other) = same_front _ _ _ _ long joined in
          let rest : flat_map word (drop n one) ≡ flat_map word (drop n other) =
          names_reported items (drop n one) (drop n other) (omega (arith, here, length-drop n one))
          (omega (arith, there, length-drop n other))
          (same_back (flat_map word (take n one)) (flat_map word (take n other)) _ _ long joined) in
          words-take-drop n one ∙ (λ i. first i ++ rest i) ∙ sym (words-take-drop n other)
    ] many as_many e

-- a body has as many rights as ports
pub length-kinds : (items : List Item) → length (flat_map kinds_of_item items) ≡ port_count items
unfolding port_count
length-kinds [] = refl
length-kinds (item ∷ items) =
    elim (is_port_item item) as (λ (b : Bool). length
    ((if b then replicate item.number (kind_of_number item.type_name) else []) ++ flat_map kinds_of_item items)
    ≡ (elim b as (λ _. ℕ) [ true ↦ item.number | false ↦ 0 ]) + port_count items) [
      | false ↦ omega (arith, length-kinds items)
      | true ↦ omega (
        arith,
        length-kinds items,
        length-append (replicate item.number (kind_of_number item.type_name)) (flat_map kinds_of_item items),
        length-replicate item.number (kind_of_number item.type_name),
      )
    ]

-- the names of a lawful message's body, as many as its ports, are determined by the body as received
body_reported : (message : Message) (one other : List ℕ) → HoldsPorts message.body message.rights
    → length one ≡ length message.rights → length other ≡ length message.rights
    → body_filled (items_of message.body) message.body one ≡ body_filled (items_of message.body) message.body other
    → flat_map word one ≡ flat_map word other
body_reported message one other holds many as_many e =
    let counted : length message.rights ≡ port_count holds.items =
    sym (length-map message.rights (λ (r : CarriedRight). r.kind)) ∙ ap length holds.kinds ∙ length-kinds holds.items in
    names_reported holds.items one other (many ∙ counted) (as_many ∙ counted)
    (subst (λ (items : Result (List Item) KernReturn). body_filled items message.body one
    ≡ body_filled items message.body other) holds.tiled e)

bodies_reported : (message : Message) (one other : List ℕ) → LawfulMessage message → length one ≡ length message.rights
    → length other ≡ length message.rights
    → received_body message one ≡ received_body message other → flat_map word one ≡ flat_map word other
bodies_reported message one other lawful many as_many e =
    elim message.complex as (λ (b : Bool). MatchBool b (HoldsPorts message.body message.rights) (message.rights ≡ [])
    → (if b then body_filled (items_of message.body) message.body one else message.body)
    ≡ (if b then body_filled (items_of message.body) message.body other else message.body)
    → flat_map word one ≡ flat_map word other) [
      | true ↦ λ (ports : _) (is : _). body_reported message one other ports many as_many is
      | false ↦ λ (ports : _) (is : _). ap (flat_map word)
          (no_names one (many ∙ ap length ports) ∙ sym (no_names other (as_many ∙ ap length ports)))
    ] lawful.ports e

-- what determines a header's words and the body after them
after_word : (one other : ℕ) (xs ys : List ℕ) → word one ++ xs ≡ word other ++ ys → xs ≡ ys
after_word one other xs ys e = same_back (word one) (word other) xs ys (same_lengths one other) e

same_words : (one other : ℕ) (xs ys : List ℕ) → word one ++ xs ≡ word other ++ ys → word one ≡ word other
same_words one other xs ys e = same_front (word one) (word other) xs ys (same_lengths one other) e

record SameText (remote other_remote : ℕ) (body other_body : List ℕ) : Type 0 where
  same_remote : word remote ≡ word other_remote
  same_body : body ≡ other_body

same_encoding : (bits remote local seqno id other_bits other_remote other_local other_seqno other_id : ℕ)
    (body other_body : List ℕ)
    → message_encoding bits remote local seqno id body
    ≡ message_encoding other_bits other_remote other_local other_seqno other_id other_body
    → SameText remote other_remote body other_body
same_encoding bits remote local seqno id other_bits other_remote other_local other_seqno other_id body other_body e =
    let after_bits = after_word bits other_bits _ _ e in
    let after_size = after_word (24 + length body) (24 + length other_body) _ _ after_bits in
    let after_remote = after_word remote other_remote _ _ after_size in
    let after_local = after_word local other_local _ _ after_remote in
    let after_seqno = after_word seqno other_seqno _ _ after_local in
    record {
      same_remote = same_words remote other_remote _ _ after_size;
      same_body = after_word id other_id _ _ after_seqno;
    }

with_reply : (message : Message) (right : CarriedRight) (one other : List ℕ) → LawfulMessage message
    → length one ≡ length (right ∷ message.rights) → length other ≡ length (right ∷ message.rights)
    → word (reply_name (Some right) one) ≡ word (reply_name (Some right) other)
    → received_body message (body_names (Some right) one) ≡ received_body message (body_names (Some right) other)
    → flat_map word one ≡ flat_map word other
with_reply message right [] other lawful long as_long name body = absurd (omega (arith, long))
with_reply message right (first ∷ one) [] lawful long as_long name body = absurd (omega (arith, as_long))
with_reply message right (first ∷ one) (second ∷ other) lawful long as_long name body =
    let beyond : flat_map word one ≡ flat_map word other =
    bodies_reported message one other lawful (omega (arith, long)) (omega (arith, as_long)) body in
    λ i. name i ++ beyond i

-- The received bytes of a lawful message determine the words of all names that its rights got.
pub encoding_reported : (message : Message) (member seqno : ℕ) (one other : List ℕ) → LawfulMessage message
    → length one ≡ length (arriving message) → length other ≡ length (arriving message)
    → received_encoding message member seqno one ≡ received_encoding message member seqno other
    → flat_map word one ≡ flat_map word other
encoding_reported message member seqno one other lawful many as_many e =
    elim message.reply as (λ (r : Option CarriedRight). length one ≡ length (reply_right r ++ message.rights)
    → length other ≡ length (reply_right r ++ message.rights)
    → message_encoding (received_bits message) (reply_name r one) member seqno message.id
    (received_body message (body_names r one))
    ≡ message_encoding (received_bits message) (reply_name r other) member seqno message.id
    (received_body message (body_names r other))
    → flat_map word one ≡ flat_map word other) [
      | None ↦ λ (long : _) (as_long : _) (is : _).
          bodies_reported message one other lawful long as_long
          (same_encoding _ (reply_name None one) member seqno message.id _
          (reply_name None other) member seqno message.id _ _ is).same_body
      | Some right ↦ λ (long : _) (as_long : _) (is : _).
          let same =
          same_encoding _ (reply_name (Some right) one) member seqno message.id _
          (reply_name (Some right) other) member seqno message.id _ _ is in
          with_reply message right one other lawful long as_long same.same_remote same.same_body
    ] many as_many e
