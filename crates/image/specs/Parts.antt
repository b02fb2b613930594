-- The encodings in an image, split into their parts.
use Rattle.std.specs.Prelude.{◌≡◌, ℕ, ◌^◌, ◌<◌, List, [], ◌∷◌, ◌++◌, length, flat_map, Option, None, Some, IfSome, IsSomeAnd, ◌+◌}
use Rattle.std.proofs.Common.{sym, ◌∙◌, ap, subst, arith, append_assoc}
use Rattle.std.proofs.lemmas.List.{append-nil}
use Rattle.codes.specs.StoreVersion.{current}
use Rattle.codes.specs.declared.store_version.StoreVersion.{StoreVersion}
use Rattle.ipc_laws.specs.ImageLaws.{EncodableSet, EncodableTarget}
use Rattle.ipc_model.specs.declared.message.Message.{Message}
use Rattle.ipc_model.specs.declared.port.PortState.{PortState}
use Rattle.ipc_model.specs.messages.Receiving.{message_size}
use Rattle.ipc_model.specs.rights.Dispositions.{number_of_kind}
use Rattle.ipc_model.specs.encodings.Images.{carried_encoding, message_image, number_or_0, port_encoding, reply_right_encoding}
use Rattle.ipc_model.specs.encodings.PlainCalls.{number_of_bool}
use Rattle.image.specs.Rows.{live_port_encoding, row_encoding_of, rows_of, snapshot_encoding, snapshot_encoding_of}
use Rattle.snapshot.specs.declared.rows.Snapshot.{Snapshot}
use Rattle.words.specs.Words.{word, long_word}

-- the bytes after a message's head: its rights, its body and the rest
abbrev pub after_head : Message → List ℕ → List ℕ
after_head message rest =
    word (length message.rights) ++ (flat_map carried_encoding message.rights ++ (message.body ++ rest))

pub message_apart : (message : Message) (rest : List ℕ) → message_image message ++ rest
    ≡ number_of_kind message.destination ∷
    (reply_right_encoding message.reply
    ++ (word message.id ++ (word (message_size message)
    ++ (number_of_bool message.complex ∷ after_head message rest))))
message_apart message rest = simp append_assoc

-- the bytes after the targets of a port's requests: its messages and the rest
abbrev pub after_targets : PortState → List ℕ → List ℕ
after_targets port rest = word (length port.messages) ++ (flat_map message_image port.messages ++ rest)

abbrev pub after_numbers : PortState → List ℕ → List ℕ
after_numbers port rest =
    long_word (number_or_0 port.no_senders_target)
    ++ (long_word (number_or_0 port.port_destroyed_target) ++ after_targets port rest)

pub port_apart : (port : PortState) (rest : List ℕ) → port_encoding port ++ rest
    ≡ word port.limit ++ (word port.sequence_number
    ++ (word port.make_send_count ++ (word (number_or_0 port.set) ++ after_numbers port rest)))
port_apart port rest = simp append_assoc

-- the bytes after a snapshot's spaces: its ports
abbrev pub after_spaces : Snapshot → List ℕ
after_spaces snapshot = word (length snapshot.ipc.ports) ++ (flat_map live_port_encoding snapshot.ipc.ports ++ [])

abbrev pub after_next : StoreVersion → Snapshot → List ℕ
after_next version snapshot =
    word (length snapshot.ipc.spaces)
    ++ (flat_map (row_encoding_of version) (rows_of snapshot.ipc.spaces snapshot.kept) ++ after_spaces snapshot)

pub snapshot_apart : (version : StoreVersion) (snapshot : Snapshot)
    → snapshot_encoding_of version snapshot ≡ long_word snapshot.ipc.next_serial ++ after_next version snapshot
unfolding snapshot_encoding_of
snapshot_apart version snapshot =
    ap (λ (l : List ℕ). long_word snapshot.ipc.next_serial
    ++ (word (length snapshot.ipc.spaces)
    ++ (flat_map (row_encoding_of version) (rows_of snapshot.ipc.spaces snapshot.kept)
    ++ (word (length snapshot.ipc.ports) ++ l))))
    (sym (append-nil (flat_map live_port_encoding snapshot.ipc.ports)))

-- the number that encodes a target or a set fits its word
pub target_fits : (target : Option ℕ) → EncodableTarget target → number_or_0 target < 2 ^ 64
target_fits None fits = omega arith
target_fits (Some serial) fits = fits.1

pub set_fits : (set : Option ℕ) → EncodableSet set → number_or_0 set < 2 ^ 32
set_fits None fits = omega arith
set_fits (Some name) fits = fits.1

-- two byte strings appended one after another
pub added : (old mid x rest end : List ℕ) → mid ≡ old ++ x → end ≡ mid ++ rest → end ≡ old ++ (x ++ rest)
added old mid x rest end first then = then ∙ ap (λ (l : List ℕ). l ++ rest) first ∙ append_assoc old x rest

module _ {A : Type 0} where
  pub none_and : (o : Option A) (P : A → Type 0) → o ≡ None → IsSomeAnd o P → ⊥
  none_and o P none some = subst (λ (o : Option A). IsSomeAnd o P) none some

  pub some_and : (o : Option A) (P : A → Type 0) (x : A) → o ≡ Some x → IsSomeAnd o P → P x
  some_and o P x is some = subst (λ (o : Option A). IsSomeAnd o P) is some

  pub some_if : (o : Option A) (P : A → Type 0) (x : A) → o ≡ Some x → IfSome o P → P x
  some_if o P x is some = subst (λ (o : Option A). IfSome o P) is some

-- a message that was decoded part by part
pub message_found : (bytes : List ℕ) (message : Message) (size count : ℕ) (beyond counted after rest : List ℕ)
    → bytes ≡ number_of_kind message.destination ∷
    (reply_right_encoding message.reply
    ++ (word message.id ++ (word size ++ (number_of_bool message.complex ∷ beyond))))
    → beyond ≡ word count ++ counted → counted ≡ flat_map carried_encoding message.rights ++ after
    → length message.rights ≡ count → after ≡ message.body ++ rest → size ≡ 24 + length message.body
    → bytes ≡ message_image message ++ rest
message_found bytes message size count beyond counted after rest is count_is rights_are long body_is size_is =
    let all : beyond ≡ after_head message rest =
    count_is ∙ ap (λ (n : ℕ). word n ++ counted) (sym long) ∙ ap
    (λ (l : List ℕ). word (length message.rights) ++ l)
    (rights_are ∙ ap (λ (l : List ℕ). flat_map carried_encoding message.rights ++ l) body_is) in
    is ∙ ap (λ (n : ℕ). number_of_kind message.destination ∷
    (reply_right_encoding message.reply
    ++ (word message.id ++ (word n ++ (number_of_bool message.complex ∷ beyond))))) size_is
    ∙ ap (λ (l : List ℕ). number_of_kind message.destination ∷
    (reply_right_encoding message.reply
    ++ (word message.id ++ (word (message_size message) ++ (number_of_bool message.complex ∷ l))))) all
    ∙ sym (message_apart message rest)

-- a snapshot that was decoded part by part
pub snapshot_found : (version : StoreVersion) (bytes : List ℕ) (snapshot : Snapshot) (beyond after rest : List ℕ)
    → bytes ≡ long_word snapshot.ipc.next_serial ++ beyond
    → beyond ≡ word (length snapshot.ipc.spaces) ++ (flat_map (row_encoding_of version) (rows_of snapshot.ipc.spaces snapshot.kept) ++ after)
    → after ≡ word (length snapshot.ipc.ports) ++ (flat_map live_port_encoding snapshot.ipc.ports ++ rest) → rest ≡ []
    → bytes ≡ snapshot_encoding_of version snapshot
snapshot_found version bytes snapshot beyond after rest is spaces_are ports_are ended =
    is ∙ ap (λ (l : List ℕ). long_word snapshot.ipc.next_serial ++ l)
    (spaces_are ∙ ap (λ (l : List ℕ). word (length snapshot.ipc.spaces) ++ (flat_map (row_encoding_of version) (rows_of snapshot.ipc.spaces snapshot.kept) ++ l))
    (ports_are ∙ ap (λ (l : List ℕ). word (length snapshot.ipc.ports) ++ (flat_map live_port_encoding snapshot.ipc.ports ++ l))
    ended))
    ∙ sym (snapshot_apart version snapshot)

-- the bytes after each of a message's parts
abbrev pub after_complex : Message → List ℕ
after_complex message = word (length message.rights) ++ (flat_map carried_encoding message.rights ++ message.body)

abbrev pub after_size : Message → List ℕ
after_size message = number_of_bool message.complex ∷ after_complex message

abbrev pub after_id : Message → List ℕ
after_id message = word (message_size message) ++ after_size message

abbrev pub after_reply : Message → List ℕ
after_reply message = word message.id ++ after_id message

abbrev pub after_destination : Message → List ℕ
after_destination message = reply_right_encoding message.reply ++ after_reply message

-- a port's encoding, and a snapshot's, appended part by part
pub port_added : (port : PortState) (o a b c d e f g end : List ℕ) → a ≡ o ++ word port.limit
    → b ≡ a ++ word port.sequence_number → c ≡ b ++ word port.make_send_count
    → d ≡ c ++ word (number_or_0 port.set) → e ≡ d ++ long_word (number_or_0 port.no_senders_target)
    → f ≡ e ++ long_word (number_or_0 port.port_destroyed_target)
    → g ≡ f ++ word (length port.messages) → end ≡ g ++ flat_map message_image port.messages
    → end ≡ o ++ port_encoding port
port_added port o a b c d e f g end is_a is_b is_c is_d is_e is_f is_g is_end =
    let to_g : end ≡ f ++ (word (length port.messages) ++ flat_map message_image port.messages) =
    added f g (word (length port.messages)) (flat_map message_image port.messages) end is_g is_end in
    let to_f : end ≡ e ++ (long_word (number_or_0 port.port_destroyed_target)
    ++ (word (length port.messages) ++ flat_map message_image port.messages)) = added e f
    (long_word (number_or_0 port.port_destroyed_target))
    (word (length port.messages) ++ flat_map message_image port.messages) end is_f to_g in
    let after_set : List ℕ =
    long_word (number_or_0 port.no_senders_target)
    ++ (long_word (number_or_0 port.port_destroyed_target)
    ++ (word (length port.messages) ++ flat_map message_image port.messages)) in
    let to_e : end ≡ d ++ after_set =
    added d e (long_word (number_or_0 port.no_senders_target))
    (long_word (number_or_0 port.port_destroyed_target)
    ++ (word (length port.messages) ++ flat_map message_image port.messages)) end is_e to_f in
    let to_d : end ≡ c ++ (word (number_or_0 port.set) ++ after_set) =
    added c d (word (number_or_0 port.set)) after_set end is_d to_e in
    let to_c : end ≡ b ++ (word port.make_send_count ++ (word (number_or_0 port.set) ++ after_set)) =
    added b c (word port.make_send_count) (word (number_or_0 port.set) ++ after_set) end is_c to_d in
    let to_b : end ≡ a ++ (word port.sequence_number
    ++ (word port.make_send_count ++ (word (number_or_0 port.set) ++ after_set))) = added a b
    (word port.sequence_number) (word port.make_send_count ++ (word (number_or_0 port.set) ++ after_set)) end
    is_b to_c in
    added o a (word port.limit) (word port.sequence_number
    ++ (word port.make_send_count ++ (word (number_or_0 port.set) ++ after_set))) end is_a to_b

pub snapshot_added : (snapshot : Snapshot) (o a b c d end : List ℕ) → a ≡ o ++ long_word snapshot.ipc.next_serial
    → b ≡ a ++ word (length snapshot.ipc.spaces) → c ≡ b ++ flat_map (row_encoding_of current) (rows_of snapshot.ipc.spaces snapshot.kept)
    → d ≡ c ++ word (length snapshot.ipc.ports) → end ≡ d ++ flat_map live_port_encoding snapshot.ipc.ports
    → end ≡ o ++ snapshot_encoding snapshot
unfolding snapshot_encoding_of
snapshot_added snapshot o a b c d end is_a is_b is_c is_d is_end =
    let ports : List ℕ = word (length snapshot.ipc.ports) ++ flat_map live_port_encoding snapshot.ipc.ports in
    let to_d : end ≡ c ++ ports =
    added c d (word (length snapshot.ipc.ports)) (flat_map live_port_encoding snapshot.ipc.ports) end is_d is_end in
    let to_c : end ≡ b ++ (flat_map (row_encoding_of current) (rows_of snapshot.ipc.spaces snapshot.kept) ++ ports) =
    added b c (flat_map (row_encoding_of current) (rows_of snapshot.ipc.spaces snapshot.kept)) ports end is_c to_d in
    let to_b : end ≡ a ++ (word (length snapshot.ipc.spaces) ++ (flat_map (row_encoding_of current) (rows_of snapshot.ipc.spaces snapshot.kept) ++ ports)) =
    added a b (word (length snapshot.ipc.spaces)) (flat_map (row_encoding_of current) (rows_of snapshot.ipc.spaces snapshot.kept) ++ ports) end is_b to_c in
    added o a (long_word snapshot.ipc.next_serial)
    (word (length snapshot.ipc.spaces) ++ (flat_map (row_encoding_of current) (rows_of snapshot.ipc.spaces snapshot.kept) ++ ports)) end is_a to_b
