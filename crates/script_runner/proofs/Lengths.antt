-- The lengths of the encodings of replies.
use Rattle.std.proofs.Common.{◌≡◌, ℕ, ◌+◌, ◌*◌, ◌<◌, ◌≤◌, List, [], ◌∷◌, ◌++◌, length, flat_map, ◌^◌, refl, arith, length-append}
use Rattle.ipc_model.specs.declared.plain_reply.NamedType.{NamedType}
use Rattle.ipc_model.specs.declared.plain_reply.PlainReply.{PlainReply}
use Rattle.ipc_model.specs.declared.plain_reply.PlainReply.TheVariants as plain
use Rattle.ipc_model.specs.declared.reply.NumberedReply.{NumberedReply}
use Rattle.ipc_model.specs.declared.reply.Reply.{Reply}
use Rattle.ipc_model.specs.declared.reply.Reply.TheVariants as reply
use Rattle.ipc_model.specs.encodings.Encodings.{numbered_encoding, reply_encoding}
use Rattle.ipc_model.specs.encodings.PlainCalls as plain_calls
use Rattle.script_runner.specs.Replies.{plain_item_count, item_count}
use Rattle.words.specs.Words.{word}

length-names : (names : List NamedType)
    → length (flat_map (λ (n : NamedType). word n.name ++ word n.bits) names) ≡ 8 * length names
length-names [] = refl
length-names (n ∷ names) =
    let others = length-names names in
    omega (
      arith,
      others,
      length-append (word n.name ++ word n.bits)
          (flat_map (λ (m : NamedType). word m.name ++ word m.bits) names),
    )

length-members : (members : List ℕ) → length (flat_map word members) ≡ 4 * length members
length-members [] = refl
length-members (n ∷ members) =
    let others = length-members members in omega (arith, others, length-append (word n) (flat_map word members))

plain_short : (r : PlainReply) → plain_item_count r ≤ 65532 → length (plain_calls.reply_encoding r) ≤ 600000
unfolding plain_calls.reply_encoding
plain_short (plain.Names names) few = let row = length-names names in omega (arith, row, few)
plain_short (plain.SetStatus members) few = let row = length-members members in omega (arith, row, few)
plain_short (plain.Message code size member message) few = omega (arith, few)
plain_short _ few = omega arith

numbered_short : (answer : NumberedReply) → plain_item_count answer.reply ≤ 65532
    → length (numbered_encoding answer) < 2 ^ 32
numbered_short answer few =
    let inner = plain_short answer.reply few in
    let front = length-append (word answer.request) (plain_calls.reply_encoding answer.reply) in
    omega (arith, inner, front)

pub short_reply : (r : Reply) → item_count r ≤ 65532 → length (reply_encoding r) < 2 ^ 32
short_reply (reply.Plain answer) few = let short = plain_short answer few in omega (arith, short)
short_reply (reply.Numbered answer) few = numbered_short answer few
short_reply (reply.Repeated answer) few = numbered_short answer few
