-- Lengths of encoded rows.
use Rattle.std.proofs.Common.{◌≡◌, ℕ, ◌+◌, ◌*◌, ◌<◌, ◌≤◌, List, [], ◌∷◌, ◌++◌, length, take, flat_map, refl, subst, ap, arith, length-append, length-take}
use Rattle.codes.specs.declared.kern_return.KernReturn.{KernReturn}
use Rattle.ipc_model.specs.declared.plain_reply.NamedType.{NamedType}
use Rattle.ipc_model.specs.declared.plain_reply.PlainReply.{PlainReply}
use Rattle.ipc_model.specs.declared.plain_reply.PlainReply.TheVariants as reply
use Rattle.ipc_model.specs.encodings.PlainCalls.{reply_encoding}
use Rattle.words.specs.Words.{word}
use Rattle.calls.specs.Rows.{names_encoding}

pub length-names_encoding : (names : List NamedType) → length (names_encoding names) ≡ 8 * length names
length-names_encoding [] = refl
length-names_encoding (n ∷ names) =
    let others = length-names_encoding names in
    omega (arith, others, length-append (word n.name ++ word n.bits) (names_encoding names))

pub length-words_text : (numbers : List ℕ) → length (flat_map word numbers) ≡ 4 * length numbers
length-words_text [] = refl
length-words_text (n ∷ numbers) =
    let others = length-words_text numbers in omega (arith, others, length-append (word n) (flat_map word numbers))

-- rows of a reply with a short encoding are short
pub length-names_reply : (names : List NamedType) → length (reply_encoding (reply.Names names)) ≡ 12 + 8 * length names
unfolding reply_encoding
length-names_reply names = let row = length-names_encoding names in omega (arith, row)

pub length-members_reply : (members : List ℕ)
    → length (reply_encoding (reply.SetStatus members)) ≡ 12 + 4 * length members
unfolding reply_encoding
length-members_reply members = let row = length-words_text members in omega (arith, row)

pub few_names : (r : PlainReply) (names : List NamedType) (most : ℕ) → r ≡ reply.Names names
    → length (reply_encoding r) ≤ most → 12 + 8 * length names ≤ most
few_names r names most is short =
    let few : length (reply_encoding (reply.Names names)) ≤ most =
    subst (λ (x : PlainReply). length (reply_encoding x) ≤ most) is short in
    omega (arith, few, length-names_reply names)

pub few_members : (r : PlainReply) (members : List ℕ) (most : ℕ) → r ≡ reply.SetStatus members
    → length (reply_encoding r) ≤ most → 12 + 4 * length members ≤ most
few_members r members most is short =
    let few : length (reply_encoding (reply.SetStatus members)) ≤ most =
    subst (λ (x : PlainReply). length (reply_encoding x) ≤ most) is short in
    omega (arith, few, length-members_reply members)

-- there is room for one more item of a row after the first i items
pub words_room : (old content numbers : List ℕ) (i : ℕ) → content ≡ old ++ flat_map word (take i numbers)
    → i < length numbers → length content + 4 ≤ length old + 4 * length numbers
words_room old content numbers i is less =
    let added = length-words_text (take i numbers) in
    omega (arith, ap length is, length-append old (flat_map word (take i numbers)), added, length-take i numbers)

pub names_room : (old content : List ℕ) (names : List NamedType) (i : ℕ)
    → content ≡ old ++ names_encoding (take i names) → i < length names
    → length content + 8 ≤ length old + 8 * length names
names_room old content names i is less =
    let added = length-names_encoding (take i names) in
    omega (arith, ap length is, length-append old (names_encoding (take i names)), added, length-take i names)

pub few_bytes : (r : PlainReply) (code : KernReturn) (size member : ℕ) (message : List ℕ) (most : ℕ)
    → r ≡ reply.Message code size member message → length (reply_encoding r) ≤ most → 16 + length message ≤ most
unfolding reply_encoding
few_bytes r code size member message most is short =
    let few : length (reply_encoding (reply.Message code size member message)) ≤ most =
    subst (λ (x : PlainReply). length (reply_encoding x) ≤ most) is short in
    omega (arith, few)
