-- Bytes encode the records of at most one list of batches.
use Rattle.std.specs.Prelude.{◌≡◌, ℕ, zero, suc, ◌+◌, ◌*◌, ◌^◌, ◌<◌, ◌≤◌, List, [], ◌∷◌, ◌++◌, length, drop, All}
use Rattle.std.proofs.Common.{refl, sym, ap, ◌∙◌, subst, arith, append_assoc, length-append}
use Rattle.codes.specs.declared.limits.TheConstants.{MAX_RECORDS}
use Rattle.ipc_model.specs.declared.record.Record.{Record}
use Rattle.ipc_laws.specs.ListLaws.{same_back}
use Rattle.ipc_model.specs.store.Store.{open_gate, batch_encoding, batches_encoding, all_records, segment_header_of, IsClosed, AreRecords, EncodesBatches, EncodesSegment}
use Rattle.ipc_laws.specs.EncodingLaws.{word_once, long_word_once}
use Rattle.ipc_laws.specs.RecordEncodings.{records_once}
use Rattle.ipc_laws.specs.CanonicalRecords.{canonical_call_long}
use Rattle.ipc_model.specs.encodings.Encodings.{call_encoding, canonical_call, reply_encoding, record_encoding, records_encoding, IsRecord}
use Rattle.words.specs.WordLaws.{length-word, length-long_word}
use Rattle.words.specs.Words.{word, long_word, frame_encoding}

-- equal bytes that begin with a count and a size
pub same_heads : (m n s t : ℕ) (us vs : List ℕ) → m < 2 ^ 32 → n < 2 ^ 32 → s < 2 ^ 64 → t < 2 ^ 64
    → word m ++ (long_word s ++ us) ≡ word n ++ (long_word t ++ vs) → (m ≡ n) × (s ≡ t) × (us ≡ vs)
same_heads m n s t us vs m_fits n_fits s_fits t_fits is =
    let first = word_once m n (long_word s ++ us) (long_word t ++ vs) m_fits n_fits is in
    let second = long_word_once s t us vs s_fits t_fits first.1 in
    (first.0, second.0, second.1)

-- a batch's encoding in its parts, and what follows it
pub batch_apart : (n : ℕ) (records : List Record) (rest : List ℕ)
    → batch_encoding n records ++ rest ≡ word (length records)
    ++ (long_word (length (records_encoding n records)) ++ (records_encoding n records ++ rest))
unfolding batch_encoding
batch_apart n records rest =
    let encoding = records_encoding n records in
    append_assoc (word (length records)) (long_word (length encoding) ++ encoding) rest ∙ ap
    (λ l. word (length records) ++ l) (append_assoc (long_word (length encoding)) encoding rest)

pub length-batch : (n : ℕ) (records : List Record) (rest : List ℕ)
    → length (batch_encoding n records ++ rest) ≡ 12 + length (records_encoding n records) + length rest
length-batch n records rest =
    let encoding = records_encoding n records in
    ap length (batch_apart n records rest)
    ∙ omega (
      arith,
      length-append (word (length records)) (long_word (length encoding) ++ (encoding ++ rest)),
      length-append (long_word (length encoding)) (encoding ++ rest),
      length-append encoding rest,
      length-word (length records),
      length-long_word (length encoding),
    )

length-frame : (content : List ℕ) → length (frame_encoding content) ≡ 4 + length content
length-frame content = omega (arith, length-append (word (length content)) content, length-word (length content))

-- a record's bytes: its number, its space, and two frames
pub length-record_encoding : (n : ℕ) (entry : Record)
    → length (record_encoding n entry) ≡ 20 + length (call_encoding entry.call) + length (reply_encoding entry.reply)
unfolding record_encoding
length-record_encoding n entry =
    let calls = frame_encoding (call_encoding (canonical_call entry.call)) in
    let replies = frame_encoding (reply_encoding entry.reply) in
    let beyond = word entry.space ++ (calls ++ replies) in
    omega (
      arith,
      length-append (long_word n) beyond,
      length-append (word entry.space) (calls ++ replies),
      length-append calls replies,
      length-long_word n,
      length-word entry.space,
      length-frame (call_encoding (canonical_call entry.call)),
      canonical_call_long entry.call,
      length-frame (reply_encoding entry.reply),
    )

-- A record that a segment may hold has fewer than 2^34 bytes.
pub record_is_short : (n : ℕ) (entry : Record) → IsRecord entry → length (record_encoding n entry) < 2 ^ 34
record_is_short n entry is = omega (arith, length-record_encoding n entry, is.frames.0, is.frames.1)

pub length-records_encoding : (n : ℕ) (records : List Record) → AreRecords records
    → length (records_encoding n records) ≤ 2 ^ 34 * length records
length-records_encoding n [] are = omega arith
length-records_encoding n (first ∷ records) are =
    omega (
      arith,
      length-append (record_encoding n first) (records_encoding (n + 1) records),
      record_is_short n first are.0,
      length-records_encoding (n + 1) records are.1,
    )

-- as many records as a segment may hold have a size of eight bytes
pub records_are_short : (n : ℕ) (records : List Record) → AreRecords records → length records ≤ MAX_RECORDS
    → length (records_encoding n records) < 2 ^ 64
records_are_short n records are room = omega (arith, length-records_encoding n records are, room)

-- each of the records is one that a segment may hold
pub each_is_record : (records : List Record) → AreRecords records → All IsRecord records
each_is_record [] are k d less = absurd (omega (arith, less))
each_is_record (first ∷ records) are zero d less = are.0
each_is_record (first ∷ records) are (suc k) d less = each_is_record records are.1 k d (omega (arith, less))

-- equal bytes that begin with as many records
pub same_records : (n : ℕ) (more more_too : List Record) (x y : List ℕ) → AreRecords more → AreRecords more_too
    → length more ≡ length more_too → n + length more < 2 ^ 64
    → records_encoding n more ++ x ≡ records_encoding n more_too ++ y → (more ≡ more_too) × (x ≡ y)
same_records n more more_too x y are are_too long room is =
    records_once n more more_too x y (each_is_record more are) (each_is_record more_too are_too) long room is

-- equal bytes that begin with a batch
pub same_batches : (n : ℕ) (a b : List Record) (x y : List ℕ) → AreRecords a → AreRecords b → n + length a ≤ MAX_RECORDS
    → n + length b ≤ MAX_RECORDS → batch_encoding n a ++ x ≡ batch_encoding n b ++ y → (a ≡ b) × (x ≡ y)
same_batches n a b x y are are_too room room_too is =
    let heads =
    same_heads (length a) (length b) (length (records_encoding n a)) (length (records_encoding n b))
    (records_encoding n a ++ x) (records_encoding n b ++ y)
    (omega arith) (omega arith) (records_are_short n a are (omega arith)) (records_are_short n b are_too (omega arith))
    (sym (batch_apart n a x) ∙ is ∙ batch_apart n b y) in
    same_records n a b x y are are_too heads.0 (omega arith) heads.2

pub are_records-front : (xs ys : List Record) → AreRecords (xs ++ ys) → AreRecords xs
are_records-front [] ys both = tt
are_records-front (first ∷ xs) ys both = (both.0, are_records-front xs ys both.1)

pub are_records-back : (xs ys : List Record) → AreRecords (xs ++ ys) → AreRecords ys
are_records-back [] ys both = both
are_records-back (first ∷ xs) ys both = are_records-back xs ys both.1

-- equal encodings of batches up to a gate that isn't open
same_encoding : (n : ℕ) (more more_too : List (List Record)) (x y : List ℕ) → IsClosed x → IsClosed y
    → AreRecords (all_records more) → AreRecords (all_records more_too)
    → n + length (all_records more) ≤ MAX_RECORDS → n + length (all_records more_too) ≤ MAX_RECORDS
    → batches_encoding n more ++ x ≡ batches_encoding n more_too ++ y → (all_records more ≡ all_records more_too)
    × (x ≡ y)
same_encoding n [] [] x y closed closed_too are are_too room room_too is = (refl, is)
same_encoding n [] (b ∷ more_too) x y closed closed_too are are_too room room_too is =
    absurd (subst IsClosed is closed refl)
same_encoding n (a ∷ more) [] x y closed closed_too are are_too room room_too is =
    absurd (subst IsClosed (sym is) closed_too refl)
same_encoding n (a ∷ more) (b ∷ more_too) x y closed closed_too are are_too room room_too is =
    let long : length (a ++ all_records more) ≡ length a + length (all_records more) =
    length-append a (all_records more) in
    let long_too : length (b ++ all_records more_too) ≡ length b + length (all_records more_too) =
    length-append b (all_records more_too) in
    let whole =
    sym (append_assoc (batch_encoding n a) (batches_encoding (n + length a) more) x) ∙ ap (λ l. drop 1 l) is
    ∙ append_assoc (batch_encoding n b) (batches_encoding (n + length b) more_too) y in
    let first =
    same_batches n a b (batches_encoding (n + length a) more ++ x) (batches_encoding (n + length b) more_too ++ y)
    (are_records-front a (all_records more) are) (are_records-front b (all_records more_too) are_too) (omega arith)
    (omega arith) whole in
    let counts : length a ≡ length b = ap length first.0 in
    let beyond : batches_encoding (n + length a) more ++ x ≡ batches_encoding (n + length a) more_too ++ y =
    first.1 ∙ ap (λ k. batches_encoding (n + k) more_too ++ y) (sym counts) in
    let others =
    same_encoding (n + length a) more more_too x y closed closed_too (are_records-back a (all_records more) are)
    (are_records-back b (all_records more_too) are_too) (omega arith) (omega arith) beyond in
    ((λ i. first.0 i ++ others.0 i), others.1)

-- Bytes after a segment's header encode at most one list of records.
pub one_reading : (bytes : List ℕ) (r1 r2 : List Record) → EncodesBatches bytes r1 → EncodesBatches bytes r2 → r1 ≡ r2
one_reading bytes r1 r2 is is_too =
    let same =
    same_encoding 0 is.batches is_too.batches is.rest is_too.rest is.closed is_too.closed
    (subst AreRecords is.flat is.canonical) (subst AreRecords is_too.flat is_too.canonical)
    (omega (arith, is.bounded, ap length is.flat)) (omega (arith, is_too.bounded, ap length is_too.flat))
    (sym is.encoding ∙ is_too.encoding) in
    is.flat ∙ same.0 ∙ sym is_too.flat

-- A segment encodes at most one list of records, under one epoch.
pub one_segment : (epoch : ℕ) (bytes : List ℕ) (r1 r2 : List Record) → EncodesSegment epoch bytes r1
    → EncodesSegment epoch bytes r2 → r1 ≡ r2
one_segment epoch bytes r1 r2 is is_too =
    let same =
    same_back (segment_header_of is.version open_gate epoch) (segment_header_of is_too.version open_gate epoch) is.content
    is_too.content refl (sym is.encoding ∙ is_too.encoding) in
    one_reading is_too.content r1 r2 (subst (λ content. EncodesBatches content r1) same is.encoded) is_too.encoded
