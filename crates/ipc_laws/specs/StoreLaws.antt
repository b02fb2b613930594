-- What a segment encodes as batches are appended to it, at every moment of that.
use Rattle.std.specs.Prelude.{◌≡◌, ℕ, ◌+◌, ◌<◌, List, [], ◌∷◌, ◌++◌, length}
use Rattle.std.proofs.Common.{refl, sym, ap, ◌∙◌, arith, append_assoc, length-append}
use Rattle.std.proofs.lemmas.List.{append-nil}
use Rattle.codes.specs.StoreVersion.{current}
use Rattle.codes.specs.declared.store_version.StoreVersion.{StoreVersion}
use Rattle.ipc_model.specs.declared.call.Call.{Call}
use Rattle.ipc_model.specs.declared.call.Call.TheVariants.{Plain, Numbered, Unnumberable}
use Rattle.ipc_model.specs.declared.plain_call.PlainCall.{PlainCall}
use Rattle.ipc_model.specs.declared.plain_call.PlainCall.TheVariants.{SetQlimit}
use Rattle.ipc_model.specs.declared.record.Record.{Record}
use Rattle.ipc_model.specs.store.Store.{open_gate, batch_encoding, batches_encoding, all_records, IsClosed, NoneEmpty, AreRecords, AreWithin, IsWithin, EncodesBatches, EncodesSegment, IsInUseOf}

pub all_records-push : (batches : List (List Record)) (batch : List Record)
    → all_records (batches ++ batch ∷ []) ≡ all_records batches ++ batch
all_records-push [] batch = append-nil batch
all_records-push (first ∷ batches) batch =
    ap (λ l. first ++ l) (all_records-push batches batch) ∙ sym (append_assoc first (all_records batches) batch)

pub batches_encoding-push : (n : ℕ) (batches : List (List Record)) (batch : List Record)
    → batches_encoding n (batches ++ batch ∷ []) ≡ batches_encoding n batches
    ++ (open_gate ∷ batch_encoding (n + length (all_records batches)) batch)
batches_encoding-push n [] batch =
    ap (λ l. open_gate ∷ l) (append-nil (batch_encoding n batch) ∙ ap (λ k. batch_encoding k batch) (omega arith))
batches_encoding-push n (first ∷ batches) batch =
    ap (λ l. open_gate ∷ (batch_encoding n first ++ l))
    (batches_encoding-push (n + length first) batches batch ∙ ap
    (λ k. batches_encoding (n + length first) batches ++ (open_gate ∷ batch_encoding k batch))
    (omega (arith, length-append first (all_records batches))))
    ∙ ap (λ l. open_gate ∷ l) (sym
    (append_assoc (batch_encoding n first) (batches_encoding (n + length first) batches) _))

pub none_empty-push : (batches : List (List Record)) (batch : List Record) → NoneEmpty batches → 0 < length batch
    → NoneEmpty (batches ++ batch ∷ [])
none_empty-push [] batch none some = (some, tt)
none_empty-push (first ∷ batches) batch none some = (none.0, none_empty-push batches batch none.1 some)

pub are_records-join : (xs ys : List Record) → AreRecords xs → AreRecords ys → AreRecords (xs ++ ys)
are_records-join [] ys front back = back
are_records-join (first ∷ xs) ys front back = (front.0, are_records-join xs ys front.1 back)

-- the same batches, followed by something else that is closed
pub other_end : (content : List ℕ) (records : List Record) (s : EncodesBatches content records) (rest : List ℕ)
    → IsClosed rest → EncodesBatches (batches_encoding 0 s.batches ++ rest) records
other_end content records s rest closed = record {
  batches = s.batches;
  rest = rest;
  encoding = refl;
  closed = closed;
  none_empty = s.none_empty;
  flat = s.flat;
  canonical = s.canonical;
  bounded = s.bounded;
}

-- a segment in use encodes its records
pub in_use_encodes : {version : StoreVersion} (epoch : ℕ) (bytes : List ℕ) (records : List Record)
    → IsInUseOf version epoch bytes records → EncodesSegment epoch bytes records
in_use_encodes {version = version} epoch bytes records used = record {
  version = version;
  content = used.content;
  encoding = used.encoding;
  encoded = used.encoded;
  within = used.within;
  next = used.next;
}

-- what more records may be in a segment of a version, and all of the current one's
pub within-join : (version : StoreVersion) (records more : List Record) → AreWithin version records
    → AreWithin version more → AreWithin version (records ++ more)
within-join version [] more are are_too = are_too
within-join version (first ∷ records) more are are_too = (are.0, within-join version records more are.1 are_too)

pub within_current : (c : Call) → IsWithin current c
within_current (Plain c) = plain_within c
  where
    plain_within : (c : PlainCall) → IsWithin current (Plain c)
    plain_within (SetQlimit name limit) = tt
    plain_within c = tt
within_current (Numbered numbered) = tt
within_current Unnumberable = tt

pub all_within : (records : List Record) → AreWithin current records
all_within [] = tt
all_within (first ∷ records) = (within_current first.call, all_within records)
