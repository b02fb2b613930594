-- Records that are replayed as they are read.
use Rattle.std.proofs.Common.{◌≡◌, ◌∙◌, ℕ, ◌+◌, ◌-◌, ◌≤◌, List, [], ◌∷◌, ◌++◌, length, drop, refl, sym, ap, subst, arith, length-append, length-drop}
use Rattle.std.specs.Prelude.{◌↔◌}
use Rattle.codes.specs.StoreVersion.{IsNoVersion, version_number}
use Rattle.codes.specs.declared.store_version.StoreVersion.{StoreVersion}
use Rattle.ipc_model.specs.declared.record.Record.{Record}
use Rattle.ipc_model.specs.state.State.{State}
use Rattle.ipc_model.specs.calls.Step.{Replays, Run}
use Rattle.ipc_model.specs.store.Recovery.{version_of}
use Rattle.ipc_model.specs.store.Store.{batches_encoding, all_records, IsClosed, NoneEmpty, AreRecords, AreWithin, EncodesBatches, EncodesSegment, IsWithin, LeavesAnEpoch}
use Rattle.ipc_model.specs.encodings.Encodings.{records_encoding}
use Rattle.ipc_laws.specs.Counted.{EncodesCounted}
use Rattle.ipc_laws.specs.RecoveryLaws.{same_version}
use Rattle.journal.specs.Reading.{MAX_RECORDS, Place, EncodesFrom, Leads, IsLast, IsNothing}
use Rattle.recover.specs.Replayed.{ReplaysFrom, ReplaysAll}

-- Replaying the remaining records in this state gives the same as replaying all records from the start.
pub record IsLeft (version : StoreVersion) (segment : List ℕ) (first place : Place) (old now : State) : Type 0 where
  pub same : (state : State) (count end : ℕ)
      → ReplaysFrom version segment place now state count end ↔ ReplaysFrom version segment first old state count end

-- the records after the first, from the state after it
beyond : (version : StoreVersion) (segment : List ℕ) (place next : Place) (entry : Record) (now mid state : State) (records more : List Record)
    (count end : ℕ) → records ≡ entry ∷ more → EncodesFrom segment next more end
    → ((other : State) → Replays now entry other → other ≡ mid)
    → next.number ≡ place.number + 1 → AreWithin version records → Run now records state
    → count ≡ place.number + length records → ReplaysFrom version segment next mid state count end
beyond version segment place next entry now mid state records more count end are encoded only numbered within run
    counted =
    let first : Run now (entry ∷ more) state = subst (λ (l : List Record). Run now l state) are run in
    record {
      records = more;
      encoded = encoded;
      within = (subst (AreWithin version) are within).1;
      run = subst (λ (s : State). Run s more state) (only first.0 first.1) first.2;
      counted = omega (arith, ap length are);
    }

pub left_on : (version : StoreVersion) (segment : List ℕ) (first place next : Place) (entry : Record) (old now mid : State)
    → IsLeft version segment first place old now → Leads segment place entry next → next.number ≡ place.number + 1
    → IsWithin version entry.call → Replays now entry mid
    → ((other : State) → Replays now entry other → other ≡ mid)
    → IsLeft version segment first next old mid
left_on version segment first place next entry old now mid so_far leads numbered within step only = record {
  same = λ state count end. (
    λ r. (so_far.same state count end).0 (record {
      records = entry ∷ r.records;
      encoded = (leads.on (entry ∷ r.records) end).1 (r.records, refl, r.encoded);
      within = (within, r.within);
      run = (mid, step, r.run);
      counted = omega (arith, r.counted);
    }),
    λ r.
        let here = (so_far.same state count end).1 r in
        let apart = (leads.on here.records end).0 here.encoded in
        beyond version segment place next entry now mid state here.records apart.0 count end apart.1 apart.2 only
        numbered here.within here.run here.counted,
  );
}

-- a record that isn't a step, or isn't allowed in the version
pub none_left : (version : StoreVersion) (segment : List ℕ) (first place next : Place) (entry : Record) (old now : State)
    → IsLeft version segment first place old now → Leads segment place entry next
    → (IsWithin version entry.call → (new : State) → Replays now entry new → ⊥)
    → (state : State) (count end : ℕ)
    → ReplaysFrom version segment first old state count end → ⊥
none_left version segment first place next entry old now so_far leads fails state count end r =
    let here = (so_far.same state count end).1 r in
    let apart = (leads.on here.records end).0 here.encoded in
    let run : Run now (entry ∷ apart.0) state = subst (λ (l : List Record). Run now l state) apart.1 here.run in
    fails (subst (AreWithin version) apart.1 here.within).0 run.0 run.1

-- bytes that encode nothing
pub unread : (version : StoreVersion) (segment : List ℕ) (first place : Place) (old now : State) → IsLeft version segment first place old now
    → IsNothing segment place → (state : State) (count end : ℕ) → ReplaysFrom version segment first old state count end → ⊥
unread version segment first place old now so_far nothing state count end r =
    let here = (so_far.same state count end).1 r in nothing here.records end here.encoded

-- no record is left
pub all_replayed : (version : StoreVersion) (segment : List ℕ) (first place : Place) (old now : State) → IsLeft version segment first place old now
    → IsLast segment place → ReplaysFrom version segment first old now place.number place.at
all_replayed version segment first place old now so_far last =
    (so_far.same now place.number place.at).0
    (record { records = []; encoded = last; within = tt; run = refl; counted = omega arith })

-- the first place of a reader
abbrev pub first_place : ℕ → Place
first_place batches = record { at = batches; number = 0; left = 0; size = 0 }

counted_from : (segment : List ℕ) (batches end : ℕ) (records batch : List Record) (all : List (List Record))
    (tail : List ℕ) → batches ≤ length segment → length batch ≡ 0
    → drop batches segment ≡ records_encoding 0 batch ++ (batches_encoding (0 + length batch) all ++ tail)
    → IsClosed tail → NoneEmpty all → records ≡ batch ++ all_records all → AreRecords records
    → length records ≤ MAX_RECORDS → end + length tail ≡ length segment
    → EncodesCounted (drop batches segment) records (end - batches) × (batches ≤ end) × (end ≤ length segment)
counted_from segment batches end records (first ∷ batch) all tail inside none encoding closed some flat are room ended =
    absurd (omega arith)
counted_from segment batches end records [] all tail inside none encoding closed some flat are room ended =
    let long : length (drop batches segment) ≡ length (batches_encoding 0 all) + length tail =
    ap length encoding ∙ length-append (batches_encoding 0 all) tail in
    let left : length (drop batches segment) ≡ length segment - batches = length-drop batches segment in (
      record {
        encoded =
            record {
              batches = all;
              rest = tail;
              encoding = encoding;
              closed = closed;
              none_empty = some;
              flat = flat;
              canonical = are;
              bounded = room;
            };
        sized = omega arith;
      },
      omega arith,
      omega arith,
    )

pub counted_first : (segment : List ℕ) (batches end : ℕ) (records : List Record) → batches ≤ length segment
    → EncodesFrom segment (first_place batches) records end
    → EncodesCounted (drop batches segment) records (end - batches) × (batches ≤ end) × (end ≤ length segment)
counted_first segment batches end records inside encodes =
    counted_from segment batches end records encodes.batch encodes.batches encodes.tail inside encodes.counted
    encodes.encoding encodes.closed encodes.none_empty encodes.flat encodes.canonical
    (omega (arith, encodes.bounded)) encodes.ended

pub first_encodes : (segment : List ℕ) (batches : ℕ) (records : List Record) → batches ≤ length segment
    → (encoded : EncodesBatches (drop batches segment) records)
    → EncodesFrom segment (first_place batches) records (length segment - length encoded.rest)
first_encodes segment batches records inside encoded =
    let long : length (drop batches segment) ≡ length (batches_encoding 0 encoded.batches) + length encoded.rest =
    ap length encoded.encoding ∙ length-append (batches_encoding 0 encoded.batches) encoded.rest in
    record {
      batch = [];
      batches = encoded.batches;
      tail = encoded.rest;
      encoding = encoded.encoding;
      counted = refl;
      sized = refl;
      closed = encoded.closed;
      none_empty = encoded.none_empty;
      flat = encoded.flat;
      canonical = encoded.canonical;
      bounded = omega (arith, encoded.bounded);
      ended = omega (arith, length-drop batches segment);
    }

pub never_replayed : (version : StoreVersion) (segment : List ℕ) (batches : ℕ) (old : State) → batches ≤ length segment
    → ((state : State) (count end : ℕ) → ReplaysFrom version segment (first_place batches) old state count end → ⊥)
    → (records : List Record) (state : State) → EncodesBatches (drop batches segment) records → AreWithin version records
    → Run old records state → ⊥
never_replayed version segment batches old inside none records state encoded within run =
    none state (length records) (length segment - length encoded.rest)
    (record {
      records = records;
      encoded = first_encodes segment batches records inside encoded;
      within = within;
      run = run;
      counted = omega arith;
    })

-- a segment's header contains its version
pub segment_says : (epoch : ℕ) (segment : List ℕ) (records : List Record)
    → (encodes : EncodesSegment epoch segment records) → version_of segment ≡ version_number encodes.version
segment_says epoch segment records encodes = ap version_of encodes.encoding

pub never_read : (version : StoreVersion) (epoch : ℕ) (segment : List ℕ) (old : State) → 16 ≤ length segment
    → version_of segment ≡ version_number version
    → ((state : State) (count end : ℕ) → ReplaysFrom version segment (first_place 16) old state count end → ⊥)
    → (records : List Record) (state : State) → EncodesSegment epoch segment records → Run old records state → ⊥
never_read version epoch segment old inside says none records state encodes run =
    let same : encodes.version ≡ version =
    same_version encodes.version version (sym (segment_says epoch segment records encodes) ∙ says) in
    let batches : EncodesBatches (drop 16 segment) records =
    subst (λ (l : List ℕ). EncodesBatches l records) (ap (λ (l : List ℕ). drop 16 l) (sym encodes.encoding))
    encodes.encoded in
    never_replayed version segment 16 old inside none records state batches
    (subst (λ (v : StoreVersion). AreWithin v records) same encodes.within) run

-- no version has the number in the header
pub no_version : (epoch : ℕ) (segment : List ℕ) (records : List Record) → IsNoVersion (version_of segment)
    → EncodesSegment epoch segment records → ⊥
no_version epoch segment records none encodes =
    none encodes.version (sym (segment_says epoch segment records encodes))

-- all records were replayed, from the first batch on
pub replayed_all : (version : StoreVersion) (epoch : ℕ) (segment : List ℕ) (old new : State) (count end : ℕ)
    → 16 ≤ length segment → version_of segment ≡ version_number version → LeavesAnEpoch version epoch
    → ReplaysFrom version segment (first_place 16) old new count end → ReplaysAll epoch segment old new count end
replayed_all version epoch segment old new count end inside says next replays =
    let counted = counted_first segment 16 end replays.records inside replays.encoded in
    record {
      version = version;
      says = says;
      next = next;
      records = replays.records;
      within = replays.within;
      encoded = counted.0;
      run = replays.run;
      counted = omega (arith, replays.counted);
      beyond = counted.1;
      inside = counted.2;
    }
