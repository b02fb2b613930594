-- A store with the invariant represents its state. Appending a batch keeps the invariant, and so does the begin of a
-- checkpoint.
use Rattle.std.proofs.Common.{◌≡◌, ◌⊎◌, inl, inr, ℕ, suc, ◌+◌, ◌^◌, ◌<◌, ◌≤◌, List, [], ◌∷◌, ◌++◌, length, refl, sym, ap, subst, ◌∙◌, arith, length-append}
use Rattle.std.specs.Prelude.{Option, None, Some, map}
use Rattle.codes.specs.declared.limits.TheConstants.{MAX_RECORDS}
use Rattle.disk.specs.Moments.{View, MayLeave, Passes, Follows, IsSynced}
use Rattle.disk.specs.Slots.{Slots, slot_of, with_slot}
use Rattle.ipc_laws.specs.CanonicalRecords.{canonical_call_again}
use Rattle.ipc_laws.specs.RunLaws.{run_as_canonical}
use Rattle.ipc_laws.specs.StoreLaws.{in_use_encodes}
use Rattle.ipc_model.specs.calls.Step.{Run}
use Rattle.ipc_model.specs.declared.call.Call.{Call}
use Rattle.ipc_model.specs.declared.record.Record.{Record}
use Rattle.ipc_model.specs.state.State.{State}
use Rattle.ipc_model.specs.store.Recovery.{IsImageOf}
use Rattle.ipc_model.specs.store.Store.{IsInUse, IsMidAppend, EncodesSegment, batch_encoding, with_batch}
use Rattle.ipc_model.specs.encodings.Encodings.{call_encoding, canonical_record, record_encoding, records_encoding, reply_encoding}
use Rattle.journal.specs.Batch.{BatchValue, Holds, content_of}
use Rattle.journal.specs.BatchLaws.{batch_of_records}
use Rattle.journal.specs.declared.segment.Segment.{Segment}
use Rattle.store_half.proofs.phases.Alongside.{imaging_alongside, without_alongside}
use Rattle.store_half.proofs.phases.Stops.{first_left, imaging_synced, second_left}
use Rattle.store_half.specs.phases.Batches.{IsReadyBatch, with_more}
use Rattle.store_half.specs.phases.Phases.{InFirst, InSecond, IsRolling, Keeps, without_image}
use Rattle.recover.proofs.Gates.{append_keeps_gate, in_use_has_gate}
use Rattle.recover.proofs.Rest.{rest_after, rest_but, rest_is_synced}
use Rattle.recover.proofs.Stages.{one_stands, run_join, two_stands}
use Rattle.recover.specs.Kept.{IsKept}
use Rattle.slot_steps.proofs.Lengths.{own_of}
use Rattle.disk.proofs.Moments.{with_own}
use Rattle.slot_steps.specs.Steps.{image_slot, segment_slot}
use Rattle.store_layout.proofs.Appended.{in_use_with, mid_encodes}
use Rattle.store_layout.specs.Changes.{one_image_changed, one_segment_changed, shut_image, two_segment_changed}
use Rattle.store_layout.specs.Gates.{HasLastGate, StandForState}
use Rattle.store_layout.specs.Slots.{alongside_segment, own_segment}
use Rattle.store_layout.specs.Standing.{InOne, InTwo}
use Rattle.store_half.specs.Changes.{IsAppended, PassesAppend}
use Rattle.store_half.specs.Values.{CheckpointValue, CutValue, begun}
use Rattle.words.specs.Words.{frame_encoding, long_word, word}

-- the canonical form of a record has the record's encoding
kept_encoding : (n : ℕ) (entry : Record) → record_encoding n (canonical_record entry) ≡ record_encoding n entry
unfolding record_encoding
kept_encoding n entry =
    ap (λ (c : Call). long_word n ++
    (word entry.space ++ (frame_encoding (call_encoding c) ++ frame_encoding (reply_encoding entry.reply))))
    (canonical_call_again entry.call)

kept_encodings : (n : ℕ) (records : List Record)
    → records_encoding n (map canonical_record records) ≡ records_encoding n records
kept_encodings n [] = refl
kept_encodings n (first ∷ records) = λ i. kept_encoding n first i ++ kept_encodings (n + 1) records i

map_long : (records : List Record) → length (map canonical_record records) ≡ length records
map_long [] = refl
map_long (first ∷ records) = ap suc (map_long records)

pub holds_kept : (n : ℕ) (records : List Record) (batch : BatchValue) → Holds n records batch
    → content_of batch ≡ batch_encoding n (map canonical_record records)
holds_kept n records batch holds =
    batch_of_records n (map canonical_record records) batch
    (record {
      counted = holds.counted ∙ sym (map_long records);
      encoding = holds.encoding ∙ sym (kept_encodings n records);
    })

-- The records of the segment in use lead from some state to the store's. If the segment has other records instead, all
-- contents after a crash represent the state that those lead to.
record HasSegment (disk : View) (segment : Segment) (state : State) : Type 0 where
  base : State
  records : List Record
  in_use : IsInUse segment.epoch (slot_of disk.seen (segment_slot segment.epoch)) records
  run : Run base records state
  counted : segment.records ≡ length records
  synced : IsSynced disk (segment_slot segment.epoch)
  others : (c : Slots) → MayLeave disk c → (x : List ℕ) (more : List Record) (after : State)
      → EncodesSegment segment.epoch x more → Run base more after → HasLastGate x
      → StandForState after (with_slot c (segment_slot segment.epoch) x)

kept_has : (disk : View) (segment : Segment) (state : State) → IsKept disk segment state → HasSegment disk segment state
kept_has disk segment state kept = record {
  base = kept.base;
  records = kept.records;
  in_use = kept.in_use;
  run = kept.run;
  counted = kept.counted;
  synced = rest_is_synced (segment_slot segment.epoch) disk kept.at_rest;
  others = λ c left x more after encoded run gate.
      let e = segment.epoch in
      let one : InOne c e kept.base kept.records =
      subst (λ (s : Slots). InOne s e kept.base kept.records) (sym (kept.at_rest c left)) kept.stands in
      one_stands (with_slot c (segment_slot e) x) e kept.base after more
      (one_segment_changed c e kept.base kept.records more x one encoded) run
      (subst HasLastGate (sym (own_segment c x e)) gate);
}

first_has : (disk : View) (segment : Segment) (checkpoint : CheckpointValue) (state : State)
    → InFirst disk segment checkpoint state → HasSegment disk segment state
first_has disk segment checkpoint state phase = record {
  base = phase.base;
  records = phase.records;
  in_use = phase.in_use;
  run = phase.run;
  counted = phase.counted;
  synced = imaging_synced disk segment.epoch checkpoint.imaged phase.imaging segment.epoch;
  others = λ c left x more after encoded run gate.
      let e = segment.epoch in
      one_stands (with_slot c (segment_slot e) x) e phase.base after more
      (one_segment_changed c e phase.base phase.records more x
      (first_left disk segment checkpoint state phase c left) encoded) run
      (subst HasLastGate (sym (own_segment c x e)) gate);
}

second_has : (disk : View) (segment : Segment) (checkpoint : CheckpointValue) (mid state : State)
    → InSecond disk segment checkpoint mid state → HasSegment disk segment state
second_has disk segment checkpoint mid state phase = record {
  base = mid;
  records = phase.records;
  in_use =
      subst (λ (n : ℕ). IsInUse n (slot_of disk.seen (segment_slot n)) phase.records) (sym phase.next) phase.in_use;
  run = phase.run;
  counted = phase.counted;
  synced = imaging_synced disk phase.former checkpoint.imaged phase.imaging segment.epoch;
  others = λ c left x more after encoded run gate.
      let e = phase.former in
      let two =
      two_segment_changed c e phase.base phase.first phase.records more x
      (second_left disk segment checkpoint mid state phase c left)
      (subst (λ (n : ℕ). EncodesSegment n x more) phase.next encoded) in
      subst (λ (n : ℕ). StandForState after (with_slot c (segment_slot n) x)) (sym phase.next)
      (two_stands (with_slot c (segment_slot (e + 1)) x) e phase.base mid after phase.first more two phase.run_first run
      (subst HasLastGate (sym (own_segment c x (e + 1))) gate));
}

has_segment : (disk : View) (segment : Segment) (checkpoint : Option CheckpointValue) (mid state : State)
    → Keeps disk segment checkpoint mid state → HasSegment disk segment state
has_segment disk segment None mid state keeps = kept_has disk segment state keeps
has_segment disk segment (Some checkpoint) mid state keeps = elim keeps.phase [
  | inl first ↦ first_has disk segment checkpoint state first
  | inr second ↦ second_has disk segment checkpoint mid state second
]

pub kept_synced : (disk : View) (segment : Segment) (checkpoint : Option CheckpointValue) (mid state : State)
    → Keeps disk segment checkpoint mid state → IsSynced disk (segment_slot segment.epoch)
kept_synced disk segment checkpoint mid state keeps = (has_segment disk segment checkpoint mid state keeps).synced

-- all contents that a crash leaves of a store with the invariant represent its state
pub kept_stands : (disk : View) (segment : Segment) (checkpoint : Option CheckpointValue) (mid state : State)
    → Keeps disk segment checkpoint mid state → (c : Slots) → MayLeave disk c → StandForState state c
kept_stands disk segment checkpoint mid state keeps c left =
    let has = has_segment disk segment checkpoint mid state keeps in
    let slot = segment_slot segment.epoch in
    let used : IsInUse segment.epoch (slot_of c slot) has.records =
    subst (λ (l : List ℕ). IsInUse segment.epoch l has.records) (sym (has.synced c left)) has.in_use in
    subst (StandForState state) (with_own slot c)
    (has.others c left (slot_of c slot) has.records state
    (in_use_encodes segment.epoch (slot_of c slot) has.records used) has.run
    (in_use_has_gate segment.epoch (slot_of c slot) has.records used))

-- Records that are stored after others.
module _ (segment : Segment) (base before after : State) (stored records : List Record) (batch : BatchValue)
    (run : Run base stored before) (counted : segment.records ≡ length stored)
    (is : IsReadyBatch before after segment.records records batch) where
  more_run : Run base (stored ++ map canonical_record records) after
  more_run =
      run_join base before after stored (map canonical_record records) run
      ((run_as_canonical before records after is.fit).1 is.run)

  more_counted : segment.records + length records ≡ length (stored ++ map canonical_record records)
  more_counted = omega (arith, counted, length-append stored (map canonical_record records), map_long records)

  encoding_is : content_of batch ≡ batch_encoding (length stored) (map canonical_record records)
  encoding_is =
      holds_kept segment.records records batch is.holds ∙ ap
      (λ (n : ℕ). batch_encoding n (map canonical_record records)) counted

  more_some : 0 < length (map canonical_record records)
  more_some = omega (arith, is.some, map_long records)

  more_room : length stored + length (map canonical_record records) ≤ MAX_RECORDS
  more_room = omega (arith, is.room, counted, map_long records)

  more_in_use : (e : ℕ) (bytes : List ℕ) → IsInUse e bytes stored
      → IsInUse e (with_batch bytes (content_of batch)) (stored ++ map canonical_record records)
  more_in_use e bytes used =
      subst (λ (t : List ℕ). IsInUse e (with_batch bytes t) (stored ++ map canonical_record records)) (sym encoding_is)
      (in_use_with e bytes stored (map canonical_record records) used is.are more_some more_room)

  more_mid : (e : ℕ) (bytes now : List ℕ) → IsInUse e bytes stored → IsMidAppend bytes (content_of batch) now
      → EncodesSegment e now stored ⊎ EncodesSegment e now (stored ++ map canonical_record records)
  more_mid e bytes now used mid =
      mid_encodes e bytes now stored (map canonical_record records) used is.are more_some more_room
      (subst (λ (t : List ℕ). IsMidAppend bytes t now) encoding_is mid)

  more_gate : (e : ℕ) (bytes now : List ℕ) → IsInUse e bytes stored → IsMidAppend bytes (content_of batch) now
      → HasLastGate now
  more_gate e bytes now used mid =
      append_keeps_gate e bytes now stored (map canonical_record records) used more_some is.are more_room
      (subst (λ (t : List ℕ). IsMidAppend bytes t now) encoding_is mid)

-- a crash at any moment of the append leaves the state before it or after it
pub append_mid : (old : View) (segment : Segment) (checkpoint : Option CheckpointValue) (mid before after : State)
    (records : List Record) (batch : BatchValue) → Keeps old segment checkpoint mid before
    → IsReadyBatch before after segment.records records batch
    → (c : Slots) → Follows old (segment_slot segment.epoch) (λ was now. IsMidAppend was (content_of batch) now) c
    → StandForState before c ⊎ StandForState after c
append_mid old segment checkpoint mid before after records batch keeps is c made =
    let has = has_segment old segment checkpoint mid before keeps in
    let slot = segment_slot segment.epoch in
    let x = slot_of c slot in
    let used : IsInUse segment.epoch (slot_of made.0 slot) has.records =
    subst (λ (l : List ℕ). IsInUse segment.epoch l has.records) (sym (has.synced made.0 made.1)) has.in_use in
    let gate : HasLastGate x =
    more_gate segment has.base before after has.records records batch has.run has.counted is segment.epoch
    (slot_of made.0 slot) x used made.2 in
    let stands : (more : List Record) (state : State) → EncodesSegment segment.epoch x more → Run has.base more state
    → StandForState state c =
    λ more state encoded run. subst (StandForState state) (sym made.3)
    (has.others made.0 made.1 x more state encoded run gate) in
    elim (more_mid segment has.base before after has.records records batch has.run has.counted is segment.epoch
    (slot_of made.0 slot) x used made.2) [
      | inl encoded ↦ inl (stands has.records before encoded has.run)
      | inr encoded ↦ inr (stands (has.records ++ map canonical_record records) after encoded
          (more_run segment has.base before after has.records records batch has.run has.counted is))
    ]

-- After the append the invariant holds, with the new records.

kept_append : (old new : View) (segment : Segment) (before after : State) (records : List Record) (batch : BatchValue)
    → IsKept old segment before → IsReadyBatch before after segment.records records batch
    → IsAppended segment.epoch old.seen new.seen batch → IsSynced new (segment_slot segment.epoch)
    → PassesAppend segment.epoch old new batch → IsKept new (with_more segment (length records)) after
kept_append old new segment before after records batch kept is written synced time =
    let e = segment.epoch in
    let slot = segment_slot e in
    let bytes : List ℕ = with_batch (slot_of old.seen slot) (content_of batch) in
    let more : List Record = kept.records ++ map canonical_record records in
    let used =
    more_in_use segment kept.base before after kept.records records batch kept.run kept.counted is e
    (slot_of old.seen slot) kept.in_use in
    record {
      at_rest =
          rest_after slot old new (λ was now. IsMidAppend was (content_of batch) now) bytes time written synced
          kept.at_rest;
      base = kept.base;
      records = more;
      stands =
          subst (λ (s : Slots). InOne s e kept.base more) (sym written)
          (one_segment_changed old.seen e kept.base kept.records more bytes kept.stands
          (in_use_encodes e bytes more used));
      in_use = subst (λ (l : List ℕ). IsInUse e l more) (sym (own_of slot old.seen new.seen bytes written)) used;
      run = more_run segment kept.base before after kept.records records batch kept.run kept.counted is;
      counted = more_counted segment kept.base before after kept.records records batch kept.run kept.counted is;
    }

first_append : (old new : View) (segment : Segment) (checkpoint : CheckpointValue) (before after : State)
    (records : List Record) (batch : BatchValue) → InFirst old segment checkpoint before
    → IsReadyBatch before after segment.records records batch
    → IsAppended segment.epoch old.seen new.seen batch → IsSynced new (segment_slot segment.epoch)
    → PassesAppend segment.epoch old new batch → InFirst new (with_more segment (length records)) checkpoint after
first_append old new segment checkpoint before after records batch phase is written synced time =
    let e = segment.epoch in
    let slot = segment_slot e in
    let step : List ℕ → List ℕ → Type 0 = λ was now. IsMidAppend was (content_of batch) now in
    let bytes : List ℕ = with_batch (slot_of old.seen slot) (content_of batch) in
    let more : List Record = phase.records ++ map canonical_record records in
    let used =
    more_in_use segment phase.base before after phase.records records batch phase.run phase.counted is e
    (slot_of old.seen slot) phase.in_use in
    let next_stays : slot_of new.seen (segment_slot (e + 1)) ≡ slot_of old.seen (segment_slot (e + 1)) =
    ap (λ (s : Slots). slot_of s (segment_slot (e + 1))) written ∙ (alongside_segment old.seen bytes e).2 in
    record {
      before = phase.before;
      next = phase.next;
      fits = phase.fits;
      imaging = imaging_alongside old new e step bytes time written synced e checkpoint.imaged phase.imaging;
      rolling = subst (λ (l : List ℕ). IsRolling l (e + 1) checkpoint.rolled) (sym next_stays) phase.rolling;
      base = phase.base;
      records = more;
      stands =
          subst (λ (s : Slots). InOne s e phase.base more)
          (sym (without_alongside old new e step bytes time written synced e))
          (one_segment_changed (without_image old e) e phase.base phase.records more bytes phase.stands
          (in_use_encodes e bytes more used));
      in_use = subst (λ (l : List ℕ). IsInUse e l more) (sym (own_of slot old.seen new.seen bytes written)) used;
      run = more_run segment phase.base before after phase.records records batch phase.run phase.counted is;
      counted = more_counted segment phase.base before after phase.records records batch phase.run phase.counted is;
    }

second_append : (old new : View) (segment : Segment) (checkpoint : CheckpointValue) (mid before after : State)
    (records : List Record) (batch : BatchValue) → InSecond old segment checkpoint mid before
    → IsReadyBatch before after segment.records records batch
    → IsAppended segment.epoch old.seen new.seen batch → IsSynced new (segment_slot segment.epoch)
    → PassesAppend segment.epoch old new batch → InSecond new (with_more segment (length records)) checkpoint mid after
second_append old new segment checkpoint mid before after records batch phase is appended stays passes =
    let e = phase.former in
    let slot = segment_slot (e + 1) in
    let step : List ℕ → List ℕ → Type 0 = λ was now. IsMidAppend was (content_of batch) now in
    let bytes : List ℕ = with_batch (slot_of old.seen slot) (content_of batch) in
    let more : List Record = phase.records ++ map canonical_record records in
    let written : new.seen ≡ with_slot old.seen slot bytes =
    subst (λ (n : ℕ). IsAppended n old.seen new.seen batch) phase.next appended in
    let synced : IsSynced new slot = subst (λ (n : ℕ). IsSynced new (segment_slot n)) phase.next stays in
    let time : Passes old new (Follows old slot step) =
    subst (λ (n : ℕ). PassesAppend n old new batch) phase.next passes in
    let used =
    more_in_use segment mid before after phase.records records batch phase.run phase.counted is (e + 1)
    (slot_of old.seen slot) phase.in_use in
    record {
      after = phase.after;
      former = e;
      next = phase.next;
      epoch = phase.epoch;
      imaging = imaging_alongside old new (e + 1) step bytes time written synced e checkpoint.imaged phase.imaging;
      base = phase.base;
      first = phase.first;
      records = more;
      stands =
          subst (λ (s : Slots). InTwo s e phase.base phase.first more)
          (sym (without_alongside old new (e + 1) step bytes time written synced e))
          (two_segment_changed (without_image old e) e phase.base phase.first phase.records more bytes phase.stands
          (in_use_encodes (e + 1) bytes more used));
      in_use = subst (λ (l : List ℕ). IsInUse (e + 1) l more) (sym (own_of slot old.seen new.seen bytes written)) used;
      run_first = phase.run_first;
      run = more_run segment mid before after phase.records records batch phase.run phase.counted is;
      counted = more_counted segment mid before after phase.records records batch phase.run phase.counted is;
    }

pub append_keeps : (old new : View) (segment : Segment) (checkpoint : Option CheckpointValue) (mid before after : State)
    (records : List Record) (batch : BatchValue) → Keeps old segment checkpoint mid before
    → IsReadyBatch before after segment.records records batch
    → IsAppended segment.epoch old.seen new.seen batch → IsSynced new (segment_slot segment.epoch)
    → PassesAppend segment.epoch old new batch → Keeps new (with_more segment (length records)) checkpoint mid after
append_keeps old new segment None mid before after records batch keeps is written synced time =
    kept_append old new segment before after records batch keeps is written synced time
append_keeps old new segment (Some checkpoint) mid before after records batch keeps is written synced time = record {
  image = keeps.image;
  phase = elim keeps.phase [
    | inl first ↦ inl (first_append old new segment checkpoint before after records batch first is written synced time)
    | inr second ↦ inr (second_append old new segment checkpoint mid before after records batch second is written synced
        time)
  ];
}

-- a checkpoint begins
pub begin_keeps : (disk : View) (segment : Segment) (mid state : State) (cut : CutValue) → IsKept disk segment state
    → segment.epoch + 1 < 2 ^ 64 → cut.epoch ≡ segment.epoch + 1 → IsImageOf cut.encoding mid
    → Keeps disk segment (Some (begun cut)) mid state
begin_keeps disk segment mid state cut kept fits next image =
    let e = segment.epoch in
    record {
      image = image;
      phase = inl (record {
        before = omega arith;
        next = next;
        fits = fits;
        imaging = record {
          rest = rest_but (image_slot (e + 1)) disk kept.at_rest;
          untouched = λ _. kept.at_rest;
          passed = λ _. kept.stands.other_image;
          shut = λ some. absurd (omega (arith, some));
        };
        rolling =
            record {
              begun = λ some. absurd (omega (arith, some));
              closed = λ some. absurd (omega (arith, some));
              header = λ two. absurd (omega (arith, two));
            };
        base = kept.base;
        records = kept.records;
        stands = one_image_changed disk.seen e kept.base kept.records [] kept.stands (shut_image e [] tt);
        in_use = kept.in_use;
        run = kept.run;
        counted = kept.counted;
      });
    }
