-- How a store in use is read and ended.
use Rattle.std.proofs.Common.{◌≡◌, inl, inr, ℕ, ◌+◌, ◌%◌, ◌^◌, ◌<◌, ◌≤◌, List, [], ◌∷◌, ◌++◌, length, take, drop, refl, sym, ap, subst, ◌∙◌, arith, length-append}
use Rattle.std.specs.Prelude.{◌-◌, Bool, true, false}
use Rattle.codes.specs.declared.store_version.StoreVersion.{StoreVersion}
use Rattle.disk.specs.Moments.{View, MayLeave, Passes, Follows}
use Rattle.disk.specs.Slots.{Slots, slot_of, with_slot}
use Rattle.ipc_laws.specs.BatchLaws.{one_segment}
use Rattle.ipc_laws.specs.Counted.{EncodesCounted}
use Rattle.ipc_laws.specs.RecoveryLaws.{image_header_is, image_is_open, one_epoch, one_image, records_fit}
use Rattle.ipc_laws.specs.RunLaws.{run_split}
use Rattle.ipc_laws.specs.StoreLaws.{in_use_encodes}
use Rattle.ipc_laws.specs.RunsKeep.{one_run}
use Rattle.ipc_model.specs.calls.Step.{Run}
use Rattle.ipc_model.specs.declared.record.Record.{Record}
use Rattle.ipc_model.specs.state.State.{State, opening_state}
use Rattle.ipc_model.specs.store.Recovery.{Continues, HoldsImage, IsNew, IsOfEpoch, IsOpen, IsStored, Recovered, image_header, segment_header_length, version_of}
use Rattle.ipc_model.specs.store.Store.{EncodesSegment, IsInUseOf, open_gate, closed_gate, segment_header_of}
use Rattle.slot_steps.specs.Steps.{IsRemade, image_slot, segment_slot}
use Rattle.disk.proofs.Moments.{passes_as, passes_then, own_bytes}
use Rattle.store_layout.specs.Changes.{one_segment_changed, two_finished}
use Rattle.store_layout.specs.Slots.{alongside_image, image_at, one_of_two, own_segment, segment_at}
use Rattle.store_layout.specs.Encoded.{one_encodes, two_encodes}
use Rattle.store_layout.specs.Gates.{HasLastGate, HaveLastGates}
use Rattle.store_layout.specs.Standing.{as_written, InOne, InTwo}
use Rattle.store_layout.proofs.Gates.{gates_alongside_image, one_gates, one_not_followed}
use Rattle.recover.specs.AtRest.{IsAtRest}
use Rattle.recover.specs.Found.{IsLatestEpoch, Reads, ReadsOne}
use Rattle.recover.specs.Kept.{IsKeptIn}
use Rattle.recover.specs.Making.{DiffersIn}
use Rattle.recover.specs.Replayed.{ReplaysAll}
use Rattle.recover.specs.Crashing.{RecoverSame, StandForSame}
use Rattle.recover.specs.Surveyed.{IsInUse as Uses, IsUnused}
use Rattle.recover.specs.Upgrading.{IsRead}
use Rattle.recover.proofs.Fronts.{header_version}
use Rattle.recover.proofs.Gates.{has_gate}
use Rattle.recover.proofs.Rest.{rest_called}
use Rattle.recover.proofs.Stages.{cut_encodes, ended_in_use, fresh_encodes, next_image, one_recovered, run_join, same_by_one, two_recovered, unused_fresh}
use Rattle.recover.proofs.Surveys.{never_new, parts_of}

-- Periods in which a store represents the same states.

pub same_self : (s : Slots) → HaveLastGates s → StandForSame s s
same_self s gates = ((λ state found. found), gates)

pub same_then : (s mid c : Slots) → RecoverSame s mid → StandForSame mid c → StandForSame s c
same_then s mid c first second = ((λ state found. second.0 state (first state found)), second.1)

pub still_same : (old new : View) → IsAtRest old → HaveLastGates old.seen → Passes old new (MayLeave old)
    → Passes old new (StandForSame old.seen)
still_same old new rest gates time =
    passes_as old new (MayLeave old) (StandForSame old.seen) time
    (λ c left. subst (StandForSame old.seen) (sym (rest c left)) (same_self old.seen gates))

pub same_after : (old mid new : View) → Passes old mid (StandForSame old.seen) → RecoverSame old.seen mid.seen
    → Passes mid new (StandForSame mid.seen) → Passes old new (StandForSame old.seen)
same_after old mid new first between second =
    passes_then old mid new (StandForSame old.seen) (StandForSame mid.seen) (StandForSame old.seen) first second
    (λ c same. same) (λ c same. same_then old.seen mid.seen c between same)

pub recover_self : (s : Slots) → RecoverSame s s
recover_self s state found = found

pub recover_as : (s c : Slots) → c ≡ s → RecoverSame s c
recover_as s c is = subst (RecoverSame s) (sym is) (recover_self s)

-- The segment in use is the last one.

pub own_last_gate : (s : Slots) (e : ℕ) (base : State) (records : List Record) → HaveLastGates s
    → InOne s e base records → HasLastGate (slot_of s (segment_slot e))
own_last_gate s e base records gates one =
    let P : List ℕ → Type 0 = λ slot. EncodesSegment e slot records → HasLastGate slot in
    subst P (segment_at s e) (λ encoded. has_gate e ((as_written s).segment (e % 2)) records encoded
    (gates.last e records one.fits encoded (one_not_followed s e base records one))) one.segment

-- The records that a replayed segment encodes.

header_apart : (n e : ℕ) (slot : List ℕ) (old new : State) (count end : ℕ) → IsOfEpoch n e slot
    → (r : ReplaysAll e slot old new count end) → slot ≡ segment_header_of r.version open_gate e ++ drop 16 slot
header_apart n e slot old new count end is r =
    subst (λ (v : StoreVersion). slot ≡ segment_header_of v open_gate e ++ drop 16 slot)
    (header_version n e slot r.version is r.says)
    (is.encoding ∙ ap (λ (l : List ℕ). segment_header_of is.version open_gate e ++ l)
    (sym (ap (λ (l : List ℕ). drop 16 l) is.encoding)))

pub replayed_encodes : (n e : ℕ) (slot : List ℕ) (old new : State) (count end : ℕ) → IsOfEpoch n e slot
    → (r : ReplaysAll e slot old new count end) → EncodesSegment e slot r.records
replayed_encodes n e slot old new count end is r = record {
  version = r.version;
  content = drop 16 slot;
  encoding = header_apart n e slot old new count end is r;
  encoded = r.encoded.encoded;
  within = r.within;
  next = r.next;
}

-- The parts of a store in use.

pub one_of_parts : (s : Slots) (e : ℕ) (base : State) (records : List Record) → Uses s e false
    → HoldsImage e (slot_of s (image_slot e)) base → EncodesSegment e (slot_of s (segment_slot e)) records
    → InOne s e base records
one_of_parts s e base records used image segment =
    record {
      fits = used.fits;
      image = image;
      segment = segment;
      other_image = used.other_image;
      other_segment = used.other;
    }

pub two_of_parts : (s : Slots) (e : ℕ) (base : State) (first next : List Record) → Uses s e true
    → HoldsImage e (slot_of s (image_slot e)) base → EncodesSegment e (slot_of s (segment_slot e)) first
    → EncodesSegment (e + 1) (slot_of s (segment_slot (e + 1))) next → InTwo s e base first next
two_of_parts s e base first next used image segment more =
    record {
      fits = used.other.0;
      image = image;
      segment = segment;
      other_image = used.other_image;
      next_segment = more;
    }

-- the epoch in use is the stored one
at_most : (s : Slots) (e : ℕ) (follows : Bool) → Uses s e follows
    → (base : State) (records : List Record) (stored : IsStored (as_written s) base records) → stored.epoch ≤ e
at_most s e follows used base records stored =
    let f = stored.epoch in
    let image_is = image_header_is f ((as_written s).image (f % 2)) base stored.fits stored.image in
    let is_open = image_is_open f ((as_written s).image (f % 2)) base stored.image in
    elim (one_of_two e (f % 2) (omega arith)) as (λ _. f ≤ e) [
      | inl own ↦
          let here : IsOfEpoch (e % 2) f (slot_of s (image_slot e)) =
          subst (IsOfEpoch (e % 2) f) (image_at s e)
          (subst (λ n. IsOfEpoch n f ((as_written s).image n)) own image_is) in
          omega (
            arith,
            one_epoch f e here.rest used.image.rest here.fits used.image.fits
                (sym here.encoding ∙ used.image.encoding),
          )
      | inr next ↦
          let here : IsOfEpoch ((e + 1) % 2) f (slot_of s (image_slot (e + 1))) =
          subst (IsOfEpoch ((e + 1) % 2) f) (image_at s (e + 1))
          (subst (λ n. IsOfEpoch n f ((as_written s).image n)) next image_is) in
          let open_here : IsOpen image_header (slot_of s (image_slot (e + 1))) =
          subst (IsOpen image_header) (image_at s (e + 1))
          (subst (λ n. IsOpen image_header ((as_written s).image n)) next is_open) in
          elim used.other_image as (λ _. f ≤ e) [
            | inl shut ↦ absurd (shut open_here)
            | inr before ↦ omega (
              arith,
              before.1,
              one_epoch f before.0 here.rest before.2.rest here.fits before.2.fits
                  (sym here.encoding ∙ before.2.encoding),
            )
          ]
    ]

epoch_in_use : (s : Slots) (e : ℕ) (follows : Bool) → Uses s e follows
    → (base : State) (records : List Record) (stored : IsStored (as_written s) base records) → stored.epoch ≡ e
epoch_in_use s e follows used base records stored =
    let least : e ≤ stored.epoch =
    stored.latest (e % 2) e (omega arith) (subst (IsOpen image_header) (sym (image_at s e)) used.image_open)
    (subst (IsOfEpoch (e % 2) e) (sym (image_at s e)) used.image) in
    omega (arith, least, at_most s e follows used base records stored)

-- What is recovered from a store in use, in terms of its parts.
pub record RunsIn (s : Slots) (e : ℕ) (state : State) : Type 0 where
  pub base : State
  pub mid : State
  pub first : List Record
  pub next : List Record
  pub image : HoldsImage e (slot_of s (image_slot e)) base
  pub segment : EncodesSegment e (slot_of s (segment_slot e)) first
  pub other : Continues e (slot_of s (segment_slot (e + 1))) next
  pub run : Run base first mid
  pub more : Run mid next state

pub runs_in : (s : Slots) (e : ℕ) (follows : Bool) (state : State) → Uses s e follows → Recovered (as_written s) state
    → RunsIn s e state
runs_in s e follows state used found = elim found.encoded.reading as (λ _. RunsIn s e state) [
  | inl new ↦ absurd (never_new s e used.image_open new.0)
  | inr stored ↦
      let parts =
      parts_of s e found.base found.records stored
      (epoch_in_use s e follows used found.base found.records stored) in
      let split =
      run_split found.base state parts.first parts.next
      (subst (λ (l : List Record). Run found.base l state) parts.joined found.run) in
      record {
        base = found.base;
        mid = split.0;
        first = parts.first;
        next = parts.next;
        image = parts.image;
        segment = parts.segment;
        other = parts.other;
        run = split.1;
        more = split.2;
      }
]

-- the records of the next epoch's segment
pub next_encodes : (s : Slots) (e : ℕ) (next : List Record) → Uses s e true
    → Continues e (slot_of s (segment_slot (e + 1))) next
    → EncodesSegment (e + 1) (slot_of s (segment_slot (e + 1))) next
next_encodes s e next used (inl closed) =
    absurd (closed.0 (subst (IsOpen segment_header_length) (sym used.other.1.encoding) (omega arith, refl)))
next_encodes s e next used (inr (inl before)) =
    absurd (omega (
      arith,
      before.1,
      one_epoch before.0 (e + 1) before.2.rest used.other.1.rest before.2.fits used.other.1.fits
          (sym before.2.encoding ∙ used.other.1.encoding),
    ))
next_encodes s e next used (inr (inr encoded)) = encoded.1

-- One run from one image.

one_base : (e : ℕ) (slot : List ℕ) (one other : State) → HoldsImage e slot one → HoldsImage e slot other → one ≡ other
one_base = one_image

-- an epoch's image and segment lead to only one state
pub one_read : (s : Slots) (e n : ℕ) (state other : State) (count end : ℕ) → IsOfEpoch n e (slot_of s (segment_slot e))
    → ReadsOne s e state count end → (runs : RunsIn s e other) → runs.mid ≡ state
one_read s e n state other count end is r runs =
    let segment = slot_of s (segment_slot e) in
    let base : runs.base ≡ r.base = one_base e (slot_of s (image_slot e)) runs.base r.base runs.image r.image in
    let encoded = replayed_encodes n e segment r.base state count end is r.replays in
    let records : runs.first ≡ r.replays.records =
    one_segment e segment runs.first r.replays.records runs.segment encoded in
    one_run r.base r.replays.records runs.mid state
    (records_fit r.replays.records r.replays.encoded.encoded.canonical) r.image.lawful r.image.acyclic
    (subst (λ (b : State). Run b r.replays.records runs.mid) base
    (subst (λ (l : List Record). Run runs.base l runs.mid) records runs.run)) r.replays.run

-- nothing is recovered if there is no image or no run of records
pub read_damaged : (s : Slots) (e : ℕ) (follows : Bool) → Uses s e follows
    → ((base state : State) (records : List Record) → HoldsImage e (slot_of s (image_slot e)) base
    → EncodesSegment e (slot_of s (segment_slot e)) records → Run base records state → ⊥)
    → (state : State) → Recovered (as_written s) state → ⊥
read_damaged s e follows used none state found =
    let runs = runs_in s e follows state used found in
    none runs.base runs.mid runs.first runs.image runs.segment runs.run

-- nothing is recovered if the next epoch's segment has no run of records
pub next_damaged : (s : Slots) (e : ℕ) (mid : State) (count end : ℕ) → Uses s e true → ReadsOne s e mid count end
    → ((records : List Record) (state : State) → EncodesSegment (e + 1) (slot_of s (segment_slot (e + 1))) records
    → Run mid records state → ⊥)
    → (state : State) → Recovered (as_written s) state → ⊥
next_damaged s e mid count end used read none state found =
    let runs = runs_in s e true state used found in
    let encoded = next_encodes s e runs.next used runs.other in
    let same : runs.mid ≡ mid = one_read s e (e % 2) mid state count end used.segment read runs in
    none runs.next state encoded (subst (λ (m : State). Run m runs.next state) same runs.more)

-- The segment in use is ended.

own_gate : (n e : ℕ) (slot : List ℕ) (old new : State) (count end : ℕ) → IsOfEpoch n e slot → HasLastGate slot
    → (r : ReplaysAll e slot old new count end) → 0 < length r.encoded.encoded.rest
unfolding replayed_encodes
own_gate n e slot old new count end is has r = has e r.records (replayed_encodes n e slot old new count end is r)

pub gate_inside : (n e : ℕ) (slot : List ℕ) (old new : State) (count end : ℕ) → IsOfEpoch n e slot → HasLastGate slot
    → ReplaysAll e slot old new count end → end < length slot
gate_inside n e slot old new count end is has r =
    omega (
      arith,
      own_gate n e slot old new count end is has r,
      r.encoded.sized,
      ap length (header_apart n e slot old new count end is r),
      length-append (segment_header_of r.version open_gate e) (drop 16 slot),
      r.beyond,
    )

pub ended_one : (s : Slots) (e : ℕ) (base state : State) (count end : ℕ) (x : List ℕ)
    → IsOfEpoch (e % 2) e (slot_of s (segment_slot e))
    → (r : ReplaysAll e (slot_of s (segment_slot e)) base state count end) → InOne s e base r.records
    → x ≡ take (end + 1) (slot_of s (segment_slot e) ++ closed_gate ∷ []) → IsInUseOf r.version e x r.records
    × InOne (with_slot s (segment_slot e) x) e base r.records
ended_one s e base state count end x is r one cut =
    let slot = slot_of s (segment_slot e) in
    let used =
    ended_in_use r.version e slot (drop 16 slot) x r.records (end - 16) end r.within r.next
    (header_apart (e % 2) e slot base state count end is r) r.encoded (omega (arith, r.beyond)) cut in
    (used, one_segment_changed s e base r.records r.records x one (in_use_encodes e x r.records used))

pub ending_same : (old new : View) (e : ℕ) (base state : State) (count end : ℕ) → IsAtRest old → HaveLastGates old.seen
    → IsOfEpoch (e % 2) e (slot_of old.seen (segment_slot e))
    → (r : ReplaysAll e (slot_of old.seen (segment_slot e)) base state count end) → InOne old.seen e base r.records
    → Passes old new (DiffersIn old.seen (segment_slot e)
    (λ after. take (end + 1) after ≡ take (end + 1) (slot_of old.seen (segment_slot e))))
    → Passes old new (StandForSame old.seen)
ending_same old new e base state count end rest gates is r one time =
    let slot = segment_slot e in
    let segment = slot_of old.seen slot in
    let own = own_gate (e % 2) e segment base state count end is (own_last_gate old.seen e base r.records gates one) r in
    passes_as old new (DiffersIn old.seen slot (λ after. take (end + 1) after ≡ take (end + 1) segment))
    (StandForSame old.seen) time (λ c differs.
    let x = slot_of c slot in
    let known =
    cut_encodes r.version e segment (drop 16 segment) x r.records (end - 16) end r.within r.next
    (header_apart (e % 2) e segment base state count end is r) r.encoded (omega (arith, r.beyond)) own differs.0 in
    subst (StandForSame old.seen) (sym differs.1) (
      same_by_one old.seen (with_slot old.seen slot x) state (one_recovered old.seen e base state r.records one r.run)
          (one_recovered (with_slot old.seen slot x) e base state r.records
          (one_segment_changed old.seen e base r.records r.records x one known.0) r.run),
      one_gates (with_slot old.seen slot x) e base r.records
          (one_segment_changed old.seen e base r.records r.records x one known.0)
          (subst HasLastGate (sym (own_segment old.seen x e)) (has_gate e x r.records known.0 known.1)),
    ))

-- The next image is written.

pub image_same : (old new : View) (e : ℕ) (base mid state : State) (first next : List Record) (content : List ℕ)
    → IsAtRest old → HaveLastGates old.seen → InTwo old.seen e base first next → Run base first mid → Run mid next state
    → HoldsImage (e + 1) content mid → Recovered (as_written old.seen) state
    → Passes old new (Follows old (image_slot (e + 1)) (IsRemade 24 content)) → Passes old new (StandForSame old.seen)
image_same old new e base mid state first next content rest gates two run more image found time =
    let slot = image_slot (e + 1) in
    passes_as old new (DiffersIn old.seen slot (IsRemade 24 content (slot_of old.seen slot))) (StandForSame old.seen)
    (rest_called slot old new (IsRemade 24 content) rest time) (λ c differs.
    let x = slot_of c slot in
    subst (StandForSame old.seen) (sym differs.1) (
      same_by_one old.seen (with_slot old.seen slot x) state found
          (next_image old.seen e base mid state first next x content two run more image differs.0),
      gates_alongside_image old.seen x (e + 1) gates,
    ))

-- A store that continues in an epoch.

pub one_parts : (s : Slots) (e : ℕ) (state : State) (count end : ℕ) → Uses s e false → ReadsOne s e state count end
    → IsRead s e state count end
one_parts s e state count end used read = record {
  base = read.base;
  header = used.segment;
  replays = read.replays;
  one =
      one_of_parts s e read.base read.replays.records used read.image
      (replayed_encodes (e % 2) e (slot_of s (segment_slot e)) read.base state count end used.segment read.replays);
}

pub one_found : (s : Slots) (e : ℕ) (state : State) (count end : ℕ) → IsRead s e state count end
    → Recovered (as_written s) state
one_found s e state count end parts =
    one_recovered s e parts.base state parts.replays.records parts.one parts.replays.run

pub one_ending : (old new : View) (e : ℕ) (state : State) (count end : ℕ) → IsAtRest old → HaveLastGates old.seen
    → IsRead old.seen e state count end
    → (end < length (slot_of old.seen (segment_slot e))
    → Passes old new (DiffersIn old.seen (segment_slot e)
    (λ after. take (end + 1) after ≡ take (end + 1) (slot_of old.seen (segment_slot e)))))
    → Passes old new (StandForSame old.seen)
one_ending old new e state count end rest gates parts time =
    let segment = slot_of old.seen (segment_slot e) in
    ending_same old new e parts.base state count end rest gates parts.header parts.replays parts.one
    (time (gate_inside (e % 2) e segment parts.base state count end parts.header
    (own_last_gate old.seen e parts.base parts.replays.records gates parts.one) parts.replays))

pub one_kept : (s : Slots) (new : View) (e : ℕ) (state : State) (count end : ℕ)
    → (parts : IsRead s e state count end)
    → IsAtRest new → new.seen ≡ with_slot s (segment_slot e)
    (take (end + 1) (slot_of s (segment_slot e) ++ closed_gate ∷ []))
    → IsKeptIn parts.replays.version new (record { epoch = e; records = count }) state
one_kept s new e state count end parts rest is =
    let x : List ℕ = take (end + 1) (slot_of s (segment_slot e) ++ closed_gate ∷ []) in
    let ended = ended_one s e parts.base state count end x parts.header parts.replays parts.one refl in
    record {
      at_rest = rest;
      base = parts.base;
      records = parts.replays.records;
      stands = subst (λ (t : Slots). InOne t e parts.base parts.replays.records) (sym is) ended.1;
      in_use =
          subst (λ (l : List ℕ). IsInUseOf parts.replays.version e l parts.replays.records)
          (sym (ap (λ (t : Slots). slot_of t (segment_slot e)) is ∙ own_bytes (segment_slot e) s x)) ended.0;
      run = parts.replays.run;
      counted = parts.replays.counted;
    }

-- A store that continues in the next epoch: the contents that were read, and the image to be written.
pub record NextParts (s : Slots) (e : ℕ) (content : List ℕ) (state : State) (count end : ℕ) : Type 0 where
  pub base : State
  pub mid : State
  pub first : List Record
  pub header : IsOfEpoch ((e + 1) % 2) (e + 1) (slot_of s (segment_slot (e + 1)))
  pub run : Run base first mid
  pub replays : ReplaysAll (e + 1) (slot_of s (segment_slot (e + 1))) mid state count end
  pub two : InTwo s e base first replays.records
  pub image : HoldsImage (e + 1) content mid

pub next_parts : (s : Slots) (e : ℕ) (content : List ℕ) (mid state : State) (number stop count end : ℕ) → Uses s e true
    → ReadsOne s e mid number stop → ReplaysAll (e + 1) (slot_of s (segment_slot (e + 1))) mid state count end
    → HoldsImage (e + 1) content mid → NextParts s e content state count end
next_parts s e content mid state number stop count end used read replays image = record {
  base = read.base;
  mid = mid;
  first = read.replays.records;
  header = used.other.1;
  run = read.replays.run;
  replays = replays;
  two =
      two_of_parts s e read.base read.replays.records replays.records used read.image
      (replayed_encodes (e % 2) e (slot_of s (segment_slot e)) read.base mid number stop used.segment read.replays)
      (replayed_encodes ((e + 1) % 2) (e + 1)
      (slot_of s (segment_slot (e + 1))) mid state count end used.other.1 replays);
  image = image;
}

pub next_found : (s : Slots) (e : ℕ) (content : List ℕ) (state : State) (count end : ℕ)
    → NextParts s e content state count end → Recovered (as_written s) state
next_found s e content state count end parts =
    two_recovered s e parts.base parts.mid state parts.first parts.replays.records parts.two parts.run parts.replays.run

pub next_writing : (old new : View) (e : ℕ) (content : List ℕ) (state : State) (count end : ℕ) → IsAtRest old
    → HaveLastGates old.seen → NextParts old.seen e content state count end
    → Passes old new (Follows old (image_slot (e + 1)) (IsRemade 24 content)) → Passes old new (StandForSame old.seen)
next_writing old new e content state count end rest gates parts time =
    image_same old new e parts.base parts.mid state parts.first parts.replays.records content rest gates parts.two
    parts.run parts.replays.run parts.image (next_found old.seen e content state count end parts) time

-- the image is in its slot
pub next_written : (s new : Slots) (e : ℕ) (content : List ℕ) (state : State) (count end : ℕ)
    → NextParts s e content state count end → new ≡ with_slot s (image_slot (e + 1)) content
    → IsRead new (e + 1) state count end
next_written s new e content state count end parts is =
    let same : slot_of new (segment_slot (e + 1)) ≡ slot_of s (segment_slot (e + 1)) =
    ap (λ (t : Slots). slot_of t (segment_slot (e + 1))) is ∙ (alongside_image s content e).2 in
    let replays : ReplaysAll (e + 1) (slot_of new (segment_slot (e + 1))) parts.mid state count end =
    record {
      version = parts.replays.version;
      says = ap version_of same ∙ parts.replays.says;
      next = parts.replays.next;
      records = parts.replays.records;
      within = parts.replays.within;
      encoded =
          subst (λ (l : List ℕ). EncodesCounted (drop 16 l) parts.replays.records (end - 16))
          (sym same) parts.replays.encoded;
      run = parts.replays.run;
      counted = parts.replays.counted;
      beyond = parts.replays.beyond;
      inside = subst (λ (l : List ℕ). end ≤ length l) (sym same) parts.replays.inside;
    } in
    record {
      base = parts.mid;
      header = subst (IsOfEpoch ((e + 1) % 2) (e + 1)) (sym same) parts.header;
      replays = replays;
      one =
          subst (λ (t : Slots). InOne t (e + 1) parts.mid parts.replays.records) (sym is)
          (two_finished s e parts.base parts.mid parts.first parts.replays.records content parts.two parts.image);
    }

-- The contents that are read without a write.

pub new_reads : (s : Slots) → IsUnused s → IsNew (as_written s) → Reads s 0 0 opening_state
new_reads s unused new = record {
  latest = inl (unused.no_image, refl);
  base = opening_state;
  records = [];
  encoded = fresh_encodes s (unused_fresh s unused new);
  run = refl;
  counted = refl;
}

latest_in_use : (s : Slots) (e : ℕ) (follows : Bool) → Uses s e follows → IsLatestEpoch s e
latest_in_use s e follows used = inr (used.image_open, used.image, used.other_image)

pub one_reads : (s : Slots) (e : ℕ) (state : State) (count end : ℕ) → Uses s e false → ReadsOne s e state count end
    → Reads s e count state
one_reads s e state count end used read =
    let parts = one_parts s e state count end used read in
    record {
      latest = latest_in_use s e false used;
      base = parts.base;
      records = parts.replays.records;
      encoded = one_encodes s e parts.base parts.replays.records parts.one;
      run = parts.replays.run;
      counted = parts.replays.counted;
    }

pub two_reads : (s : Slots) (e : ℕ) (mid state : State) (number stop count end : ℕ) → Uses s e true
    → ReadsOne s e mid number stop → ReplaysAll (e + 1) (slot_of s (segment_slot (e + 1))) mid state count end
    → Reads s e (number + count) state
two_reads s e mid state number stop count end used read replays =
    let two =
    two_of_parts s e read.base read.replays.records replays.records used read.image
    (replayed_encodes (e % 2) e (slot_of s (segment_slot e)) read.base mid number stop used.segment
    read.replays)
    (replayed_encodes ((e + 1) % 2) (e + 1) (slot_of s (segment_slot (e + 1))) mid state count end used.other.1 replays)
    in
    record {
      latest = latest_in_use s e true used;
      base = read.base;
      records = read.replays.records ++ replays.records;
      encoded = two_encodes s e read.base read.replays.records replays.records two;
      run = run_join read.base mid state read.replays.records replays.records read.replays.run replays.run;
      counted =
          omega (arith, read.replays.counted, replays.counted, length-append read.replays.records replays.records);
    }

-- no run begins from the state of an image whose segment encodes none
pub no_run : (e : ℕ) (image_bytes segment_bytes : List ℕ) (read base state : State) (records : List Record)
    → HoldsImage e image_bytes read → HoldsImage e image_bytes base → EncodesSegment e segment_bytes records
    → Run base records state
    → ((rs : List Record) (s : State) → EncodesSegment e segment_bytes rs → Run read rs s → ⊥) → ⊥
no_run e image_bytes segment_bytes read base state records one other encoded run none =
    none records state encoded
    (subst (λ (b : State). Run b records state) (one_base e image_bytes base read other one) run)

-- the contents that were read of an epoch
pub reads_one : (s : Slots) (e : ℕ) (base state : State) (count end : ℕ) → HoldsImage e (slot_of s (image_slot e)) base
    → ReplaysAll e (slot_of s (segment_slot e)) base state count end → ReadsOne s e state count end
reads_one s e base state count end image replays = record { base = base; image = image; replays = replays }

-- the number of records in two segments fits a word
pub two_few : (s : Slots) (e : ℕ) (mid state : State) (number stop count end : ℕ) → ReadsOne s e mid number stop
    → ReplaysAll (e + 1) (slot_of s (segment_slot (e + 1))) mid state count end → number + count < 2 ^ 64
two_few s e mid state number stop count end read replays =
    omega (
      arith,
      read.replays.counted,
      read.replays.encoded.encoded.bounded,
      replays.counted,
      replays.encoded.encoded.bounded,
    )
