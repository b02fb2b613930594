-- The state that a store represents while it is created, while a checkpoint is finished, and while its segment is
-- ended.
use Rattle.std.specs.Prelude.{◌%◌}
use Rattle.std.proofs.Common.{◌≡◌, inl, inr, ℕ, ◌+◌, ◌<◌, List, [], ◌∷◌, ◌++◌, length, take, drop, refl, sym, ap, subst, ◌∙◌, arith, append_assoc, take-append-drop, length-append}
use Rattle.std.proofs.lemmas.Bool.{cases_eq}
use Rattle.std.proofs.Math.Seq.{take-append-add}
use Rattle.disk.specs.declared.slot.Slot.TheVariants.{Image0, Segment0}
use Rattle.disk.specs.Slots.{Slots, slot_of, with_slot}
use Rattle.codes.specs.StoreVersion.{current}
use Rattle.codes.specs.declared.store_version.StoreVersion.{StoreVersion}
use Rattle.codes.specs.declared.store_version.StoreVersion.TheVariants.{One, Two}
use Rattle.ipc_laws.specs.Counted.{EncodesCounted}
use Rattle.ipc_laws.specs.RecoveryLaws.{one_epoch, recovers_once, segment_is_open}
use Rattle.ipc_model.specs.calls.Step.{Run}
use Rattle.ipc_model.specs.declared.record.Record.{Record}
use Rattle.ipc_model.specs.state.State.{State, opening_state}
use Rattle.ipc_model.specs.store.Recovery.{HasHeader, HoldsImage, IsNew, IsOfEpoch, IsOpen, Recovered, Encodes, image_header, segment_header_length}
use Rattle.ipc_model.specs.store.Store.{AreWithin, EncodesBatches, EncodesSegment, IsClosed, IsInUse, IsInUseOf, LeavesAnEpoch, NoneEmpty, all_records, open_gate, closed_gate, segment_header_of, batches_encoding}
use Rattle.slot_steps.specs.Steps.{IsRemade, image_slot, segment_slot}
use Rattle.store_layout.specs.Changes.{closing_image, two_finished, two_image_changed}
use Rattle.store_layout.specs.Encoded.{one_encodes, two_encodes}
use Rattle.store_layout.specs.Gates.{HasLastGate, HaveLastGates, StandForState}
use Rattle.store_layout.specs.Standing.{as_written, InOne, InTwo}
use Rattle.store_layout.proofs.Gates.{one_gates, two_gates}
use Rattle.recover.specs.Making.{empty_segment}
use Rattle.recover.specs.Crashing.{RecoverSame}
use Rattle.recover.specs.Surveyed.{IsUnused}
use Rattle.recover.proofs.Gates.{has_gate, shut_has_gate, empty_has_gate}
use Rattle.recover.proofs.Surveys.{each_number}

-- The state that is recovered.

pub run_join : (old mid new : State) (records more : List Record) → Run old records mid → Run mid more new
    → Run old (records ++ more) new
run_join old mid new [] more first second = subst (λ (s : State). Run s more new) first second
run_join old mid new (one ∷ records) more first second =
    (first.0, first.1, run_join first.0 mid new records more first.2 second)

-- if two stores recover one state, the second represents the states of the first
pub same_by_one : (s c : Slots) (state : State) → Recovered (as_written s) state → Recovered (as_written c) state
    → RecoverSame s c
same_by_one s c state one other found is =
    subst (Recovered (as_written c)) (recovers_once (as_written s) state found one is) other

pub one_recovered : (s : Slots) (e : ℕ) (base state : State) (records : List Record) → InOne s e base records
    → Run base records state → Recovered (as_written s) state
one_recovered s e base state records one run =
    record { base = base; records = records; encoded = one_encodes s e base records one; run = run }

pub two_recovered : (s : Slots) (e : ℕ) (base mid state : State) (first next : List Record) → InTwo s e base first next
    → Run base first mid → Run mid next state → Recovered (as_written s) state
two_recovered s e base mid state first next two run more =
    record {
      base = base;
      records = first ++ next;
      encoded = two_encodes s e base first next two;
      run = run_join base mid state first next run more;
    }

-- Slots that represent a state.

pub one_stands : (s : Slots) (e : ℕ) (base state : State) (records : List Record) → InOne s e base records
    → Run base records state → HasLastGate (slot_of s (segment_slot e)) → StandForState state s
one_stands s e base state records one run gate = record {
  recovered = one_recovered s e base state records one run;
  gates = one_gates s e base records one gate;
}

pub two_stands : (s : Slots) (e : ℕ) (base mid state : State) (first next : List Record) → InTwo s e base first next
    → Run base first mid → Run mid next state → HasLastGate (slot_of s (segment_slot (e + 1))) → StandForState state s
two_stands s e base mid state first next two run more gate = record {
  recovered = two_recovered s e base mid state first next two run more;
  gates = two_gates s e base first next two gate;
}

-- a store that was never in use

pub record IsFresh (s : Slots) : Type 0 where
  pub image0 : IsOpen image_header s.image0 → ⊥
  pub image1 : IsOpen image_header s.image1 → ⊥
  pub segment0 : IsOpen segment_header_length s.segment0 → EncodesSegment 0 s.segment0 []
  pub segment1 : IsOpen segment_header_length s.segment1 → ⊥

abbrev no_records : (content : List ℕ) → IsClosed content → EncodesBatches content []
no_records content shut =
    record {
      batches = [];
      rest = content;
      encoding = refl;
      closed = shut;
      none_empty = tt;
      flat = refl;
      canonical = tt;
      bounded = omega arith;
    }

first_leaves : (version : StoreVersion) → LeavesAnEpoch version 0
first_leaves One = omega arith
first_leaves Two = tt

pub unused_fresh : (s : Slots) → IsUnused s → IsNew (as_written s) → IsFresh s
unused_fresh s unused new = record {
  image0 = unused.no_image 0 (omega arith);
  image1 = unused.no_image 1 (omega arith);
  segment0 = λ is_open.
      let is = unused.first is_open in
      let shut = (new.unused 0 0 (omega arith) is_open is).1 in
      record {
        version = is.version;
        content = is.rest;
        encoding = is.encoding;
        encoded = no_records is.rest (subst IsClosed (ap (λ (l : List ℕ). drop 16 l) is.encoding) shut);
        within = tt;
        next = first_leaves is.version;
      };
  segment1 = unused.second;
}

-- without records there are no batches
no_batches : (batches : List (List Record)) → NoneEmpty batches → [] ≡ all_records batches → batches ≡ []
no_batches [] none is = refl
no_batches (batch ∷ batches) none is =
    absurd (omega (arith, none.0, ap length is, length-append batch (all_records batches)))

closed_after : (content : List ℕ) → EncodesBatches content [] → IsClosed content
closed_after content encoded =
    subst IsClosed (sym (encoded.encoding ∙ ap
    (λ (b : List (List Record)). batches_encoding 0 b ++ encoded.rest)
    (no_batches encoded.batches encoded.none_empty encoded.flat))) encoded.closed

of_epoch_0 : (slot : List ℕ) → EncodesSegment 0 slot [] → IsOfEpoch 0 0 slot
of_epoch_0 slot encoded =
    record {
      version = encoded.version;
      rest = encoded.content;
      encoding = encoded.encoding;
      fits = omega arith;
      of_number = refl;
    }

pub fresh_encodes : (s : Slots) → IsFresh s → Encodes (as_written s) opening_state []
fresh_encodes s fresh = record {
  headers =
      each_number (λ n. HasHeader image_header n ((as_written s).image n)
      × HasHeader segment_header_length n ((as_written s).segment n))
      ((λ is_open. absurd (fresh.image0 is_open)), (λ is_open. (0, of_epoch_0 s.segment0 (fresh.segment0 is_open))))
      ((λ is_open. absurd (fresh.image1 is_open)), (λ is_open. absurd (fresh.segment1 is_open)));
  reading = inl (
    record {
      no_image = each_number (λ n. IsOpen image_header ((as_written s).image n) → ⊥) fresh.image0 fresh.image1;
      unused =
          λ (number epoch : ℕ) (small : _). each_number
          (λ n. IsOpen segment_header_length ((as_written s).segment n)
          → IsOfEpoch n epoch ((as_written s).segment n)
          → (epoch ≡ 0) × IsClosed (drop segment_header_length ((as_written s).segment n)))
          (λ (is_open : _) (is : _).
          let encoded = fresh.segment0 is_open in (
            one_epoch epoch 0 is.rest encoded.content is.fits (omega arith) (sym is.encoding ∙ encoded.encoding),
            subst IsClosed (sym (ap (λ (l : List ℕ). drop 16 l) encoded.encoding))
                (closed_after encoded.content encoded.encoded),
          ))
          (λ (is_open : _) (_ : _). absurd (fresh.segment1 is_open)) number small;
    },
    refl,
    refl,
  );
}

pub fresh_recovered : (s : Slots) → IsFresh s → Recovered (as_written s) opening_state
fresh_recovered s fresh = record { base = opening_state; records = []; encoded = fresh_encodes s fresh; run = refl }

-- its last segment is the first one, if that is open

pub fresh_gates : (s : Slots) → IsFresh s → HasLastGate s.segment0 → HaveLastGates s
fresh_gates s fresh gate = record {
  last = λ f more fits encoded alone. elim (cases_eq (f % 2) 0) as (λ _. 0 < length encoded.encoded.rest) [
    | inl even ↦ subst (λ n. HasLastGate ((as_written s).segment n)) (sym even) gate f more encoded
    | inr other ↦
        let odd : f % 2 ≡ 1 = omega (arith, other) in
        absurd (fresh.segment1 (subst (λ n. IsOpen segment_header_length ((as_written s).segment n)) odd
        (segment_is_open f ((as_written s).segment (f % 2)) more encoded)))
  ];
}

pub fresh_gate : (s : Slots) → IsFresh s → HaveLastGates s → HasLastGate s.segment0
fresh_gate s fresh gates f more encoded =
    let known = fresh.segment0 (segment_is_open f s.segment0 more encoded) in
    has_gate 0 s.segment0 [] known (gates.last 0 [] (omega arith) known
    (λ followed. fresh.segment1 (subst (IsOpen segment_header_length) (sym followed.encoding) (omega arith, refl))))
    f more encoded

-- It is created.

pub empty_encodes : (e : ℕ) (slot : List ℕ) → slot ≡ empty_segment e → EncodesSegment e slot []
empty_encodes e slot is =
    record {
      version = current;
      content = closed_gate ∷ [];
      encoding = is;
      encoded = no_records (closed_gate ∷ []) (λ e. cc);
      within = tt;
      next = tt;
    }

pub empty_in_use : (e : ℕ) (slot : List ℕ) → slot ≡ empty_segment e → IsInUse e slot []
empty_in_use e slot is =
    record {
      content = closed_gate ∷ [];
      encoding = is;
      encoded = no_records (closed_gate ∷ []) (λ e. cc);
      within = tt;
      next = tt;
      ended = refl;
    }

pub fresh_segment : (s : Slots) (x : List ℕ) → IsFresh s → IsRemade 16 (empty_segment 0) s.segment0 x
    → IsFresh (with_slot s Segment0 x)
fresh_segment s x fresh remade = record {
  image0 = fresh.image0;
  image1 = fresh.image1;
  segment0 = λ is_open. elim remade as (λ _. EncodesSegment 0 x []) [
    | inl closing ↦ elim closing as (λ _. EncodesSegment 0 x []) [
      | inl same ↦ subst (λ l. EncodesSegment 0 l []) (sym same)
          (fresh.segment0 (subst (IsOpen segment_header_length) same is_open))
      | inr shut ↦ absurd (shut is_open)
    ]
    | inr whole ↦ empty_encodes 0 x whole
  ];
  segment1 = fresh.segment1;
}

pub segment_keeps_gate : (e : ℕ) (before x : List ℕ) → HasLastGate before → IsRemade 16 (empty_segment e) before x
    → HasLastGate x
segment_keeps_gate e before x has remade = elim remade as (λ _. HasLastGate x) [
  | inl closing ↦ elim closing as (λ _. HasLastGate x)
      [ inl same ↦ subst HasLastGate (sym same) has | inr shut ↦ shut_has_gate x shut ]
  | inr whole ↦ empty_has_gate e x whole
]

-- the first image is in its slot
pub first_made : (s : Slots) (x : List ℕ) → IsFresh s → s.segment0 ≡ empty_segment 0 → HoldsImage 0 x opening_state
    → InOne (with_slot s Image0 x) 0 opening_state []
first_made s x fresh segment image = record {
  fits = omega arith;
  image = image;
  segment = empty_encodes 0 s.segment0 segment;
  other_image = inl fresh.image1;
  other_segment = inl fresh.segment1;
}

pub fresh_image : (s : Slots) (x content : List ℕ) → IsFresh s → s.segment0 ≡ empty_segment 0
    → HoldsImage 0 content opening_state → IsRemade 24 content s.image0 x
    → Recovered (as_written (with_slot s Image0 x)) opening_state
fresh_image s x content fresh segment image remade =
    elim remade as (λ _. Recovered (as_written (with_slot s Image0 x)) opening_state) [
      | inl closing ↦ fresh_recovered (with_slot s Image0 x) (record {
        image0 =
            λ is_open. elim closing as (λ _. ⊥)
            [ inl same ↦ fresh.image0 (subst (IsOpen image_header) same is_open) | inr shut ↦ shut is_open ];
        image1 = fresh.image1;
        segment0 = fresh.segment0;
        segment1 = fresh.segment1;
      })
      | inr whole ↦ one_recovered (with_slot s Image0 x) 0 opening_state opening_state []
          (first_made s x fresh segment (subst (λ l. HoldsImage 0 l opening_state) (sym whole) image)) refl
    ]

-- A checkpoint is finished.

pub next_image : (s : Slots) (e : ℕ) (base mid state : State) (first next : List Record) (x content : List ℕ)
    → InTwo s e base first next → Run base first mid → Run mid next state
    → HoldsImage (e + 1) content mid → IsRemade 24 content (slot_of s (image_slot (e + 1))) x
    → Recovered (as_written (with_slot s (image_slot (e + 1)) x)) state
next_image s e base mid state first next x content two run more image remade =
    elim remade as (λ _. Recovered (as_written (with_slot s (image_slot (e + 1)) x)) state) [
      | inl closing ↦ two_recovered (with_slot s (image_slot (e + 1)) x) e base mid state first next
          (two_image_changed s e base first next x two
          (closing_image e (slot_of s (image_slot (e + 1))) x closing two.other_image)) run more
      | inr whole ↦ one_recovered (with_slot s (image_slot (e + 1)) x) (e + 1) mid state next
          (two_finished s e base mid first next x two (subst (λ l. HoldsImage (e + 1) l mid) (sym whole) image)) more
    ]

-- A segment is ended after its batches.

-- a closed gate remains after the batches, or one is written there
gate_after : (rest : List ℕ) → IsClosed rest → IsClosed (take 1 (rest ++ closed_gate ∷ []))
    × (length (take 1 (rest ++ closed_gate ∷ [])) ≡ 1)
gate_after [] is = (λ e. cc, refl)
gate_after (gate ∷ rest) is = (is, refl)

pub ended_in_use : (v : StoreVersion) (e : ℕ) (segment batches new : List ℕ) (records : List Record) (size end : ℕ)
    → AreWithin v records → LeavesAnEpoch v e
    → segment ≡ segment_header_of v open_gate e ++ batches → EncodesCounted batches records size → end ≡ 16 + size
    → new ≡ take (end + 1) (segment ++ closed_gate ∷ [])
    → IsInUseOf v e new records
ended_in_use v e segment batches new records size end within next is counted placed cut =
    let encoded = counted.encoded in
    let header : List ℕ = segment_header_of v open_gate e in
    let encoding : List ℕ = batches_encoding 0 encoded.batches in
    let tail : List ℕ = take 1 (encoded.rest ++ closed_gate ∷ []) in
    let gate = gate_after encoded.rest encoded.closed in
    let sized : size ≡ length encoding =
    omega (arith, counted.sized, ap length encoded.encoding, length-append encoding encoded.rest) in
    let joined : segment ++ closed_gate ∷ [] ≡ (header ++ encoding) ++ (encoded.rest ++ closed_gate ∷ []) =
    ap (λ l. l ++ closed_gate ∷ [])
    (is ∙ ap (λ l. header ++ l) encoded.encoding ∙ sym (append_assoc header encoding encoded.rest))
    ∙ append_assoc (header ++ encoding) encoded.rest (closed_gate ∷ []) in
    let long : end + 1 ≡ length (header ++ encoding) + 1 =
    omega (arith, placed, sized, length-append header encoding) in
    let left : new ≡ header ++ (encoding ++ tail) =
    cut ∙ (λ i. take (long i) (joined i)) ∙ take-append-add (header ++ encoding) (encoded.rest ++ closed_gate ∷ []) 1
    ∙ append_assoc header encoding tail in
    record {
      content = encoding ++ tail;
      encoding = left;
      encoded = record {
        batches = encoded.batches;
        rest = tail;
        encoding = refl;
        closed = gate.0;
        none_empty = encoded.none_empty;
        flat = encoded.flat;
        canonical = encoded.canonical;
        bounded = encoded.bounded;
      };
      within = within;
      next = next;
      ended = gate.1;
    }

some_with_tail : (rest tail : List ℕ) → 0 < length rest → 0 < length (take 1 rest ++ tail)
some_with_tail [] tail some = absurd (omega (arith, some))
some_with_tail (gate ∷ rest) tail some = omega arith

gate_and_tail : (rest tail : List ℕ) → 0 < length rest → IsClosed rest → IsClosed (take 1 rest ++ tail)
gate_and_tail [] tail some shut = absurd (omega (arith, some))
gate_and_tail (gate ∷ rest) tail some shut = shut

pub cut_encodes : (v : StoreVersion) (e : ℕ) (segment batches after : List ℕ) (records : List Record) (size end : ℕ)
    → AreWithin v records → LeavesAnEpoch v e
    → segment ≡ segment_header_of v open_gate e ++ batches → (counted : EncodesCounted batches records size)
    → end ≡ 16 + size → 0 < length counted.encoded.rest
    → take (end + 1) after ≡ take (end + 1) segment → (known : EncodesSegment e after records)
    × (0 < length known.encoded.rest)
cut_encodes v e segment batches after records size end within next is counted placed some same =
    let encoded = counted.encoded in
    let header : List ℕ = segment_header_of v open_gate e in
    let encoding : List ℕ = batches_encoding 0 encoded.batches in
    let tail : List ℕ = drop (end + 1) after in
    let sized : size ≡ length encoding =
    omega (arith, counted.sized, ap length encoded.encoding, length-append encoding encoded.rest) in
    let joined : segment ≡ (header ++ encoding) ++ encoded.rest =
    is ∙ ap (λ l. header ++ l) encoded.encoding ∙ sym (append_assoc header encoding encoded.rest) in
    let long : end + 1 ≡ length (header ++ encoding) + 1 =
    omega (arith, placed, sized, length-append header encoding) in
    let front : take (end + 1) after ≡ (header ++ encoding) ++ take 1 encoded.rest =
    same ∙ (λ i. take (long i) (joined i)) ∙ take-append-add (header ++ encoding) encoded.rest 1 in
    let whole : after ≡ header ++ (encoding ++ (take 1 encoded.rest ++ tail)) =
    sym (take-append-drop (end + 1) after) ∙ ap (λ l. l ++ tail) front
    ∙ append_assoc (header ++ encoding) (take 1 encoded.rest) tail
    ∙ append_assoc header encoding (take 1 encoded.rest ++ tail) in (
      record {
        version = v;
        content = encoding ++ (take 1 encoded.rest ++ tail);
        encoding = whole;
        encoded = record {
          batches = encoded.batches;
          rest = take 1 encoded.rest ++ tail;
          encoding = refl;
          closed = gate_and_tail encoded.rest tail some encoded.closed;
          none_empty = encoded.none_empty;
          flat = encoded.flat;
          canonical = encoded.canonical;
          bounded = encoded.bounded;
        };
        within = within;
        next = next;
      },
      some_with_tail encoded.rest tail some,
    )
