-- The steps of opening a store, composed.
use Rattle.std.proofs.Common.{◌≡◌, inl, inr, ℕ, ◌+◌, ◌<◌, List, [], ◌∷◌, ◌++◌, length, take, refl, sym, ap, subst, ◌∙◌}
use Rattle.codes.specs.StoreVersion.{version_number}
use Rattle.codes.specs.declared.store_version.StoreVersion.{StoreVersion}
use Rattle.disk.specs.declared.slot.Slot.{Slot}
use Rattle.disk.specs.declared.slot.Slot.TheVariants.{Image0, Segment0}
use Rattle.disk.specs.Moments.{View, MayLeave, Passes, Follows, IsSynced}
use Rattle.disk.specs.Slots.{Slots, slot_of, with_slot}
use Rattle.checkpoint.specs.Images.{ImageValue, open_image, unwritten}
use Rattle.ipc_laws.specs.RecoveryLaws.{same_version}
use Rattle.ipc_model.specs.state.State.{State, opening_state}
use Rattle.ipc_model.specs.store.Recovery.{HoldsImage, IsNew, version_of}
use Rattle.ipc_model.specs.store.Store.{closed_gate}
use Rattle.ipc_model.specs.encodings.Images.{image_encoding}
use Rattle.journal.specs.declared.segment.Segment.{Segment}
use Rattle.slot_steps.specs.Steps.{IsRemade, image_slot, segment_slot}
use Rattle.disk.proofs.Moments.{passes_as, passes_then}
use Rattle.store_layout.specs.Gates.{HaveLastGates, StandForState}
use Rattle.store_layout.specs.Slots.{alongside_image}
use Rattle.store_layout.specs.Standing.{as_written, InOne}
use Rattle.store_layout.proofs.Gates.{gates_alongside_image}
use Rattle.recover.specs.AtRest.{IsAtRest}
use Rattle.recover.specs.Kept.{IsKept, IsKeptIn}
use Rattle.recover.specs.Making.{DiffersIn, empty_segment}
use Rattle.recover.specs.Crashing.{LeavesSame, StandForSame}
use Rattle.recover.specs.Surveyed.{IsUnused}
use Rattle.recover.specs.Upgrading.{IsRead}
use Rattle.recover.proofs.Gates.{empty_has_gate, in_use_has_gate}
use Rattle.recover.proofs.Rest.{rest_after, rest_called, rest_is_synced, rest_kept}
use Rattle.recover.proofs.Stages.{IsFresh, empty_in_use, first_made, fresh_gate, fresh_gates, fresh_image, fresh_recovered, fresh_segment, one_stands, same_by_one, segment_keeps_gate, unused_fresh}
use Rattle.recover.proofs.Ways.{NextParts, next_found, next_written, next_writing, one_ending, one_found, one_kept, recover_as, same_after, still_same}

-- after reads

pub still_then_same : (old mid new : View) → IsAtRest old → HaveLastGates old.seen → Passes old mid (MayLeave old)
    → mid.seen ≡ old.seen → Passes mid new (StandForSame mid.seen) → Passes old new (StandForSame old.seen)
still_then_same old mid new rest gates still same second =
    same_after old mid new (still_same old mid rest gates still) (recover_as old.seen mid.seen same) second

pub leaves_same : (old mid new : View) → Passes old mid (MayLeave old) → mid.seen ≡ old.seen
    → Passes mid new (StandForSame mid.seen) → Passes old new (LeavesSame old)
leaves_same old mid new first same second =
    passes_then old mid new (MayLeave old) (StandForSame mid.seen) (LeavesSame old) first second (λ c left. inl left)
    (λ c stands. inr (subst (λ (s : Slots). StandForSame s c) same stands))

-- A store is created.

pub first_segment_same : (old new : View) → IsAtRest old → IsUnused old.seen → IsNew (as_written old.seen)
    → HaveLastGates old.seen
    → (IsSynced old Segment0 → Passes old new (Follows old Segment0 (IsRemade 16 (empty_segment 0))))
    → Passes old new (StandForSame old.seen)
first_segment_same old new rest unused is_new gates time =
    let fresh = unused_fresh old.seen unused is_new in
    passes_as old new (DiffersIn old.seen Segment0 (IsRemade 16 (empty_segment 0) old.seen.segment0))
    (StandForSame old.seen)
    (rest_called Segment0 old new (IsRemade 16 (empty_segment 0)) rest (time (rest_is_synced Segment0 old rest)))
    (λ c differs.
    let made = fresh_segment old.seen c.segment0 fresh differs.0 in
    subst (StandForSame old.seen) (sym differs.1) (
      same_by_one old.seen (with_slot old.seen Segment0 c.segment0) opening_state (fresh_recovered old.seen fresh)
          (fresh_recovered (with_slot old.seen Segment0 c.segment0) made),
      fresh_gates (with_slot old.seen Segment0 c.segment0) made
          (segment_keeps_gate 0 old.seen.segment0 c.segment0 (fresh_gate old.seen fresh gates) differs.0),
    ))

-- its segment is created
made_fresh : (s t : Slots) → IsUnused s → IsNew (as_written s) → t ≡ with_slot s Segment0 (empty_segment 0) → IsFresh t
made_fresh s t unused is_new is =
    subst IsFresh (sym is) (fresh_segment s (empty_segment 0) (unused_fresh s unused is_new) (inr refl))

first_image_after : (mid new : View) (content : List ℕ) → IsAtRest mid → IsFresh mid.seen
    → mid.seen.segment0 ≡ empty_segment 0 → HoldsImage 0 content opening_state
    → (IsSynced mid Image0 → Passes mid new (Follows mid Image0 (IsRemade 24 content)))
    → Passes mid new (StandForSame mid.seen)
first_image_after mid new content rest fresh made image time =
    passes_as mid new (DiffersIn mid.seen Image0 (IsRemade 24 content mid.seen.image0)) (StandForSame mid.seen)
    (rest_called Image0 mid new (IsRemade 24 content) rest (time (rest_is_synced Image0 mid rest))) (λ c differs.
    subst (StandForSame mid.seen) (sym differs.1) (
      same_by_one mid.seen (with_slot mid.seen Image0 c.image0) opening_state (fresh_recovered mid.seen fresh)
          (fresh_image mid.seen c.image0 content fresh made image differs.0),
      gates_alongside_image mid.seen c.image0 0
          (fresh_gates mid.seen fresh (empty_has_gate 0 mid.seen.segment0 made)),
    ))

-- the image of epoch 0, as it is written
abbrev OpeningImage : ImageValue → Type 0
OpeningImage image = image ≡ unwritten 0 (image_encoding opening_state)

abbrev pub WritesImage : View → View → ImageValue → Type 0
WritesImage mid new image =
    IsSynced mid (image_slot image.epoch)
    → Passes mid new (Follows mid (image_slot image.epoch) (IsRemade 24 (open_image image.epoch image.encoding)))

pub first_image_same : (old mid new : View) (image : ImageValue) → IsAtRest old → IsUnused old.seen
    → IsNew (as_written old.seen) → HaveLastGates old.seen → OpeningImage image
    → HoldsImage 0 (open_image 0 (image_encoding opening_state)) opening_state
    → (IsSynced old Segment0 → Passes old mid (Follows old Segment0 (IsRemade 16 (empty_segment 0))))
    → mid.seen ≡ with_slot old.seen Segment0 (empty_segment 0) → IsSynced mid Segment0 → WritesImage mid new image
    → Passes old new (StandForSame old.seen)
first_image_same old mid new image rest unused is_new gates is holds first made synced second =
    let fresh = made_fresh old.seen mid.seen unused is_new made in
    let rested =
    rest_after Segment0 old mid (IsRemade 16 (empty_segment 0)) (empty_segment 0)
    (first (rest_is_synced Segment0 old rest)) made synced rest in
    same_after old mid new (first_segment_same old mid rest unused is_new gates first)
    (same_by_one old.seen mid.seen opening_state (fresh_recovered old.seen (unused_fresh old.seen unused is_new))
    (fresh_recovered mid.seen fresh))
    (first_image_after mid new (open_image 0 (image_encoding opening_state)) rested fresh
    (ap (λ (s : Slots). s.segment0) made) holds
    (subst (WritesImage mid new) is second))

pub first_kept : (old mid new : View) (image : ImageValue) (segment : Segment) → IsAtRest old → IsUnused old.seen
    → IsNew (as_written old.seen) → OpeningImage image
    → HoldsImage 0 (open_image 0 (image_encoding opening_state)) opening_state
    → (IsSynced old Segment0 → Passes old mid (Follows old Segment0 (IsRemade 16 (empty_segment 0))))
    → mid.seen ≡ with_slot old.seen Segment0 (empty_segment 0) → IsSynced mid Segment0
    → segment ≡ record { epoch = 0; records = 0 }
    → WritesImage mid new image → new.seen
    ≡ with_slot mid.seen (image_slot image.epoch) (open_image image.epoch image.encoding)
    → IsSynced new (image_slot image.epoch) → IsKept new segment opening_state
first_kept old mid new image segment rest unused is_new is holds first made synced zeros second written stays =
    let content : List ℕ = open_image 0 (image_encoding opening_state) in
    let fresh = made_fresh old.seen mid.seen unused is_new made in
    let rested =
    rest_after Segment0 old mid (IsRemade 16 (empty_segment 0)) (empty_segment 0)
    (first (rest_is_synced Segment0 old rest)) made synced rest in
    let at : new.seen ≡ with_slot mid.seen Image0 content =
    subst (λ (i : ImageValue). new.seen ≡ with_slot mid.seen (image_slot i.epoch) (open_image i.epoch i.encoding))
    is written in
    let there : IsSynced new Image0 = subst (λ (i : ImageValue). IsSynced new (image_slot i.epoch)) is stays in
    let time : Passes mid new (Follows mid Image0 (IsRemade 24 content)) =
    subst (WritesImage mid new) is second (rest_is_synced Image0 mid rested) in
    let segment0 : mid.seen.segment0 ≡ empty_segment 0 = ap (λ (s : Slots). s.segment0) made in
    subst (λ (g : Segment). IsKept new g opening_state) (sym zeros) (record {
      at_rest = rest_after Image0 mid new (IsRemade 24 content) content time at there rested;
      base = opening_state;
      records = [];
      stands =
          subst (λ (s : Slots). InOne s 0 opening_state []) (sym at) (first_made mid.seen content fresh segment0 holds);
      in_use = empty_in_use 0 new.seen.segment0 (ap (λ (s : Slots). s.segment0) at ∙ segment0);
      run = refl;
      counted = refl;
    })

-- A store continues.

-- the segment in this slot is ended
abbrev pub EndsAt : View → View → Slot → ℕ → Type 0
EndsAt mid new slot end =
    IsAtRest mid → end < length (slot_of mid.seen slot)
    → Passes mid new (DiffersIn mid.seen slot
    (λ after. take (end + 1) after ≡ take (end + 1) (slot_of mid.seen slot)))

pub end_same : (old new : View) (e : ℕ) (slot : Slot) (state : State) (count end : ℕ) → slot ≡ segment_slot e
    → IsAtRest old → HaveLastGates old.seen → IsRead old.seen e state count end → EndsAt old new slot end
    → Passes old new (StandForSame old.seen)
end_same old new e slot state count end is rest gates read ends =
    one_ending old new e state count end rest gates read (subst (λ s. EndsAt old new s end) is ends rest)

-- the version that was read is the header's
version_read : (s : Slots) (e : ℕ) (state : State) (count end : ℕ) (v : StoreVersion)
    → (parts : IsRead s e state count end) → version_of (slot_of s (segment_slot e)) ≡ version_number v
    → parts.replays.version ≡ v
version_read s e state count end v parts says = same_version parts.replays.version v (sym parts.replays.says ∙ says)

pub end_kept : (old new : View) (e : ℕ) (slot : Slot) (state : State) (count end : ℕ) (v : StoreVersion)
    → slot ≡ segment_slot e → IsRead old.seen e state count end
    → version_of (slot_of old.seen (segment_slot e)) ≡ version_number v → IsAtRest new
    → new.seen ≡ with_slot old.seen slot (take (end + 1) (slot_of old.seen slot ++ closed_gate ∷ []))
    → IsKeptIn v new (record { epoch = e; records = count }) state
end_kept old new e slot state count end v is read says rest ended =
    subst (λ (w : StoreVersion). IsKeptIn w new (record { epoch = e; records = count }) state)
    (version_read old.seen e state count end v read says)
    (one_kept old.seen new e state count end read rest
    (subst (λ s. new.seen ≡ with_slot old.seen s (take (end + 1) (slot_of old.seen s ++ closed_gate ∷ []))) is ended))

-- It continues in the next epoch.

abbrev NextContent : ℕ → State → List ℕ
NextContent e base = open_image (e + 1) (image_encoding base)

pub next_image_same : (old mid new : View) (e : ℕ) (base state : State) (image : ImageValue) (count end : ℕ)
    → image ≡ unwritten (e + 1) (image_encoding base) → IsAtRest old → HaveLastGates old.seen
    → Passes old mid (MayLeave old) → mid.seen ≡ old.seen
    → NextParts old.seen e (NextContent e base) state count end → WritesImage mid new image
    → Passes old new (StandForSame old.seen)
next_image_same old mid new e base state image count end is rest gates still same parts writes =
    let rested = rest_kept old mid still same rest in
    still_then_same old mid new rest gates still same
    (next_writing mid new e (NextContent e base) state count end rested (subst HaveLastGates (sym same) gates)
    (subst (λ (s : Slots). NextParts s e (NextContent e base) state count end) (sym same) parts)
    (subst (WritesImage mid new) is writes (rest_is_synced (image_slot (e + 1)) mid rested)))

-- the image was written
next_rest : (mid written : View) (e : ℕ) (base : State) (image : ImageValue)
    → image ≡ unwritten (e + 1) (image_encoding base) → IsAtRest mid → WritesImage mid written image
    → written.seen ≡ with_slot mid.seen (image_slot image.epoch) (open_image image.epoch image.encoding)
    → IsSynced written (image_slot image.epoch) → IsAtRest written
next_rest mid written e base image is rested writes made synced =
    rest_after (image_slot image.epoch) mid written (IsRemade 24 (open_image image.epoch image.encoding))
    (open_image image.epoch image.encoding)
    (writes (rest_is_synced (image_slot image.epoch) mid rested)) made synced rested

next_placed : (mid written : View) (e : ℕ) (base : State) (image : ImageValue)
    → image ≡ unwritten (e + 1) (image_encoding base)
    → written.seen ≡ with_slot mid.seen (image_slot image.epoch) (open_image image.epoch image.encoding)
    → written.seen ≡ with_slot mid.seen (image_slot (e + 1)) (NextContent e base)
next_placed mid written e base image is made =
    subst (λ (i : ImageValue). written.seen ≡ with_slot mid.seen (image_slot i.epoch) (open_image i.epoch i.encoding))
    is made

pub next_read : (old mid written : View) (e : ℕ) (base state : State) (image : ImageValue) (count end : ℕ)
    → image ≡ unwritten (e + 1) (image_encoding base) → mid.seen ≡ old.seen
    → NextParts old.seen e (NextContent e base) state count end
    → written.seen ≡ with_slot mid.seen (image_slot image.epoch) (open_image image.epoch image.encoding)
    → IsRead written.seen (e + 1) state count end
next_read old mid written e base state image count end is same parts made =
    let content : List ℕ = NextContent e base in
    next_written mid.seen written.seen e content state count end
    (subst (λ (s : Slots). NextParts s e content state count end) (sym same) parts)
    (next_placed mid written e base image is made)

-- the segment is unchanged
pub next_says : (old mid written : View) (e : ℕ) (base : State) (image : ImageValue) (v : StoreVersion)
    → image ≡ unwritten (e + 1) (image_encoding base) → mid.seen ≡ old.seen
    → written.seen ≡ with_slot mid.seen (image_slot image.epoch) (open_image image.epoch image.encoding)
    → version_of (slot_of old.seen (segment_slot (e + 1))) ≡ version_number v
    → version_of (slot_of written.seen (segment_slot (e + 1))) ≡ version_number v
next_says old mid written e base image v is same made says =
    let alongside : slot_of written.seen (segment_slot (e + 1)) ≡ slot_of old.seen (segment_slot (e + 1)) =
    ap (λ (s : Slots). slot_of s (segment_slot (e + 1))) (next_placed mid written e base image is made)
    ∙ (alongside_image mid.seen (NextContent e base) e).2 ∙ ap (λ (s : Slots). slot_of s (segment_slot (e + 1))) same in
    ap version_of alongside ∙ says

pub next_end_same : (old mid written new : View) (e : ℕ) (base state : State) (image : ImageValue) (count end : ℕ)
    → image ≡ unwritten (e + 1) (image_encoding base) → IsAtRest old → HaveLastGates old.seen
    → Passes old mid (MayLeave old) → mid.seen ≡ old.seen → NextParts old.seen e (NextContent e base) state count end
    → WritesImage mid written image
    → written.seen ≡ with_slot mid.seen (image_slot image.epoch) (open_image image.epoch image.encoding)
    → (HaveLastGates written.seen → Passes written new (StandForSame written.seen))
    → Passes old new (StandForSame old.seen)
next_end_same old mid written new e base state image count end is rest gates still same parts writes made ends =
    let content : List ℕ = NextContent e base in
    let read = next_read old mid written e base state image count end is same parts made in
    same_after old written new
    (next_image_same old mid written e base state image count end is rest gates still same parts writes)
    (same_by_one old.seen written.seen state (next_found old.seen e content state count end parts)
    (one_found written.seen (e + 1) state count end read))
    (ends (subst HaveLastGates (sym (next_placed mid written e base image is made))
    (gates_alongside_image mid.seen content (e + 1) (subst HaveLastGates (sym same) gates))))

pub rested_after_image : (old mid written : View) (e : ℕ) (base : State) (image : ImageValue)
    → image ≡ unwritten (e + 1) (image_encoding base) → IsAtRest old → Passes old mid (MayLeave old)
    → mid.seen ≡ old.seen → WritesImage mid written image
    → written.seen ≡ with_slot mid.seen (image_slot image.epoch) (open_image image.epoch image.encoding)
    → IsSynced written (image_slot image.epoch) → IsAtRest written
rested_after_image old mid written e base image is rest still same writes made synced =
    next_rest mid written e base image is (rest_kept old mid still same rest) writes made synced

-- the contents that a crash leaves of an open store represent its state
pub kept_stands : (disk : View) (segment : Segment) (state : State) → IsKept disk segment state → (c : Slots)
    → MayLeave disk c → StandForState state c
kept_stands disk segment state kept c left =
    subst (StandForState state) (sym (kept.at_rest c left))
    (one_stands disk.seen segment.epoch kept.base state kept.records kept.stands kept.run
    (in_use_has_gate segment.epoch (slot_of disk.seen (segment_slot segment.epoch)) kept.records kept.in_use))
