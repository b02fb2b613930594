-- The slots after a batch is appended to the segment in use.
use Rattle.std.proofs.Common.{◌≡◌, ℕ, ◌+◌, ◌-◌, ◌<◌, ◌%◌, ◌==◌, Bool, true, false, List, [], ◌∷◌, ◌++◌, Option, None, Some, length, take, if◌then◌else◌, refl, sym, ap, subst, ◌∙◌, arith, length-append}
use Rattle.checkpoint.specs.Images.{HoldsAfter, first_pieces}
use Rattle.disk.specs.declared.slot.Slot.{Slot}
use Rattle.disk.specs.declared.slot.Slot.TheVariants.{Image0, Image1, Segment0, Segment1}
use Rattle.disk.specs.Moments.{View}
use Rattle.disk.specs.Slots.{Slots, slot_of, with_slot}
use Rattle.ipc_model.specs.store.Store.{closed_gate, open_gate, with_batch}
use Rattle.journal.specs.declared.segment.Segment.{Segment}
use Rattle.slot_steps.specs.Steps.{image_slot, segment_slot}
use Rattle.store_half.specs.Values.{AreEpochs, AreMade, CheckpointValue, HasShape}

-- a slot with a batch isn't empty
batch_some : (bytes content : List ℕ) → 0 < length (with_batch bytes content)
batch_some bytes content =
    omega (arith, length-append (take (length bytes - 1) bytes) (open_gate ∷ (content ++ closed_gate ∷ [])))

-- no slot becomes empty when one gets bytes
some_kept : (changed slot : Slot) (s : Slots) (bytes : List ℕ) → 0 < length bytes → 0 < length (slot_of s slot)
    → 0 < length (slot_of (with_slot s changed bytes) slot)
some_kept Image0 Image0 s bytes some had = some
some_kept Image1 Image1 s bytes some had = some
some_kept Segment0 Segment0 s bytes some had = some
some_kept Segment1 Segment1 s bytes some had = some
some_kept changed slot s bytes some had = had

apart : (b c : Bool) (s : Slots) (bytes : List ℕ)
    → slot_of (with_slot s (if b then Segment0 else Segment1) bytes) (if c then Image0 else Image1)
    ≡ slot_of s (if c then Image0 else Image1)
apart true true s bytes = refl
apart true false s bytes = refl
apart false true s bytes = refl
apart false false s bytes = refl

-- a segment's slot isn't an image's
image_kept : (e f : ℕ) (s : Slots) (bytes : List ℕ)
    → slot_of (with_slot s (segment_slot e) bytes) (image_slot f) ≡ slot_of s (image_slot f)
image_kept e f s bytes = apart (e % 2 == 0) (f % 2 == 0) s bytes

made_kept : (old new : View) (segment after : Segment) (e : ℕ) (bytes : List ℕ) (checkpoint : Option CheckpointValue)
    → 0 < length bytes → new.seen ≡ with_slot old.seen (segment_slot e) bytes
    → AreMade old segment checkpoint → AreMade new after checkpoint
made_kept old new segment after e bytes None some is made = tt
made_kept old new segment after e bytes (Some checkpoint) some is made =
    let epoch : ℕ = checkpoint.epoch in
    record {
      header =
          λ rolled. subst (λ (s : Slots). 0 < length (slot_of s (segment_slot epoch))) (sym is)
          (some_kept (segment_slot e) (segment_slot epoch) old.seen bytes some (made.header rolled));
      pieces = λ imaged. subst (λ (l : List ℕ). HoldsAfter l (first_pieces (checkpoint.imaged - 1) checkpoint.encoding))
          (sym (ap (λ (s : Slots). slot_of s (image_slot epoch)) is ∙ image_kept e epoch old.seen bytes))
          (made.pieces imaged);
    }

pub epochs_appended : (segment after : Segment) (records : ℕ) (checkpoint : Option CheckpointValue)
    → after ≡ record segment { records = records } → AreEpochs segment checkpoint → AreEpochs after checkpoint
epochs_appended segment after records None is under = tt
epochs_appended segment after records (Some checkpoint) is under =
    let same : segment.epoch ≡ after.epoch = sym (ap (λ (s : Segment). s.epoch) is) in
    record {
      steps = under.steps;
      before = λ less. under.before less ∙ ap (λ k. k + 1) same;
      after = λ all. under.after all ∙ same;
      images = under.images;
    }

pub shape_appended : (old new : View) (segment after : Segment) (records : ℕ) (content : List ℕ)
    (checkpoint : Option CheckpointValue) → after ≡ record segment { records = records }
    → new.seen ≡ with_slot old.seen (segment_slot segment.epoch)
    (with_batch (slot_of old.seen (segment_slot segment.epoch)) content) → HasShape old segment checkpoint
    → HasShape new after checkpoint
shape_appended old new segment after records content checkpoint same is shape =
    let slot : Slot = segment_slot segment.epoch in
    let bytes : List ℕ = with_batch (slot_of old.seen slot) content in
    let some : 0 < length bytes = batch_some (slot_of old.seen slot) content in
    let kept : 0 < length (slot_of new.seen slot) =
    subst (λ (s : Slots). 0 < length (slot_of s slot)) (sym is)
    (some_kept slot slot old.seen bytes some shape.gate) in
    record {
      gate =
          subst (λ k. 0 < length (slot_of new.seen (segment_slot k))) (sym (ap (λ (s : Segment). s.epoch) same)) kept;
      made = made_kept old new segment after segment.epoch bytes checkpoint some is shape.made;
    }
