-- A reading while a server runs, slot by slot.
use Rattle.std.specs.Prelude.{◌≡◌, ℕ, ◌+◌, ◌%◌, ◌≤◌, ◌==◌, Bool, true, false, if◌then◌else◌, List, take}
use Rattle.std.proofs.Common.{sym, ap, inl, inr, ◌∙◌, arith}
use Rattle.disk.specs.Slots.{Slots, slot_of}
use Rattle.disk.specs.declared.slot.Slot.{Slot}
use Rattle.disk.specs.declared.slot.Slot.TheVariants.{Image0, Image1, Segment0, Segment1}
use Rattle.slot_steps.specs.Steps.{image_slot, segment_slot}
use Rattle.inspect.specs.still_disk.Live.{Copied, FrontsRead, IsCopy, SlotsCopied, Tried, fronts_of, nothing_yet, one_piece_more}
use Rattle.inspect.specs.live_reading.Moments.{Later, Moment, place}
use Rattle.inspect.proofs.live_reading.Times.{more_appended, no_earlier, nothing_appended, same_place}

-- A reading, slot by slot.
pub record Reading (begun ended : Moment) (copies : Slots) : Type 0 where
  pub before : Slot → Moment
  pub start : Moment
  pub copy_begun : Slot → Moment
  pub copy_ended : Slot → Moment
  pub stop : Moment
  pub after : Slot → Moment
  pub since : (slot : Slot) → Later begun (before slot)
  pub images_first : (e k : ℕ) → Later (before (image_slot e)) (before (segment_slot k))
  pub early : (slot : Slot) → Later (before slot) start
  pub copied_since : (slot : Slot) → Later start (copy_begun slot)
  pub copied : (slot : Slot) → IsCopy Later
      (λ m. slot_of m.slots slot) (copy_begun slot) (copy_ended slot) (slot_of copies slot)
  pub copied_until : (slot : Slot) → Later (copy_ended slot) stop
  pub in_time : Later start stop
  pub late : (slot : Slot) → Later stop (after slot)
  pub until : (slot : Slot) → Later (after slot) ended
  pub image_fronts : (e : ℕ) → take 24 (slot_of (before (image_slot e)).slots (image_slot e))
      ≡ take 24 (slot_of (after (image_slot e)).slots (image_slot e))
  pub segment_fronts : (e : ℕ) → take 16 (slot_of (before (segment_slot e)).slots (segment_slot e))
      ≡ take 16 (slot_of (after (segment_slot e)).slots (segment_slot e))
  pub copied_image_fronts : (e : ℕ)
      → take 24 (slot_of (before (image_slot e)).slots (image_slot e)) ≡ take 24 (slot_of copies (image_slot e))
  pub copied_segment_fronts : (e : ℕ)
      → take 16 (slot_of (before (segment_slot e)).slots (segment_slot e)) ≡ take 16 (slot_of copies (segment_slot e))
  pub one_turn : ended.epoch ≤ begun.epoch + 1

pub later_joins : (a b c : Moment) → Later a b → Later b c → Later a c
later_joins a b c (inl front) (inl back) = inl (more_appended a b c front back)
later_joins a b c (inl front) (inr back) =
    let same : place a ≡ place b = same_place a b front in inr (omega (arith, same, back))
later_joins a b c (inr front) back = let last = no_earlier b c back in inr (omega (arith, front, last))

copied_since : (slot : Moment → List ℕ) (begun last : Moment) (copy : List ℕ) → Copied Later slot begun last copy
    → Later begun last
copied_since slot begun _ _ nothing_yet = inl (nothing_appended begun)
copied_since slot begun _ _ (one_piece_more {last} {copy} now count longer copied later is) =
    later_joins begun last now (copied_since slot begun last copy copied) later

copy_since : (slot : Moment → List ℕ) (begun ended : Moment) (copy : List ℕ) → IsCopy Later slot begun ended copy
    → Later begun ended
copy_since slot begun ended copy is =
    later_joins begun is.last ended (copied_since slot begun is.last copy is.copied) is.later

abbrev by_slot : {X : Type 0} → X → X → X → X → Slot → X
by_slot a b c d Image0 = a
by_slot a b c d Image1 = b
by_slot a b c d Segment0 = c
by_slot a b c d Segment1 = d

all_slots : (P : Slot → Type 0) → P Image0 → P Image1 → P Segment0 → P Segment1 → (slot : Slot) → P slot
all_slots P a b c d Image0 = a
all_slots P a b c d Image1 = b
all_slots P a b c d Segment0 = c
all_slots P a b c d Segment1 = d

images : (P : Slot → Type 0) → P Image0 → P Image1 → (h : Bool) → P (if h then Image0 else Image1)
images P a b true = a
images P a b false = b

all_images : (P : Slot → Type 0) → P Image0 → P Image1 → (e : ℕ) → P (image_slot e)
all_images P a b e = images P a b (e % 2 == 0)

segments : (P : Slot → Type 0) → P Segment0 → P Segment1 → (h : Bool) → P (if h then Segment0 else Segment1)
segments P a b true = a
segments P a b false = b

all_segments : (P : Slot → Type 0) → P Segment0 → P Segment1 → (e : ℕ) → P (segment_slot e)
all_segments P a b e = segments P a b (e % 2 == 0)

module _ (begun ended : Moment) (fronts copies again : Slots)
    (tried : Tried Later (λ m. m.slots) begun ended fronts copies again) (same : again ≡ fronts)
    (own : fronts_of copies ≡ fronts) (one_turn : ended.epoch ≤ begun.epoch + 1) where
  abbrev at : Slot → Moment → List ℕ
  at slot m = slot_of m.slots slot

  abbrev front : FrontsRead Later (λ m. m.slots) begun tried.start fronts
  front = tried.before

  abbrev copied : SlotsCopied Later (λ m. m.slots) tried.start tried.stop copies
  copied = tried.copied

  abbrev back : FrontsRead Later (λ m. m.slots) tried.stop ended again
  back = tried.after

  -- the order of the moments of the first read of the fronts, and of the second
  to_second : Later begun front.second
  to_second = later_joins begun front.first front.second front.to_first front.to_second

  to_third : Later begun front.third
  to_third = later_joins begun front.second front.third to_second front.to_third

  to_start : Later begun tried.start
  to_start = later_joins begun front.third tried.start to_third front.to_last

  second_start : Later front.second tried.start
  second_start = later_joins front.second front.third tried.start front.to_third front.to_last

  first_start : Later front.first tried.start
  first_start = later_joins front.first front.second tried.start front.to_second second_start

  back_second : Later tried.stop back.second
  back_second = later_joins tried.stop back.first back.second back.to_first back.to_second

  back_third : Later tried.stop back.third
  back_third = later_joins tried.stop back.second back.third back_second back.to_third

  second_ended : Later back.second ended
  second_ended = later_joins back.second back.third ended back.to_third back.to_last

  -- the order of the moments of the copies
  image0_copied : Later tried.start copied.first
  image0_copied = copy_since (at Image0) tried.start copied.first copies.image0 copied.image0

  image1_copied : Later copied.first copied.second
  image1_copied = copy_since (at Image1) copied.first copied.second copies.image1 copied.image1

  segment0_copied : Later copied.second copied.third
  segment0_copied = copy_since (at Segment0) copied.second copied.third copies.segment0 copied.segment0

  segment1_copied : Later copied.third tried.stop
  segment1_copied = copy_since (at Segment1) copied.third tried.stop copies.segment1 copied.segment1

  start_second : Later tried.start copied.second
  start_second = later_joins tried.start copied.first copied.second image0_copied image1_copied

  start_third : Later tried.start copied.third
  start_third = later_joins tried.start copied.second copied.third start_second segment0_copied

  second_stop : Later copied.second tried.stop
  second_stop = later_joins copied.second copied.third tried.stop segment0_copied segment1_copied

  abbrev before : Slot → Moment
  before = by_slot front.first front.second front.third tried.start

  abbrev after : Slot → Moment
  after = by_slot back.first back.second back.third ended

  pub ordered : Reading begun ended copies
  ordered = record {
    before = before;
    start = tried.start;
    copy_begun = by_slot tried.start copied.first copied.second copied.third;
    copy_ended = by_slot copied.first copied.second copied.third tried.stop;
    stop = tried.stop;
    after = after;
    since = all_slots (λ s. Later begun (before s)) front.to_first to_second to_third to_start;
    images_first = all_images (λ s. (k : ℕ) → Later (before s) (before (segment_slot k)))
        (all_segments (λ s. Later front.first (before s))
        (later_joins front.first front.second front.third front.to_second front.to_third) first_start)
        (all_segments (λ s. Later front.second (before s)) front.to_third second_start);
    early =
        all_slots (λ s. Later (before s) tried.start) first_start second_start front.to_last
        (inl (nothing_appended tried.start));
    copied_since =
        all_slots (λ s. Later tried.start (by_slot tried.start copied.first copied.second copied.third s))
        (inl (nothing_appended tried.start)) image0_copied start_second start_third;
    copied =
        all_slots (λ s. IsCopy Later (at s) (by_slot tried.start copied.first copied.second copied.third s)
        (by_slot copied.first copied.second copied.third tried.stop s) (slot_of copies s))
        copied.image0 copied.image1 copied.segment0 copied.segment1;
    copied_until = all_slots (λ s. Later (by_slot copied.first copied.second copied.third tried.stop s) tried.stop)
        (later_joins copied.first copied.second tried.stop image1_copied second_stop) second_stop segment1_copied
        (inl (nothing_appended tried.stop));
    in_time = later_joins tried.start copied.third tried.stop start_third segment1_copied;
    late =
        all_slots (λ s. Later tried.stop (after s)) back.to_first back_second back_third
        (later_joins tried.stop back.third ended back_third back.to_last);
    until =
        all_slots (λ s. Later (after s) ended)
        (later_joins back.first back.second ended back.to_second second_ended) second_ended back.to_last
        (inl (nothing_appended ended));
    image_fronts = all_images (λ s. take 24 (slot_of (before s).slots s) ≡ take 24 (slot_of (after s).slots s))
        (sym front.image0 ∙ ap (λ (f : Slots). f.image0) (sym same) ∙ back.image0)
        (sym front.image1 ∙ ap (λ (f : Slots). f.image1) (sym same) ∙ back.image1);
    segment_fronts = all_segments (λ s. take 16 (slot_of (before s).slots s) ≡ take 16 (slot_of (after s).slots s))
        (sym front.segment0 ∙ ap (λ (f : Slots). f.segment0) (sym same) ∙ back.segment0)
        (sym front.segment1 ∙ ap (λ (f : Slots). f.segment1) (sym same) ∙ back.segment1);
    copied_image_fronts = all_images (λ s. take 24 (slot_of (before s).slots s) ≡ take 24 (slot_of copies s))
        (sym front.image0 ∙ ap (λ (f : Slots). f.image0) (sym own))
        (sym front.image1 ∙ ap (λ (f : Slots). f.image1) (sym own));
    copied_segment_fronts = all_segments (λ s. take 16 (slot_of (before s).slots s) ≡ take 16 (slot_of copies s))
        (sym front.segment0 ∙ ap (λ (f : Slots). f.segment0) (sym own))
        (sym front.segment1 ∙ ap (λ (f : Slots). f.segment1) (sym own));
    one_turn = one_turn;
  }
