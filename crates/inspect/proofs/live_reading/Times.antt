-- The progress of a store between two moments.
use Rattle.std.specs.Prelude.{◌≡◌, ℕ, ◌+◌, ◌*◌, ◌<◌, ◌≤◌, Bool, true, false, if◌then◌else◌, List, [], ◌++◌}
use Rattle.std.proofs.Common.{refl, sym, ap, subst, inl, inr, ◌∙◌, arith, append_assoc}
use Rattle.std.proofs.lemmas.List.{append-nil}
use Rattle.disk.specs.Slots.{slot_of}
use Rattle.slot_steps.specs.Steps.{image_slot}
use Rattle.inspect.specs.still_disk.Live.{Copied, IsCopy, nothing_yet, one_piece_more}
use Rattle.inspect.specs.live_reading.Moments.{Appends, Later, Moment, place}

abbrev pub half : Bool → ℕ
half h = if h then 1 else 0

pub small_half : (h : Bool) → half h < 2
small_half true = omega arith
small_half false = omega arith

pub same_place : (a b : Moment) → Appends a b → place a ≡ place b
same_place a b more =
    ap (λ e. 2 * e + half a.has_turned) (sym more.epoch) ∙ ap (λ h. 2 * b.epoch + half h) (sym more.half)

pub no_earlier : (a b : Moment) → Later a b → place a ≤ place b
no_earlier a b (inl more) = omega (arith, same_place a b more)
no_earlier a b (inr past) = omega (arith, past)

pub no_earlier_epoch : (a b : Moment) → Later a b → a.epoch ≤ b.epoch
no_earlier_epoch a b later =
    let passed : 2 * a.epoch + half a.has_turned ≤ 2 * b.epoch + half b.has_turned = no_earlier a b later in
    omega (arith, passed, small_half a.has_turned, small_half b.has_turned)

turned_place : (a b : Bool) → half a ≤ half b → a ≡ true → b ≡ true
turned_place a true passed is = refl
turned_place true false passed is = absurd (omega (arith, passed))
turned_place false false passed is = is

-- within an epoch a store that has rotated doesn't rotate back
pub stays_turned : (a b : Moment) → Later a b → a.epoch ≡ b.epoch → a.has_turned ≡ true → b.has_turned ≡ true
stays_turned a b later same =
    let passed : 2 * a.epoch + half a.has_turned ≤ 2 * b.epoch + half b.has_turned = no_earlier a b later in
    turned_place a.has_turned b.has_turned (omega (arith, passed, same))

pub nothing_appended : (m : Moment) → Appends m m
nothing_appended m = record {
  epoch = refl;
  half = refl;
  image = refl;
  base = refl;
  first_more = [];
  first = sym (append-nil m.first);
  full = λ _. refl;
  next_more = [];
  next = sym (append-nil m.next);
}

pub more_appended : (a b c : Moment) → Appends a b → Appends b c → Appends a c
more_appended a b c front back = record {
  epoch = back.epoch ∙ front.epoch;
  half = back.half ∙ front.half;
  image =
      subst (λ e. slot_of c.slots (image_slot e) ≡ slot_of b.slots (image_slot e)) front.epoch back.image ∙ front.image;
  base = back.base ∙ front.base;
  first_more = front.first_more ++ back.first_more;
  first =
      back.first ∙ ap (λ l. l ++ back.first_more) front.first ∙ append_assoc a.first front.first_more back.first_more;
  full = λ turned. ap (λ l. l ++ back.first_more) (front.full turned) ∙ back.full (front.half ∙ turned);
  next_more = front.next_more ++ back.next_more;
  next = back.next ∙ ap (λ l. l ++ back.next_more) front.next ∙ append_assoc a.next front.next_more back.next_more;
}

-- if the store has made no progress, batches were only appended
pub same_half : (a b : Moment) → Later a b → place b ≤ place a → Appends a b
same_half a b (inl more) here = more
same_half a b (inr past) here = absurd (omega (arith, past, here))

module _ (slot : Moment → List ℕ) (begun : Moment) where
  copied_later : (last : Moment) (copy : List ℕ) → Copied Later slot begun last copy → place begun ≤ place last
  copied_later _ _ nothing_yet = omega arith
  copied_later _ _ (one_piece_more {last} {copy} now count longer copied later is) =
      omega (arith, copied_later last copy copied, no_earlier last now later)

  copied_appending : (last : Moment) (copy : List ℕ) → Copied Later slot begun last copy → place last ≤ place begun
      → Copied Appends slot begun last copy
  copied_appending _ _ nothing_yet here = nothing_yet
  copied_appending _ _ (one_piece_more {last} {copy} now count longer copied later is) here =
      let passed = no_earlier last now later in
      let since = copied_later last copy copied in
      one_piece_more now count longer (copied_appending last copy copied (omega (arith, passed, here)))
      (same_half last now later (omega (arith, since, here))) is

  -- a copy that is made while the store makes no progress
  pub copy_appending : (ended : Moment) (copy : List ℕ) → IsCopy Later slot begun ended copy → place ended ≤ place begun
      → IsCopy Appends slot begun ended copy
  copy_appending ended copy is here =
      let passed = no_earlier is.last ended is.later in
      let since = copied_later is.last copy is.copied in
      record {
        last = is.last;
        copied = copied_appending is.last copy is.copied (omega (arith, passed, here));
        later = same_half is.last ended is.later (omega (arith, since, here));
        whole = is.whole;
      }

  pub copy_no_earlier : (ended : Moment) (copy : List ℕ) → IsCopy Later slot begun ended copy
      → place begun ≤ place ended
  copy_no_earlier ended copy is = omega (arith, copied_later is.last copy is.copied, no_earlier is.last ended is.later)
