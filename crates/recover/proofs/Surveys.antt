-- The kind of a store, by the epochs of its open slots.
use Rattle.std.proofs.Common.{◌≡◌, ◌≢◌, ◌⊎◌, inl, inr, ℕ, ◌+◌, ◌≤◌, ◌<◌, ◌%◌, ◌^◌, List, ◌++◌, length, Option, None, Some, IfSome, IfNone, Result, Ok, Err, OnErr, refl, sym, ap, subst, ◌∙◌, arith}
use Rattle.std.specs.Prelude.{if◌then◌else◌, ◌==◌, slice_index}
use Rattle.disk.specs.declared.slot.Slot.TheVariants.{Image0, Image1, Segment0, Segment1}
use Rattle.disk.specs.Slots.{Slots, slot_of}
use Rattle.ipc_laws.specs.RecoveryLaws.{image_header_is, image_is_open, one_epoch, segment_is_open}
use Rattle.ipc_model.specs.declared.record.Record.{Record}
use Rattle.ipc_model.specs.state.State.{State}
use Rattle.ipc_model.specs.store.Recovery.{Continues, HasOtherVersion, HoldsImage, IsNew, IsOfEpoch, IsOpen, IsStored, Encodes, image_header, segment_header_length}
use Rattle.ipc_model.specs.store.Store.{EncodesSegment}
use Rattle.slot_steps.specs.Steps.{image_slot, segment_slot}
use Rattle.store_layout.specs.Standing.{as_written}
use Rattle.store_layout.specs.Slots.{image_at, segment_at, one_of_two}
use Rattle.recover.specs.Headers.{IsForeign, SayAll, Says, TellAll, Tells}
use Rattle.recover.specs.Surveyed.{Adjoins, IsLatest, IsNoLater}
use Rattle.recover.specs.declared.headers.Header.{Header}
use Rattle.recover.specs.declared.headers.Header.TheVariants.{Closed, Open, OtherVersion, Unreadable}

-- The slots of an epoch as in `Tells`: its image's, the other image's, its segment's and the other segment's.
pub record TellOf (s : Slots) (e : ℕ) (a b c d : Option ℕ) : Type 0 where
  pub image : Tells image_header (e % 2) (slot_of s (image_slot e)) a
  pub other_image : Tells image_header ((e + 1) % 2) (slot_of s (image_slot (e + 1))) b
  pub segment : Tells segment_header_length (e % 2) (slot_of s (segment_slot e)) c
  pub other_segment : Tells segment_header_length ((e + 1) % 2) (slot_of s (segment_slot (e + 1))) d

-- the same, by the two numbers 0 and 1
abbrev pub TellBy : Slots → Option ℕ → Option ℕ → Option ℕ → Option ℕ → ℕ → ℕ → Type 0
TellBy s a b c d n m =
    Tells image_header n (slot_of s (if n == 0 then Image0 else Image1)) a
    × Tells image_header m (slot_of s (if m == 0 then Image0 else Image1)) b
    × Tells segment_header_length n (slot_of s (if n == 0 then Segment0 else Segment1)) c
    × Tells segment_header_length m (slot_of s (if m == 0 then Segment0 else Segment1)) d

tell_of : (s : Slots) (e : ℕ) (a b c d : Option ℕ) → TellBy s a b c d (e % 2) ((e + 1) % 2) → TellOf s e a b c d
tell_of s e a b c d t = record { image = t.0; other_image = t.1; segment = t.2; other_segment = t.3 }

pub tell_even : (s : Slots) (e : ℕ) (a b c d : Option ℕ) → e % 2 ≡ 0 → TellAll s a b c d → TellOf s e a b c d
tell_even s e a b c d even t =
    let odd : (e + 1) % 2 ≡ 1 = omega arith in
    tell_of s e a b c d (subst (λ n. TellBy s a b c d n ((e + 1) % 2)) (sym even)
    (subst (λ m. TellBy s a b c d 0 m) (sym odd) (t.image0, t.image1, t.segment0, t.segment1)))

pub tell_odd : (s : Slots) (e : ℕ) (a b c d : Option ℕ) → e % 2 ≡ 1 → TellAll s a b c d → TellOf s e b a d c
tell_odd s e a b c d odd t =
    let even : (e + 1) % 2 ≡ 0 = omega arith in
    tell_of s e b a d c (subst (λ n. TellBy s b a d c n ((e + 1) % 2)) (sym odd)
    (subst (λ m. TellBy s b a d c 1 m) (sym even) (t.image1, t.image0, t.segment1, t.segment0)))

-- the epoch of a slot is unique
reported_epoch : (length number n e o : ℕ) (slot : List ℕ) → Tells length number slot (Some o) → IsOfEpoch n e slot
    → o ≡ e
reported_epoch length number n e o slot tells is =
    one_epoch o e tells.1.rest is.rest tells.1.fits is.fits (sym tells.1.encoding ∙ is.encoding)

encoded_epoch : (e : ℕ) (slot : List ℕ) (records : List Record) → e < 2 ^ 64 → EncodesSegment e slot records
    → IsOfEpoch (e % 2) e slot
encoded_epoch e slot records fits encoded =
    record {
      version = encoded.version;
      rest = encoded.content;
      encoding = encoded.encoding;
      fits = fits;
      of_number = refl;
    }

-- if the disk encodes a state, the epoch is the latest image's

before_or_none : (e f : ℕ) (slot : List ℕ) (o : Option ℕ) → Tells image_header ((e + 1) % 2) slot o → IsLatest e o
    → IsOfEpoch ((e + 1) % 2) f slot → IsOpen image_header slot → f ≤ e
before_or_none e f slot None reported latest is is_open = absurd (reported is_open)
before_or_none e f slot (Some before) reported latest is is_open =
    omega (arith, latest, reported_epoch image_header ((e + 1) % 2) ((e + 1) % 2) f before slot reported is)

at_most : (s : Slots) (e : ℕ) (other own_segment other_segment : Option ℕ)
    → TellOf s e (Some e) other own_segment other_segment → IsLatest e other
    → (base : State) (records : List Record) (stored : IsStored (as_written s) base records) → stored.epoch ≤ e
at_most s e other own_segment other_segment tells latest base records stored =
    let f = stored.epoch in
    let image_is = image_header_is f ((as_written s).image (f % 2)) base stored.fits stored.image in
    let is_open = image_is_open f ((as_written s).image (f % 2)) base stored.image in
    elim (one_of_two e (f % 2) (omega arith)) as (λ _. f ≤ e) [
      | inl own ↦
          let here : IsOfEpoch (e % 2) f (slot_of s (image_slot e)) =
          subst (IsOfEpoch (e % 2) f) (image_at s e)
          (subst (λ n. IsOfEpoch n f ((as_written s).image n)) own image_is) in
          omega (arith, reported_epoch image_header (e % 2) (e % 2) f e (slot_of s (image_slot e)) tells.image here)
      | inr next ↦
          let here : IsOfEpoch ((e + 1) % 2) f (slot_of s (image_slot (e + 1))) =
          subst (IsOfEpoch ((e + 1) % 2) f) (image_at s (e + 1))
          (subst (λ n. IsOfEpoch n f ((as_written s).image n)) next image_is) in
          let open_here : IsOpen image_header (slot_of s (image_slot (e + 1))) =
          subst (IsOpen image_header) (image_at s (e + 1))
          (subst (λ n. IsOpen image_header ((as_written s).image n)) next is_open) in
          before_or_none e f (slot_of s (image_slot (e + 1))) other tells.other_image latest here open_here
    ]

pub epoch_is : (s : Slots) (e : ℕ) (other own_segment other_segment : Option ℕ)
    → TellOf s e (Some e) other own_segment other_segment → IsLatest e other
    → (base : State) (records : List Record) (stored : IsStored (as_written s) base records) → stored.epoch ≡ e
epoch_is s e other own_segment other_segment tells latest base records stored =
    let least : e ≤ stored.epoch =
    stored.latest (e % 2) e (omega arith) (subst (IsOpen image_header) (sym (image_at s e)) tells.image.0)
    (subst (IsOfEpoch (e % 2) e) (sym (image_at s e)) tells.image.1) in
    omega (arith, least, at_most s e other own_segment other_segment tells latest base records stored)

own_reported : (e : ℕ) (slot : List ℕ) (o : Option ℕ) (records : List Record)
    → Tells segment_header_length (e % 2) slot o
    → e < 2 ^ 64 → EncodesSegment e slot records → o ≡ Some e
own_reported e slot None records reported fits encoded = absurd (reported (segment_is_open e slot records encoded))
own_reported e slot (Some o) records reported fits encoded =
    ap Some (reported_epoch segment_header_length (e % 2) (e % 2) e o slot reported
    (encoded_epoch e slot records fits encoded))

other_reported : (e : ℕ) (slot : List ℕ) (o : Option ℕ) (next : List Record)
    → Tells segment_header_length ((e + 1) % 2) slot o → Continues e slot next → (o ≡ Some (e + 1)) ⊎ Adjoins e o
other_reported e slot None next reported continues = inr tt
other_reported e slot (Some o) next reported (inl closed) = absurd (closed.0 reported.0)
other_reported e slot (Some o) next reported (inr (inl before)) =
    inr (omega (
      arith,
      before.1,
      reported_epoch segment_header_length ((e + 1) % 2)
          (before.0 % 2) before.0 o slot reported before.2,
    ))
other_reported e slot (Some o) next reported (inr (inr encoded)) =
    inl (ap Some (reported_epoch segment_header_length ((e + 1) % 2) ((e + 1) % 2) (e + 1) o slot reported
    (encoded_epoch (e + 1) slot next encoded.0 encoded.1)))

-- the parts of a store in use of this epoch, by slots
pub record PartsOf (s : Slots) (e : ℕ) (base : State) (records : List Record) : Type 0 where
  pub first : List Record
  pub next : List Record
  pub image : HoldsImage e (slot_of s (image_slot e)) base
  pub segment : EncodesSegment e (slot_of s (segment_slot e)) first
  pub other : Continues e (slot_of s (segment_slot (e + 1))) next
  pub joined : records ≡ first ++ next

pub parts_of : (s : Slots) (e : ℕ) (base : State) (records : List Record)
    (stored : IsStored (as_written s) base records) → stored.epoch ≡ e → PartsOf s e base records
parts_of s e base records stored is =
    let moved : PartsOf s stored.epoch base records = record {
      first = stored.first;
      next = stored.next;
      image = subst (λ l. HoldsImage stored.epoch l base) (image_at s stored.epoch) stored.image;
      segment = subst (λ l. EncodesSegment stored.epoch l stored.first) (segment_at s stored.epoch) stored.segment;
      other = subst (λ l. Continues stored.epoch l stored.next) (segment_at s (stored.epoch + 1)) stored.other;
      joined = stored.joined;
    } in
    subst (λ f. PartsOf s f base records) is moved

-- a store whose latest image is open isn't new
pub never_new : (s : Slots) (e : ℕ) → IsOpen image_header (slot_of s (image_slot e)) → IsNew (as_written s) → ⊥
never_new s e is_open new =
    new.no_image (e % 2) (omega arith) (subst (IsOpen image_header) (sym (image_at s e)) is_open)

pub reported_damaged : (s : Slots) (e : ℕ) (other own_segment other_segment : Option ℕ)
    → TellOf s e (Some e) other own_segment other_segment → IsLatest e other
    → (own_segment ≢ Some e) ⊎ ((other_segment ≢ Some (e + 1)) × (Adjoins e other_segment → ⊥))
    → (base : State) (records : List Record) → Encodes (as_written s) base records → ⊥
reported_damaged s e other own_segment other_segment tells latest wrong base records encoded =
    elim encoded.reading as (λ _. ⊥) [
      | inl new ↦ never_new s e tells.image.0 new.0
      | inr stored ↦
          let parts =
          parts_of s e base records stored
          (epoch_is s e other own_segment other_segment tells latest base records stored) in
          elim wrong as (λ _. ⊥) [
            | inl own ↦ own (own_reported e (slot_of s (segment_slot e)) own_segment parts.first tells.segment
                tells.image.1.fits parts.segment)
            | inr neither ↦ elim (other_reported e
                (slot_of s (segment_slot (e + 1))) other_segment parts.next tells.other_segment parts.other) as (λ _. ⊥)
                [ inl next ↦ neither.0 next | inr before ↦ neither.1 before ]
          ]
    ]

-- A store without an open image.

pub each_number : (P : ℕ → Type 0) → P 0 → P 1 → (number : ℕ) → number < 2 → P number
each_number P first second number small =
    elim (one_of_two 0 number small) as (λ _. P number)
    [ inl zero_is ↦ subst P (sym zero_is) first | inr one_is ↦ subst P (sym one_is) second ]

no_open_image : (s : Slots) → (IsOpen image_header s.image0 → ⊥) → (IsOpen image_header s.image1 → ⊥) → (number : ℕ)
    → number < 2 → IsOpen image_header ((as_written s).image number) → ⊥
no_open_image s first second = each_number (λ n. IsOpen image_header ((as_written s).image n) → ⊥) first second

second_none : (s : Slots) (o : Option ℕ) → Tells segment_header_length 1 s.segment1 o → IsNew (as_written s) → o ≡ None
second_none s None reported new = refl
second_none s (Some o) reported new =
    let zero_is : o ≡ 0 = (new.unused 1 o (omega arith) reported.0 reported.1).0 in
    absurd (omega (arith, zero_is, reported.1.of_number))

first_none_or_0 : (s : Slots) (o : Option ℕ) → Tells segment_header_length 0 s.segment0 o → IsNew (as_written s)
    → (o ≡ None) ⊎ (o ≡ Some 0)
first_none_or_0 s None reported new = inl refl
first_none_or_0 s (Some o) reported new = inr (ap Some (new.unused 0 o (omega arith) reported.0 reported.1).0)

pub unused_damaged : (s : Slots) (segment0 segment1 : Option ℕ) → TellAll s None None segment0 segment1
    → (segment1 ≢ None) ⊎ ((segment0 ≢ None) × (segment0 ≢ Some 0))
    → (base : State) (records : List Record) → Encodes (as_written s) base records → ⊥
unused_damaged s segment0 segment1 tells wrong base records encoded = elim encoded.reading as (λ _. ⊥) [
  | inl new ↦ elim wrong as (λ _. ⊥) [
    | inl second ↦ second (second_none s segment1 tells.segment1 new.0)
    | inr first ↦ elim (first_none_or_0 s segment0 tells.segment0 new.0) as (λ _. ⊥)
        [ inl none ↦ first.0 none | inr zero_is ↦ first.1 zero_is ]
  ]
  | inr stored ↦ no_open_image s tells.image0 tells.image1 (stored.epoch % 2) (omega arith)
      (image_is_open stored.epoch ((as_written s).image (stored.epoch % 2)) base stored.image)
]

-- Headers.

of_a_version : (header number epoch : ℕ) (slot : List ℕ) → IsOfEpoch number epoch slot → HasOtherVersion header slot → ⊥
of_a_version header number epoch slot is other =
    other.1 is.version (sym (ap (λ (l : List ℕ). slice_index l 1) is.encoding))

-- a header that a slot with its number can't have
foreign_fails : (header number : ℕ) (slot : List ℕ) (h : Header) → Says header slot h → IsForeign h number
    → (IsOpen header slot → (epoch : ℕ) × IsOfEpoch number epoch slot) → ⊥
foreign_fails header number slot Closed says foreign fits = foreign
foreign_fails header number slot (Open epoch) says foreign fits =
    let known = fits says.0 in
    foreign (ap (λ e. e % 2) (one_epoch epoch known.0 says.1.rest known.1.rest says.1.fits known.1.fits
    (sym says.1.encoding ∙ known.1.encoding)) ∙ known.1.of_number)
foreign_fails header number slot OtherVersion says foreign fits =
    let known = fits says.0 in of_a_version header number known.0 slot known.1 says
foreign_fails header number slot Unreadable says foreign fits = let known = fits says.0 in says.2 number known.0 known.1

pub foreign_damaged : (s : Slots) (image0 image1 segment0 segment1 : Header) → SayAll s image0 image1 segment0 segment1
    → IsForeign image0 0 ⊎ (IsForeign image1 1 ⊎ (IsForeign segment0 0 ⊎ IsForeign segment1 1))
    → (base : State) (records : List Record) → Encodes (as_written s) base records → ⊥
foreign_damaged s image0 image1 segment0 segment1 says foreign base records encoded =
    let zero_fits = encoded.headers 0 (omega arith) in
    let one_fits = encoded.headers 1 (omega arith) in
    elim foreign as (λ _. ⊥) [
      | inl a ↦ foreign_fails image_header 0 s.image0 image0 says.image0 a zero_fits.0
      | inr others ↦ elim others as (λ _. ⊥) [
        | inl b ↦ foreign_fails image_header 1 s.image1 image1 says.image1 b one_fits.0
        | inr segments ↦ elim segments as (λ _. ⊥) [
          | inl c ↦ foreign_fails segment_header_length 0 s.segment0 segment0 says.segment0 c zero_fits.1
          | inr d ↦ foreign_fails segment_header_length 1 s.segment1 segment1 says.segment1 d one_fits.1
        ]
      ]
    ]

-- a header that fits the slot's number contains the slot's epoch
pub says_tells : (header number : ℕ) (slot : List ℕ) (h : Header) (o : Option ℕ) → Says header slot h
    → ((o ≡ None) × (h ≡ Closed)) ⊎ ((epoch : ℕ) × (o ≡ Some epoch) × (h ≡ Open epoch) × (epoch % 2 ≡ number))
    → Tells header number slot o
says_tells header number slot h o says (inl none) =
    subst (Tells header number slot) (sym none.0) (subst (Says header slot) none.1 says)
says_tells header number slot h o says (inr some) =
    let said = subst (Says header slot) some.2 says in
    subst (Tells header number slot) (sym some.1) (
      said.0,
      record {
        version = said.1.version;
        rest = said.1.rest;
        encoding = said.1.encoding;
        fits = said.1.fits;
        of_number = some.3;
      },
    )

pub tells_of : (header number : ℕ) (slot : List ℕ) (h : Header) (o : Option ℕ) → Says header slot h
    → IfSome o (λ epoch. (h ≡ Open epoch) × (epoch % 2 ≡ number)) → IfNone o (h ≡ Closed) → Tells header number slot o
tells_of header number slot h None says some none = says_tells header number slot h None says (inl (refl, none))
tells_of header number slot h (Some epoch) says some none =
    says_tells header number slot h (Some epoch) says (inr (epoch, refl, some.0, some.1))

-- the epochs in the two slots differ
strictly : (s : Slots) (a b c d : Option ℕ) (e : ℕ) → TellAll s a b c d → e % 2 ≡ 1 → IsNoLater e a → IsLatest e a
strictly s None b c d e tells odd no_later = tt
strictly s (Some o) b c d e tells odd no_later = omega (arith, no_later, odd, tells.image0.1.of_number)

-- the slots of the latest image's epoch
pub first_tells : (s : Slots) (a b c d : Option ℕ) (e : ℕ) → TellAll s a b c d → a ≡ Some e → TellOf s e (Some e) b c d
first_tells s a b c d e tells is =
    let moved : TellAll s (Some e) b c d = subst (λ o. TellAll s o b c d) is tells in
    tell_even s e (Some e) b c d moved.image0.1.of_number moved

pub second_tells : (s : Slots) (a b c d : Option ℕ) (e : ℕ) → TellAll s a b c d → b ≡ Some e → IsNoLater e a
    → TellOf s e (Some e) a d c × IsLatest e a
second_tells s a b c d e tells is no_later =
    let moved : TellAll s a (Some e) c d = subst (λ o. TellAll s a o c d) is tells in (
      tell_odd s e a (Some e) c d moved.image1.1.of_number moved,
      strictly s a (Some e) c d e moved moved.image1.1.of_number no_later,
    )

pub none_tell : (s : Slots) (a b c d : Option ℕ) → TellAll s a b c d → a ≡ None → b ≡ None → TellAll s None None c d
none_tell s a b c d tells first second =
    subst (λ o. TellAll s None o c d) second (subst (λ o. TellAll s o b c d) first tells)

pub on_error : {T E P Q : Type 0} (r : Result T E) → (P → Q) → OnErr r P → OnErr r Q
on_error (Ok x) f p = tt
on_error (Err e) f p = f p

pub always_err : {T E P : Type 0} (r : Result T E) → P → OnErr r P
always_err (Ok x) p = tt
always_err (Err e) p = p

pub some_is : {T : Type 0} (P : T → Type 0) (o : Option T) (x : T) → o ≡ Some x → IfSome o P → P x
some_is P o x is holds = subst (λ p. IfSome p P) is holds
