-- A disk encodes one thing, and what is recovered from it is one lawful and acyclic state.
use Rattle.std.specs.Prelude.{◌≡◌, ℕ, ◌+◌, ◌%◌, ◌^◌, ◌<◌, ◌∷◌, [], ◌++◌, List, length, drop, slice_index, refl}
use Rattle.std.proofs.Common.{sym, ◌∙◌, ap, subst, inl, inr, arith}
use Rattle.codes.specs.StoreVersion.{version_number}
use Rattle.codes.specs.declared.store_version.StoreVersion.{StoreVersion}
use Rattle.codes.specs.declared.store_version.StoreVersion.TheVariants.{One, Two}
use Rattle.ipc_model.specs.declared.record.Record.{Record}
use Rattle.ipc_laws.specs.BatchLaws.{one_segment}
use Rattle.ipc_model.specs.state.Circular.{Acyclic}
use Rattle.ipc_laws.specs.ImageLaws.{image_once}
use Rattle.ipc_model.specs.encodings.Images.{image_encoding_of}
use Rattle.ipc_model.specs.state.LawfulState.{LawfulState}
use Rattle.ipc_laws.specs.OpeningLaws.{opening_is_lawful}
use Rattle.ipc_model.specs.store.Recovery.{Slots, IsOpen, IsOfEpoch, IsNew, HoldsImage, KeepsWhatItMay, Continues, IsStored, Encodes, Recovered, IsOtherVersion, HasOtherVersion, image_header, segment_header_length}
use Rattle.ipc_laws.specs.Encoding.{lawful_is_encodable}
use Rattle.ipc_model.specs.state.State.{State}
use Rattle.ipc_model.specs.calls.Step.{Run}
use Rattle.ipc_laws.specs.NumberedSteps.{kept_fits}
use Rattle.ipc_laws.specs.RunsKeep.{FitCalls, one_run, runs_keep_lawful}
use Rattle.ipc_model.specs.store.Store.{EncodesSegment, AreRecords, open_gate, image_content_of}
use Rattle.words.specs.WordLaws.{same_long_word}
use Rattle.words.specs.Words.{long_word}

-- a version has one number
pub same_version : (one other : StoreVersion) → version_number one ≡ version_number other → one ≡ other
same_version One One is = refl
same_version One Two is = absurd (omega (arith, is))
same_version Two One is = absurd (omega (arith, is))
same_version Two Two is = refl

-- an open slot's header, with any number for its version
abbrev pub header_with : ℕ → ℕ → List ℕ
header_with number epoch = open_gate ∷ number ∷ 0 ∷ 0 ∷ 0 ∷ 0 ∷ 0 ∷ 0 ∷ long_word epoch

-- a header has one epoch
pub one_epoch : {a b : ℕ} (one other : ℕ) (xs ys : List ℕ) → one < 2 ^ 64 → other < 2 ^ 64
    → header_with a one ++ xs ≡ header_with b other ++ ys → one ≡ other
one_epoch one other xs ys fits fits_too is =
    same_long_word one other xs ys fits fits_too (ap (λ (l : List ℕ). drop 8 l) is)

-- an image is of its epoch, and open
pub image_header_is : (epoch : ℕ) (slot : List ℕ) (state : State) → epoch < 2 ^ 64 → HoldsImage epoch slot state
    → IsOfEpoch (epoch % 2) epoch slot
image_header_is epoch slot state fits image = record {
  version = image.version;
  rest =
      (long_word (length (image_encoding_of image.version state)) ++ image_encoding_of image.version state) ++ image.rest;
  encoding = image.encoding;
  fits = fits;
  of_number = refl;
}

pub image_is_open : (epoch : ℕ) (slot : List ℕ) (state : State) → HoldsImage epoch slot state → IsOpen image_header slot
image_is_open epoch slot state image = subst (IsOpen image_header) (sym image.encoding) (omega arith, refl)

parity_small : (n : ℕ) → n % 2 < 2
parity_small n = omega arith

-- there is one greatest epoch
same_epoch : (slots : Slots) (base other : State) (records more : List Record) (one : IsStored slots base records)
    (two : IsStored slots other more) → one.epoch ≡ two.epoch
same_epoch slots base other records more one two =
    omega (
      arith,
      one.latest (two.epoch % 2) two.epoch (parity_small two.epoch)
          (image_is_open two.epoch (slots.image (two.epoch % 2)) other two.image)
          (image_header_is two.epoch (slots.image (two.epoch % 2)) other two.fits two.image),
      two.latest (one.epoch % 2) one.epoch (parity_small one.epoch)
          (image_is_open one.epoch (slots.image (one.epoch % 2)) base one.image)
          (image_header_is one.epoch (slots.image (one.epoch % 2)) base one.fits one.image),
    )

-- a slot holds the image of one state
pub one_image : (epoch : ℕ) (slot : List ℕ) (one other : State) → HoldsImage epoch slot one → HoldsImage epoch slot other
    → one ≡ other
one_image epoch slot one other first second =
    let v = first.version in
    let w = second.version in
    let whole : (open_gate ∷ image_content_of v epoch (image_encoding_of v one)) ++ first.rest
    ≡ (open_gate ∷ image_content_of w epoch (image_encoding_of w other)) ++ second.rest = sym first.encoding
    ∙ second.encoding in
    let same : v ≡ w = same_version v w (ap (λ (l : List ℕ). slice_index l 1) whole) in
    let beyond : (long_word (length (image_encoding_of v one)) ++ image_encoding_of v one) ++ first.rest
    ≡ (long_word (length (image_encoding_of w other)) ++ image_encoding_of w other) ++ second.rest = ap
    (λ (l : List ℕ). drop 16 l) whole in
    let encodings : image_encoding_of v one ++ first.rest ≡ image_encoding_of w other ++ second.rest =
    ap (λ (l : List ℕ). drop 8 l) beyond in
    (image_once w one other first.rest second.rest (lawful_is_encodable one first.lawful first.short)
    (lawful_is_encodable other second.lawful second.short)
    (subst (λ u. KeepsWhatItMay u one) same first.kept) second.kept
    (subst (λ u. image_encoding_of u one ++ first.rest ≡ image_encoding_of w other ++ second.rest) same encodings)).0

-- what the other segment adds is determined

pub segment_epoch : (number epoch before : ℕ) (slot : List ℕ) (records : List Record)
    → EncodesSegment epoch slot records → epoch < 2 ^ 64 → IsOfEpoch number before slot → before ≡ epoch
segment_epoch number epoch before slot records encoded fits header =
    one_epoch before epoch header.rest encoded.content header.fits fits (sym header.encoding ∙ encoded.encoding)

pub segment_is_open : (epoch : ℕ) (slot : List ℕ) (records : List Record) → EncodesSegment epoch slot records
    → IsOpen segment_header_length slot
segment_is_open epoch slot records encoded =
    subst (IsOpen segment_header_length) (sym encoded.encoding) (omega arith, refl)

header_is_open : (number epoch : ℕ) (slot : List ℕ) → IsOfEpoch number epoch slot → IsOpen segment_header_length slot
header_is_open number epoch slot header = subst (IsOpen segment_header_length) (sym header.encoding) (omega arith, refl)

one_next : (epoch : ℕ) (slot : List ℕ) (one other : List Record) → Continues epoch slot one → Continues epoch slot other
    → one ≡ other
one_next epoch slot one other (inl closed) (inl closed_too) = closed.1 ∙ sym closed_too.1
one_next epoch slot one other (inl closed) (inr (inl before)) =
    absurd (closed.0 (header_is_open (before.0 % 2) before.0 slot before.2))
one_next epoch slot one other (inl closed) (inr (inr encoded)) =
    absurd (closed.0 (segment_is_open (epoch + 1) slot other encoded.1))
one_next epoch slot one other (inr (inl before)) (inl closed) =
    absurd (closed.0 (header_is_open (before.0 % 2) before.0 slot before.2))
one_next epoch slot one other (inr (inl before)) (inr (inl before_too)) = before.3 ∙ sym before_too.3
one_next epoch slot one other (inr (inl before)) (inr (inr encoded)) =
    absurd (omega (
      arith,
      before.1,
      segment_epoch (before.0 % 2) (epoch + 1) before.0 slot other encoded.1 encoded.0 before.2,
    ))
one_next epoch slot one other (inr (inr encoded)) (inl closed) =
    absurd (closed.0 (segment_is_open (epoch + 1) slot one encoded.1))
one_next epoch slot one other (inr (inr encoded)) (inr (inl before)) =
    absurd (omega (
      arith,
      before.1,
      segment_epoch (before.0 % 2) (epoch + 1) before.0 slot one encoded.1 encoded.0 before.2,
    ))
one_next epoch slot one other (inr (inr encoded)) (inr (inr encoded_too)) =
    one_segment (epoch + 1) slot one other encoded.1 encoded_too.1

-- the parts of a store in use, for one epoch
record Parts (slots : Slots) (epoch : ℕ) (base : State) (records : List Record) : Type 0 where
  image : HoldsImage epoch (slots.image (epoch % 2)) base
  first : List Record
  next : List Record
  segment : EncodesSegment epoch (slots.segment (epoch % 2)) first
  other : Continues epoch (slots.segment ((epoch + 1) % 2)) next
  joined : records ≡ first ++ next

parts_of : (slots : Slots) (base : State) (records : List Record) (stored : IsStored slots base records)
    → Parts slots stored.epoch base records
parts_of slots base records stored =
    record {
      image = stored.image;
      first = stored.first;
      next = stored.next;
      segment = stored.segment;
      other = stored.other;
      joined = stored.joined;
    }

one_of_parts : (slots : Slots) (epoch : ℕ) (base other : State) (records more : List Record)
    → Parts slots epoch base records → Parts slots epoch other more → (base ≡ other) × (records ≡ more)
one_of_parts slots epoch base other records more one two = (
  one_image epoch (slots.image (epoch % 2)) base other one.image two.image,
  one.joined ∙ (λ i. one_segment epoch (slots.segment (epoch % 2)) one.first two.first one.segment two.segment i
      ++ one_next epoch (slots.segment ((epoch + 1) % 2)) one.next two.next one.other two.other i) ∙ sym two.joined,
)

-- A disk encodes at most one base with one list of records.
abbrev pub EncodesOnce : Type 0
EncodesOnce =
    (slots : Slots) (base other : State) (records more : List Record) → Encodes slots base records
    → Encodes slots other more → (base ≡ other) × (records ≡ more)

stored_open : (slots : Slots) (base : State) (records : List Record) → IsNew slots → IsStored slots base records → ⊥
stored_open slots base records new stored =
    new.no_image (stored.epoch % 2) (parity_small stored.epoch)
    (image_is_open stored.epoch (slots.image (stored.epoch % 2)) base stored.image)

pub encodes_once : EncodesOnce
encodes_once slots base other records more one two = elim one.reading as (λ _. (base ≡ other) × (records ≡ more)) [
  | inl new ↦ elim two.reading as (λ _. (base ≡ other) × (records ≡ more)) [
    | inl new_too ↦ (new.1 ∙ sym new_too.1, new.2 ∙ sym new_too.2)
    | inr stored ↦ absurd (stored_open slots other more new.0 stored)
  ]
  | inr stored ↦ elim two.reading as (λ _. (base ≡ other) × (records ≡ more)) [
    | inl new ↦ absurd (stored_open slots base records new.0 stored)
    | inr stored_too ↦ one_of_parts slots stored_too.epoch base other records more
        (subst (λ (e : ℕ). Parts slots e base records) (same_epoch slots base other records more stored stored_too)
        (parts_of slots base records stored)) (parts_of slots other more stored_too)
  ]
]

-- records that a segment holds have arguments in range

pub records_fit : (records : List Record) → AreRecords records → FitCalls records
records_fit [] are = tt
records_fit (first ∷ records) are =
    ((are.0.call.fits, kept_fits first.reply are.0.reply.fits), records_fit records are.1)

fit_both : (xs ys : List Record) → FitCalls xs → FitCalls ys → FitCalls (xs ++ ys)
fit_both [] ys first second = second
fit_both (x ∷ xs) ys first second = (first.0, fit_both xs ys first.1 second)

next_fit : (epoch : ℕ) (slot : List ℕ) (next : List Record) → Continues epoch slot next → FitCalls next
next_fit epoch slot next (inl closed) = subst FitCalls (sym closed.1) tt
next_fit epoch slot next (inr (inl before)) = subst FitCalls (sym before.3) tt
next_fit epoch slot next (inr (inr encoded)) = records_fit next encoded.1.encoded.canonical

-- what a run begins from, and its records, if a disk encodes them
record Beginning (base : State) (records : List Record) : Type 0 where
  lawful : LawfulState base
  acyclic : Acyclic base.ipc
  fit : FitCalls records

beginning : (slots : Slots) (base : State) (records : List Record) → Encodes slots base records → Beginning base records
beginning slots base records encoded = elim encoded.reading as (λ _. Beginning base records) [
  | inl new ↦ record {
    lawful = subst LawfulState (sym new.1) opening_is_lawful.0;
    acyclic = subst (λ (s : State). Acyclic s.ipc) (sym new.1) opening_is_lawful.1;
    fit = subst FitCalls (sym new.2) tt;
  }
  | inr stored ↦ record {
    lawful = stored.image.lawful;
    acyclic = stored.image.acyclic;
    fit =
        subst FitCalls (sym stored.joined)
        (fit_both stored.first stored.next (records_fit stored.first stored.segment.encoded.canonical)
        (next_fit stored.epoch (slots.segment ((stored.epoch + 1) % 2)) stored.next stored.other));
  }
]

-- At most one state is recovered from a disk, and it is lawful and acyclic.
abbrev pub RecoversOnce : Type 0
RecoversOnce = (slots : Slots) (one other : State) → Recovered slots one → Recovered slots other → one ≡ other

pub recovers_once : RecoversOnce
recovers_once slots one other first second =
    let same = encodes_once slots first.base second.base first.records second.records first.encoded second.encoded in
    let begins = beginning slots second.base second.records second.encoded in
    one_run second.base second.records one other begins.fit begins.lawful begins.acyclic
    (subst (λ (s : State). Run s second.records one) same.0
    (subst (λ (l : List Record). Run first.base l one) same.1 first.run)) second.run

abbrev pub RecoversLawful : Type 0
RecoversLawful = (slots : Slots) (state : State) → Recovered slots state → LawfulState state × Acyclic state.ipc

pub recovers_lawful : RecoversLawful
recovers_lawful slots state recovered =
    let begins = beginning slots recovered.base recovered.records recovered.encoded in
    runs_keep_lawful recovered.base recovered.records state begins.fit begins.lawful begins.acyclic recovered.run

-- And no disk from which a state is recovered has a slot of another version.

of_a_version : (header number epoch : ℕ) (slot : List ℕ) → IsOfEpoch number epoch slot → HasOtherVersion header slot → ⊥
of_a_version header number epoch slot is other =
    other.1 is.version (sym (ap (λ (l : List ℕ). slice_index l 1) is.encoding))

abbrev pub RecoversKnownVersions : Type 0
RecoversKnownVersions = (slots : Slots) (state : State) → Recovered slots state → IsOtherVersion slots → ⊥

pub recovers_known_versions : RecoversKnownVersions
recovers_known_versions slots state recovered (number, small, inl image) =
    let header = (recovered.encoded.headers number small).0 image.0 in
    of_a_version image_header number header.0 (slots.image number) header.1 image
recovers_known_versions slots state recovered (number, small, inr segment) =
    let header = (recovered.encoded.headers number small).1 segment.0 in
    of_a_version segment_header_length number header.0 (slots.segment number) header.1 segment
