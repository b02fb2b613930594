-- The upgrade of a store whose segment in use is of version 1: the next segment is created, then the next image, and
-- that segment is ended.
use Rattle.std.proofs.Common.{◌≡◌, inl, inr, ℕ, ◌+◌, ◌^◌, ◌<◌, ◌≤◌, List, [], ◌∷◌, ◌++◌, length, take, drop, Option, None, Some, refl, sym, ap, subst, ◌∙◌, arith}
use Rattle.std.specs.Prelude.{◌%◌, IfSome}
use Rattle.checkpoint.specs.Images.{ImageValue, open_image, unwritten}
use Rattle.codes.specs.StoreVersion.{current, version_number}
use Rattle.codes.specs.declared.store_version.StoreVersion.{StoreVersion}
use Rattle.codes.specs.declared.store_version.StoreVersion.TheVariants.{One, Two}
use Rattle.disk.specs.declared.slot.Slot.{Slot}
use Rattle.disk.specs.Moments.{View, Passes, Follows, IsSynced}
use Rattle.disk.specs.Slots.{Slots, slot_of, with_slot}
use Rattle.disk.proofs.Moments.{passes_as, passes_then}
use Rattle.ipc_laws.specs.Counted.{EncodesCounted}
use Rattle.ipc_model.specs.calls.Step.{Run}
use Rattle.ipc_model.specs.declared.record.Record.{Record}
use Rattle.ipc_model.specs.encodings.Images.{image_encoding}
use Rattle.ipc_model.specs.state.State.{State}
use Rattle.ipc_model.specs.store.Recovery.{HoldsImage, IsOfEpoch, version_of}
use Rattle.ipc_model.specs.store.Store.{closed_gate}
use Rattle.journal.specs.declared.segment.Segment.{Segment}
use Rattle.slot_steps.specs.Steps.{IsRemade, image_slot, segment_slot}
use Rattle.store_layout.specs.Changes.{closing_segment, one_next_segment_changed, one_opened, two_finished}
use Rattle.store_layout.specs.Gates.{HasLastGate, HaveLastGates, StandForState}
use Rattle.store_layout.specs.Slots.{alongside_image, alongside_next_segment, own_segment}
use Rattle.store_layout.specs.Standing.{InOne, InTwo}
use Rattle.store_layout.proofs.Gates.{gates_alongside_image, one_gates}
use Rattle.recover.specs.AtRest.{IsAtRest}
use Rattle.recover.specs.Crashing.{StandForSame}
use Rattle.recover.specs.Kept.{IsKept}
use Rattle.recover.specs.Making.{DiffersIn, empty_segment}
use Rattle.recover.specs.Replayed.{ReplaysAll}
use Rattle.recover.specs.Surveyed.{Continues, epoch_after}
use Rattle.recover.specs.Upgrading.{IsRead, IsToEnd, IsUpgradeOf, upgraded_epoch}
use Rattle.recover.proofs.Gates.{empty_has_gate}
use Rattle.recover.proofs.Joined.{EndsAt, WritesImage, end_kept, end_same}
use Rattle.recover.proofs.Rest.{rest_after, rest_called, rest_is_synced}
use Rattle.recover.proofs.Stages.{empty_encodes, next_image, one_stands, same_by_one, two_stands}
use Rattle.recover.proofs.Ways.{one_found, own_last_gate, same_after}

-- The epoch in which a store continues.

upgrade_epoch : (version : StoreVersion) (epoch : ℕ) (state : State) (upgrade : Option ImageValue)
    → IsUpgradeOf version epoch state upgrade → upgraded_epoch epoch upgrade ≡ epoch_after version epoch
upgrade_epoch One epoch state upgrade is = ap (λ (o : Option ImageValue). upgraded_epoch epoch o) is.1
upgrade_epoch Two epoch state upgrade is = ap (λ (o : Option ImageValue). upgraded_epoch epoch o) is

pub continues : (slots : Slots) (epoch next : ℕ) (version : StoreVersion) (state : State) (upgrade : Option ImageValue)
    → version_of (slot_of slots (segment_slot epoch)) ≡ version_number version
    → IsUpgradeOf version epoch state upgrade → next ≡ upgraded_epoch epoch upgrade → Continues slots epoch next
continues slots epoch next version state upgrade says upgraded is =
    record { version = version; says = says; is = is ∙ upgrade_epoch version epoch state upgrade upgraded }

-- A store that was read is to be ended, and upgraded if there is an image for it.
pub to_end : (disk : View) (e : ℕ) (read state : State) (count end : ℕ) (v : StoreVersion)
    (asked upgrade : Option ImageValue) → state ≡ read → upgrade ≡ asked → IsAtRest disk
    → IsRead disk.seen e read count end → version_of (slot_of disk.seen (segment_slot e)) ≡ version_number v
    → IsUpgradeOf v e read asked → IsToEnd disk state (record { epoch = e; records = count }) end upgrade
to_end disk e read state count end v asked upgrade is asks rest whole says upgraded =
    subst (λ (s : State). IsToEnd disk s (record { epoch = e; records = count }) end upgrade) (sym is)
    (subst (IsToEnd disk read (record { epoch = e; records = count }) end) (sym asks) (record {
      at_rest = rest;
      read = whole;
      version = v;
      says = says;
      upgraded = upgraded;
    }))

pub upgrade_fits : (v : StoreVersion) (e : ℕ) (state : State) (asked upgrade : Option ImageValue) → upgrade ≡ asked
    → IsUpgradeOf v e state asked → IfSome upgrade (λ _. e + 1 < 2 ^ 64)
upgrade_fits One e state asked upgrade asks upgraded =
    subst (λ (o : Option ImageValue). IfSome o (λ _. e + 1 < 2 ^ 64)) (sym (asks ∙ upgraded.1)) upgraded.0
upgrade_fits Two e state asked upgrade asks upgraded =
    subst (λ (o : Option ImageValue). IfSome o (λ _. e + 1 < 2 ^ 64)) (sym (asks ∙ upgraded)) tt

-- The premises of an upgrade: a store that was read, and the next epoch's image.
pub record Upgrades (disk : View) (e : ℕ) (state : State) (count end : ℕ) (image : ImageValue) : Type 0 where
  pub at_rest : IsAtRest disk
  pub read : IsRead disk.seen e state count end
  pub fits : e + 1 < 2 ^ 64
  pub is : image ≡ unwritten (e + 1) (image_encoding state)
  pub holds : HoldsImage (e + 1) (open_image (e + 1) (image_encoding state)) state

one_some : {T : Type 0} (a b : T) (o : Option T) → o ≡ Some a → o ≡ Some b → a ≡ b
one_some a b o is other = cc (is, other)

upgrades_in : (version : StoreVersion) (disk : View) (state : State) (segment : Segment) (end : ℕ)
    (o : Option ImageValue) (image : ImageValue) → (to_end : IsToEnd disk state segment end o)
    → version ≡ to_end.version → o ≡ Some image → Upgrades disk segment.epoch state segment.records end image
upgrades_in One disk state segment end o image to_end is some =
    let asked = subst (λ (v : StoreVersion). IsUpgradeOf v segment.epoch state o) (sym is) to_end.upgraded in
    record {
      at_rest = to_end.at_rest;
      read = to_end.read;
      fits = asked.0;
      is = one_some image (unwritten (segment.epoch + 1) (image_encoding state)) o some asked.1;
      holds = asked.2;
    }
upgrades_in Two disk state segment end o image to_end is some =
    let none = subst (λ (v : StoreVersion). IsUpgradeOf v segment.epoch state o) (sym is) to_end.upgraded in
    absurd (cc (none, some))

pub upgrades : (disk : View) (state : State) (segment : Segment) (end : ℕ) (o : Option ImageValue)
    (image : ImageValue) → IsToEnd disk state segment end o → o ≡ Some image
    → Upgrades disk segment.epoch state segment.records end image
upgrades disk state segment end o image to_end some =
    upgrades_in to_end.version disk state segment end o image to_end refl some

current_in : (version : StoreVersion) (disk : View) (state : State) (segment : Segment) (end : ℕ)
    (o : Option ImageValue) → (to_end : IsToEnd disk state segment end o) → version ≡ to_end.version → o ≡ None
    → version ≡ current
current_in One disk state segment end o to_end is none =
    let asked = subst (λ (v : StoreVersion). IsUpgradeOf v segment.epoch state o) (sym is) to_end.upgraded in
    absurd (cc (none, asked.1))
current_in Two disk state segment end o to_end is none = refl

-- without an image the segment is of the current version
pub current_says : (disk : View) (state : State) (segment : Segment) (end : ℕ) (o : Option ImageValue)
    → IsToEnd disk state segment end o → o ≡ None
    → version_of (slot_of disk.seen (segment_slot segment.epoch)) ≡ version_number current
current_says disk state segment end o to_end none =
    to_end.says ∙ ap version_number (current_in to_end.version disk state segment end o to_end refl none)

-- the next segment's slot while it is created
next_segment_stands : (s : Slots) (e : ℕ) (base state : State) (records : List Record) (x : List ℕ)
    → e + 1 < 2 ^ 64 → InOne s e base records → Run base records state → HasLastGate (slot_of s (segment_slot e))
    → IsRemade 16 (empty_segment (e + 1)) (slot_of s (segment_slot (e + 1))) x
    → StandForState state (with_slot s (segment_slot (e + 1)) x)
next_segment_stands s e base state records x fits one run gate remade =
    let t : Slots = with_slot s (segment_slot (e + 1)) x in
    elim remade as (λ _. StandForState state t) [
      | inl closing ↦ one_stands t e base state records
          (one_next_segment_changed s e base records x one
          (closing_segment e (slot_of s (segment_slot (e + 1))) x closing one.other_segment)) run
          (subst HasLastGate (sym (alongside_next_segment s x e).2) gate)
      | inr whole ↦ two_stands t e base state state records []
          (one_opened s e base records [] x one fits (empty_encodes (e + 1) x whole)) run refl
          (subst HasLastGate (sym (own_segment s x (e + 1))) (empty_has_gate (e + 1) x whole))
    ]

-- slots that represent a state represent the store's states
as_same : (s c : Slots) (e : ℕ) (state : State) (count end : ℕ) → IsRead s e state count end → StandForState state c
    → StandForSame s c
as_same s c e state count end read stands =
    (same_by_one s c state (one_found s e state count end read) stands.recovered, stands.gates)

-- the next segment is created

abbrev pub MakesSegment : View → View → ℕ → Type 0
MakesSegment old mid epoch =
    IsSynced old (segment_slot epoch)
    → Passes old mid (Follows old (segment_slot epoch) (IsRemade 16 (empty_segment epoch)))

abbrev HasSegment : View → View → ℕ → Type 0
HasSegment old mid epoch = mid.seen ≡ with_slot old.seen (segment_slot epoch) (empty_segment epoch)

abbrev HasImage : View → View → ImageValue → Type 0
HasImage mid new image =
    new.seen ≡ with_slot mid.seen (image_slot image.epoch) (open_image image.epoch image.encoding)

pub segment_made_same : (old mid : View) (e : ℕ) (state : State) (count end : ℕ) (image : ImageValue)
    → Upgrades old e state count end image → HaveLastGates old.seen → MakesSegment old mid (e + 1)
    → Passes old mid (StandForSame old.seen)
segment_made_same old mid e state count end image u gates time =
    let slot = segment_slot (e + 1) in
    let gate = own_last_gate old.seen e u.read.base u.read.replays.records gates u.read.one in
    passes_as old mid (DiffersIn old.seen slot (IsRemade 16 (empty_segment (e + 1)) (slot_of old.seen slot)))
    (StandForSame old.seen)
    (rest_called slot old mid (IsRemade 16 (empty_segment (e + 1))) u.at_rest (time (rest_is_synced slot old u.at_rest)))
    (λ c differs. as_same old.seen c e state count end u.read
    (subst (StandForState state) (sym differs.1)
    (next_segment_stands old.seen e u.read.base state u.read.replays.records (slot_of c slot) u.fits u.read.one
    u.read.replays.run gate differs.0)))

-- the store between the steps: its next segment contains no record
upgrading_two : (old mid : View) (e : ℕ) (state : State) (count end : ℕ) (image : ImageValue)
    → (u : Upgrades old e state count end image) → HasSegment old mid (e + 1)
    → InTwo mid.seen e u.read.base u.read.replays.records []
upgrading_two old mid e state count end image u made =
    subst (λ (s : Slots). InTwo s e u.read.base u.read.replays.records []) (sym made)
    (one_opened old.seen e u.read.base u.read.replays.records [] (empty_segment (e + 1)) u.read.one u.fits
    (empty_encodes (e + 1) (empty_segment (e + 1)) refl))

next_segment_is : (old mid : View) (e : ℕ) → HasSegment old mid (e + 1)
    → slot_of mid.seen (segment_slot (e + 1)) ≡ empty_segment (e + 1)
next_segment_is old mid e made =
    ap (λ (s : Slots). slot_of s (segment_slot (e + 1))) made ∙ own_segment old.seen (empty_segment (e + 1)) (e + 1)

upgrading_rest : (old mid : View) (e : ℕ) (state : State) (count end : ℕ) (image : ImageValue)
    → Upgrades old e state count end image → MakesSegment old mid (e + 1) → HasSegment old mid (e + 1)
    → IsSynced mid (segment_slot (e + 1)) → IsAtRest mid
upgrading_rest old mid e state count end image u time made synced =
    let slot = segment_slot (e + 1) in
    rest_after slot old mid (IsRemade 16 (empty_segment (e + 1))) (empty_segment (e + 1))
    (time (rest_is_synced slot old u.at_rest)) made synced u.at_rest

-- the next image is written

image_written_same : (old mid new : View) (e : ℕ) (state : State) (count end : ℕ) (image : ImageValue)
    → Upgrades old e state count end image → MakesSegment old mid (e + 1) → HasSegment old mid (e + 1)
    → IsSynced mid (segment_slot (e + 1)) → WritesImage mid new image → Passes mid new (StandForSame old.seen)
image_written_same old mid new e state count end image u time made synced writes =
    let content : List ℕ = open_image (e + 1) (image_encoding state) in
    let slot = image_slot (e + 1) in
    let records = u.read.replays.records in
    let two = upgrading_two old mid e state count end image u made in
    let rest = upgrading_rest old mid e state count end image u time made synced in
    let gates =
    (two_stands mid.seen e u.read.base state state records [] two u.read.replays.run refl
    (empty_has_gate (e + 1) (slot_of mid.seen (segment_slot (e + 1))) (next_segment_is old mid e made))).gates in
    passes_as mid new (DiffersIn mid.seen slot (IsRemade 24 content (slot_of mid.seen slot))) (StandForSame old.seen)
    (rest_called slot mid new (IsRemade 24 content) rest
    (subst (WritesImage mid new) u.is writes (rest_is_synced slot mid rest))) (λ c differs.
    let x = slot_of c slot in
    as_same old.seen c e state count end u.read
    (subst (StandForState state) (sym differs.1) (record {
      recovered =
          next_image mid.seen e u.read.base state state records [] x content two u.read.replays.run refl u.holds
          differs.0;
      gates = gates_alongside_image mid.seen x (e + 1) gates;
    })))

pub image_made_same : (old mid new : View) (e : ℕ) (state : State) (count end : ℕ) (image : ImageValue)
    → Upgrades old e state count end image → HaveLastGates old.seen → MakesSegment old mid (e + 1)
    → HasSegment old mid (e + 1) → IsSynced mid (segment_slot (e + 1)) → WritesImage mid new image
    → Passes old new (StandForSame old.seen)
image_made_same old mid new e state count end image u gates time made synced writes =
    passes_then old mid new (StandForSame old.seen) (StandForSame old.seen) (StandForSame old.seen)
    (segment_made_same old mid e state count end image u gates time)
    (image_written_same old mid new e state count end image u time made synced writes) (λ c is. is) (λ c is. is)

-- The store in the next epoch, as it would be read.

upgraded_rest : (old mid new : View) (e : ℕ) (state : State) (count end : ℕ) (image : ImageValue)
    → Upgrades old e state count end image → MakesSegment old mid (e + 1) → HasSegment old mid (e + 1)
    → IsSynced mid (segment_slot (e + 1)) → WritesImage mid new image → HasImage mid new image
    → IsSynced new (image_slot image.epoch) → IsAtRest new
upgraded_rest old mid new e state count end image u time made synced writes written stays =
    let content : List ℕ = open_image (e + 1) (image_encoding state) in
    let slot = image_slot (e + 1) in
    let rest = upgrading_rest old mid e state count end image u time made synced in
    rest_after slot mid new (IsRemade 24 content) content
    (subst (WritesImage mid new) u.is writes (rest_is_synced slot mid rest)) (subst (HasImage mid new) u.is written)
    (subst (λ (i : ImageValue). IsSynced new (image_slot i.epoch)) u.is stays) rest

upgraded_segment : (old mid new : View) (e : ℕ) (state : State) (count end : ℕ) (image : ImageValue)
    → Upgrades old e state count end image → HasSegment old mid (e + 1) → HasImage mid new image
    → slot_of new.seen (segment_slot (e + 1)) ≡ empty_segment (e + 1)
upgraded_segment old mid new e state count end image u made written =
    ap (λ (s : Slots). slot_of s (segment_slot (e + 1))) (subst (HasImage mid new) u.is written)
    ∙ (alongside_image mid.seen (open_image (e + 1) (image_encoding state)) e).2 ∙ next_segment_is old mid e made

-- a segment without a record
no_batch : (rest : List ℕ) → rest ≡ closed_gate ∷ [] → EncodesCounted rest [] 0
no_batch rest is = subst (λ (l : List ℕ). EncodesCounted l [] 0) (sym is) (record {
  encoded = record {
    batches = [];
    rest = closed_gate ∷ [];
    encoding = refl;
    closed = λ e. cc;
    none_empty = tt;
    flat = refl;
    canonical = tt;
    bounded = omega arith;
  };
  sized = refl;
})

replays_nothing : (e : ℕ) (segment : List ℕ) (state : State) → segment ≡ empty_segment e
    → ReplaysAll e segment state state 0 16
replays_nothing e segment state is = record {
  version = current;
  says = ap version_of is;
  next = tt;
  records = [];
  within = tt;
  encoded = no_batch (drop 16 segment) (ap (λ (l : List ℕ). drop 16 l) is);
  run = refl;
  counted = refl;
  beyond = omega arith;
  inside = omega (arith, ap length is);
}

empty_of_epoch : (e : ℕ) (segment : List ℕ) → e < 2 ^ 64 → segment ≡ empty_segment e → IsOfEpoch (e % 2) e segment
empty_of_epoch e segment fits is = record {
  version = current;
  rest = closed_gate ∷ [];
  encoding = is;
  fits = fits;
  of_number = refl;
}

pub upgraded_read : (old mid new : View) (e : ℕ) (state : State) (count end : ℕ) (image : ImageValue)
    → Upgrades old e state count end image → HasSegment old mid (e + 1) → HasImage mid new image
    → IsRead new.seen (e + 1) state 0 16
unfolding replays_nothing
upgraded_read old mid new e state count end image u made written =
    let content : List ℕ = open_image (e + 1) (image_encoding state) in
    let segment = slot_of new.seen (segment_slot (e + 1)) in
    let is : segment ≡ empty_segment (e + 1) = upgraded_segment old mid new e state count end image u made written in
    let two = upgrading_two old mid e state count end image u made in
    record {
      base = state;
      header = empty_of_epoch (e + 1) segment u.fits is;
      replays = replays_nothing (e + 1) segment state is;
      one =
          subst (λ (s : Slots). InOne s (e + 1) state []) (sym (subst (HasImage mid new) u.is written))
          (two_finished mid.seen e u.read.base state u.read.replays.records [] content two u.holds);
    }

-- it has its last gate
upgraded_gates : (old mid new : View) (e : ℕ) (state : State) (count end : ℕ) (image : ImageValue)
    → Upgrades old e state count end image → HasSegment old mid (e + 1) → HasImage mid new image
    → HaveLastGates new.seen
upgraded_gates old mid new e state count end image u made written =
    let read = upgraded_read old mid new e state count end image u made written in
    one_gates new.seen (e + 1) read.base read.replays.records read.one
    (empty_has_gate (e + 1) (slot_of new.seen (segment_slot (e + 1)))
    (upgraded_segment old mid new e state count end image u made written))

-- Its segment is ended.

pub upgraded_same : (old mid new last : View) (e : ℕ) (slot : Slot) (state : State) (count end : ℕ)
    (image : ImageValue) → Upgrades old e state count end image → HaveLastGates old.seen → MakesSegment old mid (e + 1)
    → HasSegment old mid (e + 1) → IsSynced mid (segment_slot (e + 1)) → WritesImage mid new image
    → HasImage mid new image → IsSynced new (image_slot image.epoch) → slot ≡ segment_slot (e + 1)
    → EndsAt new last slot 16 → Passes old last (StandForSame old.seen)
upgraded_same old mid new last e slot state count end image u gates time made synced writes written stays at ends =
    let read = upgraded_read old mid new e state count end image u made written in
    let rest = upgraded_rest old mid new e state count end image u time made synced writes written stays in
    same_after old new last (image_made_same old mid new e state count end image u gates time made synced writes)
    (same_by_one old.seen new.seen state (one_found old.seen e state count end u.read)
    (one_found new.seen (e + 1) state 0 16 read))
    (end_same new last (e + 1) slot state 0 16 at rest (upgraded_gates old mid new e state count end image u made written)
    read ends)

pub upgraded_kept : (old mid new last : View) (e : ℕ) (slot : Slot) (next : Segment) (state : State) (count end : ℕ)
    (image : ImageValue) → Upgrades old e state count end image → HasSegment old mid (e + 1) → HasImage mid new image
    → next ≡ record { epoch = e + 1; records = 0 } → slot ≡ segment_slot (e + 1) → IsAtRest last
    → last.seen ≡ with_slot new.seen slot (take (16 + 1) (slot_of new.seen slot ++ closed_gate ∷ []))
    → IsKept last next state
upgraded_kept old mid new last e slot next state count end image u made written zeros at rest ended =
    let read = upgraded_read old mid new e state count end image u made written in
    subst (λ (g : Segment). IsKept last g state) (sym zeros)
    (end_kept new last (e + 1) slot state 0 16 current at read
    (ap version_of (upgraded_segment old mid new e state count end image u made written)) rest ended)

-- the end is within the slot
pub upgraded_inside : (old mid new : View) (e : ℕ) (slot : Slot) (state : State) (count end : ℕ) (image : ImageValue)
    → Upgrades old e state count end image → HasSegment old mid (e + 1) → HasImage mid new image
    → slot ≡ segment_slot (e + 1) → 16 ≤ length (slot_of new.seen slot)
upgraded_inside old mid new e slot state count end image u made written at =
    subst (λ (s : Slot). 16 ≤ length (slot_of new.seen s)) (sym at)
    (upgraded_read old mid new e state count end image u made written).replays.inside

pub upgraded_at_rest : (old mid new last : View) (e : ℕ) (state : State) (count end : ℕ) (image : ImageValue)
    → Upgrades old e state count end image → MakesSegment old mid (e + 1) → HasSegment old mid (e + 1)
    → IsSynced mid (segment_slot (e + 1)) → WritesImage mid new image → HasImage mid new image
    → IsSynced new (image_slot image.epoch) → (IsAtRest new → IsAtRest last) → IsAtRest last
upgraded_at_rest old mid new last e state count end image u time made synced writes written stays rest =
    rest (upgraded_rest old mid new e state count end image u time made synced writes written stays)
