-- The faults of the functions that open a store.
use Rattle.std.proofs.Common.{◌≡◌, ◌⊎◌, inl, inr, ℕ, Result, Ok, Err, IfOk, OnErr, OnOk, ap, subst, ◌∙◌}
use Rattle.std.specs.Prelude.{IsErrOf}
use Rattle.disk.specs.Moments.{ReadsOnly, View, one_more}
use Rattle.disk.specs.Slots.{Slots}
use Rattle.ipc_model.specs.state.State.{State}
use Rattle.ipc_model.specs.store.Recovery.{Recovered}
use Rattle.journal.specs.declared.segment.Segment.{Segment}
use Rattle.recover.specs.Kept.{IsKept}
use Rattle.recover.specs.Outcomes.{CountsDevice, OnlyOpeningFaults, OnlyReadingFaults, Opens}
use Rattle.recover.specs.Surveyed.{OpensInEpoch}
use Rattle.disk.proofs.Moments.{unchanged_then}
use Rattle.store_fault.specs.declared.fault.StoreFault.{StoreFault}
use Rattle.store_fault.specs.declared.fault.StoreFault.TheVariants as fault
use Rattle.store_layout.specs.Standing.{as_written}

-- a fault of these three kinds isn't `Version`
pub never_version : {T : Type 0} (r : Result T StoreFault) → OnlyReadingFaults r → IsErrOf r fault.Version → ⊥
never_version (Ok v) faults is = cc is
never_version (Err f) faults is = elim faults [
  | inl device ↦ cc (device, is)
  | inr others ↦ elim others [
    | inl damaged ↦ cc (damaged, is)
    | inr memory ↦ cc (memory, is)
  ]
]

pub one_of_four : {T : Type 0} (r : Result T StoreFault) → OnlyReadingFaults r → OnlyOpeningFaults r
one_of_four (Ok v) faults = tt
one_of_four (Err f) faults = elim faults [
  | inl device ↦ inl device
  | inr others ↦ elim others [
    | inl damaged ↦ inr (inl damaged)
    | inr memory ↦ inr (inr (inl memory))
  ]
]

-- a fault at an exit
pub of_memory : {T : Type 0} (r : Result T StoreFault) → r ≡ Err fault.NoMemory → OnlyReadingFaults r
of_memory (Ok v) is = tt
of_memory (Err f) is = inr (inr is)

pub memory_no_damage : {T : Type 0} (r : Result T StoreFault) → r ≡ Err fault.NoMemory → IsErrOf r fault.Damaged → ⊥
memory_no_damage (Ok v) is reported = cc is
memory_no_damage (Err f) is reported = cc (is, reported)

pub of_device : {T : Type 0} (r : Result T StoreFault) → r ≡ Err fault.Device → OnlyReadingFaults r
of_device (Ok v) is = tt
of_device (Err f) is = inl is

pub device_no_damage : {T : Type 0} (r : Result T StoreFault) → r ≡ Err fault.Device → IsErrOf r fault.Damaged → ⊥
device_no_damage (Ok v) is reported = cc is
device_no_damage (Err f) is reported = cc (is, reported)

pub other_fault : {T P : Type 0} (r : Result T StoreFault) (f : StoreFault) → r ≡ Err f
    → OnErr r ((r ≡ Err fault.Device) ⊎ P) → (f ≡ fault.Device → ⊥) → P
other_fault (Ok v) f is reported other = absurd (cc is)
other_fault (Err e) f is reported other = elim reported [
  | inl device ↦ absurd (other (cc (is, device)))
  | inr holds ↦ holds
]

pub none_at_error : {T E : Type 0} (P : Type 0) (r : Result T E) (e : E) → r ≡ Err e → OnOk r P
none_at_error P (Ok v) e is = absurd (cc is)
none_at_error P (Err f) e is = tt

pub none_in_error : {T E : Type 0} (P : T → Type 0) (r : Result T E) (e : E) → r ≡ Err e → IfOk r P
none_in_error P (Ok v) e is = absurd (cc is)
none_in_error P (Err f) e is = tt

-- the count of failed calls

-- without the fault `Device`
pub counts_same : {T : Type 0} (before now : ℕ) (r : Result T StoreFault) → (IsErrOf r fault.Device → ⊥) → now ≡ before
    → CountsDevice before now r
counts_same before now (Ok v) never same =
    record { quiet = same; still = tt; device = λ reported. absurd (never reported) }
counts_same before now (Err f) never same =
    record { quiet = tt; still = inr same; device = λ reported. absurd (never reported) }

pub counts_ok : {T : Type 0} (before now : ℕ) (v : T) → now ≡ before → CountsDevice before now (Ok v)
counts_ok before now v same = counts_same before now (Ok v) (λ reported. cc reported) same

pub counts_other : {T : Type 0} (before now : ℕ) (r : Result T StoreFault) (f : StoreFault) → r ≡ Err f
    → (f ≡ fault.Device → ⊥) → now ≡ before → CountsDevice before now r
counts_other before now r f is other same = counts_same before now r (λ reported. other (cc (is, reported))) same

pub counts_memory : {T : Type 0} (before now : ℕ) (r : Result T StoreFault) → r ≡ Err fault.NoMemory → now ≡ before
    → CountsDevice before now r
counts_memory before now r is same = counts_same before now r (λ reported. cc (is, reported)) same

pub counts_device : {T : Type 0} (before now : ℕ) (r : Result T StoreFault) → r ≡ Err fault.Device
    → now ≡ one_more before → CountsDevice before now r
counts_device before now (Ok v) is more = absurd (cc is)
counts_device before now (Err f) is more = record { quiet = tt; still = inl is; device = λ reported. more }

-- a fault that is passed on
pub counts_passed : {T U : Type 0} (before now : ℕ) (f : StoreFault) (r : Result U StoreFault) → r ≡ Err f
    → CountsDevice {T = T} before now (Err f) → CountsDevice before now r
counts_passed before now f (Ok v) is counts = absurd (cc is)
counts_passed before now f (Err e) is counts = record {
  quiet = tt;
  still = elim counts.still [ inl device ↦ inl (cc (device, is)) | inr same ↦ inr same ];
  device = λ reported. counts.device (cc (reported, is));
}

-- a step after successful ones
pub counts_then : {T : Type 0} (before mid now : ℕ) (r : Result T StoreFault) → mid ≡ before → CountsDevice mid now r
    → CountsDevice before now r
counts_then before mid now r same counts = subst (λ (n : ℕ). CountsDevice n now r) same counts

-- the fault of a step whose clauses are separate
pub counts_read : {T U : Type 0} (before mid now : ℕ) (s : Result T StoreFault) (f : StoreFault)
    (r : Result U StoreFault) → mid ≡ before → s ≡ Err f → r ≡ Err f → OnErr s ((s ≡ Err fault.Device) ⊎ (now ≡ mid))
    → (IsErrOf s fault.Device → now ≡ one_more mid) → CountsDevice before now r
counts_read before mid now (Ok v) f r same from is still device = absurd (cc from)
counts_read before mid now (Err e) f (Ok v) same from is still device = absurd (cc is)
counts_read before mid now (Err e) f (Err h) same from is still device = record {
  quiet = tt;
  still = elim still [ inl failed ↦ inl (cc (failed, from, is)) | inr kept ↦ inr (kept ∙ same) ];
  device = λ reported. device (cc (reported, from, is)) ∙ ap one_more same;
}

-- The outcome of opening a store.

pub opens_as : (old new : View) (state : State) (segment : Segment) → Recovered (as_written old.seen) state
    → OpensInEpoch old.seen segment.epoch → IsKept new segment state → Opens old new (Ok (state, segment))
opens_as old new state segment recovered epoch kept =
    record { state = recovered; epoch = epoch; kept = kept; unchanged = tt; untouched = tt }

pub opens_device : (old new : View) (r : Result (State × Segment) StoreFault) → r ≡ Err fault.Device → Opens old new r
opens_device old new (Ok v) is = absurd (cc is)
opens_device old new (Err f) is = record { state = tt; epoch = tt; kept = tt; unchanged = inl is; untouched = inl is }

-- a fault after reads only
pub opens_nothing : (old new : View) (r : Result (State × Segment) StoreFault) (f : StoreFault) → r ≡ Err f
    → ReadsOnly old new → Opens old new r
opens_nothing old new (Ok v) f is reads = absurd (cc is)
opens_nothing old new (Err e) f is reads =
    record { state = tt; epoch = tt; kept = tt; unchanged = inr reads.seen; untouched = inr reads.time }

-- after steps that only read
pub opens_then : (old mid new : View) (r : Result (State × Segment) StoreFault) → ReadsOnly old mid → Opens mid new r
    → Opens old new r
opens_then old mid new (Ok v) reads opens = record {
  state = subst (λ (s : Slots). Recovered (as_written s) v.0) reads.seen opens.state;
  epoch = subst (λ (s : Slots). OpensInEpoch s v.1.epoch) reads.seen opens.epoch;
  kept = opens.kept;
  unchanged = tt;
  untouched = tt;
}
opens_then old mid new (Err f) reads opens = record {
  state = tt;
  epoch = tt;
  kept = tt;
  unchanged = elim opens.unchanged [ inl device ↦ inl device | inr same ↦ inr (same ∙ reads.seen) ];
  untouched = elim opens.untouched [
    | inl device ↦ inl device
    | inr untouched ↦ inr (unchanged_then old mid new reads.time untouched)
  ];
}
