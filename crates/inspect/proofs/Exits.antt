-- The outcome of printing a store, at each exit.
use Rattle.std.proofs.Common.{◌≡◌, ◌⊎◌, inl, inr, ℕ, List, [], ◌∷◌, Option, Some, Result, Ok, Err, refl, subst}
use Rattle.std.specs.Prelude.{◌≢◌, IfErr, IsErrOf, OnErr, OnOk}
use Rattle.std.specs.Io.KnownBytes.{Appends, Keeps}
use Rattle.disk.specs.Moments.{ReadsOnly, View, one_more}
use Rattle.inspect.specs.Printed.{IsOfLook, PrintsText, ReadsStore}
use Rattle.inspect.specs.Program.{Prints}
use Rattle.inspect.specs.declared.program.ShowEnd.TheVariants.{Fault}
use Rattle.inspect.specs.declared.fault.ListFault.{ListFault}
use Rattle.inspect.specs.declared.fault.ListFault.TheVariants.{Store, Busy, Write}
use Rattle.ipc_model.specs.store.Recovery.{IsDamaged, IsOtherVersion}
use Rattle.store_fault.specs.declared.fault.StoreFault.TheVariants.{Damaged, Device, Version}
use Rattle.store_layout.specs.Standing.{as_written}
use Rattle.wire.specs.Writing.{AppendsPart}

of_err : {T : Type 0} (P : ListFault → Type 0) (r : Result T ListFault) (f : ListFault) → r ≡ Err f → IfErr r P → P f
of_err P (Ok v) f is p = absurd (cc is)
of_err P (Err e) f is p = subst P (cc is) p

at_err : {T : Type 0} (P : ListFault → Type 0) (r : Result T ListFault) (f : ListFault) → r ≡ Err f → P f → IfErr r P
at_err P (Ok v) f is p = tt
at_err P (Err e) f is p = subst P (cc is) p

never_ok : {T E : Type 0} (P : Type 0) (r : Result T E) (f : E) → r ≡ Err f → OnOk r P
never_ok P (Ok v) f is = absurd (cc is)
never_ok P (Err e) f is = tt

module _ (honest : Type 0) (old new : View) (before now : ℕ) where
  -- the text was made, whether or not it is sent
  pub reads_sent : (r : Result (Unit {0}) ListFault) → (honest → ReadsOnly old new) → now ≡ before
      → IfErr r (λ f. f ≡ Write) → ReadsStore honest old new before now r
  reads_sent (Ok v) reads same err = record {
    reads_only = reads;
    version = λ h is. absurd (cc is);
    damaged = λ h is. absurd (cc is);
    still = λ h is. cc is;
    device = λ is. absurd (cc is);
    quiet = λ other. same;
    faults = tt;
  }
  reads_sent (Err f) reads same err = record {
    reads_only = reads;
    version = λ h is. absurd (cc (is, err));
    damaged = λ h is. absurd (cc (is, err));
    still = λ h is. cc (is, err);
    device = λ is. absurd (cc (is, err));
    quiet = λ other. same;
    faults = inr err;
  }

  -- the store couldn't be read
  pub reads_failed : {T : Type 0} (t : Result T ListFault) (f : ListFault) (r : Result (Unit {0}) ListFault)
      → t ≡ Err f → r ≡ Err f → (honest → ReadsOnly old new)
      → (honest → IsErrOf t (Store Version) → IsOtherVersion (as_written old.seen))
      → (honest → IsErrOf t (Store Damaged) → IsDamaged (as_written old.seen))
      → (honest → IsErrOf t Busy → ⊥) → (IsErrOf t (Store Device) → now ≡ one_more before)
      → (t ≢ Err (Store Device) → now ≡ before) → IfErr t IsOfLook → ReadsStore honest old new before now r
  reads_failed t f r from is reads version damaged still device quiet faults = record {
    reads_only = reads;
    version = λ h same. version h (cc (same, from, is));
    damaged = λ h same. damaged h (cc (same, from, is));
    still = λ h same. still h (cc (same, from, is));
    device = λ same. device (cc (same, from, is));
    quiet = λ other. quiet (λ same. other (cc (same, from, is)));
    faults = at_err (λ fault. IsOfLook fault ⊎ (fault ≡ Write)) r f is (inl (of_err IsOfLook t f from faults));
  }

-- the text is sent
pub prints_sent : (IsText : List ℕ → Type 0) (old new : Option (List ℕ)) (text : List ℕ)
    (r : Result (Unit {0}) ListFault) → IsText text → OnOk r (Appends old new text)
    → OnErr r (AppendsPart old new text) → IfErr r (λ f. f ≡ Write) → PrintsText IsText old new r
prints_sent IsText old new text (Ok v) is ok part err =
    record { ok = (text, is, ok); part = λ same. absurd (cc same); unwritten = tt }
prints_sent IsText old new text (Err f) is ok part err =
    record { ok = tt; part = λ same. (text, is, part); unwritten = λ other. absurd (other err) }

-- nothing is sent
pub prints_nothing : (IsText : List ℕ → Type 0) (old new : Option (List ℕ)) (r : Result (Unit {0}) ListFault)
    (f : ListFault) → r ≡ Err f → (f ≡ Write → ⊥) → Keeps old new → PrintsText IsText old new r
prints_nothing IsText old new r f is other kept = record {
  ok = never_ok ((text : List ℕ) × IsText text × Appends old new text) r f is;
  part = λ same. absurd (other (cc (is, same)));
  unwritten = at_err (λ fault. fault ≢ Write → Keeps old new) r f is (λ not. kept);
}

pub prints_as : (IsText IsOther : List ℕ → Type 0) (old new : Option (List ℕ)) (r : Result (Unit {0}) ListFault)
    → ((text : List ℕ) → IsText text → IsOther text) → PrintsText IsText old new r → PrintsText IsOther old new r
prints_as IsText IsOther old new (Ok v) turn prints = record {
  ok = (prints.ok.0, turn prints.ok.0 prints.ok.1, prints.ok.2);
  part = λ same. absurd (cc same);
  unwritten = tt;
}
prints_as IsText IsOther old new (Err f) turn prints = record {
  ok = tt;
  part = λ same. let part = prints.part same in (part.0, turn part.0 part.1, part.2);
  unwritten = prints.unwritten;
}

-- a run of a program that failed
pub prints_fault : (IsOf : List ℕ → List ℕ → Type 0) (words : Option (List (List ℕ))) (old new : Option (List ℕ))
    (path : List ℕ) (fault : ListFault) → words ≡ Some (path ∷ []) → PrintsText (IsOf path) old new (Err fault)
    → Prints IsOf words old new (Fault fault)
prints_fault IsOf words old new path Write named prints = (path, named, prints.part refl)
prints_fault IsOf words old new path Busy named prints = ((path, named), prints.unwritten (λ same. cc same))
prints_fault IsOf words old new path (Store fault) named prints = ((path, named), prints.unwritten (λ same. cc same))
