-- How a connection on an opened store ends.
use Rattle.std.proofs.Common.{◌≡◌, List, ℕ, ◌++◌, Option, None, Some, IfSome, Result, Err, sym, ap, subst, ◌∙◌, append_assoc, inl, inr, refl, Ok, false}
use Rattle.std.specs.Prelude.{OnErr, ◌≢◌}
use Rattle.std.specs.Io.KnownBytes.{Appends}
use Rattle.std.proofs.KnownBytes.{Appends-trans}
use Rattle.disk.specs.Moments.{ReadsOnly, View}
use Rattle.server.specs.Keeping.{AloneValue, AnswersAsked, BreaksKept, FailsAsked, IsHeld, RestsKept}
use Rattle.server.specs.Program.{EndsAlone, IsRun, IsUnopenable, RunsInFolder, ServesFrom}
use Rattle.server.specs.declared.program.LoneEnd.{LoneEnd}
use Rattle.frame_service.specs.Serving.{Ends}
use Rattle.frame_service.specs.declared.service.ServeFault.{ServeFault}
use Rattle.frame_service.specs.declared.service.ServeFault.TheVariants.{Store}
use Rattle.ipc_model.specs.state.State.{State}
use Rattle.ipc_model.specs.store.Recovery.{Recovered}
use Rattle.recover.specs.Crashing.{OpensUntil}
use Rattle.recover.specs.Opened.{OpenedValue}
use Rattle.store_fault.specs.declared.fault.StoreFault.{StoreFault}
use Rattle.store_fault.specs.declared.fault.StoreFault.TheVariants.{Device}
use Rattle.store_layout.specs.Standing.{as_written}
use Rattle.wire.specs.Writing.{AppendsPart}

pub at_any : {T E P : Type 0} (r : Result T E) → P → OnErr r P
at_any (Ok x) p = tt
at_any (Err e) p = p

pub part_before : (old new : Option (List ℕ)) (bytes more : List ℕ) → AppendsPart old new bytes
    → AppendsPart old new (bytes ++ more)
part_before old new bytes more (sent, rest, split, appended) =
    (sent, rest ++ more, ap (λ (b : List ℕ). b ++ more) split ∙ append_assoc sent rest more, appended)

pub part_after : (old mid new : Option (List ℕ)) (front bytes : List ℕ) → Appends old mid front
    → AppendsPart mid new bytes → AppendsPart old new (front ++ bytes)
part_after old mid new front bytes first (sent, rest, split, appended) = (
  front ++ sent,
  rest,
  ap (λ (b : List ℕ). front ++ b) split ∙ sym (append_assoc front sent rest),
  Appends-trans old mid new front sent first appended,
)

-- what holds of bytes that are known, where something else holds of them
pub both_known : (o p : Option (List ℕ)) (P Q : List ℕ → List ℕ → Type 0)
    → ((input before : List ℕ) → P input before → Q input before)
    → IfSome o (λ input. IfSome p (λ before. P input before)) → IfSome o (λ input. IfSome p (λ before. Q input before))
both_known None p P Q turn known = tt
both_known (Some input) None P Q turn known = tt
both_known (Some input) (Some before) P Q turn known = turn input before known

pub both_here : (o p : Option (List ℕ)) (Q : List ℕ → List ℕ → Type 0)
    → ((input before : List ℕ) → o ≡ Some input → p ≡ Some before → Q input before)
    → IfSome o (λ input. IfSome p (λ before. Q input before))
both_here None p Q here = tt
both_here (Some input) None Q here = tt
both_here (Some input) (Some before) Q here = here input before refl refl

module _ {D : Type 0} (honest : Type 0) (view : D → View) (o p left written : Option (List ℕ))
    (result : Result (Unit {0}) ServeFault) where
  -- an opened store that was served
  pub serves_from : (opened : OpenedValue D) (old new : AloneValue D) (last : D) → old.kernel ≡ opened.kernel
      → old.store.disk ≡ opened.disk → old.space ≡ 1 → old.confined ≡ false → old.failed ≡ false
      → (honest → IsHeld (view old.store.disk) old.kernel) → last ≡ new.store.disk
      → (honest → new.failed ≡ false → IsHeld (view last) new.kernel)
      → IfSome o (λ input. IfSome p
      (λ before. Ends (AnswersAsked honest view) (FailsAsked honest view) (RestsKept honest view)
      (BreaksKept honest view) old new input before left written result))
      → IfSome o (λ input. IfSome p (λ before. ServesFrom honest view input before left written opened last result))
  serves_from opened old new last kernel disk attached unconfined works held closed at_end ends =
      both_known o p
      (λ input before. Ends (AnswersAsked honest view) (FailsAsked honest view) (RestsKept honest view)
      (BreaksKept honest view) old new input before left written result)
      (λ input before. ServesFrom honest view input before left written opened last result)
      (λ input before ends. record {
        old = old;
        new = new;
        kernel = kernel;
        disk = disk;
        serves = record {
          attached = attached;
          unconfined = unconfined;
          works = works;
          held = held;
          ends = ends;
          closed = closed;
          held_at_end = at_end;
        };
      }) ends

  -- a store that was opened and served
  pub runs_opened : (disk : D) (opened : OpenedValue D) (last : D)
      → (honest → Recovered (as_written (view disk).seen) opened.kernel)
      → (honest → OpensUntil (view disk) (view opened.disk))
      → IfSome o (λ input. IfSome p (λ before. ServesFrom honest view input before left written opened last result))
      → IfSome o (λ input. IfSome p (λ before. IsRun honest view input before left written disk last result))
  runs_opened disk opened last recovered any_moment served =
      both_known o p (λ input before. ServesFrom honest view input before left written opened last result)
      (λ input before. IsRun honest view input before left written disk last result)
      (λ input before from. inr (record {
        old = from.old;
        new = from.new;
        recovered = λ h. subst (λ (s : State). Recovered (as_written (view disk).seen) s) (sym from.kernel) (recovered h);
        any_moment = λ h. subst (λ (d : D). OpensUntil (view disk) (view d)) (sym from.disk) (any_moment h);
        serves = from.serves;
      })) served

  -- a store that can't be opened
  pub runs_unopened : (disk last : D) (fault : StoreFault) → result ≡ Err (Store fault) → left ≡ o → written ≡ p
      → IsUnopenable honest (view disk).seen fault → (honest → OpensUntil (view disk) (view last))
      → (honest → fault ≢ Device → ReadsOnly (view disk) (view last))
      → IfSome o (λ input. IfSome p (λ before. IsRun honest view input before left written disk last result))
  runs_unopened disk last fault is unread unwritten why any_moment unchanged =
      both_here o p (λ input before. IsRun honest view input before left written disk last result)
      (λ input before read wrote. inl (record {
        fault = fault;
        fault_is = is;
        why = why;
        any_moment = any_moment;
        unchanged = unchanged;
        unread = unread ∙ read;
        unwritten = unwritten ∙ wrote;
      }))

  -- a run on the disk of a folder's files
  pub runs_in_folder : (path_of : D → List ℕ) (path : List ℕ) (disk last : D) → path_of disk ≡ path
      → IfSome o (λ input. IfSome p (λ before. IsRun honest view input before left written disk last result))
      → IfSome o
      (λ input. IfSome p (λ before. RunsInFolder honest view input before left written path_of path result))
  runs_in_folder path_of path disk last at run =
      both_known o p (λ input before. IsRun honest view input before left written disk last result)
      (λ input before. RunsInFolder honest view input before left written path_of path result)
      (λ input before run. inr (disk, last, at, run)) run

  pub has_no_folder : (path_of : D → List ℕ) (path : List ℕ) → result ≡ Err (Store Device) → left ≡ o → written ≡ p
      → IfSome o
      (λ input. IfSome p (λ before. RunsInFolder honest view input before left written path_of path result))
  has_no_folder path_of path is unread unwritten =
      both_here o p (λ input before. RunsInFolder honest view input before left written path_of path result)
      (λ input before read wrote. inl (record {
        fault = is;
        unread = unread ∙ read;
        unwritten = unwritten ∙ wrote;
      }))

-- how the program ends, for arguments that are these
pub ends_named : {D : Type 0} (honest : Type 0) (view : D → View) (o p left written : Option (List ℕ))
    (path_of : D → List ℕ) (words these : Option (List (List ℕ))) (end : LoneEnd) → words ≡ these
    → IfSome o (λ input. IfSome p (λ before. EndsAlone honest view input before left written path_of these end))
    → IfSome o (λ input. IfSome p (λ before. EndsAlone honest view input before left written path_of words end))
ends_named honest view o p left written path_of words these end same ends =
    subst (λ (w : Option (List (List ℕ))). IfSome o
    (λ input. IfSome p (λ before. EndsAlone honest view input before left written path_of w end))) (sym same) ends
