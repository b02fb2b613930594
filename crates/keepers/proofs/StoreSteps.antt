-- Each step of a checkpoint, by how it changes a history's store.
use Rattle.std.proofs.Common.{◌≡◌, ◌⊎◌, ℕ, Bool, true, false, take, Option, Some, None, ap, subst, ◌∙◌, inl, inr}
use Rattle.std.specs.Prelude.{Result, Ok, Err, IfOk, IfErr, IfSome, IfNone, MatchBool}
use Rattle.disk.specs.Moments.{View}
use Rattle.ipc_laws.specs.RunsKeep.{one_run}
use Rattle.ipc_model.specs.calls.Step.{Run}
use Rattle.ipc_model.specs.state.State.{State}
use Rattle.history.specs.Entries.{records_of}
use Rattle.store_fault.specs.declared.fault.StoreFault.{StoreFault}
use Rattle.store_half.proofs.phases.Clearing.{clear_keeps, clear_passes, clear_fails, find_keeps, find_passes}
use Rattle.store_half.proofs.phases.Images.{image_close_keeps, image_close_passes, image_close_fails, piece_keeps, piece_passes, piece_fails, finish_keeps, finish_passes, finish_fails}
use Rattle.store_half.proofs.phases.Rolls.{roll_close_keeps, roll_close_passes, roll_close_fails, roll_head_keeps, roll_head_passes, roll_head_fails, roll_open_keeps, roll_open_passes, roll_open_fails}
use Rattle.keepers.specs.Storing.{IsStoreKeeper, KeptAt, StoreKeeperValue}
use Rattle.keepers.proofs.Storers.{Breaks, Goes, Stepped, stepped}
use Rattle.store_half.specs.Changes.{CanClear, CanFinish, CanOpen, ClearDone, ClearFaults, Clears, ClosesImage, FailsToClear, FailsToCloseImage, FailsToFinish, FailsToRollClose, FailsToRollHead, FailsToRollOpen, FailsToWritePiece, FindsClear, Finishes, HasImaged, HasPieceLeft, IsFault, IsFaultOrShortage, IsNotNow, IsRolled, RollsClose, RollsHead, RollsOpen, WritesPiece}
use Rattle.store_half.specs.Values.{StoreValue}
use Rattle.system.proofs.Logs.{fit_take}

module _ {D : Type 0} (honest : Type 0) (view : D → View) (base : State) (old : StoreKeeperValue D)
    (new : StoreValue D) where
  abbrev Does : Type 0
  Does = (Goes honest view base old new ⊎ Breaks honest view base old new) ⊎ (new ≡ old.store)

  -- from what a step answered, what it did
  fault_does : (Fails : Type 0) → (Fails → Breaks honest view base old new) → (fault : StoreFault)
      → IsFault old.store fault Fails new → Does
  fault_does Fails breaks fault (inl failed) = inr failed.2
  fault_does Fails breaks fault (inr device) = inl (inr (breaks device.1))

  shortage_does : (Fails Possible : Type 0) → (Fails → Breaks honest view base old new) → (fault : StoreFault)
      → IsFaultOrShortage old.store fault Possible Fails new → Does
  shortage_does Fails Possible breaks fault (inl is) = fault_does Fails breaks fault is
  shortage_does Fails Possible breaks fault (inr short) = inr short.3

  done_does : (Done Possible : Type 0) → (Done → Goes honest view base old new) → (b : Bool)
      → MatchBool b Done (IsNotNow old.store Possible new) → Does
  done_does Done Possible goes true done = inl (inl (goes done))
  done_does Done Possible goes false not_now = inr not_now.2

  does : (Done Fails Possible : Type 0) → (Done → Goes honest view base old new)
      → (Fails → Breaks honest view base old new) → (r : Result Bool StoreFault)
      → IfOk r (λ is_done. MatchBool is_done Done (IsNotNow old.store Possible new))
      → IfErr r (λ fault. IsFault old.store fault Fails new) → Does
  does Done Fails Possible goes breaks (Ok is_done) done fault = done_does Done Possible goes is_done done
  does Done Fails Possible goes breaks (Err e) done fault = fault_does Fails breaks e fault

  does_or_short : (Done Fails Possible : Type 0) → (Done → Goes honest view base old new)
      → (Fails → Breaks honest view base old new) → (r : Result Bool StoreFault)
      → IfOk r (λ is_done. MatchBool is_done Done (IsNotNow old.store Possible new))
      → IfErr r (λ fault. IsFaultOrShortage old.store fault Possible Fails new) → Does
  does_or_short Done Fails Possible goes breaks (Ok is_done) done fault = done_does Done Possible goes is_done done
  does_or_short Done Fails Possible goes breaks (Err e) done fault = shortage_does Fails Possible breaks e fault

  does_once : {R : Type 0} (Done : R → Type 0) (Fails Possible : Type 0)
      → ((r : R) → Done r → Goes honest view base old new) → (Fails → Breaks honest view base old new)
      → (r : Result (Option R) StoreFault) → IfOk r (λ receipt. IfSome receipt Done)
      → IfOk r (λ receipt. IfNone receipt (IsNotNow old.store Possible new))
      → IfErr r (λ fault. IsFault old.store fault Fails new) → Does
  does_once Done Fails Possible goes breaks (Ok (Some receipt)) done not_now fault = inl (inl (goes receipt done))
  does_once Done Fails Possible goes breaks (Ok None) done not_now fault = inr not_now.2
  does_once Done Fails Possible goes breaks (Err e) done not_now fault = fault_does Fails breaks e fault

  clear_goes : Clears honest view old.store new → Goes honest view base old new
  clear_goes clears = (
    clears.unfailed,
    ap (λ (s : StoreValue D). s.failed) clears.rest ∙ clears.unfailed,
    λ is_honest kept. (
      clear_keeps honest view is_honest old.store new kept.mid kept.state kept.kept clears,
      clear_passes honest view is_honest old.store new kept.mid kept.state kept.kept clears,
    ),
  )

  find_goes : FindsClear honest view old.store new → Goes honest view base old new
  find_goes finds = (
    finds.unfailed,
    ap (λ (s : StoreValue D). s.failed) finds.rest ∙ finds.unfailed,
    λ is_honest kept. (
      find_keeps honest view is_honest old.store new kept.mid kept.state kept.kept finds,
      find_passes honest view is_honest old.store new kept.mid kept.state kept.kept finds,
    ),
  )

  clear_breaks : FailsToClear honest view old.store new → Breaks honest view base old new
  clear_breaks fails = (
    fails.unfailed,
    ap (λ (s : StoreValue D). s.failed) fails.rest,
    λ is_honest kept. clear_fails honest view is_honest old.store new kept.mid kept.state kept.kept fails,
  )

  clear_answers : (b : Bool) → MatchBool b (Clears honest view old.store new)
      (IsNotNow old.store (CanClear old.store) new ⊎ FindsClear honest view old.store new) → Does
  clear_answers true clears = inl (inl (clear_goes clears))
  clear_answers false (inl not_now) = inr not_now.2
  clear_answers false (inr finds) = inl (inl (find_goes finds))

  clear_does : (r : Result Bool StoreFault) → ClearDone honest view old.store new r
      → ClearFaults honest view old.store new r → Does
  clear_does (Ok is_step) done fault = clear_answers is_step done
  clear_does (Err e) done fault = fault_does (FailsToClear honest view old.store new) clear_breaks e fault

  closes_goes : RollsClose honest view old.store new → Goes honest view base old new
  closes_goes rolls = (
    rolls.unfailed,
    ap (λ (s : StoreValue D). s.failed) rolls.rest ∙ rolls.unfailed,
    λ is_honest kept. (
      roll_close_keeps honest view is_honest old.store new kept.mid kept.state kept.kept rolls,
      roll_close_passes honest view is_honest old.store new kept.mid kept.state kept.kept rolls,
    ),
  )

  closes_breaks : FailsToRollClose honest view old.store new → Breaks honest view base old new
  closes_breaks fails = (
    fails.unfailed,
    ap (λ (s : StoreValue D). s.failed) fails.rest,
    λ is_honest kept. roll_close_fails honest view is_honest old.store new kept.mid kept.state kept.kept fails,
  )

  heads_goes : RollsHead honest view old.store new → Goes honest view base old new
  heads_goes rolls = (
    rolls.unfailed,
    ap (λ (s : StoreValue D). s.failed) rolls.rest ∙ rolls.unfailed,
    λ is_honest kept. (
      roll_head_keeps honest view is_honest old.store new kept.mid kept.state kept.kept rolls,
      roll_head_passes honest view is_honest old.store new kept.mid kept.state kept.kept rolls,
    ),
  )

  heads_breaks : FailsToRollHead honest view old.store new → Breaks honest view base old new
  heads_breaks fails = (
    fails.unfailed,
    ap (λ (s : StoreValue D). s.failed) fails.rest,
    λ is_honest kept. roll_head_fails honest view is_honest old.store new kept.mid kept.state kept.kept fails,
  )

  image_goes : ClosesImage honest view old.store new → Goes honest view base old new
  image_goes closes = (
    closes.unfailed,
    ap (λ (s : StoreValue D). s.failed) closes.rest ∙ closes.unfailed,
    λ is_honest kept. (
      image_close_keeps honest view is_honest old.store new kept.mid kept.state kept.kept closes,
      image_close_passes honest view is_honest old.store new kept.mid kept.state kept.kept closes,
    ),
  )

  image_breaks : FailsToCloseImage honest view old.store new → Breaks honest view base old new
  image_breaks fails = (
    fails.unfailed,
    ap (λ (s : StoreValue D). s.failed) fails.rest,
    λ is_honest kept. image_close_fails honest view is_honest old.store new kept.mid kept.state kept.kept fails,
  )

  piece_goes : WritesPiece honest view old.store new → Goes honest view base old new
  piece_goes writes = (
    writes.unfailed,
    ap (λ (s : StoreValue D). s.failed) writes.rest ∙ writes.unfailed,
    λ is_honest kept. (
      piece_keeps honest view is_honest old.store new kept.mid kept.state kept.kept writes,
      piece_passes honest view is_honest old.store new kept.mid kept.state kept.kept writes,
    ),
  )

  piece_breaks : FailsToWritePiece honest view old.store new → Breaks honest view base old new
  piece_breaks fails = (
    fails.unfailed,
    ap (λ (s : StoreValue D). s.failed) fails.rest,
    λ is_honest kept. piece_fails honest view is_honest old.store new kept.mid kept.state kept.kept fails,
  )

  finish_goes : Finishes honest view old.store new → Goes honest view base old new
  finish_goes finishes = (
    finishes.unfailed,
    ap (λ (s : StoreValue D). s.failed) finishes.rest ∙ finishes.unfailed,
    λ is_honest kept. (
      finish_keeps honest view is_honest old.store new kept.mid kept.state kept.kept finishes,
      finish_passes honest view is_honest old.store new kept.mid kept.state kept.kept finishes,
    ),
  )

  finish_breaks : FailsToFinish honest view old.store new → Breaks honest view base old new
  finish_breaks fails = (
    fails.unfailed,
    ap (λ (s : StoreValue D). s.failed) fails.rest,
    λ is_honest kept. finish_fails honest view is_honest old.store new kept.mid kept.state kept.kept fails,
  )

  -- The next segment is opened when all records are stored that led to the checkpoint's state. So this is the state of
  -- what is stored.
  same_state : IsStoreKeeper honest view base old → old.stored ≡ old.earlier
      → (kept : KeptAt view old.store base old.stored old.earlier (records_of old.entries)) → kept.state ≡ kept.mid
  same_state is all kept =
      one_run base (take old.earlier (records_of old.entries)) kept.state kept.mid
      (fit_take old.earlier (records_of old.entries) is.recorded.fit) is.recorded.lawful is.recorded.acyclic
      (subst (λ (n : ℕ). Run base (take n (records_of old.entries)) kept.state) all kept.before) kept.cut

  open_goes : IsStoreKeeper honest view base old → old.stored ≡ old.earlier → RollsOpen honest view old.store new
      → Goes honest view base old new
  open_goes is all rolls = (
    rolls.unfailed,
    ap (λ (s : StoreValue D). s.failed) rolls.rest ∙ rolls.unfailed,
    λ is_honest kept. (
      roll_open_keeps honest view is_honest old.store new kept.mid kept.state kept.kept
          (same_state is all kept) rolls,
      roll_open_passes honest view is_honest old.store new kept.mid kept.state kept.kept
          (same_state is all kept) rolls,
    ),
  )

  open_breaks : IsStoreKeeper honest view base old → old.stored ≡ old.earlier
      → FailsToRollOpen honest view old.store new → Breaks honest view base old new
  open_breaks is all fails = (
    fails.unfailed,
    ap (λ (s : StoreValue D). s.failed) fails.rest,
    λ is_honest kept. roll_open_fails honest view is_honest old.store new kept.mid kept.state kept.kept
        (same_state is all kept) fails,
  )

  -- the steps, by what they answered

  module _ (is : IsStoreKeeper honest view base old) where
    pub clear_steps : (r : Result Bool StoreFault) → ClearDone honest view old.store new r
        → ClearFaults honest view old.store new r → Stepped honest view base old new
    clear_steps r done fault = stepped honest view base old new is (clear_does r done fault)

    pub close_steps : (r : Result Bool StoreFault)
        → IfOk r (λ is_done. MatchBool is_done (RollsClose honest view old.store new)
        (IsNotNow old.store (IsRolled old.store.checkpoint 0) new))
        → IfErr r (λ fault. IsFault old.store fault (FailsToRollClose honest view old.store new) new)
        → Stepped honest view base old new
    close_steps r done fault = stepped honest view base old new is (does _ _ _ closes_goes closes_breaks r done fault)

    pub head_steps : (r : Result Bool StoreFault)
        → IfOk r (λ is_done. MatchBool is_done (RollsHead honest view old.store new)
        (IsNotNow old.store (IsRolled old.store.checkpoint 1) new))
        → IfErr r (λ fault. IsFault old.store fault (FailsToRollHead honest view old.store new) new)
        → Stepped honest view base old new
    head_steps r done fault = stepped honest view base old new is (does _ _ _ heads_goes heads_breaks r done fault)

    pub open_steps : old.stored ≡ old.earlier → (r : Result Bool StoreFault)
        → IfOk r (λ is_done. MatchBool is_done (RollsOpen honest view old.store new)
        (IsNotNow old.store (CanOpen old.store old.store.checkpoint) new))
        → IfErr r (λ fault. IsFault old.store fault (FailsToRollOpen honest view old.store new) new)
        → Stepped honest view base old new
    open_steps all r done fault =
        stepped honest view base old new is (does _ _ _ (open_goes is all) (open_breaks is all) r done fault)

    pub image_steps : (r : Result Bool StoreFault)
        → IfOk r (λ is_done. MatchBool is_done (ClosesImage honest view old.store new)
        (IsNotNow old.store (HasImaged old.store.checkpoint 0) new))
        → IfErr r (λ fault. IsFaultOrShortage old.store fault (HasImaged old.store.checkpoint 0)
        (FailsToCloseImage honest view old.store new) new) → Stepped honest view base old new
    image_steps r done fault =
        stepped honest view base old new is (does_or_short _ _ _ image_goes image_breaks r done fault)

    pub piece_steps : (r : Result Bool StoreFault)
        → IfOk r (λ is_done. MatchBool is_done (WritesPiece honest view old.store new)
        (IsNotNow old.store (HasPieceLeft old.store.checkpoint) new))
        → IfErr r (λ fault. IsFault old.store fault (FailsToWritePiece honest view old.store new) new)
        → Stepped honest view base old new
    piece_steps r done fault = stepped honest view base old new is (does _ _ _ piece_goes piece_breaks r done fault)

    pub finish_steps : (r : Result (Option ℕ) StoreFault)
        → IfOk r (λ receipt. IfSome receipt
        (λ finished. (finished ≡ old.store.segment.epoch) × Finishes honest view old.store new))
        → IfOk r (λ receipt. IfNone receipt (IsNotNow old.store (CanFinish old.store.checkpoint) new))
        → IfErr r (λ fault. IsFault old.store fault (FailsToFinish honest view old.store new) new)
        → Stepped honest view base old new
    finish_steps r done not_now fault =
        stepped honest view base old new is
        (does_once (λ (finished : ℕ). (finished ≡ old.store.segment.epoch) × Finishes honest view old.store new) _ _
        (λ _ done. finish_goes done.1) finish_breaks r done not_now fault)
