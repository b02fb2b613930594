-- A checkpoint between the calls of a single connection keeps the store.
use Rattle.std.proofs.Common.{◌≡◌, ◌⊎◌, inl, inr, ℕ, ◌+◌, ◌<◌, Bool, true, false, Option, None, Some, refl, sym, ap, subst, ◌∙◌, arith}
use Rattle.std.specs.Prelude.{MatchBool, is_some}
use Rattle.disk.specs.Moments.{View, Passes}
use Rattle.ipc_model.specs.state.State.{State}
use Rattle.journal.specs.Batch.{empty_batch}
use Rattle.store_fault.specs.declared.fault.StoreFault.{StoreFault}
use Rattle.store_fault.specs.declared.fault.StoreFault.TheVariants.{Device, NoMemory}
use Rattle.journal.specs.declared.segment.Segment.{Segment}
use Rattle.store_half.specs.phases.Phases.{Keeps}
use Rattle.store_half.proofs.phases.Appends.{begin_keeps}
use Rattle.store_half.proofs.phases.Images.{finish_fails, finish_keeps, finish_passes, image_close_fails, image_close_keeps, image_close_passes, piece_fails, piece_keeps, piece_passes}
use Rattle.store_half.proofs.phases.Rolls.{roll_close_fails, roll_close_keeps, roll_close_passes, roll_head_fails, roll_head_keeps, roll_head_passes, roll_open_fails, roll_open_keeps, roll_open_passes}
use Rattle.disk.proofs.Moments.{passes_then}
use Rattle.store_half.specs.Changes.{CanOpen, ClosesImage, FailsToCloseImage, FailsToFinish, FailsToRollClose, FailsToRollHead, FailsToRollOpen, FailsToWritePiece, Finishes, HasImaged, HasPieceLeft, IsFault, IsFaultOrShortage, IsNotNow, IsRolled, RollsClose, RollsHead, RollsOpen, WritesPiece}
use Rattle.store_half.specs.Values.{CheckpointValue, StoreValue, begun}
use Rattle.store_layout.specs.Gates.{StandForState}
use Rattle.system.specs.Calling.{IsResting}
use Rattle.system.specs.Changes.{BeginsEpoch, FinishesImage, HandsIn}
use Rattle.system.specs.Core.{SystemValue}
use Rattle.system.specs.GoingOn.{GoesOn, GoesOnImage, IsFirstStep, IsRolledOver, IsStanding, RollsOver}
use Rattle.system.specs.Halves.{KernelValue}
use Rattle.system.proofs.Between.{some_is}
use Rattle.system.proofs.Simulation.{no_time}

module _ {D : Type 0} (honest : Type 0) (view : D → View) where
  -- A store that is kept stays so, and a crash until then leaves its state.
  pub record Moves (old new : StoreValue D) (mid state : State) : Type 0 where
    pub kept : honest → Keeps (view old.disk) old.segment old.checkpoint mid state
        → Keeps (view new.disk) new.segment new.checkpoint mid state
    pub passes : honest → Keeps (view old.disk) old.segment old.checkpoint mid state
        → Passes (view old.disk) (view new.disk) (StandForState state)

  -- A crash leaves the state of a store that was kept.
  abbrev pub Leaves : StoreValue D → StoreValue D → State → State → Type 0
  Leaves old new mid state =
      honest → Keeps (view old.disk) old.segment old.checkpoint mid state
      → Passes (view old.disk) (view new.disk) (StandForState state)

  pub moves_none : (old new : StoreValue D) (mid state : State) → new ≡ old → Moves old new mid state
  moves_none old new mid state same = record {
    kept =
        λ is_honest kept. subst (λ (s : StoreValue D). Keeps (view s.disk) s.segment s.checkpoint mid state)
        (sym same) kept;
    passes =
        λ is_honest kept. no_time (view old.disk) (view new.disk) (StandForState state)
        (ap (λ (s : StoreValue D). view s.disk) (sym same));
  }

  pub leaves_then : (old between new : StoreValue D) (mid state : State) → Moves old between mid state
      → Leaves between new mid state → Leaves old new mid state
  leaves_then old between new mid state first second is_honest kept =
      passes_then (view old.disk) (view between.disk) (view new.disk) (StandForState state) (StandForState state) (StandForState state)
      (first.passes is_honest kept) (second is_honest (first.kept is_honest kept)) (λ c r. r) (λ c r. r)

  pub moves_then : (old between new : StoreValue D) (mid state : State) → Moves old between mid state
      → Moves between new mid state → Moves old new mid state
  moves_then old between new mid state first second = record {
    kept = λ is_honest kept. second.kept is_honest (first.kept is_honest kept);
    passes = leaves_then old between new mid state first second.passes;
  }

  -- each step of a checkpoint

  pub close_moves : (old new : StoreValue D) (mid state : State) → RollsClose honest view old new
      → Moves old new mid state
  close_moves old new mid state rolls =
      record {
        kept = λ is_honest kept. roll_close_keeps honest view is_honest old new mid state kept rolls;
        passes = λ is_honest kept. roll_close_passes honest view is_honest old new mid state kept rolls;
      }

  pub head_moves : (old new : StoreValue D) (mid state : State) → RollsHead honest view old new
      → Moves old new mid state
  head_moves old new mid state rolls =
      record {
        kept = λ is_honest kept. roll_head_keeps honest view is_honest old new mid state kept rolls;
        passes = λ is_honest kept. roll_head_passes honest view is_honest old new mid state kept rolls;
      }

  pub open_moves : (old new : StoreValue D) (state : State) → RollsOpen honest view old new → Moves old new state state
  open_moves old new state rolls =
      record {
        kept = λ is_honest kept. roll_open_keeps honest view is_honest old new state state kept refl rolls;
        passes = λ is_honest kept. roll_open_passes honest view is_honest old new state state kept refl rolls;
      }

  pub image_moves : (old new : StoreValue D) (mid state : State) → ClosesImage honest view old new
      → Moves old new mid state
  image_moves old new mid state closes =
      record {
        kept = λ is_honest kept. image_close_keeps honest view is_honest old new mid state kept closes;
        passes = λ is_honest kept. image_close_passes honest view is_honest old new mid state kept closes;
      }

  pub piece_moves : (old new : StoreValue D) (mid state : State) → WritesPiece honest view old new
      → Moves old new mid state
  piece_moves old new mid state writes =
      record {
        kept = λ is_honest kept. piece_keeps honest view is_honest old new mid state kept writes;
        passes = λ is_honest kept. piece_passes honest view is_honest old new mid state kept writes;
      }

  pub finish_moves : (old new : StoreValue D) (mid state : State) → Finishes honest view old new
      → Moves old new mid state
  finish_moves old new mid state finishes =
      record {
        kept = λ is_honest kept. finish_keeps honest view is_honest old new mid state kept finishes;
        passes = λ is_honest kept. finish_passes honest view is_honest old new mid state kept finishes;
      }

  -- a fault of a store that hadn't failed is the device's

  device : (old new : StoreValue D) (fault : StoreFault) (fails : Type 0) → old.failed ≡ false
      → IsFault old fault fails new → (fault ≡ Device) × fails
  device old new fault fails unfailed is =
      elim is as (λ _. (fault ≡ Device) × fails) [ inl before ↦ absurd (cc (before.1, unfailed)) | inr now ↦ now ]

  pub close_breaks : (old new : StoreValue D) (fault : StoreFault) → old.failed ≡ false
      → IsFault old fault (FailsToRollClose honest view old new) new → (fault ≡ Device)
      × ((mid state : State) → Leaves old new mid state)
  close_breaks old new fault unfailed is =
      let now = device old new fault (FailsToRollClose honest view old new) unfailed is in
      (now.0, λ mid state is_honest kept. roll_close_fails honest view is_honest old new mid state kept now.1)

  pub head_breaks : (old new : StoreValue D) (fault : StoreFault) → old.failed ≡ false
      → IsFault old fault (FailsToRollHead honest view old new) new → (fault ≡ Device)
      × ((mid state : State) → Leaves old new mid state)
  head_breaks old new fault unfailed is =
      let now = device old new fault (FailsToRollHead honest view old new) unfailed is in
      (now.0, λ mid state is_honest kept. roll_head_fails honest view is_honest old new mid state kept now.1)

  pub open_breaks : (old new : StoreValue D) (fault : StoreFault) → old.failed ≡ false
      → IsFault old fault (FailsToRollOpen honest view old new) new → (fault ≡ Device)
      × ((state : State) → Leaves old new state state)
  open_breaks old new fault unfailed is =
      let now = device old new fault (FailsToRollOpen honest view old new) unfailed is in
      (now.0, λ state is_honest kept. roll_open_fails honest view is_honest old new state state kept refl now.1)

  pub piece_breaks : (old new : StoreValue D) (fault : StoreFault) → old.failed ≡ false
      → IsFault old fault (FailsToWritePiece honest view old new) new → (fault ≡ Device)
      × ((mid state : State) → Leaves old new mid state)
  piece_breaks old new fault unfailed is =
      let now = device old new fault (FailsToWritePiece honest view old new) unfailed is in
      (now.0, λ mid state is_honest kept. piece_fails honest view is_honest old new mid state kept now.1)

  pub finish_breaks : (old new : StoreValue D) (fault : StoreFault) → old.failed ≡ false
      → IsFault old fault (FailsToFinish honest view old new) new → (fault ≡ Device)
      × ((mid state : State) → Leaves old new mid state)
  finish_breaks old new fault unfailed is =
      let now = device old new fault (FailsToFinish honest view old new) unfailed is in
      (now.0, λ mid state is_honest kept. finish_fails honest view is_honest old new mid state kept now.1)

  -- closing an image may also run out of memory, and then nothing changed
  pub image_breaks : (old new : StoreValue D) (fault : StoreFault) → old.failed ≡ false
      → IsFaultOrShortage old fault (HasImaged old.checkpoint 0) (FailsToCloseImage honest view old new) new
      → ((fault ≡ Device) × ((mid state : State) → Leaves old new mid state)) ⊎ ((fault ≡ NoMemory) × (new ≡ old))
  image_breaks old new fault unfailed is =
      elim is as (λ _. ((fault ≡ Device) × ((mid state : State) → Leaves old new mid state))
      ⊎ ((fault ≡ NoMemory) × (new ≡ old))) [
        | inl known ↦
            let now = device old new fault (FailsToCloseImage honest view old new) unfailed known in
            inl (
              now.0,
              λ mid state is_honest kept. image_close_fails honest view is_honest old new mid state kept
                  now.1,
            )
        | inr short ↦ inr (short.0, short.3)
      ]

  -- The steps of rotating, one after another.

  close_next : (s0 : StoreValue D) → IsFirstStep s0 → IsRolled s0.checkpoint 0
  close_next s0 first = subst (λ (c : Option CheckpointValue). IsRolled c 0) (sym first.under_way) first.none_rolled

  pub close_done : (b : Bool) (s0 s1 : StoreValue D) → IsFirstStep s0
      → MatchBool b (RollsClose honest view s0 s1) (IsNotNow s0 (IsRolled s0.checkpoint 0) s1) → (b ≡ true)
      × RollsClose honest view s0 s1
  close_done true s0 s1 first done = (refl, done)
  close_done false s0 s1 first none = absurd (none.1 (close_next s0 first))

  head_next : (s0 s1 : StoreValue D) → RollsClose honest view s0 s1 → IsRolled s1.checkpoint 1
  head_next s0 s1 closed =
      subst (λ (c : Option CheckpointValue). IsRolled c 1)
      (sym (ap (λ (s : StoreValue D). s.checkpoint) closed.rest)) refl

  pub head_done : (b : Bool) (s0 s1 s2 : StoreValue D) → RollsClose honest view s0 s1
      → MatchBool b (RollsHead honest view s1 s2) (IsNotNow s1 (IsRolled s1.checkpoint 1) s2) → (b ≡ true)
      × RollsHead honest view s1 s2
  head_done true s0 s1 s2 closed done = (refl, done)
  head_done false s0 s1 s2 closed none = absurd (none.1 (head_next s0 s1 closed))

  -- a checkpoint whose header is written is the one that was begun
  log_of : (s0 s1 s2 : StoreValue D) (first : IsFirstStep s0) → RollsClose honest view s0 s1
      → RollsHead honest view s1 s2 → (s2.checkpoint ≡ Some (record first.checkpoint { rolled = 2 }))
      × (s2.segment ≡ s0.segment) × (s2.failed ≡ false)
  log_of s0 s1 s2 first closed headed =
      let c0 : closed.checkpoint ≡ first.checkpoint =
      some_is closed.checkpoint first.checkpoint (sym closed.under_way ∙ first.under_way) in
      let c1 : headed.checkpoint ≡ record closed.checkpoint { rolled = 1 } =
      some_is headed.checkpoint (record closed.checkpoint { rolled = 1 })
      (sym headed.under_way ∙ ap (λ (s : StoreValue D). s.checkpoint) closed.rest) in (
        ap (λ (s : StoreValue D). s.checkpoint) headed.rest ∙ ap
            (λ (c : CheckpointValue). Some (record c { rolled = 2 }))
            (c1 ∙ ap (λ (c : CheckpointValue). record c { rolled = 1 }) c0),
        ap (λ (s : StoreValue D). s.segment) headed.rest ∙ ap (λ (s : StoreValue D). s.segment) closed.rest,
        ap (λ (s : StoreValue D). s.failed) headed.rest ∙ headed.unfailed,
      )

  open_next : (s0 s1 s2 : StoreValue D) → IsFirstStep s0 → RollsClose honest view s0 s1 → RollsHead honest view s1 s2
      → CanOpen s2 s2.checkpoint
  open_next s0 s1 s2 first closed headed =
      let known = log_of s0 s1 s2 first closed headed in
      subst (CanOpen s2) (sym known.0) (refl, ap (λ (g : Segment). g.records) known.1 ∙ first.whole)

  pub open_done : (b : Bool) (s0 s1 s2 s3 : StoreValue D) → IsFirstStep s0 → RollsClose honest view s0 s1
      → RollsHead honest view s1 s2 → MatchBool b (RollsOpen honest view s2 s3)
      (IsNotNow s2 (CanOpen s2 s2.checkpoint) s3) → (b ≡ true) × RollsOpen honest view s2 s3
  open_done true s0 s1 s2 s3 first closed headed done = (refl, done)
  open_done false s0 s1 s2 s3 first closed headed none = absurd (none.1 (open_next s0 s1 s2 first closed headed))

  pub rolled_over : (s0 s1 s2 s3 : StoreValue D) (first : IsFirstStep s0) → RollsClose honest view s0 s1
      → RollsHead honest view s1 s2 → RollsOpen honest view s2 s3 → IsRolledOver s0 s3
  rolled_over s0 s1 s2 s3 first closed headed opened =
      let known = log_of s0 s1 s2 first closed headed in
      let c2 : opened.checkpoint ≡ record first.checkpoint { rolled = 2 } =
      some_is opened.checkpoint (record first.checkpoint { rolled = 2 }) (sym opened.under_way ∙ known.0) in
      record {
        checkpoint = first.checkpoint;
        under_way = first.under_way;
        segment =
            ap (λ (s : StoreValue D). s.segment) opened.rest ∙ ap
            (λ (c : CheckpointValue). record { epoch = c.epoch; records = 0 }) c2;
        still = ap (λ (s : StoreValue D). is_some s.checkpoint) opened.rest;
        unfailed = ap (λ (s : StoreValue D). s.failed) opened.rest ∙ opened.unfailed;
      }

  pub roll_moves : (s0 s1 s2 s3 : StoreValue D) (state : State) → RollsClose honest view s0 s1
      → RollsHead honest view s1 s2 → RollsOpen honest view s2 s3 → Moves s0 s3 state state
  roll_moves s0 s1 s2 s3 state closed headed opened =
      moves_then s0 s1 s3 state state (close_moves s0 s1 state state closed)
      (moves_then s1 s2 s3 state state (head_moves s1 s2 state state headed) (open_moves s2 s3 state opened))

  -- The core rests between the steps.

  pub rests_with : (old new : SystemValue D) → IsResting old → new ≡ record old { store = new.store }
      → new.store.segment ≡ old.store.segment → is_some new.store.checkpoint ≡ is_some old.store.checkpoint
      → new.store.failed ≡ old.store.failed → IsResting new
  rests_with old new rests rest segment under_way failed = subst IsResting (sym rest) (record {
    none_out = rests.none_out;
    out = rests.out;
    receipt = rests.receipt;
    finished = rests.finished;
    older = rests.older;
    waiting = rests.waiting;
    epoch = ap (λ (g : Segment). g.epoch) segment ∙ rests.epoch;
    length = rests.length ∙ sym (ap (λ (g : Segment). g.records) segment);
    handed = rests.handed;
    is_cut = rests.is_cut ∙ sym under_way;
    unfailed = failed ∙ rests.unfailed;
  })

  pub rests_same : (old new : SystemValue D) → IsResting old → new ≡ record old { store = new.store }
      → new.store ≡ old.store → IsResting new
  rests_same old new rests rest same =
      rests_with old new rests rest (ap (λ (s : StoreValue D). s.segment) same)
      (ap (λ (s : StoreValue D). is_some s.checkpoint) same) (ap (λ (s : StoreValue D). s.failed) same)

  pub closes_rests : (old new : SystemValue D) → IsResting old → new ≡ record old { store = new.store }
      → ClosesImage honest view old.store new.store → IsResting new
  closes_rests old new rests rest closes =
      rests_with old new rests rest (ap (λ (s : StoreValue D). s.segment) closes.rest)
      (ap (λ (s : StoreValue D). is_some s.checkpoint) closes.rest
      ∙ sym (ap (λ (c : Option CheckpointValue). is_some c) closes.under_way))
      (ap (λ (s : StoreValue D). s.failed) closes.rest)

  pub writes_rests : (old new : SystemValue D) → IsResting old → new ≡ record old { store = new.store }
      → WritesPiece honest view old.store new.store → IsResting new
  writes_rests old new rests rest writes =
      rests_with old new rests rest (ap (λ (s : StoreValue D). s.segment) writes.rest)
      (ap (λ (s : StoreValue D). is_some s.checkpoint) writes.rest
      ∙ sym (ap (λ (c : Option CheckpointValue). is_some c) writes.under_way))
      (ap (λ (s : StoreValue D). s.failed) writes.rest)

  -- the image was finished, and its receipt handed in
  pub finished_rests : (old between new : SystemValue D) → IsResting old → FinishesImage honest view old between
      → HandsIn between new → IsResting new × (new.core.kernel ≡ old.core.kernel) × (new.store ≡ between.store)
  finished_rests old between new rests finishes hands =
      let done = finishes.finishes in
      let receipt : between.receipt ≡ None = ap (λ (s : SystemValue D). s.receipt) finishes.rest ∙ rests.receipt in
      elim hands as (λ _. IsResting new × (new.core.kernel ≡ old.core.kernel) × (new.store ≡ between.store)) [
        | inl mine ↦ absurd (cc (mine.receipt, receipt))
        | inr image ↦
            let core : new.core ≡ record old.core { is_cut = false } =
            ap (λ (s : SystemValue D). s.core) image.rest ∙ ap
            (λ (s : SystemValue D). record s.core { is_cut = false }) finishes.rest in
            let store : new.store ≡ between.store = ap (λ (s : SystemValue D). s.store) image.rest in
            let segment : new.store.segment ≡ old.store.segment =
            ap (λ (s : StoreValue D). s.segment) (store ∙ done.rest) in (
              record {
                none_out = ap (λ (k : KernelValue). k.is_out) core ∙ rests.none_out;
                out =
                    ap (λ (s : SystemValue D). s.out) image.rest ∙ ap (λ (s : SystemValue D). s.out) finishes.rest
                    ∙ rests.out;
                receipt = ap (λ (s : SystemValue D). s.receipt) image.rest ∙ receipt;
                finished = ap (λ (s : SystemValue D). s.finished) image.rest;
                older = ap (λ (k : KernelValue). k.older) core ∙ rests.older;
                waiting = ap (λ (k : KernelValue). k.log.waiting) core ∙ rests.waiting;
                epoch =
                    ap (λ (g : Segment). g.epoch) segment ∙ rests.epoch ∙ sym (ap (λ (k : KernelValue). k.epoch) core);
                length =
                    ap (λ (k : KernelValue). k.log.length) core ∙ rests.length
                    ∙ sym (ap (λ (g : Segment). g.records) segment);
                handed =
                    ap (λ (k : KernelValue). k.handed) core ∙ rests.handed
                    ∙ sym (ap (λ (k : KernelValue). k.log.made) core);
                is_cut =
                    ap (λ (k : KernelValue). k.is_cut) core
                    ∙ sym (ap (λ (s : StoreValue D). is_some s.checkpoint) (store ∙ done.rest));
                unfailed = ap (λ (s : StoreValue D). s.failed) (store ∙ done.rest) ∙ rests.unfailed;
              },
              ap (λ (k : KernelValue). k.kernel) core,
              store,
            )
      ]

  -- an image's receipt can be handed in
  pub hands_finished : (old between new : SystemValue D) (b : Bool) → FinishesImage honest view old between
      → MatchBool b (HandsIn between new) ((between.receipt ≡ None) × (between.finished ≡ None) × (new ≡ between))
      → HandsIn between new
  hands_finished old between new true finishes hands = hands
  hands_finished old between new false finishes none =
      absurd (cc (none.1, ap (λ (s : SystemValue D). s.finished) finishes.rest))

  -- The next epoch begins.

  pub first_step : (old new : SystemValue D) → IsResting old → BeginsEpoch old new → IsFirstStep new.store
  first_step old new rests begins = subst IsFirstStep (sym (ap (λ (s : SystemValue D). s.store) begins.rest)) (record {
    checkpoint = begun begins.cut;
    under_way = refl;
    none_rolled = refl;
    whole = sym rests.length ∙ sym begins.cuts.log;
    unfailed = rests.unfailed;
  })

  pub begun_rests : (old between new : SystemValue D) → IsResting old → BeginsEpoch old between
      → new ≡ record between { store = new.store } → IsRolledOver between.store new.store → IsResting new
      × (new.core.kernel ≡ old.core.kernel)
  begun_rests old between new rests begins rest rolled =
      let core : new.core ≡ record old.core {
        epoch = old.core.epoch + 1;
        older = old.core.log.waiting;
        log = record { length = 0; made = old.core.log.made; waiting = empty_batch };
        is_cut = true;
      } =
      ap (λ (s : SystemValue D). s.core) rest ∙ begins.cuts.rest in
      let there : between.store.checkpoint ≡ Some (begun begins.cut) =
      ap (λ (s : SystemValue D). s.store.checkpoint) begins.rest in
      let is : rolled.checkpoint ≡ begun begins.cut =
      some_is rolled.checkpoint (begun begins.cut) (sym rolled.under_way ∙ there) in
      let segment : new.store.segment ≡ record { epoch = begins.cut.epoch; records = 0 } =
      rolled.segment ∙ ap (λ (c : CheckpointValue). record { epoch = c.epoch; records = 0 }) is in (
        record {
          none_out = ap (λ (k : KernelValue). k.is_out) core ∙ rests.none_out;
          out = ap (λ (s : SystemValue D). s.out) rest ∙ ap (λ (s : SystemValue D). s.out) begins.rest ∙ rests.out;
          receipt =
              ap (λ (s : SystemValue D). s.receipt) rest ∙ ap (λ (s : SystemValue D). s.receipt) begins.rest
              ∙ rests.receipt;
          finished =
              ap (λ (s : SystemValue D). s.finished) rest ∙ ap (λ (s : SystemValue D). s.finished) begins.rest
              ∙ rests.finished;
          older = ap (λ (k : KernelValue). k.older) core ∙ rests.waiting;
          waiting = ap (λ (k : KernelValue). k.log.waiting) core;
          epoch =
              ap (λ (g : Segment). g.epoch) segment ∙ begins.cuts.epoch ∙ sym (ap (λ (k : KernelValue). k.epoch) core);
          length = ap (λ (k : KernelValue). k.log.length) core ∙ sym (ap (λ (g : Segment). g.records) segment);
          handed =
              ap (λ (k : KernelValue). k.handed) core ∙ rests.handed ∙ sym (ap (λ (k : KernelValue). k.log.made) core);
          is_cut = ap (λ (k : KernelValue). k.is_cut) core ∙ sym rolled.still;
          unfailed = rolled.unfailed;
        },
        ap (λ (k : KernelValue). k.kernel) core,
      )

  none_of : (o : Option CheckpointValue) → is_some o ≡ false → o ≡ None
  none_of None is = refl
  none_of (Some c) is = absurd (cc is)

  -- a checkpoint is of the state that the store is kept with
  pub begins_kept : (old new : SystemValue D) → IsResting old → is_some old.store.checkpoint ≡ false
      → BeginsEpoch old new → honest → IsStanding view old.store old.core.kernel
      → Keeps (view new.store.disk) new.store.segment new.store.checkpoint old.core.kernel old.core.kernel
  begins_kept old new rests none begins is_honest standing =
      let kept =
      subst (λ (c : Option CheckpointValue). Keeps
      (view old.store.disk) old.store.segment c standing.0 old.core.kernel)
      (none_of old.store.checkpoint none) standing.1 in
      subst (λ (s : SystemValue D). Keeps
      (view s.store.disk) s.store.segment s.store.checkpoint old.core.kernel old.core.kernel) (sym begins.rest)
      (begin_keeps (view old.store.disk) old.store.segment old.core.kernel old.core.kernel begins.cut kept
      (omega (arith, begins.cuts.can.next, rests.epoch))
      (omega (arith, begins.cuts.epoch, rests.epoch)) begins.cuts.image)

  pub begins_disk : (old new : SystemValue D) → BeginsEpoch old new → new.store.disk ≡ old.store.disk
  begins_disk old new begins = ap (λ (s : SystemValue D). s.store.disk) begins.rest

  pub from_begun : (old between new : SystemValue D) (state : State) → BeginsEpoch old between
      → Passes (view between.store.disk) (view new.store.disk) (StandForState state)
      → Passes (view old.store.disk) (view new.store.disk) (StandForState state)
  from_begun old between new state begins time =
      subst (λ (d : D). Passes (view d) (view new.store.disk) (StandForState state)) (begins_disk old between begins) time

  -- What the functions of a step answer.

  pub head_fails : (b : Bool) (s0 s1 s2 : StoreValue D) (fault : StoreFault) → IsFirstStep s0
      → MatchBool b (RollsClose honest view s0 s1) (IsNotNow s0 (IsRolled s0.checkpoint 0) s1)
      → IsFault s1 fault (FailsToRollHead honest view s1 s2) s2 → (state : State) → Leaves s0 s2 state state
  head_fails b s0 s1 s2 fault first done is state =
      let closed = (close_done b s0 s1 first done).1 in
      leaves_then s0 s1 s2 state state (close_moves s0 s1 state state closed)
      ((head_breaks s1 s2 fault (ap (λ (s : StoreValue D). s.failed) closed.rest ∙ closed.unfailed) is).1 state
      state)

  pub open_fails : (b d : Bool) (s0 s1 s2 s3 : StoreValue D) (fault : StoreFault) → IsFirstStep s0
      → MatchBool b (RollsClose honest view s0 s1) (IsNotNow s0 (IsRolled s0.checkpoint 0) s1)
      → MatchBool d (RollsHead honest view s1 s2) (IsNotNow s1 (IsRolled s1.checkpoint 1) s2)
      → IsFault s2 fault (FailsToRollOpen honest view s2 s3) s3 → (state : State) → Leaves s0 s3 state state
  open_fails b d s0 s1 s2 s3 fault first done more is state =
      let closed = (close_done b s0 s1 first done).1 in
      let headed = (head_done d s0 s1 s2 closed more).1 in
      leaves_then s0 s1 s3 state state (close_moves s0 s1 state state closed)
      (leaves_then s1 s2 s3 state state (head_moves s1 s2 state state headed)
      ((open_breaks s2 s3 fault (ap (λ (s : StoreValue D). s.failed) headed.rest ∙ headed.unfailed) is).1 state))

  pub all_moves : (b d e : Bool) (s0 s1 s2 s3 : StoreValue D) → IsFirstStep s0
      → MatchBool b (RollsClose honest view s0 s1) (IsNotNow s0 (IsRolled s0.checkpoint 0) s1)
      → MatchBool d (RollsHead honest view s1 s2) (IsNotNow s1 (IsRolled s1.checkpoint 1) s2)
      → MatchBool e (RollsOpen honest view s2 s3) (IsNotNow s2 (CanOpen s2 s2.checkpoint) s3) → (state : State)
      → Moves s0 s3 state state
  all_moves b d e s0 s1 s2 s3 first done more last state =
      let closed = (close_done b s0 s1 first done).1 in
      let headed = (head_done d s0 s1 s2 closed more).1 in
      roll_moves s0 s1 s2 s3 state closed headed (open_done e s0 s1 s2 s3 first closed headed last).1

  pub piece_or_none : (b : Bool) (s0 s1 : StoreValue D)
      → MatchBool b (WritesPiece honest view s0 s1) (IsNotNow s0 (HasPieceLeft s0.checkpoint) s1) → (mid state : State)
      → Moves s0 s1 mid state
  piece_or_none true s0 s1 done mid state = piece_moves s0 s1 mid state done
  piece_or_none false s0 s1 none mid state = moves_none s0 s1 mid state none.2

  pub piece_working : (b : Bool) (s0 s1 : StoreValue D)
      → MatchBool b (WritesPiece honest view s0 s1) (IsNotNow s0 (HasPieceLeft s0.checkpoint) s1) → s0.failed ≡ false
      → s1.failed ≡ false
  piece_working true s0 s1 done unfailed = ap (λ (s : StoreValue D). s.failed) done.rest ∙ unfailed
  piece_working false s0 s1 none unfailed = ap (λ (s : StoreValue D). s.failed) none.2 ∙ unfailed

  -- a core that continues with the same state

  pub standing_after : (old new : SystemValue D) → new.core.kernel ≡ old.core.kernel
      → ((mid : State) → Moves old.store new.store mid old.core.kernel) → honest
      → IsStanding view old.store old.core.kernel → IsStanding view new.store new.core.kernel
  standing_after old new kernel moves is_honest standing = (
    standing.0,
    subst (Keeps (view new.store.disk) new.store.segment new.store.checkpoint standing.0) (sym kernel)
        ((moves standing.0).kept is_honest standing.1),
  )

  pub passes_after : (old new : StoreValue D) (state : State) → ((mid : State) → Leaves old new mid state) → honest
      → IsStanding view old state → Passes (view old.disk) (view new.disk) (StandForState state)
  passes_after old new state leaves is_honest standing = leaves standing.0 is_honest standing.1

  pub kernel_same : (old new : SystemValue D) → new ≡ record old { store = new.store }
      → new.core.kernel ≡ old.core.kernel
  kernel_same old new rest = ap (λ (s : SystemValue D). s.core.kernel) rest

  -- the image was finished after what was done before, and its receipt handed in
  pub finished_moves : (s0 : StoreValue D) (old between new : SystemValue D)
      → ((mid state : State) → Moves s0 old.store mid state) → FinishesImage honest view old between
      → new.store ≡ between.store → (mid state : State) → Moves s0 new.store mid state
  finished_moves s0 old between new before finishes same mid state =
      moves_then s0 old.store new.store mid state (before mid state)
      (subst (λ (s : StoreValue D). Moves old.store s mid state) (sym same)
      (finish_moves old.store between.store mid state finishes.finishes))

  pub system_same : (old new : SystemValue D) → new ≡ record old { store = new.store } → new.store ≡ old.store
      → new ≡ old
  system_same old new rest same = rest ∙ ap (λ (s : StoreValue D). record old { store = s }) same

  -- the next segment is in use, and the checkpoint is of the core's state

  pub rolled_standing : (old between new : SystemValue D) → BeginsEpoch old between
      → new ≡ record between { store = new.store }
      → Keeps (view new.store.disk) new.store.segment new.store.checkpoint old.core.kernel old.core.kernel
      → IsStanding view new.store new.core.kernel
  rolled_standing old between new begins rest kept =
      let kernel : new.core.kernel ≡ old.core.kernel =
      kernel_same between new rest ∙ ap (λ (k : KernelValue). k.kernel) begins.cuts.rest in (
        old.core.kernel,
        subst (Keeps (view new.store.disk) new.store.segment new.store.checkpoint old.core.kernel)
            (sym kernel) kept,
      )

  -- Which step was done.

  pub all_rolled : (b d e : Bool) (s0 s1 s2 s3 : StoreValue D) → IsFirstStep s0
      → MatchBool b (RollsClose honest view s0 s1) (IsNotNow s0 (IsRolled s0.checkpoint 0) s1)
      → MatchBool d (RollsHead honest view s1 s2) (IsNotNow s1 (IsRolled s1.checkpoint 1) s2)
      → MatchBool e (RollsOpen honest view s2 s3) (IsNotNow s2 (CanOpen s2 s2.checkpoint) s3)
      → RollsOver honest view s0 s3
  all_rolled b d e s0 s1 s2 s3 first done more last =
      let closed = (close_done b s0 s1 first done).1 in
      let headed = (head_done d s0 s1 s2 closed more).1 in
      record {
        closed = s1;
        headed = s2;
        closes = closed;
        heads = headed;
        opens = (open_done e s0 s1 s2 s3 first closed headed last).1;
      }

module _ {D : Type 0} (honest : Type 0) (view : D → View) (records : ℕ) (state : State) where
  -- a step of an image, if a checkpoint is under way
  pub image_goes : (checkpoint : Option CheckpointValue) (old new : StoreValue D) → is_some checkpoint ≡ true
      → GoesOnImage honest view old new → GoesOn honest view records state checkpoint old new
  image_goes None old new is goes = absurd (cc is)
  image_goes (Some checkpoint) old new is goes = goes

  -- nothing is due
  pub none_due : (checkpoint : Option CheckpointValue) (store : StoreValue D) → is_some checkpoint ≡ false
      → store.segment.records < records → GoesOn honest view records state checkpoint store store
  none_due None store none few = inl (inl few, refl)
  none_due (Some checkpoint) store none few = absurd (cc none)
