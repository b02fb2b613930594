-- A checkpoint under way.
use Rattle.std.proofs.Common.{◌≡◌, inl, inr, ℕ, ◌+◌, ◌-◌, ◌≤◌, ◌<◌, Bool, true, false, List, [], ◌∷◌, ◌++◌, length, take, drop, Option, None, Some, refl, sym, ap, subst, ◌∙◌, arith}
use Rattle.std.specs.Prelude.{max, is_none}
use Rattle.disk.specs.Moments.{View, Passes}
use Rattle.store_half.specs.epoch_log.Logs.{next_log}
use Rattle.ipc_laws.specs.RunLaws.{steps_run}
use Rattle.ipc_laws.specs.RunsKeep.{one_run}
use Rattle.ipc_model.specs.calls.Step.{Run}
use Rattle.ipc_model.specs.declared.record.Record.{Record}
use Rattle.ipc_model.specs.state.State.{State}
use Rattle.ipc_model.specs.encodings.Images.{image_encoding}
use Rattle.ipc_model.specs.store.Faults as fault
use Rattle.ipc_model.specs.world.World as world
use Rattle.ipc_model.specs.world.World.{World, After, after_cut, of_finish, one_imaged, one_rolled, pieces_of, acknowledged}
use Rattle.journal.specs.Batch.{Holds}
use Rattle.journal.specs.declared.segment.Segment.{Segment}
use Rattle.store_half.specs.phases.Phases.{Keeps}
use Rattle.store_half.proofs.phases.Appends.{begin_keeps}
use Rattle.store_half.proofs.phases.Images.{finish_fails, finish_keeps, finish_passes, image_close_fails, image_close_keeps, image_close_passes, piece_fails, piece_keeps, piece_passes}
use Rattle.store_half.proofs.phases.Rolls.{roll_close_fails, roll_close_keeps, roll_close_passes, roll_head_fails, roll_head_keeps, roll_head_passes, roll_open_fails, roll_open_keeps, roll_open_passes}
use Rattle.disk.proofs.Moments.{passes_as}
use Rattle.store_layout.specs.Gates.{StandForState}
use Rattle.store_half.specs.Changes.{CanFinish, CanOpen, ClosesImage, FailsToCloseImage, FailsToFinish, FailsToRollClose, FailsToRollHead, FailsToRollOpen, FailsToWritePiece, HasImaged, HasPieceLeft, IsNotNow, IsRolled, RollsClose, RollsHead, RollsOpen, WritesPiece}
use Rattle.store_half.specs.Values.{CheckpointValue, CutValue, StoreValue, begun}
use Rattle.system.specs.Changes.{BeginsEpoch, FinishesImage}
use Rattle.system.specs.Core.{Checkpoints, HasPlace, IsBeforeEpoch, IsFinishedCheckpoint, IsInEpoch, IsInUse, IsSameCheckpoint, KeepsStored, StandsFor, StandsFrom, SystemValue, in_turn}
use Rattle.system.specs.Halves.{CanCut, Cuts, KernelValue}
use Rattle.system.proofs.Between.{between_with, handed_within, one_finished_more, some_is}
use Rattle.system.proofs.Lists.{take_end, take_long}
use Rattle.system.proofs.Logs.{drop_past, fit_take, holds_as, holds_none}
use Rattle.system.proofs.Simulation.{Shows, and_false, from_stored, from_acknowledged, shows_device, shows_failed, shown, unfailed_first, unmoved}

-- The abstract specification's checkpoint, and the store's.

abbrev Both : ℕ → Option world.Checkpoint → Option CheckpointValue → Option ℕ → Bool → CheckpointValue → Type 0
Both epoch written checkpoint finished b c =
    (v : world.Checkpoint) × (written ≡ Some v) × IsSameCheckpoint epoch v c × (finished ≡ None) × (b ≡ true)

both : (epoch : ℕ) (written : Option world.Checkpoint) (checkpoint : Option CheckpointValue) (finished : Option ℕ)
    (b : Bool) (c : CheckpointValue) → Checkpoints epoch written checkpoint finished b → checkpoint ≡ Some c
    → Both epoch written checkpoint finished b c
both epoch None None finished b c is there = absurd (cc there)
both epoch None (Some other) finished b c is there = absurd is
both epoch (Some v) (Some other) None true c is there =
    (v, refl, subst (IsSameCheckpoint epoch v) (some_is other c there) is, refl, refl)
both epoch (Some v) (Some other) None false c is there = absurd is
both epoch (Some v) (Some other) (Some finished) b c is there = absurd is
both epoch (Some v) None finished b c is there = absurd (cc there)

-- no checkpoint is under way if the core has none
none_cut : (epoch : ℕ) (written : Option world.Checkpoint) (checkpoint : Option CheckpointValue) (finished : Option ℕ)
    (b : Bool) → Checkpoints epoch written checkpoint finished b → b ≡ false → (written ≡ None) × (checkpoint ≡ None)
    × (finished ≡ None)
none_cut epoch None None None b is none = (refl, refl, refl)
none_cut epoch None None (Some finished) b is none = absurd is
none_cut epoch None (Some c) finished b is none = absurd is
none_cut epoch (Some v) (Some c) None b is none = absurd (subst (Checkpoints epoch (Some v) (Some c) None) none is)
none_cut epoch (Some v) (Some c) (Some finished) b is none = absurd is
none_cut epoch (Some v) None None b is none = absurd is
none_cut epoch (Some v) None (Some finished) b is none =
    absurd (subst (Checkpoints epoch (Some v) None (Some finished)) none is)

some_cut : (epoch : ℕ) (checkpoint : Option CheckpointValue) (finished : Option ℕ) (b : Bool)
    → Checkpoints epoch None checkpoint finished b → b ≡ false
some_cut epoch None None false is = refl
some_cut epoch None None true is = absurd is
some_cut epoch None (Some finished) b is = absurd is
some_cut epoch (Some c) finished b is = absurd is

-- what is possible in the world of events is possible in the store, step by step

module _ (epoch : ℕ) where
  rolled_back : (written : Option world.Checkpoint) (checkpoint : Option CheckpointValue) (finished : Option ℕ)
      (b : Bool) (n : ℕ) → n < 3 → Checkpoints epoch written checkpoint finished b → world.IsRolled written n
      → IsRolled checkpoint n
  rolled_back None checkpoint finished b n small is can = absurd can
  rolled_back (Some v) (Some c) None true n small is can = is.rolled ∙ can
  rolled_back (Some v) (Some c) None false n small is can = absurd is
  rolled_back (Some v) (Some c) (Some finished) b n small is can = absurd is
  rolled_back (Some v) None (Some finished) true n small is can = omega (arith, is.rolled, can, small)
  rolled_back (Some v) None (Some finished) false n small is can = absurd is
  rolled_back (Some v) None None b n small is can = absurd is

  imaged_back : (written : Option world.Checkpoint) (checkpoint : Option CheckpointValue) (finished : Option ℕ)
      (b : Bool) → Checkpoints epoch written checkpoint finished b → world.HasImaged written 0 → HasImaged checkpoint 0
  imaged_back None checkpoint finished b is can = absurd can
  imaged_back (Some v) (Some c) None true is can = is.imaged ∙ can
  imaged_back (Some v) (Some c) None false is can = absurd is
  imaged_back (Some v) (Some c) (Some finished) b is can = absurd is
  imaged_back (Some v) None (Some finished) true is can = omega (arith, is.imaged, can)
  imaged_back (Some v) None (Some finished) false is can = absurd is
  imaged_back (Some v) None None b is can = absurd is

  piece_back : (written : Option world.Checkpoint) (checkpoint : Option CheckpointValue) (finished : Option ℕ)
      (b : Bool) → Checkpoints epoch written checkpoint finished b → world.HasPieceLeft written
      → HasPieceLeft checkpoint
  piece_back None checkpoint finished b is can = absurd can
  piece_back (Some v) (Some c) None true is can =
      (omega (arith, is.imaged, can.0), omega (arith, is.imaged, is.pieces, can.1))
  piece_back (Some v) (Some c) None false is can = absurd is
  piece_back (Some v) (Some c) (Some finished) b is can = absurd is
  piece_back (Some v) None (Some finished) true is can = omega (arith, is.imaged, can.1)
  piece_back (Some v) None (Some finished) false is can = absurd is
  piece_back (Some v) None None b is can = absurd is

  finish_back : (written : Option world.Checkpoint) (checkpoint : Option CheckpointValue) (finished : Option ℕ)
      (b : Bool) → Checkpoints epoch written checkpoint finished b → world.CanFinish written → CanFinish checkpoint
  finish_back None checkpoint finished b is can = absurd can
  finish_back (Some v) (Some c) None true is can = (omega (arith, is.imaged, is.pieces, can.0), is.rolled ∙ can.1)
  finish_back (Some v) (Some c) None false is can = absurd is
  finish_back (Some v) (Some c) (Some finished) b is can = absurd is
  finish_back (Some v) None (Some finished) true is can = absurd (cc (is.finished, can.2))
  finish_back (Some v) None (Some finished) false is can = absurd is
  finish_back (Some v) None None b is can = absurd is

module _ {D : Type 0} (honest : Type 0) (view : D → View) (base : State) where
  -- A step of the store that is done.

  stepped : (w : World) (event : world.Event) (old new : SystemValue D) (written : world.Checkpoint)
      (store : StoreValue D) (stands : StandsFor honest view base w old) → w.failed ≡ false
      → After base w event world.done (record w { checkpoint = Some written })
      → new ≡ record old { store = store } → store.failed ≡ false
      → Checkpoints w.epoch (Some written) store.checkpoint old.finished old.core.is_cut
      → IsInUse w.epoch w.opened w.earlier w.stored stands.older store.segment store.checkpoint
      → ((kept : KeepsStored view old.store base old.core.kernel w.stored w.earlier w.applied) → honest
      → Keeps (view store.disk) store.segment store.checkpoint kept.mid kept.state)
      → ((kept : KeepsStored view old.store base old.core.kernel w.stored w.earlier w.applied) → honest
      → Passes (view old.store.disk) (view store.disk) (StandForState kept.state))
      → Shows honest view base w event world.done old new
  stepped w event old new written store stands unfailed after rest working checkpoint in_use keeps passes = record {
    next = record w { checkpoint = Some written };
    after = after;
    stands = subst (StandsFor honest view base (record w { checkpoint = Some written })) (sym rest) (record {
      epoch = stands.epoch;
      applied = stands.applied;
      handed = stands.handed;
      older = stands.older;
      counts = stands.counts;
      waits = stands.waits;
      between = stands.between;
      receipts = stands.receipts;
      checkpoint = checkpoint;
      in_use = in_use;
      tickets = stands.tickets;
      failed = working ∙ sym unfailed;
      kept = λ is_honest _.
          let kept = stands.kept is_honest unfailed in
          record {
            state = kept.state;
            before = kept.before;
            after = kept.after;
            mid = kept.mid;
            cut = kept.cut;
            kept = keeps kept is_honest;
          };
      left = λ _ failed _ _. absurd (cc (failed, unfailed));
    });
    passes = λ is_honest.
        let kept = stands.kept is_honest unfailed in
        subst (λ (s : SystemValue D). Passes (view old.store.disk) (view s.store.disk)
        (StandsFrom base (acknowledged w) (record w { checkpoint = Some written }))) (sym rest)
        (passes_as (view old.store.disk) (view store.disk)
        (StandForState kept.state) (StandsFrom base (acknowledged w) w) (passes kept is_honest)
        (λ c recovered. from_acknowledged honest view base w old stands c
        (from_stored honest view base w old stands kept c recovered)));
  }

  -- and one in which the device failed
  fails : (w : World) (event : world.Event) (old new : SystemValue D) (stands : StandsFor honest view base w old)
      → w.failed ≡ false → After base w event (world.store fault.device) (record w { failed = true })
      → new ≡ record old { store = record old.store { disk = new.store.disk; failed = true } }
      → ((kept : KeepsStored view old.store base old.core.kernel w.stored w.earlier w.applied) → honest
      → Passes (view old.store.disk) (view new.store.disk) (StandForState kept.state))
      → Shows honest view base w event (world.store fault.device) old new
  fails w event old new stands unfailed after rest passes =
      shows_device honest view base w event old new stands unfailed after rest (λ is_honest.
      let kept = stands.kept is_honest unfailed in
      passes_as (view old.store.disk) (view new.store.disk)
      (StandForState kept.state) (StandsFrom base w.stored w) (passes kept is_honest)
      (λ c recovered. from_stored honest view base w old stands kept c recovered))

  -- how a failure changes a core, by how it changes the store
  failed_rest : (old new : SystemValue D) → new ≡ record old { store = new.store }
      → new.store ≡ record old.store { disk = new.store.disk; failed = true }
      → new ≡ record old { store = record old.store { disk = new.store.disk; failed = true } }
  failed_rest old new rest store = rest ∙ ap (λ (s : StoreValue D). record old { store = s }) store

  same_rest : (old new : SystemValue D) → new ≡ record old { store = new.store } → new.store ≡ old.store → new ≡ old
  same_rest old new rest store = rest ∙ ap (λ (s : StoreValue D). record old { store = s }) store

  -- the checkpoint of the world, which belongs to that of the store
  under : (w : World) (old : SystemValue D) (c : CheckpointValue) → StandsFor honest view base w old
      → old.store.checkpoint ≡ Some c → Both w.epoch w.checkpoint old.store.checkpoint old.finished old.core.is_cut c
  under w old c stands there =
      both w.epoch w.checkpoint old.store.checkpoint old.finished old.core.is_cut c stands.checkpoint there

  working : (w : World) (old : SystemValue D) → StandsFor honest view base w old → old.store.failed ≡ false
      → w.failed ≡ false
  working w old stands unfailed = sym stands.failed ∙ unfailed

  -- the segment in use, if the store's checkpoint is as far as it was
  in_use_as : (w : World) (old : SystemValue D) (c d : CheckpointValue) (stands : StandsFor honest view base w old)
      → old.store.checkpoint ≡ Some c → d.log ≡ c.log → ((c.rolled < 3 → d.rolled < 3) × (c.rolled ≡ 3 → d.rolled ≡ 3))
      → IsInUse w.epoch w.opened w.earlier w.stored stands.older old.store.segment (Some d)
  in_use_as w old c d stands there log rolled =
      elim (subst (IsInUse w.epoch w.opened w.earlier w.stored stands.older old.store.segment) there stands.in_use)
      as (λ _. IsInUse w.epoch w.opened w.earlier w.stored stands.older old.store.segment (Some d)) [
        | inl now ↦ inl (now.0, rolled.1 now.1)
        | inr was ↦ inr (record {
          epoch_is = was.epoch_is;
          within = was.within;
          counted = was.counted;
          none_opened = was.none_opened;
          rolled = rolled.0 was.rolled;
          log = log ∙ was.log;
        })
      ]

  together : (epoch : ℕ) (v : world.Checkpoint) (c : CheckpointValue) (finished : Option ℕ) (b : Bool) → finished ≡ None
      → b ≡ true → IsSameCheckpoint epoch v c → Checkpoints epoch (Some v) (Some c) finished b
  together epoch v c finished b none is same =
      subst (λ (f : Option ℕ). Checkpoints epoch (Some v) (Some c) f b) (sym none)
      (subst (λ (x : Bool). Checkpoints epoch (Some v) (Some c) None x) (sym is) same)

  -- a step of a checkpoint under way, which is still under way
  step_done : (w : World) (event : world.Event) (old new : SystemValue D) (c d : CheckpointValue) (segment : Segment)
      (change : world.Checkpoint → world.Checkpoint) (stands : StandsFor honest view base w old)
      → old.store.checkpoint ≡ Some c → old.store.failed ≡ false
      → ((v : world.Checkpoint) → w.checkpoint ≡ Some v → IsSameCheckpoint w.epoch v c → world.IsPossible w event
      × world.AfterPossible base w event world.done (record w { checkpoint = Some (change v) })
      × IsSameCheckpoint w.epoch (change v) d)
      → ((next : World) → world.IsPossible w event → world.AfterPossible base w event world.done next
      → After base w event world.done next)
      → new ≡ record old { store = new.store }
      → new.store ≡ record old.store { disk = new.store.disk; segment = segment; checkpoint = Some d }
      → IsInUse w.epoch w.opened w.earlier w.stored stands.older segment (Some d)
      → ((kept : KeepsStored view old.store base old.core.kernel w.stored w.earlier w.applied) → honest
      → Keeps (view new.store.disk) new.store.segment new.store.checkpoint kept.mid kept.state)
      → ((kept : KeepsStored view old.store base old.core.kernel w.stored w.earlier w.applied) → honest
      → Passes (view old.store.disk) (view new.store.disk) (StandForState kept.state))
      → Shows honest view base w event world.done old new
  step_done w event old new c d segment change stands there unfailed written after rest store_is in_use keeps passes =
      let found = under w old c stands there in
      let v = found.0 in
      let allowed = written v found.1 found.2 in
      let store : StoreValue D = record old.store { disk = new.store.disk; segment = segment; checkpoint = Some d } in
      stepped w event old new (change v) store stands (working w old stands unfailed)
      (after (record w { checkpoint = Some (change v) }) allowed.0 allowed.1)
      (rest ∙ ap (λ (s : StoreValue D). record old { store = s }) store_is) unfailed
      (together w.epoch (change v) d old.finished old.core.is_cut found.3 found.4 allowed.2) in_use
      (λ kept is_honest. subst (λ (s : StoreValue D). Keeps (view s.disk) s.segment s.checkpoint kept.mid kept.state)
      store_is (keeps kept is_honest)) passes

  -- how the steps change the abstract specification's checkpoint
  abbrev roll : world.Checkpoint → world.Checkpoint
  roll checkpoint = record checkpoint { rolled = checkpoint.rolled + 1 }

  abbrev image : world.Checkpoint → world.Checkpoint
  image checkpoint = record checkpoint { imaged = checkpoint.imaged + 1 }

  rolled_on : (w : World) (v : world.Checkpoint) → w.checkpoint ≡ Some v
      → record w { checkpoint = Some (roll v) } ≡ one_rolled w
  rolled_on w v is = sym (ap (world.with_checkpoint w roll) is)

  imaged_on : (w : World) (v : world.Checkpoint) → w.checkpoint ≡ Some v
      → record w { checkpoint = Some (image v) } ≡ one_imaged w
  imaged_on w v is = sym (ap (world.with_checkpoint w image) is)

  -- The next segment's slot is closed.

  pub shows_roll_close : (w : World) (old new : SystemValue D) → StandsFor honest view base w old
      → RollsClose honest view old.store new.store → new ≡ record old { store = new.store }
      → Shows honest view base w world.roll_close world.done old new
  shows_roll_close w old new stands rolls rest =
      let c = rolls.checkpoint in
      let d : CheckpointValue = record c { rolled = 1 } in
      step_done w world.roll_close old new c d old.store.segment roll stands rolls.under_way rolls.unfailed
      (λ v is same. (
        subst (λ (o : Option world.Checkpoint). world.IsRolled o 0) (sym is) (sym same.rolled ∙ rolls.next),
        rolled_on w v is,
        record {
          epoch_is = same.epoch_is;
          rolled = omega (arith, same.rolled, rolls.next);
          imaged = same.imaged;
          pieces = same.pieces;
          unfinished = same.unfinished;
        },
      ))
      (λ next possible allowed. (unfailed_first w.failed (working w old stands rolls.unfailed), possible, allowed)) rest
      rolls.rest
      (in_use_as w old c d stands rolls.under_way refl
      ((λ _. omega arith), (λ three. omega (arith, three, rolls.next))))
      (λ kept is_honest. roll_close_keeps honest view is_honest old.store new.store kept.mid kept.state kept.kept rolls)
      (λ kept is_honest. roll_close_passes honest view is_honest old.store new.store kept.mid kept.state kept.kept
      rolls)

  -- It gets its header.

  pub shows_roll_head : (w : World) (old new : SystemValue D) → StandsFor honest view base w old
      → RollsHead honest view old.store new.store → new ≡ record old { store = new.store }
      → Shows honest view base w world.roll_head world.done old new
  shows_roll_head w old new stands rolls rest =
      let c = rolls.checkpoint in
      let d : CheckpointValue = record c { rolled = 2 } in
      step_done w world.roll_head old new c d old.store.segment roll stands rolls.under_way rolls.unfailed
      (λ v is same. (
        subst (λ (o : Option world.Checkpoint). world.IsRolled o 1) (sym is) (sym same.rolled ∙ rolls.next),
        rolled_on w v is,
        record {
          epoch_is = same.epoch_is;
          rolled = omega (arith, same.rolled, rolls.next);
          imaged = same.imaged;
          pieces = same.pieces;
          unfinished = same.unfinished;
        },
      ))
      (λ next possible allowed. (unfailed_first w.failed (working w old stands rolls.unfailed), possible, allowed)) rest
      rolls.rest
      (in_use_as w old c d stands rolls.under_way refl
      ((λ _. omega arith), (λ three. omega (arith, three, rolls.next))))
      (λ kept is_honest. roll_head_keeps honest view is_honest old.store new.store kept.mid kept.state kept.kept rolls)
      (λ kept is_honest. roll_head_passes honest view is_honest old.store new.store kept.mid kept.state kept.kept rolls)

  -- It is opened.

  -- the segment of the epoch before is in use, and if it is whole, all earlier records are stored
  before_open : (w : World) (old : SystemValue D) (c : CheckpointValue) (stands : StandsFor honest view base w old)
      → old.store.checkpoint ≡ Some c → c.rolled ≡ 2
      → IsBeforeEpoch w.epoch w.opened w.earlier w.stored stands.older old.store.segment c
  before_open w old c stands there rolled =
      elim (subst (IsInUse w.epoch w.opened w.earlier w.stored stands.older old.store.segment) there stands.in_use)
      as (λ _. IsBeforeEpoch w.epoch w.opened w.earlier w.stored stands.older old.store.segment c) [
        | inl now ↦ absurd (omega (arith, now.1, rolled))
        | inr was ↦ was
      ]

  -- then the state of what is stored is the checkpoint's
  cut_state : (w : World) (old : SystemValue D) → StandsFor honest view base w old
      → (kept : KeepsStored view old.store base old.core.kernel w.stored w.earlier w.applied) → w.stored ≡ w.earlier
      → kept.state ≡ kept.mid
  cut_state w old stands kept same =
      one_run base (take w.earlier w.applied) kept.state kept.mid
      (fit_take w.earlier w.applied stands.applied.fit) stands.applied.lawful stands.applied.acyclic
      (subst (λ (n : ℕ). Run base (take n w.applied) kept.state) same kept.before) kept.cut

  pub shows_roll_open : (w : World) (old new : SystemValue D) → StandsFor honest view base w old
      → RollsOpen honest view old.store new.store → new ≡ record old { store = new.store }
      → Shows honest view base w world.roll_open world.done old new
  shows_roll_open w old new stands rolls rest =
      let c = rolls.checkpoint in
      let d : CheckpointValue = record c { rolled = 3 } in
      let segment : Segment = record { epoch = c.epoch; records = 0 } in
      let was = before_open w old c stands rolls.under_way rolls.next in
      let all : w.stored ≡ w.earlier = omega (arith, was.counted, was.within, was.log, rolls.whole) in
      let found = under w old c stands rolls.under_way in
      step_done w world.roll_open old new c d segment roll stands rolls.under_way rolls.unfailed
      (λ v is same. (
        (
          subst (λ (o : Option world.Checkpoint). world.IsRolled o 2) (sym is) (sym same.rolled ∙ rolls.next),
          omega (arith, all),
        ),
        rolled_on w v is,
        record {
          epoch_is = same.epoch_is;
          rolled = omega (arith, same.rolled, rolls.next);
          imaged = same.imaged;
          pieces = same.pieces;
          unfinished = same.unfinished;
        },
      ))
      (λ next possible allowed. (unfailed_first w.failed (working w old stands rolls.unfailed), possible, allowed)) rest
      rolls.rest
      (inl (
        record {
          epoch_is = found.2.epoch_is;
          whole = omega (arith, all);
          counted = omega (arith, all, was.none_opened);
        },
        refl,
      ))
      (λ kept is_honest. roll_open_keeps honest view is_honest old.store new.store kept.mid kept.state kept.kept
      (cut_state w old stands kept all) rolls)
      (λ kept is_honest. roll_open_passes honest view is_honest old.store new.store kept.mid kept.state kept.kept
      (cut_state w old stands kept all) rolls)

  -- The next image's slot is closed.

  pub shows_image_close : (w : World) (old new : SystemValue D) → StandsFor honest view base w old
      → ClosesImage honest view old.store new.store → new ≡ record old { store = new.store }
      → Shows honest view base w world.image_close world.done old new
  shows_image_close w old new stands closes rest =
      let c = closes.checkpoint in
      let d : CheckpointValue = record c { imaged = 1 } in
      step_done w world.image_close old new c d old.store.segment image stands closes.under_way closes.unfailed
      (λ v is same. (
        subst (λ (o : Option world.Checkpoint). world.HasImaged o 0) (sym is) (sym same.imaged ∙ closes.next),
        imaged_on w v is,
        record {
          epoch_is = same.epoch_is;
          rolled = same.rolled;
          imaged = omega (arith, same.imaged, closes.next);
          pieces = same.pieces;
          unfinished = same.unfinished;
        },
      ))
      (λ next possible allowed. (unfailed_first w.failed (working w old stands closes.unfailed), possible, allowed))
      rest closes.rest
      (in_use_as w old c d stands closes.under_way refl ((λ less. less), (λ three. three)))
      (λ kept is_honest. image_close_keeps honest view is_honest old.store new.store kept.mid kept.state kept.kept
      closes)
      (λ kept is_honest. image_close_passes honest view is_honest old.store new.store kept.mid kept.state kept.kept
      closes)

  -- A piece of it is written.

  pub shows_piece : (w : World) (old new : SystemValue D) → StandsFor honest view base w old
      → WritesPiece honest view old.store new.store → new ≡ record old { store = new.store }
      → Shows honest view base w world.piece world.done old new
  shows_piece w old new stands writes rest =
      let c = writes.checkpoint in
      let d : CheckpointValue = record c { imaged = c.imaged + 1 } in
      step_done w world.piece old new c d old.store.segment image stands writes.under_way writes.unfailed
      (λ v is same. (
        subst world.HasPieceLeft (sym is)
            (omega (arith, same.imaged, writes.next.0), omega (arith, same.imaged, same.pieces, writes.next.1)),
        imaged_on w v is,
        record {
          epoch_is = same.epoch_is;
          rolled = same.rolled;
          imaged = ap (λ (n : ℕ). n + 1) same.imaged;
          pieces = same.pieces;
          unfinished = same.unfinished;
        },
      ))
      (λ next possible allowed. (unfailed_first w.failed (working w old stands writes.unfailed), possible, allowed))
      rest writes.rest
      (in_use_as w old c d stands writes.under_way refl ((λ less. less), (λ three. three)))
      (λ kept is_honest. piece_keeps honest view is_honest old.store new.store kept.mid kept.state kept.kept writes)
      (λ kept is_honest. piece_passes honest view is_honest old.store new.store kept.mid kept.state kept.kept writes)

  -- It is finished.

  abbrev finish : world.Checkpoint → world.Checkpoint
  finish checkpoint = record checkpoint { finished = true }

  -- the segment in use is the epoch's, once the store has rotated to it
  in_epoch : (w : World) (old : SystemValue D) (c : CheckpointValue) (stands : StandsFor honest view base w old)
      → old.store.checkpoint ≡ Some c → c.rolled ≡ 3 → IsInEpoch w.epoch w.opened w.earlier w.stored old.store.segment
  in_epoch w old c stands there rolled =
      elim (subst (IsInUse w.epoch w.opened w.earlier w.stored stands.older old.store.segment) there stands.in_use)
      as (λ _. IsInEpoch w.epoch w.opened w.earlier w.stored old.store.segment) [
        | inl now ↦ now.0
        | inr was ↦ absurd (omega (arith, was.rolled, rolled))
      ]

  over_with : (epoch : ℕ) (v : world.Checkpoint) (n : ℕ) (b : Bool) → b ≡ true → IsFinishedCheckpoint v
      → Checkpoints epoch (Some v) None (Some n) b
  over_with epoch v n b is finished = subst (Checkpoints epoch (Some v) None (Some n)) (sym is) finished

  pub shows_finish : (w : World) (old new : SystemValue D) → StandsFor honest view base w old
      → FinishesImage honest view old new → Shows honest view base w world.finish world.done old new
  shows_finish w old new stands finishes =
      let done = finishes.finishes in
      let c = done.checkpoint in
      let found = under w old c stands done.under_way in
      let v = found.0 in
      let unfailed = working w old stands done.unfailed in
      let store : StoreValue D = record old.store { disk = new.store.disk; checkpoint = None } in
      let made : SystemValue D =
      record old { store = store; finished = Some old.store.segment.epoch; finished_first = is_none old.receipt } in
      let w2 : World = record w { checkpoint = Some (finish v); receipts = w.receipts ++ of_finish ∷ [] } in
      let next : world.with_checkpoint w finish w.checkpoint ≡ record w { checkpoint = Some (finish v) } =
      ap (world.with_checkpoint w finish) found.1 in
      let rest : new ≡ made =
      finishes.rest ∙ ap (λ (s : StoreValue D). record old
      { store = s; finished = Some old.store.segment.epoch; finished_first = is_none old.receipt }) done.rest in
      let rolled : v.rolled ≡ 3 = sym found.2.rolled ∙ done.next.1 in
      let imaged : v.imaged ≡ v.pieces + 1 = omega (arith, found.2.imaged, found.2.pieces, done.next.0) in
      record {
        next = w2;
        after = (
          unfailed_first w.failed unfailed,
          subst world.CanFinish (sym found.1) (imaged, rolled, found.2.unfinished),
          sym (ap (λ (u : World). record u { receipts = w.receipts ++ of_finish ∷ [] }) next),
        );
        stands = subst (StandsFor honest view base w2) (sym rest) (record {
          epoch = stands.epoch;
          applied = stands.applied;
          handed = stands.handed;
          older = stands.older;
          counts = stands.counts;
          waits = stands.waits;
          between = stands.between;
          receipts =
              ap (λ (l : List world.Receipt). l ++ of_finish ∷ [])
              (stands.receipts ∙ ap (λ (f : Option ℕ). in_turn old.receipt f old.finished_first) found.3)
              ∙ one_finished_more old.store.segment.epoch old.receipt old.finished_first;
          checkpoint =
              over_with w.epoch (finish v) old.store.segment.epoch old.core.is_cut found.4
              (record { rolled = rolled; imaged = imaged; finished = refl });
          in_use = in_epoch w old c stands done.under_way done.next.1;
          tickets = stands.tickets;
          failed = stands.failed;
          kept = λ is_honest _.
              let kept = stands.kept is_honest unfailed in
              record {
                state = kept.state;
                before = kept.before;
                after = kept.after;
                mid = kept.mid;
                cut = kept.cut;
                kept =
                    subst (λ (s : StoreValue D). Keeps (view s.disk) s.segment s.checkpoint kept.mid kept.state)
                    done.rest (finish_keeps honest view is_honest old.store new.store kept.mid kept.state kept.kept
                    done);
              };
          left = λ _ failed _ _. absurd (cc (failed, unfailed));
        });
        passes = λ is_honest.
            let kept = stands.kept is_honest unfailed in
            passes_as (view old.store.disk) (view new.store.disk)
            (StandForState kept.state) (StandsFrom base (acknowledged w) w2)
            (finish_passes honest view is_honest old.store new.store kept.mid kept.state kept.kept done)
            (λ c recovered. from_acknowledged honest view base w old stands c
            (from_stored honest view base w old stands kept c recovered));
      }

  -- The device fails within such a step.

  pub shows_roll_close_fails : (w : World) (old new : SystemValue D) → StandsFor honest view base w old
      → FailsToRollClose honest view old.store new.store → new ≡ record old { store = new.store }
      → Shows honest view base w world.roll_close (world.store fault.device) old new
  shows_roll_close_fails w old new stands f rest =
      let found = under w old f.checkpoint stands f.under_way in
      let unfailed = working w old stands f.unfailed in
      fails w world.roll_close old new stands unfailed (
        unfailed_first w.failed unfailed,
        subst (λ (o : Option world.Checkpoint). world.IsRolled o 0) (sym found.1) (sym found.2.rolled ∙ f.next),
        refl,
      ) (failed_rest old new rest f.rest)
      (λ kept is_honest. roll_close_fails honest view is_honest old.store new.store kept.mid kept.state kept.kept f)

  pub shows_roll_head_fails : (w : World) (old new : SystemValue D) → StandsFor honest view base w old
      → FailsToRollHead honest view old.store new.store → new ≡ record old { store = new.store }
      → Shows honest view base w world.roll_head (world.store fault.device) old new
  shows_roll_head_fails w old new stands f rest =
      let found = under w old f.checkpoint stands f.under_way in
      let unfailed = working w old stands f.unfailed in
      fails w world.roll_head old new stands unfailed (
        unfailed_first w.failed unfailed,
        subst (λ (o : Option world.Checkpoint). world.IsRolled o 1) (sym found.1) (sym found.2.rolled ∙ f.next),
        refl,
      ) (failed_rest old new rest f.rest)
      (λ kept is_honest. roll_head_fails honest view is_honest old.store new.store kept.mid kept.state kept.kept f)

  pub shows_roll_open_fails : (w : World) (old new : SystemValue D) → StandsFor honest view base w old
      → FailsToRollOpen honest view old.store new.store → new ≡ record old { store = new.store }
      → Shows honest view base w world.roll_open (world.store fault.device) old new
  shows_roll_open_fails w old new stands f rest =
      let found = under w old f.checkpoint stands f.under_way in
      let unfailed = working w old stands f.unfailed in
      let was = before_open w old f.checkpoint stands f.under_way f.next in
      let all : w.stored ≡ w.earlier = omega (arith, was.counted, was.within, was.log, f.whole) in
      fails w world.roll_open old new stands unfailed (
        unfailed_first w.failed unfailed,
        (
          subst (λ (o : Option world.Checkpoint). world.IsRolled o 2) (sym found.1) (sym found.2.rolled ∙ f.next),
          omega (arith, all),
        ),
        refl,
      ) (failed_rest old new rest f.rest)
      (λ kept is_honest. roll_open_fails honest view is_honest old.store new.store kept.mid kept.state kept.kept
      (cut_state w old stands kept all) f)

  pub shows_image_close_fails : (w : World) (old new : SystemValue D) → StandsFor honest view base w old
      → FailsToCloseImage honest view old.store new.store → new ≡ record old { store = new.store }
      → Shows honest view base w world.image_close (world.store fault.device) old new
  shows_image_close_fails w old new stands f rest =
      let found = under w old f.checkpoint stands f.under_way in
      let unfailed = working w old stands f.unfailed in
      fails w world.image_close old new stands unfailed (
        unfailed_first w.failed unfailed,
        subst (λ (o : Option world.Checkpoint). world.HasImaged o 0) (sym found.1) (sym found.2.imaged ∙ f.next),
        refl,
      ) (failed_rest old new rest f.rest)
      (λ kept is_honest. image_close_fails honest view is_honest old.store new.store kept.mid kept.state kept.kept f)

  pub shows_piece_fails : (w : World) (old new : SystemValue D) → StandsFor honest view base w old
      → FailsToWritePiece honest view old.store new.store → new ≡ record old { store = new.store }
      → Shows honest view base w world.piece (world.store fault.device) old new
  shows_piece_fails w old new stands f rest =
      let found = under w old f.checkpoint stands f.under_way in
      let unfailed = working w old stands f.unfailed in
      fails w world.piece old new stands unfailed (
        unfailed_first w.failed unfailed,
        subst world.HasPieceLeft (sym found.1)
            (omega (arith, found.2.imaged, f.next.0), omega (arith, found.2.imaged, found.2.pieces, f.next.1)),
        refl,
      ) (failed_rest old new rest f.rest)
      (λ kept is_honest. piece_fails honest view is_honest old.store new.store kept.mid kept.state kept.kept f)

  pub shows_finish_fails : (w : World) (old new : SystemValue D) → StandsFor honest view base w old
      → FailsToFinish honest view old.store new.store → new ≡ record old { store = new.store }
      → Shows honest view base w world.finish (world.store fault.device) old new
  shows_finish_fails w old new stands f rest =
      let found = under w old f.checkpoint stands f.under_way in
      let unfailed = working w old stands f.unfailed in
      fails w world.finish old new stands unfailed (
        unfailed_first w.failed unfailed,
        subst world.CanFinish (sym found.1) (
          omega (arith, found.2.imaged, found.2.pieces, f.next.0),
          sym found.2.rolled ∙ f.next.1,
          found.2.unfinished,
        ),
        refl,
      ) (failed_rest old new rest f.rest)
      (λ kept is_honest. finish_fails honest view is_honest old.store new.store kept.mid kept.state kept.kept f)

  -- It isn't possible.

  pub shows_not_now : (w : World) (event : world.Event) (old new : SystemValue D) (possible : Type 0)
      → StandsFor honest view base w old → (world.IsPossible w event → possible)
      → ((never : world.IsPossible w event → ⊥) → w.failed ≡ false → After base w event world.not_now w)
      → IsNotNow old.store possible new.store → new ≡ record old { store = new.store }
      → Shows honest view base w event world.not_now old new
  shows_not_now w event old new possible stands back after none rest =
      unmoved honest view base w event world.not_now old new stands (same_rest old new rest none.2)
      (after (λ can. none.1 (back can)) (working w old stands none.0))

  no_roll_close : (w : World) (system : SystemValue D) → StandsFor honest view base w system
      → world.IsRolled w.checkpoint 0 → IsRolled system.store.checkpoint 0
  no_roll_close w system stands =
      rolled_back w.epoch w.checkpoint system.store.checkpoint system.finished system.core.is_cut 0
      (omega arith) stands.checkpoint

  pub shows_no_roll_close : (w : World) (old new : SystemValue D) → StandsFor honest view base w old
      → IsNotNow old.store (IsRolled old.store.checkpoint 0) new.store → new ≡ record old { store = new.store }
      → Shows honest view base w world.roll_close world.not_now old new
  shows_no_roll_close w old new stands =
      shows_not_now w world.roll_close old new (IsRolled old.store.checkpoint 0) stands (no_roll_close w old stands)
      (λ never unfailed. (unfailed_first w.failed unfailed, never, refl))

  pub shows_no_roll_head : (w : World) (old new : SystemValue D) → StandsFor honest view base w old
      → IsNotNow old.store (IsRolled old.store.checkpoint 1) new.store → new ≡ record old { store = new.store }
      → Shows honest view base w world.roll_head world.not_now old new
  shows_no_roll_head w old new stands =
      shows_not_now w world.roll_head old new (IsRolled old.store.checkpoint 1) stands
      (rolled_back w.epoch w.checkpoint old.store.checkpoint old.finished old.core.is_cut 1
      (omega arith) stands.checkpoint) (λ never unfailed. (unfailed_first w.failed unfailed, never, refl))

  -- the next segment may be opened once all earlier records are stored
  can_open : (w : World) (old : SystemValue D) (checkpoint : Option CheckpointValue) → StandsFor honest view base w old
      → old.store.checkpoint ≡ checkpoint → world.IsRolled w.checkpoint 2 × (w.earlier ≤ w.stored)
      → CanOpen old.store checkpoint
  can_open w old None stands is possible =
      rolled_back w.epoch w.checkpoint None old.finished old.core.is_cut 2 (omega arith)
      (subst (λ (c : Option CheckpointValue). Checkpoints w.epoch w.checkpoint c old.finished old.core.is_cut) is
      stands.checkpoint) possible.0
  can_open w old (Some c) stands is possible =
      let rolled : c.rolled ≡ 2 =
      rolled_back w.epoch w.checkpoint (Some c) old.finished old.core.is_cut 2 (omega arith)
      (subst (λ (c : Option CheckpointValue). Checkpoints w.epoch w.checkpoint c old.finished old.core.is_cut)
      is stands.checkpoint) possible.0 in
      let was = before_open w old c stands is rolled in
      (rolled, omega (arith, was.counted, was.within, was.log, possible.1))

  pub shows_no_roll_open : (w : World) (old new : SystemValue D) → StandsFor honest view base w old
      → IsNotNow old.store (CanOpen old.store old.store.checkpoint) new.store → new ≡ record old { store = new.store }
      → Shows honest view base w world.roll_open world.not_now old new
  shows_no_roll_open w old new stands =
      shows_not_now w world.roll_open old new (CanOpen old.store old.store.checkpoint) stands
      (can_open w old old.store.checkpoint stands refl)
      (λ never unfailed. (unfailed_first w.failed unfailed, never, refl))

  pub shows_no_image_close : (w : World) (old new : SystemValue D) → StandsFor honest view base w old
      → IsNotNow old.store (HasImaged old.store.checkpoint 0) new.store → new ≡ record old { store = new.store }
      → Shows honest view base w world.image_close world.not_now old new
  shows_no_image_close w old new stands =
      shows_not_now w world.image_close old new (HasImaged old.store.checkpoint 0) stands
      (imaged_back w.epoch w.checkpoint old.store.checkpoint old.finished old.core.is_cut stands.checkpoint)
      (λ never unfailed. (unfailed_first w.failed unfailed, never, refl))

  pub shows_no_piece : (w : World) (old new : SystemValue D) → StandsFor honest view base w old
      → IsNotNow old.store (HasPieceLeft old.store.checkpoint) new.store → new ≡ record old { store = new.store }
      → Shows honest view base w world.piece world.not_now old new
  shows_no_piece w old new stands =
      shows_not_now w world.piece old new (HasPieceLeft old.store.checkpoint) stands
      (piece_back w.epoch w.checkpoint old.store.checkpoint old.finished old.core.is_cut stands.checkpoint)
      (λ never unfailed. (unfailed_first w.failed unfailed, never, refl))

  pub shows_no_finish : (w : World) (old new : SystemValue D) → StandsFor honest view base w old
      → old.store.failed ≡ false → (CanFinish old.store.checkpoint → ⊥) → new ≡ old
      → Shows honest view base w world.finish world.not_now old new
  shows_no_finish w old new stands unfailed none same =
      unmoved honest view base w world.finish world.not_now old new stands same (
        unfailed_first w.failed (working w old stands unfailed),
        (λ can. none (finish_back w.epoch w.checkpoint old.store.checkpoint old.finished old.core.is_cut
            stands.checkpoint can)),
        refl,
      )

  -- there was no memory to encode the image
  pub shows_shortage : (w : World) (old new : SystemValue D) → StandsFor honest view base w old
      → old.store.failed ≡ false → HasImaged old.store.checkpoint 0 → new ≡ record old { store = new.store }
      → new.store ≡ old.store
      → Shows honest view base w world.image_close (world.store fault.no_memory) old new
  shows_shortage w old new stands unfailed has rest same =
      unmoved honest view base w world.image_close (world.store fault.no_memory) old new stands
      (same_rest old new rest same) (
        unfailed_first w.failed (working w old stands unfailed),
        possible w.checkpoint old.store.checkpoint old.finished old.core.is_cut stands.checkpoint has,
        refl,
      )
    where
      possible : (written : Option world.Checkpoint) (checkpoint : Option CheckpointValue) (finished : Option ℕ)
          (b : Bool) → Checkpoints w.epoch written checkpoint finished b → HasImaged checkpoint 0
          → world.HasImaged written 0
      possible None None finished b is has = absurd has
      possible None (Some c) finished b is has = absurd is
      possible (Some v) (Some c) None true is has = sym is.imaged ∙ has
      possible (Some v) (Some c) None false is has = absurd is
      possible (Some v) (Some c) (Some n) b is has = absurd is
      possible (Some v) None finished b is has = absurd has

  -- The next epoch begins.

  -- the core without a checkpoint
  no_checkpoint : (w : World) (system : SystemValue D) → StandsFor honest view base w system
      → system.core.is_cut ≡ false → (w.checkpoint ≡ None) × (system.store.checkpoint ≡ None) × (system.finished ≡ None)
  no_checkpoint w system stands none =
      none_cut w.epoch w.checkpoint system.store.checkpoint system.finished system.core.is_cut stands.checkpoint none

  in_epoch_now : (w : World) (system : SystemValue D) (stands : StandsFor honest view base w system)
      → system.store.checkpoint ≡ None → IsInEpoch w.epoch w.opened w.earlier w.stored system.store.segment
  in_epoch_now w system stands none =
      subst (IsInUse w.epoch w.opened w.earlier w.stored stands.older system.store.segment) none stands.in_use

  -- a core that has begun the next epoch
  abbrev cut_core : KernelValue → KernelValue
  cut_core core =
      record core { epoch = core.epoch + 1; older = core.log.waiting; log = next_log core.log; is_cut = true }

  cut_stands : (w : World) (old : SystemValue D) (cut : CutValue) → StandsFor honest view base w old
      → Cuts old.core cut (cut_core old.core)
      → StandsFor honest view base (after_cut w old.core.kernel)
      (record old { core = cut_core old.core; store = record old.store { checkpoint = Some (begun cut) } })
  cut_stands w old cut stands cuts =
      let none = no_checkpoint w old stands cuts.can.over in
      let now = in_epoch_now w old stands none.1 in
      let within = handed_within _ _ _ _ _ old.out old.receipt old.core.is_out stands.between in
      let n : ℕ = length w.applied in
      let log : ℕ = old.core.log.length in
      let log_is = stands.counts.log_is in
      let last : max w.taken w.earlier ≡ w.taken = omega (arith, within.1, now.whole) in
      record {
        epoch = ap (λ (e : ℕ). e + 1) stands.epoch;
        applied = stands.applied;
        handed = stands.handed;
        older = log;
        counts = record {
          earlier_within = omega arith;
          taken_within = stands.counts.taken_within;
          log_is = omega arith;
          room = λ some. absurd (omega (arith, some));
          older_within = λ less. omega (arith, log_is, now.whole, stands.counts.earlier_within);
          older_room = λ less. stands.counts.room (omega (arith, less, now.whole));
        };
        waits = record {
          before_is =
              holds_as (w.opened + (max w.taken w.earlier - w.earlier)) (log + w.taken - n)
              (drop (max w.taken w.earlier) w.applied) (drop w.taken (take n w.applied)) old.core.log.waiting
              (omega (arith, log_is, now.whole, within.1, stands.counts.earlier_within, stands.counts.taken_within))
              ((λ i. drop (last i) (sym (take_end w.applied) i))) stands.waits.log_is;
          log_is =
              holds_none (0 + (max w.taken n - n)) (drop (max w.taken n) w.applied)
              (drop_past (max w.taken n) w.applied (omega arith));
        };
        between =
            between_with _ _ _ _ _ (HasPlace (w.epoch + 1) 0 n w.stored log w.applied)
            (λ size out some until placed. elim placed
            as (λ _. HasPlace (w.epoch + 1) 0 n w.stored log w.applied size out) [
              | inl before ↦ absurd (omega (arith, before.0, now.whole, some))
              | inr mine ↦ inl (
                omega (arith, until, stands.counts.taken_within),
                ap (λ (e : ℕ). e + 1) mine.1,
                subst (λ (k : ℕ). Holds k (take size (drop w.stored w.applied)) out.batch)
                    (omega (arith, log_is, mine.0, stands.counts.earlier_within)) mine.2,
              )
            ]) old.out old.receipt old.core.is_out stands.between;
        receipts = stands.receipts;
        checkpoint =
            together (w.epoch + 1) (record {
              rolled = 0;
              imaged = 0;
              pieces = pieces_of (image_encoding old.core.kernel);
              finished = false;
            })
            (begun cut) old.finished true none.2 refl (record {
              epoch_is = cuts.epoch ∙ ap (λ (e : ℕ). e + 1) (sym stands.epoch);
              rolled = refl;
              imaged = refl;
              pieces = ap pieces_of (sym cuts.image.encoding_is);
              unfinished = refl;
            });
        in_use = inr (record {
          epoch_is = ap (λ (e : ℕ). e + 1) now.epoch_is;
          within = omega (arith, within.1, stands.counts.taken_within);
          counted = omega (arith, now.counted, log_is, now.whole, stands.counts.earlier_within);
          none_opened = refl;
          rolled = omega arith;
          log = cuts.log;
        });
        tickets = stands.tickets;
        failed = stands.failed;
        kept = λ is_honest unfailed.
            let kept = stands.kept is_honest unfailed in
            record {
              state = kept.state;
              before = kept.before;
              after = kept.after;
              mid = old.core.kernel;
              cut =
                  subst (λ (l : List Record). Run base l old.core.kernel) (sym (take_end w.applied))
                  (steps_run base old.core.kernel w.applied stands.applied.run);
              kept =
                  begin_keeps (view old.store.disk) old.store.segment old.core.kernel kept.state cut
                  (subst (λ (c : Option CheckpointValue). Keeps
                  (view old.store.disk) old.store.segment c kept.mid kept.state) none.1 kept.kept)
                  (omega (arith, cuts.can.next, stands.epoch, now.epoch_is))
                  (omega (arith, cuts.epoch, stands.epoch, now.epoch_is)) cuts.image;
            };
        left = stands.left;
      }

  pub shows_cut : (w : World) (old new : SystemValue D) → StandsFor honest view base w old → BeginsEpoch old new
      → Shows honest view base w world.cut world.done old new
  shows_cut w old new stands begins =
      let cuts = begins.cuts in
      let core = cuts.rest in
      let none = no_checkpoint w old stands cuts.can.over in
      shown honest view base w (after_cut w old.core.kernel) world.cut world.done old new
      (record old { core = cut_core old.core; store = record old.store { checkpoint = Some (begun begins.cut) } }) (
        and_false w.failed,
        (omega (arith, cuts.can.next, stands.epoch), none.0),
        (old.core.kernel, stands.applied.run, refl),
      )
      (begins.rest ∙ ap (λ (k : KernelValue). record old
      { core = k; store = record old.store { checkpoint = Some (begun begins.cut) } }) core) refl
      (cut_stands w old begins.cut stands (subst (Cuts old.core begins.cut) core cuts))

  cut_possible : (w : World) (old : SystemValue D) → StandsFor honest view base w old → world.IsPossible w world.cut
      → CanCut old.core
  cut_possible w old stands possible =
      let none : old.core.is_cut ≡ false =
      some_cut w.epoch old.store.checkpoint old.finished old.core.is_cut
      (subst (λ (c : Option world.Checkpoint). Checkpoints w.epoch c old.store.checkpoint old.finished
      old.core.is_cut) possible.1 stands.checkpoint) in
      let now = in_epoch_now w old stands (no_checkpoint w old stands none).1 in
      let within = handed_within _ _ _ _ _ old.out old.receipt old.core.is_out stands.between in
      record {
        over = none;
        next = omega (arith, possible.0, stands.epoch);
        none_older =
            stands.waits.before_is.counted
            ∙ ap length (drop_past w.taken (take w.earlier w.applied)
            (omega (arith, within.1, now.whole, take_long w.earlier w.applied stands.counts.earlier_within)));
      }

  pub shows_no_cut : (w : World) (old new : SystemValue D) → StandsFor honest view base w old → (CanCut old.core → ⊥)
      → new ≡ old → Shows honest view base w world.cut world.not_now old new
  shows_no_cut w old new stands never same =
      unmoved honest view base w world.cut world.not_now old new stands same
      (and_false w.failed, (λ possible. never (cut_possible w old stands possible)), refl)

  pub shows_cut_shortage : (w : World) (old new : SystemValue D) → StandsFor honest view base w old → CanCut old.core
      → new ≡ old → Shows honest view base w world.cut world.no_memory old new
  shows_cut_shortage w old new stands can same =
      unmoved honest view base w world.cut world.no_memory old new stands same (
        and_false w.failed,
        (omega (arith, can.next, stands.epoch), (no_checkpoint w old stands can.over).0),
        refl,
      )

  -- the device failed in an earlier step
  pub failed_step : (w : World) (event : world.Event) (old new : SystemValue D) → StandsFor honest view base w old
      → world.is_of_store event ≡ true → old.store.failed ≡ true → new ≡ record old { store = new.store }
      → new.store ≡ old.store
      → Shows honest view base w event (world.store fault.failed) old new
  failed_step w event old new stands of_store failed rest same =
      shows_failed honest view base w event old new stands of_store failed (same_rest old new rest same)
