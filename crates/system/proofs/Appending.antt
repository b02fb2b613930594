-- A batch is stored.
use Rattle.std.proofs.Common.{◌≡◌, ◌⊎◌, inl, inr, ℕ, ◌+◌, ◌≤◌, ◌<◌, Bool, true, false, List, [], ◌∷◌, ◌++◌, length, take, drop, Option, None, Some, refl, sym, ap, subst, ◌∙◌, arith, take-append-drop}
use Rattle.codes.specs.declared.limits.TheConstants.{MAX_RECORDS}
use Rattle.disk.specs.Moments.{View, Follows, IsSynced}
use Rattle.disk.specs.Slots.{Slots}
use Rattle.store_half.specs.epoch_log.Logs.{TakenValue}
use Rattle.ipc_laws.specs.RunLaws.{run_split}
use Rattle.ipc_model.specs.calls.Step.{Run}
use Rattle.ipc_model.specs.declared.record.Record.{Record}
use Rattle.ipc_model.specs.state.State.{State}
use Rattle.ipc_model.specs.store.Store.{IsMidAppend}
use Rattle.ipc_model.specs.store.Faults as fault
use Rattle.ipc_model.specs.world.World as world
use Rattle.ipc_model.specs.world.World.{World, CanAppend, IsSegmentOpen, after_append, of_append, acknowledged}
use Rattle.journal.specs.Batch.{Holds, content_of}
use Rattle.journal.specs.declared.segment.Segment.{Segment}
use Rattle.store_half.specs.phases.Batches.{IsReadyBatch, with_more}
use Rattle.store_half.specs.phases.Phases.{Keeps}
use Rattle.store_half.proofs.phases.Appends.{append_keeps, append_mid, kept_synced}
use Rattle.store_half.proofs.phases.Passed.{run_join}
use Rattle.disk.proofs.Moments.{passes_as}
use Rattle.slot_steps.specs.Steps.{segment_slot}
use Rattle.store_half.specs.Values.{CheckpointValue, StoreValue}
use Rattle.system.specs.Changes.{CannotAppend, FailsToStore, FindsFull, Stores}
use Rattle.system.specs.Core.{BatchBetween, Between, Checkpoints, HasPlace, IsBeforeEpoch, IsInEpoch, IsInUse, KeepsStored, StandsFor, StandsFrom, SystemValue, in_turn}
use Rattle.system.proofs.Between.{batch_is_out, none_to_append, one_more_receipt, some_is}
use Rattle.system.proofs.Lists.{drop_long, drop_sum, take_long, take_sum}
use Rattle.system.proofs.Logs.{are_drop, are_take, fit_drop, fit_take}
use Rattle.system.proofs.Simulation.{Shows, from_stored, from_acknowledged, shows_device, stored_within, unfailed_first, unmoved}

-- which segment is in use, by cases
pub used : (epoch opened earlier stored older : ℕ) (segment : Segment) (checkpoint : Option CheckpointValue)
    → IsInUse epoch opened earlier stored older segment checkpoint
    → (IsInEpoch epoch opened earlier stored segment × ((c : CheckpointValue) → checkpoint ≡ Some c → c.rolled ≡ 3))
    ⊎ ((c : CheckpointValue) × (checkpoint ≡ Some c) × IsBeforeEpoch epoch opened earlier stored older segment c)
used epoch opened earlier stored older segment None is = inl (is, λ c there. absurd (cc there))
used epoch opened earlier stored older segment (Some checkpoint) is = elim is [
  | inl now ↦ inl (now.0, λ c there. ap (λ (v : CheckpointValue). v.rolled) (sym (some_is checkpoint c there)) ∙ now.1)
  | inr before ↦ inr (checkpoint, refl, before)
]

in_epoch_more : (epoch opened earlier stored older : ℕ) (segment : Segment) (checkpoint : Option CheckpointValue)
    → IsInEpoch epoch opened earlier stored segment → ((c : CheckpointValue) → checkpoint ≡ Some c → c.rolled ≡ 3)
    → IsInUse epoch opened earlier stored older segment checkpoint
in_epoch_more epoch opened earlier stored older segment None is rolled = is
in_epoch_more epoch opened earlier stored older segment (Some c) is rolled = inl (is, rolled c refl)

-- a segment that is open for its epoch's batches
open_of : (w : World) (written : Option world.Checkpoint) (checkpoint : Option CheckpointValue) (finished : Option ℕ)
    (b : Bool) (epoch : ℕ) → Checkpoints w.epoch written checkpoint finished b
    → ((c : CheckpointValue) → checkpoint ≡ Some c → (c.rolled ≡ 3) ⊎ (epoch < w.epoch)) → IsSegmentOpen w epoch written
open_of w None checkpoint finished b epoch is opened = tt
open_of w (Some written) (Some c) None true epoch is opened =
    elim (opened c refl) [ inl rolled ↦ inr (sym is.rolled ∙ rolled) | inr less ↦ inl less ]
open_of w (Some written) (Some c) None false epoch is opened = absurd is
open_of w (Some written) (Some c) (Some finished) b epoch is opened = absurd is
open_of w (Some written) None (Some finished) true epoch is opened = inr is.rolled
open_of w (Some written) None (Some finished) false epoch is opened = absurd is
open_of w (Some written) None None b epoch is opened = absurd is

-- and one that isn't
not_open : (w : World) (written : Option world.Checkpoint) (checkpoint : Option CheckpointValue) (finished : Option ℕ)
    (b : Bool) (c : CheckpointValue) → Checkpoints w.epoch written checkpoint finished b
    → checkpoint ≡ Some c → c.rolled < 3 → IsSegmentOpen w w.epoch written → ⊥
not_open w None None finished b c is there less opened = absurd (cc there)
not_open w None (Some other) finished b c is there less opened = absurd is
not_open w (Some written) (Some other) None true c is there less opened = elim opened as (λ _. ⊥) [
  | inl before ↦ omega (arith, before)
  | inr rolled ↦ omega (arith, less, ap (λ (v : CheckpointValue). v.rolled) (some_is other c there), is.rolled, rolled)
]
not_open w (Some written) (Some other) None false c is there less opened = absurd is
not_open w (Some written) (Some other) (Some finished) b c is there less opened = absurd is
not_open w (Some written) None finished b c is there less opened = absurd (cc there)

module _ {D : Type 0} (honest : Type 0) (view : D → View) (base : State) where
  -- The batch that is out, which the segment in use takes.
  record IsTaken (w : World) (old : SystemValue D) (taken : TakenValue)
      (stands : StandsFor honest view base w old) : Type 0 where
    out : BatchBetween w.batch w.taken w.stored w.handed
        (HasPlace w.epoch w.opened w.earlier w.stored stands.older w.applied) taken
    receipt : old.receipt ≡ None
    is_out : old.core.is_out ≡ true
    holds : Holds old.store.segment.records (take out.size (drop w.stored w.applied)) taken.batch
    room : old.store.segment.records + out.size ≤ MAX_RECORDS
    within : w.stored + out.size ≤ length w.applied
    can : CanAppend w w.batch
    next : IsInUse w.epoch w.opened w.earlier (w.stored + out.size) stands.older
        (with_more old.store.segment out.size) old.store.checkpoint

  taken_of : (w : World) (old : SystemValue D) (taken : TakenValue) (stands : StandsFor honest view base w old)
      → old.out ≡ Some taken → taken.epoch ≡ old.store.segment.epoch → IsTaken w old taken stands
  taken_of w old taken stands there in_use =
      let found = batch_is_out _ _ _ _ _ taken old.out old.receipt old.core.is_out there stands.between in
      let out = found.0 in
      let records : List Record = take out.size (drop w.stored w.applied) in
      let segment = old.store.segment in
      let batch : world.Batch = record { epoch = taken.epoch; size = out.size; appended = false } in
      let within : w.stored + out.size ≤ length w.applied = omega (arith, out.taken_is, stands.counts.taken_within) in
      let can_of : IsSegmentOpen w taken.epoch w.checkpoint → CanAppend w w.batch =
      λ is_open. subst (CanAppend w) (sym out.batch_is) (refl, is_open) in
      elim (used w.epoch w.opened w.earlier w.stored stands.older segment old.store.checkpoint stands.in_use)
      as (λ _. IsTaken w old taken stands) [
        | inl now ↦ elim out.placed as (λ _. IsTaken w old taken stands) [
          | inl before ↦ absurd (omega (arith, before.1, in_use, now.0.epoch_is))
          | inr placed ↦ record {
            out = out;
            receipt = found.1;
            is_out = found.2;
            holds = subst (λ (n : ℕ). Holds n records taken.batch) (sym now.0.counted) placed.2;
            room =
                omega (
                  arith,
                  now.0.counted,
                  placed.0,
                  out.some,
                  within,
                  stands.counts.log_is,
                  stands.counts.room (omega (arith, placed.0, out.some, within)),
                );
            within = within;
            can =
                can_of (open_of w w.checkpoint old.store.checkpoint old.finished old.core.is_cut taken.epoch
                stands.checkpoint (λ c is. inl (now.1 c is)));
            next =
                in_epoch_more w.epoch w.opened w.earlier (w.stored + out.size) stands.older
                (with_more segment out.size) old.store.checkpoint
                (record {
                  epoch_is = now.0.epoch_is;
                  whole = omega (arith, now.0.whole);
                  counted = omega (arith, now.0.counted, now.0.whole);
                }) now.1;
          }
        ]
        | inr was ↦ elim out.placed as (λ _. IsTaken w old taken stands) [
          | inl placed ↦ record {
            out = out;
            receipt = found.1;
            is_out = found.2;
            holds = subst (λ (n : ℕ). Holds n records taken.batch) (omega (arith, was.2.counted)) placed.2;
            room =
                omega (
                  arith,
                  was.2.counted,
                  placed.0,
                  out.some,
                  stands.counts.older_room (omega (arith, placed.0, out.some)),
                );
            within = within;
            can =
                can_of (open_of w w.checkpoint old.store.checkpoint old.finished old.core.is_cut taken.epoch
                stands.checkpoint (λ c is. inr (omega (arith, placed.1))));
            next =
                subst (IsInUse w.epoch w.opened w.earlier (w.stored + out.size) stands.older
                (with_more segment out.size)) (sym was.1) (inr (record {
                  epoch_is = was.2.epoch_is;
                  within = placed.0;
                  counted = omega (arith, was.2.counted);
                  none_opened = was.2.none_opened;
                  rolled = was.2.rolled;
                  log = was.2.log;
                }));
          }
          | inr placed ↦ absurd (omega (arith, placed.1, in_use, was.2.epoch_is))
        ]
      ]

  -- its records, as the store takes them up
  ready_batch : (w : World) (old : SystemValue D) (taken : TakenValue) (stands : StandsFor honest view base w old)
      (is : IsTaken w old taken stands)
      (kept : KeepsStored view old.store base old.core.kernel w.stored w.earlier w.applied)
      → (after : State) × IsReadyBatch kept.state after old.store.segment.records
      (take is.out.size (drop w.stored w.applied)) taken.batch
      × Run after (drop is.out.size (drop w.stored w.applied)) old.core.kernel
  ready_batch w old taken stands is kept =
      let rest : List Record = drop w.stored w.applied in
      let size = is.out.size in
      let long : length (take size rest) ≡ size =
      take_long size rest (omega (arith, is.within, drop_long w.stored w.applied)) in
      let split =
      run_split kept.state old.core.kernel (take size rest) (drop size rest)
      (subst (λ (l : List Record). Run kept.state l old.core.kernel)
      (sym (take-append-drop size rest)) kept.after) in (
        split.0,
        record {
          run = split.1;
          fit = fit_take size rest (fit_drop w.stored w.applied stands.applied.fit);
          are = are_take size rest (are_drop w.stored w.applied stands.applied.records);
          some = omega (arith, long, is.out.some);
          room = omega (arith, long, is.room);
          holds = is.holds;
        },
        split.2,
      )

  run_after : (w : World) (old : SystemValue D) (taken : TakenValue) (stands : StandsFor honest view base w old)
      (is : IsTaken w old taken stands)
      (kept : KeepsStored view old.store base old.core.kernel w.stored w.earlier w.applied) (after : State)
      → Run kept.state (take is.out.size (drop w.stored w.applied)) after
      → Run base (take (w.stored + is.out.size) w.applied) after
  run_after w old taken stands is kept after run =
      subst (λ (l : List Record). Run base l after)
      (sym (take_sum w.stored is.out.size w.applied (stored_within honest view base w old stands)))
      (run_join base kept.state after (take w.stored w.applied)
      (take is.out.size (drop w.stored w.applied)) kept.before run)

  -- a crash while it is stored leaves the stored records, or these and all of the batch's
  during : (w : World) (old : SystemValue D) (taken : TakenValue) (stands : StandsFor honest view base w old)
      (is : IsTaken w old taken stands)
      (kept : KeepsStored view old.store base old.core.kernel w.stored w.earlier w.applied) (c : Slots)
      → Follows (view old.store.disk) (segment_slot old.store.segment.epoch)
      (λ was now. IsMidAppend was (content_of taken.batch) now) c → StandsFrom base w.stored w c
  during w old taken stands is kept c mid =
      let ready = ready_batch w old taken stands is kept in
      let records : List Record = take is.out.size (drop w.stored w.applied) in
      elim (append_mid (view old.store.disk) old.store.segment old.store.checkpoint kept.mid kept.state ready.0 records
      taken.batch kept.kept ready.1 c mid) [
        | inl before ↦ from_stored honest view base w old stands kept c before
        | inr after ↦ (
          w.stored + is.out.size,
          omega arith,
          is.within,
          (ready.0, run_after w old taken stands is kept ready.0 ready.1.run, after),
        )
      ]

  synced : (w : World) (old : SystemValue D)
      (kept : KeepsStored view old.store base old.core.kernel w.stored w.earlier w.applied)
      → IsSynced (view old.store.disk) (segment_slot old.store.segment.epoch)
  synced w old kept =
      kept_synced (view old.store.disk) old.store.segment old.store.checkpoint kept.mid kept.state kept.kept

  pub shows_append : (w : World) (old new : SystemValue D) → StandsFor honest view base w old
      → Stores honest view old new → Shows honest view base w world.append world.done old new
  shows_append w old new stands stores =
      let taken = stores.taken in
      let is = taken_of w old taken stands stores.out stores.in_use in
      let size = is.out.size in
      let unfailed : w.failed ≡ false = sym stands.failed ∙ stores.unfailed in
      let records : List Record = take size (drop w.stored w.applied) in
      let within = stored_within honest view base w old stands in
      let long : length records ≡ size =
      take_long size (drop w.stored w.applied) (omega (arith, is.within, drop_long w.stored w.applied)) in
      let count : taken.batch.count ≡ size = is.holds.counted ∙ long in
      let w2 : World =
      record w {
        batch = Some (record { epoch = taken.epoch; size = size; appended = true });
        stored = w.stored + size;
        receipts = w.receipts ++ of_append size ∷ [];
      } in
      let next : after_append w w.batch ≡ w2 = ap (after_append w) is.out.batch_is in
      let store : StoreValue D =
      record old.store { disk = new.store.disk; segment = with_more old.store.segment taken.batch.count } in
      let made : SystemValue D =
      record old { store = store; out = None; receipt = Some taken.batch.count; finished_first = true } in
      let stands2 : StandsFor honest view base w2 made = record {
        epoch = stands.epoch;
        applied = stands.applied;
        handed = stands.handed;
        older = stands.older;
        counts = record {
          earlier_within = stands.counts.earlier_within;
          taken_within = stands.counts.taken_within;
          log_is = stands.counts.log_is;
          room = stands.counts.room;
          older_within = λ less. omega (arith, less, stands.counts.older_within (omega (arith, less)));
          older_room = λ less. stands.counts.older_room (omega (arith, less));
        };
        waits = stands.waits;
        between =
            subst (λ (b : Bool). Between w2.batch w.taken (w.stored + size) w.handed
            (HasPlace w.epoch w.opened w.earlier (w.stored + size) stands.older w.applied) None
            (Some taken.batch.count) b) (sym is.is_out)
            (record {
              epoch = taken.epoch;
              batch_is = ap (λ (n : ℕ). Some (record { epoch = taken.epoch; size = n; appended = true })) (sym count);
              taken_is = is.out.taken_is;
              handed_is = omega (arith, is.out.handed_is, count);
            });
        receipts =
            ap (λ (l : List world.Receipt). l ++ of_append size ∷ [])
            (stands.receipts ∙ ap (λ (r : Option ℕ). in_turn r old.finished old.finished_first) is.receipt)
            ∙ one_more_receipt size old.finished old.finished_first ∙ ap
            (λ (n : ℕ). in_turn (Some n) old.finished true) (sym count);
        checkpoint = stands.checkpoint;
        in_use =
            subst (λ (n : ℕ). IsInUse w.epoch w.opened w.earlier (w.stored + size) stands.older
            (with_more old.store.segment n) old.store.checkpoint) (sym count) is.next;
        tickets = stands.tickets;
        failed = stands.failed;
        kept = λ is_honest _.
            let kept = stands.kept is_honest unfailed in
            let ready = ready_batch w old taken stands is kept in
            record {
              state = ready.0;
              before = run_after w old taken stands is kept ready.0 ready.1.run;
              after =
                  subst (λ (l : List Record). Run ready.0 l old.core.kernel)
                  (sym (drop_sum w.stored size w.applied within)) ready.2;
              mid = kept.mid;
              cut = kept.cut;
              kept =
                  subst (λ (n : ℕ). Keeps (view new.store.disk)
                  (with_more old.store.segment n) old.store.checkpoint kept.mid ready.0) (long ∙ sym count)
                  (append_keeps (view old.store.disk)
                  (view new.store.disk) old.store.segment old.store.checkpoint kept.mid kept.state ready.0 records
                  taken.batch kept.kept ready.1 (stores.stored is_honest) (stores.synced is_honest)
                  (stores.passes is_honest (synced w old kept)));
            };
        left = λ _ failed _ _. absurd (cc (failed, unfailed));
      } in
      record {
        next = w2;
        after = (unfailed_first w.failed unfailed, is.can, sym next);
        stands = subst (StandsFor honest view base w2) (sym stores.rest) stands2;
        passes = λ is_honest.
            let kept = stands.kept is_honest unfailed in
            passes_as (view old.store.disk) (view new.store.disk) _ (StandsFrom base (acknowledged w) w2)
            (stores.passes is_honest (synced w old kept))
            (λ c mid. from_acknowledged honest view base w old stands c (during w old taken stands is kept c mid));
      }

  pub shows_append_fails : (w : World) (old new : SystemValue D) → StandsFor honest view base w old
      → FailsToStore honest view old new → Shows honest view base w world.append (world.store fault.device) old new
  shows_append_fails w old new stands fails =
      let taken = fails.taken in
      let is = taken_of w old taken stands fails.out fails.in_use in
      let unfailed : w.failed ≡ false = sym stands.failed ∙ fails.unfailed in
      shows_device honest view base w world.append old new stands unfailed
      (unfailed_first w.failed unfailed, is.can, refl) fails.rest (λ is_honest.
      let kept = stands.kept is_honest unfailed in
      passes_as (view old.store.disk) (view new.store.disk) _ (StandsFrom base w.stored w)
      (fails.passes is_honest (synced w old kept)) (λ c mid. during w old taken stands is kept c mid))

  -- a batch finds room in its segment
  pub never_full : (w : World) (old new : SystemValue D) → StandsFor honest view base w old → FindsFull old new → ⊥
  never_full w old new stands full =
      let is = taken_of w old full.taken stands full.out full.in_use in
      let long : length (take is.out.size (drop w.stored w.applied)) ≡ is.out.size =
      take_long is.out.size (drop w.stored w.applied) (omega (arith, is.within, drop_long w.stored w.applied)) in
      omega (arith, full.full, is.room, is.holds.counted, long)

  cannot : (w : World) (old : SystemValue D) (out : Option TakenValue) (stands : StandsFor honest view base w old)
      → old.out ≡ out → CannotAppend old → CanAppend w w.batch → ⊥
  cannot w old None stands there none can =
      no_batch w.batch (none_to_append w.batch w.taken w.stored w.handed
      (HasPlace w.epoch w.opened w.earlier w.stored stands.older w.applied) old.receipt old.core.is_out
      (subst (λ (o : Option TakenValue). Between w.batch w.taken w.stored w.handed
      (HasPlace w.epoch w.opened w.earlier w.stored stands.older w.applied) o old.receipt old.core.is_out)
      there stands.between)) can
    where
      no_batch : (batch : Option world.Batch) → ((one : world.Batch) → batch ≡ Some one → one.appended ≡ false → ⊥)
          → CanAppend w batch → ⊥
      no_batch None never can = can
      no_batch (Some one) never can = never one refl can.0
  cannot w old (Some taken) stands there none can =
      let found = batch_is_out _ _ _ _ _ taken old.out old.receipt old.core.is_out there stands.between in
      let out = found.0 in
      let is_open : IsSegmentOpen w taken.epoch w.checkpoint = (subst (CanAppend w) out.batch_is can).1 in
      elim (used w.epoch w.opened w.earlier w.stored stands.older old.store.segment old.store.checkpoint stands.in_use)
      as (λ _. ⊥) [
        | inl now ↦ elim out.placed as (λ _. ⊥) [
          | inl before ↦ omega (arith, before.0, now.0.whole, out.some)
          | inr placed ↦ none taken there (placed.1 ∙ sym now.0.epoch_is)
        ]
        | inr was ↦ elim out.placed as (λ _. ⊥) [
          | inl placed ↦ none taken there (omega (arith, placed.1, was.2.epoch_is))
          | inr placed ↦ not_open w w.checkpoint old.store.checkpoint old.finished old.core.is_cut was.0
              stands.checkpoint was.1 was.2.rolled (subst (λ (e : ℕ). IsSegmentOpen w e w.checkpoint) placed.1 is_open)
        ]
      ]

  pub shows_no_append : (w : World) (old new : SystemValue D) → StandsFor honest view base w old → CannotAppend old
      → old.store.failed ≡ false → new ≡ old → Shows honest view base w world.append world.not_now old new
  shows_no_append w old new stands none unfailed same =
      unmoved honest view base w world.append world.not_now old new stands same
      (unfailed_first w.failed (sym stands.failed ∙ unfailed), cannot w old old.out stands refl none, refl)
