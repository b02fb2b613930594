-- What the half that stores does with a history, step by step.
use Rattle.std.proofs.Common.{◌≡◌, ◌⊎◌, ℕ, ◌+◌, ◌<◌, ◌≤◌, Bool, true, false, List, [], ◌++◌, length, take, drop, Option, Some, None, refl, sym, ap, subst, ◌∙◌, inl, inr, arith, take-append-drop}
use Rattle.std.specs.Prelude.{◌↔◌}
use Rattle.std.proofs.lemmas.Bool.{cases_lt}
use Rattle.std.proofs.lemmas.List.{take-append-le, drop-append-le}
use Rattle.disk.specs.Moments.{View, Follows, MayLeave, Passes, IsSynced}
use Rattle.disk.specs.Slots.{Slots}
use Rattle.history.specs.Entries.{Begins, records_of}
use Rattle.history.proofs.Beginnings.{begins_caught, begins_itself, begins_records, begins_records_length}
use Rattle.history.specs.declared.entry.Entry.{Entry}
use Rattle.codes.specs.declared.limits.TheConstants.{MAX_RECORDS}
use Rattle.ipc_laws.specs.RunLaws.{run_split, steps_run}
use Rattle.ipc_laws.specs.RunsKeep.{one_run}
use Rattle.ipc_model.specs.calls.Step.{Run}
use Rattle.ipc_model.specs.declared.record.Record.{Record}
use Rattle.ipc_model.specs.state.Circular.{Acyclic}
use Rattle.ipc_model.specs.state.LawfulState.{LawfulState}
use Rattle.ipc_model.specs.state.State.{State}
use Rattle.ipc_model.specs.store.Store.{IsMidAppend}
use Rattle.journal.specs.Batch.{Holds, content_of}
use Rattle.store_fault.specs.declared.fault.StoreFault.{StoreFault}
use Rattle.store_fault.specs.declared.fault.StoreFault.TheVariants.{Device, Failed, Full}
use Rattle.journal.specs.declared.segment.Segment.{Segment}
use Rattle.store_half.proofs.phases.Appends.{append_keeps, append_mid, begin_keeps, kept_stands, kept_synced}
use Rattle.store_half.proofs.phases.Passed.{run_join}
use Rattle.store_half.specs.phases.Batches.{IsReadyBatch, with_more}
use Rattle.store_half.specs.phases.Passed.{IsKept}
use Rattle.store_half.specs.phases.Phases.{Keeps}
use Rattle.keepers.specs.Faults.{IsWhyNotStored}
use Rattle.keepers.specs.declared.fault.NotStored.TheVariants.{Store}
use Rattle.keepers.specs.Storing.{CanBegin, EndValue, IsEnd, IsLoad, IsNext, IsRecorded, IsStoreKeeper, KeptAt, LoadValue, LosesNothing, StandsFor, StoreKeeperValue}
use Rattle.disk.proofs.Moments.{left_now, passes_as}
use Rattle.slot_steps.specs.Steps.{segment_slot}
use Rattle.store_layout.specs.Gates.{StandForState}
use Rattle.store_half.specs.Changes.{IsAppended, PassesAppend}
use Rattle.store_half.specs.Values.{CheckpointValue, StoreValue, begun}
use Rattle.system.proofs.Lists.{take_long, take_sum, drop_long}
use Rattle.system.proofs.Logs.{fit_take, fit_drop, are_take, are_drop}
use Rattle.system.proofs.Simulation.{no_time}

-- lists: parts of a prefix are parts of the whole

front_same : (old new : List Entry) (n : ℕ) → Begins old new → n ≤ length (records_of old)
    → take n (records_of new) ≡ take n (records_of old)
front_same old new n begins within =
    ap (take n) (begins_records old new begins)
    ∙ take-append-le n (records_of old) (records_of (drop (length old) new)) within

part_same : (old new : List Entry) (m n : ℕ) → Begins old new → m + n ≤ length (records_of old)
    → take n (drop m (records_of new)) ≡ take n (drop m (records_of old))
part_same old new m n begins within =
    ap (λ (l : List Record). take n (drop m l)) (begins_records old new begins)
    ∙ ap (take n) (drop-append-le m (records_of old) (records_of (drop (length old) new)) (omega (arith, within)))
    ∙ take-append-le n (drop m (records_of old)) (records_of (drop (length old) new))
    (omega (arith, within, drop_long m (records_of old)))

-- what is learned of the history is recorded
pub recorded_caught : (base : State) (old other new : List Entry) → new ≡ old ++ drop (length old) other
    → Begins other new → IsRecorded base old → IsRecorded base other → IsRecorded base new
recorded_caught base old other new is begins mine theirs = elim (begins_caught old other new is begins) [
  | inl same ↦ subst (IsRecorded base) (sym same) mine
  | inr same ↦ subst (IsRecorded base) (sym same) theirs
]

module _ {D : Type 0} (honest : Type 0) (view : D → View) (base : State) where
  -- slots that stood for the state after some records of a prefix still stand for it
  stands_further : (old new : List Entry) (least : ℕ) (c : Slots) → Begins old new
      → StandsFor base least (records_of old) c → StandsFor base least (records_of new) c
  stands_further old new least c begins (k, more, within, (state, run, stands)) = (
    k,
    more,
    omega (arith, within, begins_records_length old new begins),
    (state, subst (λ (l : List Record). Run base l state) (sym (front_same old new k begins within)) run, stands),
  )

  kept_further : (store : StoreValue D) (old new : List Entry) (stored earlier : ℕ) → Begins old new
      → stored ≤ length (records_of old) → earlier ≤ length (records_of old)
      → KeptAt view store base stored earlier (records_of old) → KeptAt view store base stored earlier (records_of new)
  kept_further store old new stored earlier begins within cut kept = record {
    state = kept.state;
    before =
        subst (λ (l : List Record). Run base l kept.state) (sym (front_same old new stored begins within)) kept.before;
    mid = kept.mid;
    cut = subst (λ (l : List Record). Run base l kept.mid) (sym (front_same old new earlier begins cut)) kept.cut;
    kept = kept.kept;
  }

  -- It learns more of the history, and nothing else changes.
  pub storer_learns : (keeper : StoreKeeperValue D) (entries : List Entry) → IsStoreKeeper honest view base keeper
      → IsRecorded base entries → Begins keeper.entries entries
      → IsStoreKeeper honest view base (record keeper { entries = entries })
  storer_learns keeper entries is recorded begins = record {
    recorded = recorded;
    within = omega (arith, is.within, begins_records_length keeper.entries entries begins);
    cut_within = omega (arith, is.cut_within, begins_records_length keeper.entries entries begins);
    kept =
        λ is_honest unfailed. kept_further keeper.store keeper.entries entries keeper.stored keeper.earlier begins
        is.within is.cut_within (is.kept is_honest unfailed);
    left =
        λ is_honest failed c may. stands_further keeper.entries entries keeper.stored c begins
        (is.left is_honest failed c may);
  }

  -- A crash leaves at least the stored records.
  pub stored_stands : (keeper : StoreKeeperValue D) → IsStoreKeeper honest view base keeper
      → (kept : KeptAt view keeper.store base keeper.stored keeper.earlier (records_of keeper.entries)) → (c : Slots)
      → StandForState kept.state c → StandsFor base keeper.stored (records_of keeper.entries) c
  stored_stands keeper is kept c recovered = (keeper.stored, omega arith, is.within, (kept.state, kept.before, recovered))

  pub storer_left : (keeper : StoreKeeperValue D) → IsStoreKeeper honest view base keeper → honest → (failed : Bool)
      → keeper.store.failed ≡ failed → (c : Slots) → MayLeave (view keeper.store.disk) c
      → StandsFor base keeper.stored (records_of keeper.entries) c
  storer_left keeper is is_honest true failed c may = is.left is_honest failed c may
  storer_left keeper is is_honest false unfailed c may =
      let kept = is.kept is_honest unfailed in
      stored_stands keeper is kept c (kept_stands
      (view keeper.store.disk) keeper.store.segment keeper.store.checkpoint kept.mid kept.state kept.kept c may)

  -- A step in which the device failed.
  pub storer_fails : (old new : StoreKeeperValue D) (entries : List Entry) → IsStoreKeeper honest view base old
      → old.store.failed ≡ false → new.store.failed ≡ true → new.entries ≡ entries → IsRecorded base entries
      → Begins old.entries entries → new.stored ≡ old.stored → new.earlier ≡ old.earlier
      → (honest → LosesNothing view base old new) → IsStoreKeeper honest view base new
  storer_fails old new entries is unfailed failed same recorded begins stored earlier loses =
      let begins_new = subst (Begins old.entries) (sym same) begins in
      record {
        recorded = subst (IsRecorded base) (sym same) recorded;
        within = omega (arith, stored, is.within, begins_records_length old.entries new.entries begins_new);
        cut_within = omega (arith, earlier, is.cut_within, begins_records_length old.entries new.entries begins_new);
        kept = λ is_honest not. absurd (cc (not, failed));
        left = λ is_honest _ c may. subst (λ (n : ℕ). StandsFor base n (records_of new.entries) c) (sym stored)
            (elim (left_now (view old.store.disk) (view new.store.disk)
            (StandsFor base old.stored (records_of new.entries)) (loses is_honest) c may) [
              | inl was ↦ stands_further old.entries new.entries old.stored c begins_new
                  (storer_left old is is_honest false unfailed c was)
              | inr since ↦ since
            ]);
      }

  -- The records of the next batch, as the store takes them up.
  module _ (keeper : StoreKeeperValue D) (is : IsStoreKeeper honest view base keeper) (load : LoadValue)
      (is_load : IsLoad base load) (begins : Begins load.entries keeper.entries) (first : load.first ≡ keeper.stored)
      (number : load.number ≡ keeper.store.segment.records)
      (room : keeper.store.segment.records + load.batch.count ≤ MAX_RECORDS)
      (kept : KeptAt view keeper.store base keeper.stored keeper.earlier (records_of keeper.entries)) where
    abbrev records : List Record
    records = take load.batch.count (drop keeper.stored (records_of keeper.entries))

    enough : keeper.stored + load.batch.count ≤ length (records_of keeper.entries)
    enough = omega (arith, first, is_load.within, begins_records_length load.entries keeper.entries begins)

    same_records : records ≡ take load.batch.count (drop load.first (records_of load.entries))
    same_records =
        ap (λ (n : ℕ). take load.batch.count (drop n (records_of keeper.entries))) (sym first)
        ∙ part_same load.entries keeper.entries load.first load.batch.count begins is_load.within

    long : length records ≡ load.batch.count
    long =
        take_long load.batch.count (drop keeper.stored (records_of keeper.entries))
        (omega (arith, enough, drop_long keeper.stored (records_of keeper.entries)))

    -- the state after it, by the one run of the history
    rest : (mid : State) × Run base (take keeper.stored (records_of keeper.entries)) mid
        × Run mid (drop keeper.stored (records_of keeper.entries)) is.recorded.end
    rest =
        run_split base is.recorded.end (take keeper.stored (records_of keeper.entries))
        (drop keeper.stored (records_of keeper.entries))
        (subst (λ (l : List Record). Run base l is.recorded.end)
        (sym (take-append-drop keeper.stored (records_of keeper.entries)))
        (steps_run base is.recorded.end (records_of keeper.entries) is.recorded.run))

    here : rest.0 ≡ kept.state
    here =
        one_run base (take keeper.stored (records_of keeper.entries)) rest.0 kept.state
        (fit_take keeper.stored (records_of keeper.entries) is.recorded.fit) is.recorded.lawful is.recorded.acyclic
        rest.1 kept.before

    beyond : (after : State) × Run kept.state records after
        × Run after (drop load.batch.count (drop keeper.stored (records_of keeper.entries))) is.recorded.end
    beyond =
        run_split kept.state is.recorded.end records
        (drop load.batch.count (drop keeper.stored (records_of keeper.entries)))
        (subst (λ (l : List Record). Run kept.state l is.recorded.end)
        (sym (take-append-drop load.batch.count (drop keeper.stored (records_of keeper.entries))))
        (subst (λ (s : State). Run s (drop keeper.stored (records_of keeper.entries)) is.recorded.end) here
        rest.2))

    ready : IsReadyBatch kept.state beyond.0 keeper.store.segment.records records load.batch
    ready = record {
      run = beyond.1;
      fit =
          fit_take load.batch.count (drop keeper.stored (records_of keeper.entries))
          (fit_drop keeper.stored (records_of keeper.entries) is.recorded.fit);
      are =
          are_take load.batch.count (drop keeper.stored (records_of keeper.entries))
          (are_drop keeper.stored (records_of keeper.entries) is.recorded.records);
      some = omega (arith, long, is_load.some);
      room = omega (arith, long, room);
      holds = subst (λ (l : List Record). Holds keeper.store.segment.records l load.batch) (sym same_records)
          (subst (λ (n : ℕ). Holds n (take load.batch.count (drop load.first (records_of load.entries))) load.batch)
          number is_load.holds);
    }

    run_after : Run base (take (keeper.stored + load.batch.count) (records_of keeper.entries)) beyond.0
    run_after =
        subst (λ (l : List Record). Run base l beyond.0)
        (sym (take_sum keeper.stored load.batch.count (records_of keeper.entries) is.within))
        (run_join base kept.state beyond.0
        (take keeper.stored (records_of keeper.entries)) records kept.before beyond.1)

    -- a crash while it is stored leaves the stored records, or these and all of the batch's
    pub during_append : (c : Slots)
        → Follows (view keeper.store.disk) (segment_slot keeper.store.segment.epoch)
        (λ was now. IsMidAppend was (content_of load.batch) now) c
        → StandsFor base keeper.stored (records_of keeper.entries) c
    during_append c mid =
        elim (append_mid (view keeper.store.disk) keeper.store.segment keeper.store.checkpoint kept.mid kept.state
        beyond.0 records load.batch kept.kept ready c mid) [
          | inl before ↦ stored_stands keeper is kept c before
          | inr after ↦ (keeper.stored + load.batch.count, omega arith, enough, (beyond.0, run_after, after))
        ]

    -- and then it is kept with them
    pub kept_after : (new : D) → IsAppended keeper.store.segment.epoch (view keeper.store.disk).seen
        (view new).seen load.batch → IsSynced (view new) (segment_slot keeper.store.segment.epoch)
        → PassesAppend keeper.store.segment.epoch (view keeper.store.disk) (view new) load.batch
        → KeptAt view (record keeper.store { disk = new; segment = with_more keeper.store.segment load.batch.count })
        base (keeper.stored + load.batch.count) keeper.earlier (records_of keeper.entries)
    kept_after new written synced time = record {
      state = beyond.0;
      before = run_after;
      mid = kept.mid;
      cut = kept.cut;
      kept =
          subst (λ (n : ℕ). Keeps (view new)
          (with_more keeper.store.segment n) keeper.store.checkpoint kept.mid beyond.0) long
          (append_keeps (view keeper.store.disk)
          (view new) keeper.store.segment keeper.store.checkpoint kept.mid kept.state beyond.0 records load.batch
          kept.kept ready written synced time);
    }

  -- A step of the store that changes nothing of what the half knows.

  -- what a step did: something, by which it is kept and loses nothing; or the device failed, and it loses nothing; or
  -- nothing
  abbrev pub Goes : StoreKeeperValue D → StoreValue D → Type 0
  Goes old new = (old.store.failed ≡ false) × (new.failed ≡ false)
      × (honest → (kept : KeptAt view old.store base old.stored old.earlier (records_of old.entries))
      → Keeps (view new.disk) new.segment new.checkpoint kept.mid kept.state
      × Passes (view old.store.disk) (view new.disk) (StandForState kept.state))

  abbrev pub Breaks : StoreKeeperValue D → StoreValue D → Type 0
  Breaks old new = (old.store.failed ≡ false) × (new.failed ≡ true)
      × (honest → (kept : KeptAt view old.store base old.stored old.earlier (records_of old.entries))
      → Passes (view old.store.disk) (view new.disk) (StandForState kept.state))

  abbrev pub with_store : StoreKeeperValue D → StoreValue D → StoreKeeperValue D
  with_store old new = record old { store = new }

  goes_loses : (old : StoreKeeperValue D) (new : StoreValue D) → IsStoreKeeper honest view base old → Goes old new
      → honest → LosesNothing view base old (with_store old new)
  goes_loses old new is goes is_honest =
      let kept = is.kept is_honest goes.0 in
      passes_as (view old.store.disk) (view new.disk) _ (StandsFor base old.stored (records_of old.entries))
      (goes.2 is_honest kept).1 (λ c recovered. stored_stands old is kept c recovered)

  breaks_loses : (old : StoreKeeperValue D) (new : StoreValue D) → IsStoreKeeper honest view base old → Breaks old new
      → honest → LosesNothing view base old (with_store old new)
  breaks_loses old new is breaks is_honest =
      let kept = is.kept is_honest breaks.0 in
      passes_as (view old.store.disk) (view new.disk) _ (StandsFor base old.stored (records_of old.entries))
      (breaks.2 is_honest kept) (λ c recovered. stored_stands old is kept c recovered)

  goes_storer : (old : StoreKeeperValue D) (new : StoreValue D) → IsStoreKeeper honest view base old → Goes old new
      → IsStoreKeeper honest view base (with_store old new)
  goes_storer old new is goes = record {
    recorded = is.recorded;
    within = is.within;
    cut_within = is.cut_within;
    kept = λ is_honest _.
        let kept = is.kept is_honest goes.0 in
        record {
          state = kept.state;
          before = kept.before;
          mid = kept.mid;
          cut = kept.cut;
          kept = (goes.2 is_honest kept).0;
        };
    left = λ is_honest failed c may. absurd (cc (failed, goes.1));
  }

  breaks_storer : (old : StoreKeeperValue D) (new : StoreValue D) → IsStoreKeeper honest view base old → Breaks old new
      → IsStoreKeeper honest view base (with_store old new)
  breaks_storer old new is breaks = record {
    recorded = is.recorded;
    within = is.within;
    cut_within = is.cut_within;
    kept = λ is_honest unfailed. absurd (cc (unfailed, breaks.1));
    left =
        λ is_honest _ c may. elim (left_now (view old.store.disk) (view new.disk)
        (StandsFor base old.stored (records_of old.entries)) (breaks_loses old new is breaks is_honest) c may) [
          | inl was ↦ storer_left old is is_honest false breaks.0 c was
          | inr since ↦ since
        ];
  }

  pub record Stepped (old : StoreKeeperValue D) (new : StoreValue D) : Type 0 where
    pub is : IsStoreKeeper honest view base (with_store old new)
    pub loses : honest → LosesNothing view base old (with_store old new)

  pub stepped : (old : StoreKeeperValue D) (new : StoreValue D) → IsStoreKeeper honest view base old
      → (Goes old new ⊎ Breaks old new) ⊎ (new ≡ old.store) → Stepped old new
  stepped old new is (inl (inl goes)) = record { is = goes_storer old new is goes; loses = goes_loses old new is goes }
  stepped old new is (inl (inr breaks)) =
      record { is = breaks_storer old new is breaks; loses = breaks_loses old new is breaks }
  stepped old new is (inr same) = record {
    is = subst (λ (s : StoreValue D). IsStoreKeeper honest view base (with_store old s)) (sym same) is;
    loses =
        λ is_honest. no_time (view old.store.disk) (view new.disk) (StandsFor base old.stored (records_of old.entries))
        (ap (λ (s : StoreValue D). view s.disk) (sym same));
  }

  -- The half that stores, of a store that was opened: no record of this history is stored yet.
  pub first_storer : (disk : D) (segment : Segment) (entries : List Entry) → entries ≡ [] → LawfulState base → Acyclic base.ipc
      → (honest → IsKept (view disk) segment base)
      → IsStoreKeeper honest view base
      (record {
        store = record { disk = disk; segment = segment; failed = false; checkpoint = None };
        entries = entries;
        stored = 0;
        earlier = 0;
      })
  first_storer disk segment entries none lawful acyclic kept = record {
    recorded =
        subst (IsRecorded base) (sym none)
        (record { end = base; run = refl; fit = tt; records = tt; lawful = lawful; acyclic = acyclic });
    within = omega arith;
    cut_within = omega arith;
    kept = λ is_honest _. record { state = base; before = refl; mid = base; cut = refl; kept = kept is_honest };
    left = λ is_honest failed c may. absurd (cc failed);
  }

  -- A checkpoint is begun.
  pub begins_storer : (old : StoreKeeperValue D) (end : EndValue) → IsStoreKeeper honest view base old → IsEnd base end
      → CanBegin old.store end → Begins end.entries old.entries
      → IsStoreKeeper honest view base
      (record old { store = record old.store { checkpoint = Some (begun end.cut) }; earlier = end.earlier })
  begins_storer old end is is_end can begins =
      let within : end.earlier ≤ length (records_of old.entries) =
      omega (arith, is_end.within, begins_records_length end.entries old.entries begins) in
      record {
        recorded = is.recorded;
        within = is.within;
        cut_within = within;
        kept = λ is_honest _.
            let kept = is.kept is_honest can.unfailed in
            record {
              state = kept.state;
              before = kept.before;
              mid = is_end.state;
              cut =
                  subst (λ (l : List Record). Run base l is_end.state)
                  (sym (front_same end.entries old.entries end.earlier begins is_end.within)) is_end.run;
              kept = begin_keeps (view old.store.disk) old.store.segment is_end.state kept.state end.cut
                  (subst (λ (o : Option CheckpointValue). Keeps
                  (view old.store.disk) old.store.segment o kept.mid kept.state) can.none kept.kept) can.fits
                  can.next is_end.image;
            };
        left = λ is_honest failed c may. absurd (cc (failed, can.unfailed));
      }

  -- nothing was written
  pub unwritten_loses : (old new : StoreKeeperValue D) → view new.store.disk ≡ view old.store.disk
      → LosesNothing view base old new
  unwritten_loses old new same =
      no_time (view old.store.disk) (view new.store.disk) (StandsFor base old.stored (records_of new.entries))
      (sym same)

  -- it learned more of the history, and wrote nothing
  pub learned_loses : (old new : StoreKeeperValue D) → new ≡ record old { entries = new.entries }
      → LosesNothing view base old new
  learned_loses old new same = unwritten_loses old new (ap (λ (v : StoreKeeperValue D). view v.store.disk) same)

  -- and then it did something
  pub learned_then : (old mid new : StoreKeeperValue D) → mid ≡ record old { entries = mid.entries }
      → LosesNothing view base mid new → LosesNothing view base old new
  learned_then old mid new same loses =
      subst (λ (v : StoreKeeperValue D). Passes (view v.store.disk) (view new.store.disk)
      (StandsFor base v.stored (records_of new.entries))) same loses

  -- what is learned, and nothing else
  pub caught_storer : (old : StoreKeeperValue D) (other new : List Entry) → IsStoreKeeper honest view base old
      → IsRecorded base other → new ≡ old.entries ++ drop (length old.entries) other → Begins old.entries new
      → Begins other new
      → IsStoreKeeper honest view base (record old { entries = new })
  caught_storer old other new is recorded learned begins too =
      storer_learns old new is (recorded_caught base old.entries other new learned too is.recorded recorded) begins

  -- what holds of the value that a step began with
  pub loses_from : (old now : StoreKeeperValue D) (new : StoreValue D) → old ≡ now
      → (honest → LosesNothing view base old (with_store old new)) → honest
      → Passes (view now.store.disk) (view new.disk) (StandsFor base now.stored (records_of old.entries))
  loses_from old now new same loses is_honest =
      subst (λ (v : StoreKeeperValue D). Passes (view v.store.disk) (view new.disk)
      (StandsFor base v.stored (records_of old.entries))) same (loses is_honest)

  -- The next load is stored, or isn't.

  pub next_here : (old now : StoreKeeperValue D) (load given : LoadValue) → old ≡ now → load ≡ given
      → IsNext now.store now.stored given → IsNext old.store old.stored load
  next_here old now load given same here next =
      subst (λ (l : LoadValue). IsNext old.store old.stored l) (sym here)
      (subst (λ (v : StoreKeeperValue D). IsNext v.store v.stored given) (sym same) next)

  pub begins_here : (old now : StoreKeeperValue D) (load given : LoadValue) → old ≡ now → load ≡ given
      → Begins given.entries now.entries → Begins load.entries old.entries
  begins_here old now load given same here begins =
      subst (λ (l : LoadValue). Begins l.entries old.entries) (sym here)
      (subst (λ (v : StoreKeeperValue D). Begins given.entries v.entries) (sym same) begins)

  module _ (old : StoreKeeperValue D) (load : LoadValue) (new : StoreValue D) (is : IsStoreKeeper honest view base old)
      (is_load : IsLoad base load) (begins : Begins load.entries old.entries) (next : IsNext old.store old.stored load)
      (moments : honest → IsSynced (view old.store.disk) (segment_slot old.store.segment.epoch)
      → PassesAppend old.store.segment.epoch (view old.store.disk) (view new.disk) load.batch) where
    append_loses : old.store.failed ≡ false → old.store.segment.records + load.batch.count ≤ MAX_RECORDS → honest
        → LosesNothing view base old (with_store old new)
    append_loses unfailed room is_honest =
        let kept = is.kept is_honest unfailed in
        passes_as (view old.store.disk) (view new.disk) _ (StandsFor base old.stored (records_of old.entries))
        (moments is_honest (kept_synced
        (view old.store.disk) old.store.segment old.store.checkpoint kept.mid kept.state kept.kept))
        (during_append old is load is_load begins next.first next.number room kept)

    -- it is
    pub record Appended : Type 0 where
      pub holds : IsStoreKeeper honest view base
          (record { store = new; entries = old.entries; stored = old.stored + load.batch.count; earlier = old.earlier })
      pub loses : honest → LosesNothing view base old (with_store old new)

    pub appended : (old.store.failed ≡ false) × (old.store.segment.records + load.batch.count ≤ MAX_RECORDS)
        → new.segment ≡ with_more old.store.segment load.batch.count → new.failed ≡ false
        → new.checkpoint ≡ old.store.checkpoint
        → (honest → IsAppended old.store.segment.epoch (view old.store.disk).seen (view new.disk).seen load.batch)
        → (honest → IsSynced (view new.disk) (segment_slot old.store.segment.epoch)) → Appended
    appended room segment working checkpoint written synced = record {
      holds = record {
        recorded = is.recorded;
        within = omega (arith, next.first, is_load.within, begins_records_length load.entries old.entries begins);
        cut_within = is.cut_within;
        kept = λ is_honest _.
            let kept = is.kept is_honest room.0 in
            let after =
            kept_after old is load is_load begins next.first next.number room.1 kept new.disk (written is_honest)
            (synced is_honest)
            (moments is_honest (kept_synced
            (view old.store.disk) old.store.segment old.store.checkpoint kept.mid kept.state kept.kept)) in
            record {
              state = after.state;
              before = after.before;
              mid = after.mid;
              cut = after.cut;
              kept =
                  subst (λ (o : Option CheckpointValue). Keeps (view new.disk) new.segment o after.mid after.state)
                  (sym checkpoint)
                  (subst (λ (g : Segment). Keeps (view new.disk) g old.store.checkpoint after.mid after.state)
                  (sym segment) after.kept);
            };
        left = λ is_honest failed c may. absurd (cc (failed, working));
      };
      loses = append_loses room.0 room.1;
    }

    -- it isn't
    fails_now : (failed : Bool) → old.store.failed ≡ failed → (fault : StoreFault) → fault ≡ Device
        → (fault ≡ Failed ↔ (old.store.failed ≡ true))
        → (fault ≡ Full ↔ ((old.store.failed ≡ false) × (MAX_RECORDS < old.store.segment.records + load.batch.count)))
        → new.failed ≡ true → Stepped old new
    fails_now true was fault device failed full broken = absurd (cc (device, failed.1 was))
    fails_now false was fault device failed full broken =
        let room : old.store.segment.records + load.batch.count ≤ MAX_RECORDS =
        elim (cases_lt MAX_RECORDS (old.store.segment.records + load.batch.count)) [
          | inl more ↦ absurd (cc (device, full.1 (was, more)))
          | inr less ↦ less
        ] in
        record {
          is =
              storer_fails old (with_store old new) old.entries is was broken refl is.recorded
              (begins_itself old.entries) refl refl (append_loses was room);
          loses = append_loses was room;
        }

    pub not_appended : (fault : StoreFault) → (fault ≡ Failed ↔ (old.store.failed ≡ true))
        → (fault ≡ Full ↔ ((old.store.failed ≡ false) × (MAX_RECORDS < old.store.segment.records + load.batch.count)))
        → (fault ≡ Device → new.failed ≡ true) → (fault ≡ Device)
        ⊎ (((fault ≡ Failed) ⊎ (fault ≡ Full)) × (new ≡ old.store)) → Stepped old new
    not_appended fault failed full device (inl is_device) =
        fails_now old.store.failed refl fault is_device failed full (device is_device)
    not_appended fault failed full device (inr same) = stepped old new is (inr same.1)

-- why the half that stores didn't append a batch
pub why_not_appended : (fault : StoreFault) {Same : Type 0} → (fault ≡ Device)
    ⊎ (((fault ≡ Failed) ⊎ (fault ≡ Full)) × Same) → IsWhyNotStored (Store fault)
why_not_appended fault why =
    elim why as (λ _. IsWhyNotStored (Store fault)) [ inl device ↦ inl device | inr other ↦ inr other.0 ]
