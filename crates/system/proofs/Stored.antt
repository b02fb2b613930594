-- How storing the batch that is out changes a core.
use Rattle.std.proofs.Common.{◌≡◌, ◌⊎◌, inl, inr, ℕ, ◌+◌, ◌<◌, true, false, Option, None, Some, sym, ap, subst, ◌∙◌}
use Rattle.codes.specs.declared.limits.TheConstants.{MAX_RECORDS}
use Rattle.disk.specs.Moments.{View, IsSynced}
use Rattle.store_half.specs.epoch_log.Logs.{TakenValue}
use Rattle.store_fault.specs.declared.fault.StoreFault.{StoreFault}
use Rattle.store_fault.specs.declared.fault.StoreFault.TheVariants.{Device, Failed, Full}
use Rattle.journal.specs.declared.segment.Segment.{Segment}
use Rattle.slot_steps.specs.Steps.{segment_slot}
use Rattle.store_half.specs.Changes.{IsAppended, PassesAppend}
use Rattle.store_half.specs.Values.{StoreValue}
use Rattle.system.specs.Changes.{FailsToStore, FindsFull, Stores}
use Rattle.system.specs.Core.{SystemValue}
use Rattle.system.specs.Order.{IsInOrder, IsOut, stored_out, taken_out}

module _ {D : Type 0} (honest : Type 0) (view : D → View) (old : SystemValue D) (taken : TakenValue)
    (store : StoreValue D) (out : old.out ≡ Some taken) (in_use : taken.epoch ≡ old.store.segment.epoch)
    (unfailed : old.store.failed ≡ false) (under_way : store.checkpoint ≡ old.store.checkpoint)
    (passes : honest → IsSynced (view old.store.disk) (segment_slot old.store.segment.epoch)
    → PassesAppend old.store.segment.epoch (view old.store.disk) (view store.disk) taken.batch) where
  pub stores : (left : Option TakenValue) (size : ℕ) (receipt : Option ℕ) → left ≡ None → receipt ≡ Some size
      → (size ≡ taken.batch.count) × (store.segment
      ≡ record old.store.segment { records = old.store.segment.records + taken.batch.count }) × (store.failed ≡ false)
      → (honest → IsAppended old.store.segment.epoch (view old.store.disk).seen (view store.disk).seen taken.batch)
      → (honest → IsSynced (view store.disk) (segment_slot old.store.segment.epoch))
      → Stores honest view old (record old { store = store; out = left; receipt = receipt; finished_first = true })
  stores left size receipt none some counted stored synced = record {
    taken = taken;
    out = out;
    in_use = in_use;
    unfailed = unfailed;
    rest = λ i. record old {
      store =
          record {
            disk = store.disk;
            segment = counted.1 i;
            failed = (counted.2 ∙ sym unfailed) i;
            checkpoint = under_way i;
          };
      out = none i;
      receipt = (some ∙ ap Some counted.0) i;
      finished_first = true;
    };
    stored = stored;
    synced = synced;
    passes = passes;
  }

  -- or how a fault changes it, with which the batch came back
  module _ (left : Option TakenValue) (back : TakenValue) (fault : StoreFault) (again : left ≡ Some back) (same : back ≡ taken)
      (device : fault ≡ Device → (store.failed ≡ true) × (store.segment ≡ old.store.segment))
      (faults : (fault ≡ Device) ⊎ (((fault ≡ Failed) ⊎ (fault ≡ Full)) × (store ≡ old.store))) where
    is_out : left ≡ old.out
    is_out = again ∙ ap Some same ∙ sym out

    whole : store ≡ old.store → record old { store = store; out = left } ≡ old
    whole is = λ i. record old { store = is i; out = is_out i }

    pub fails : (fault ≡ Failed → old.store.failed ≡ true)
        → (fault ≡ Full → MAX_RECORDS < old.store.segment.records + taken.batch.count)
        → ((fault ≡ Failed) × (old.store.failed ≡ true) × (record old { store = store; out = left } ≡ old))
        ⊎ (((fault ≡ Device) × FailsToStore honest view old (record old { store = store; out = left }))
        ⊎ ((fault ≡ Full) × FindsFull old (record old { store = store; out = left })))
    fails failed full = elim faults [
      | inl is ↦
          let acknowledged = device is in
          inr (inl (
            is,
            record {
              taken = taken;
              out = out;
              in_use = in_use;
              unfailed = unfailed;
              rest =
                  λ i. record old {
                    store = record {
                      disk = store.disk;
                      segment = acknowledged.1 i;
                      failed = acknowledged.0 i;
                      checkpoint = under_way i;
                    };
                    out = is_out i;
                  };
              passes = passes;
            },
          ))
      | inr before ↦ elim before.0 [
        | inl is ↦ inl (is, failed is, whole before.1)
        | inr is ↦ inr (inr (
          is,
          record {
            taken = taken;
            out = out;
            in_use = in_use;
            full = full is;
            rest = whole before.1;
          },
        ))
      ]
    ]

    segment_same : store.segment ≡ old.store.segment
    segment_same = elim faults [ inl is ↦ (device is).1 | inr before ↦ ap (λ (s : StoreValue D). s.segment) before.1 ]

    pub fails_in_order : IsInOrder old → IsInOrder (record old { store = store; out = left })
    fails_in_order order = record {
      out = subst (λ (o : Option TakenValue). IsOut o old.receipt old.core.is_out) (sym is_out) order.out;
      counted =
          subst (λ (o : Option TakenValue). old.core.handed + taken_out o + stored_out old.receipt +
          old.core.older.count + old.core.log.waiting.count ≡ old.core.log.made) (sym is_out) order.counted;
      epoch = λ none. ap (λ (s : Segment). s.epoch) segment_same ∙ order.epoch (sym under_way ∙ none);
      next = λ checkpoint is. order.next checkpoint (sym under_way ∙ is);
      over = λ none. (under_way ∙ (order.over none).0, (order.over none).1);
      whole = λ epoch is. under_way ∙ order.whole epoch is;
      fresh = order.fresh;
    }
