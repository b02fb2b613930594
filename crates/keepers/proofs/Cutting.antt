-- The end of an epoch.
use Rattle.std.proofs.Common.{◌≡◌, ℕ, ◌+◌, ◌-◌, ◌≤◌, true, List, length, take, drop, sym, subst, arith}
use Rattle.std.specs.Prelude.{max}
use Rattle.history.specs.Entries.{records_of}
use Rattle.history.specs.declared.entry.Entry.{Entry}
use Rattle.ipc_laws.specs.RunLaws.{steps_run}
use Rattle.ipc_model.specs.calls.Step.{Run}
use Rattle.ipc_model.specs.declared.record.Record.{Record}
use Rattle.ipc_model.specs.state.State.{State}
use Rattle.keepers.specs.Keeping.{IsKernelCore}
use Rattle.keepers.proofs.Taking.{recorded_of}
use Rattle.keepers.specs.Storing.{IsEnd}
use Rattle.store_half.specs.Values.{CutValue}
use Rattle.system.proofs.Lists.{drop_long, take_end, take_long}
use Rattle.system.proofs.Logs.{drop_past, holds_as, holds_none}
use Rattle.system.specs.Halves.{Cuts, KernelValue}
use Rattle.system.specs.Passed.{next_log}

module _ (base : State) (half new : KernelValue) (entries : List Entry) (opened earlier taken older : ℕ)
    (cut : CutValue) (core : IsKernelCore base half entries opened earlier taken older) (cuts : Cuts half cut new) where
  abbrev records : List Record
  records = records_of entries

  abbrev all : ℕ
  all = length records

  -- all records of the epoch before were taken
  within : earlier ≤ taken
  within =
      omega (
        arith,
        core.waits.before_is.counted,
        cuts.can.none_older,
        drop_long taken (take earlier records),
        take_long earlier records core.counts.earlier_within,
      )

  last : max taken earlier ≡ taken
  last = omega (arith, within)

  after : IsKernelCore base (record half
      { epoch = half.epoch + 1; older = half.log.waiting; log = next_log half.log; is_cut = true }) entries 0 all taken
      half.log.length
  after = record {
    applied = core.applied;
    counts = record {
      earlier_within = omega arith;
      taken_within = core.counts.taken_within;
      log_is = omega arith;
      room = λ some. absurd (omega (arith, some));
      older_within = λ less. omega (arith, core.counts.log_is, within, core.counts.earlier_within);
      older_room = λ less. core.counts.room (omega (arith, less, within));
    };
    waits = record {
      before_is =
          holds_as (opened + (max taken earlier - earlier)) (half.log.length + taken - all)
          (drop (max taken earlier) records) (drop taken (take all records)) half.log.waiting
          (omega (arith, core.counts.log_is, within, core.counts.earlier_within, core.counts.taken_within))
          (λ i. drop (last i) (sym (take_end records) i)) core.waits.log_is;
      log_is =
          holds_none (0 + (max taken all - all)) (drop (max taken all) records)
          (drop_past (max taken all) records (omega arith));
    };
  }

  pub core_cut : IsKernelCore base new entries 0 all taken half.log.length
  core_cut = subst (λ (k : KernelValue). IsKernelCore base k entries 0 all taken half.log.length) (sym cuts.rest) after

  pub end_cut : IsEnd base (record { cut = cut; entries = entries; earlier = all })
  end_cut = record {
    recorded = recorded_of base half entries opened earlier taken older core;
    within = omega arith;
    state = half.kernel;
    run = subst (λ (l : List Record). Run base l half.kernel) (sym (take_end records))
        (steps_run base half.kernel records core.applied.run);
    image = cuts.image;
  }
