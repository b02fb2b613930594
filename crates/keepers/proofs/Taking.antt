-- Records that are taken to be stored, with the history up to them.
use Rattle.std.proofs.Common.{◌≡◌, ◌⊎◌, ℕ, ◌+◌, ◌-◌, ◌<◌, ◌≤◌, nat_lt, Bool, true, List, [], ◌∷◌, length, take, drop, refl, sym, ap, subst, ◌∙◌, inl, inr, arith}
use Rattle.std.specs.Prelude.{◌^◌, max, MatchBool}
use Rattle.std.proofs.lemmas.Bool.{le-ltb, lt-ltb}
use Rattle.std.proofs.lemmas.List.{drop-take}
use Rattle.std.proofs.Math.Seq.{take-length}
use Rattle.history.specs.declared.entry.Entry.{Entry}
use Rattle.ipc_model.specs.declared.record.Record.{Record}
use Rattle.ipc_model.specs.state.State.{State}
use Rattle.journal.specs.Batch.{BatchValue, Holds, empty_batch}
use Rattle.keepers.specs.Keeping.{IsKernelCore, first_number}
use Rattle.keepers.specs.Storing.{IsLoad, IsRecorded}
use Rattle.history.specs.Entries.{records_of}
use Rattle.system.proofs.Lists.{drop_long, take_long}
use Rattle.system.specs.Halves.{KernelValue}
use Rattle.system.specs.Passed.{TakenValue}

pub recorded_of : (base : State) (half : KernelValue) (entries : List Entry) (opened earlier taken older : ℕ)
    → IsKernelCore base half entries opened earlier taken older → IsRecorded base entries
recorded_of base half entries opened earlier taken older core = record {
  end = half.kernel;
  run = core.applied.run;
  fit = core.applied.fit;
  records = core.applied.records;
  lawful = core.applied.lawful;
  acyclic = core.applied.acyclic;
}

no_records : (n : ℕ) (records : List Record) → length records ≡ 0 → Holds n records empty_batch
no_records n [] none = record { counted = refl; encoding = refl }
no_records n (r ∷ records) none = absurd (omega (arith, none))

empty_of : (n : ℕ) (records : List Record) (batch : BatchValue) → Holds n records batch → length records ≡ 0
    → empty_batch ≡ batch
empty_of n [] batch holds none = λ i. record { count = sym holds.counted i; body = sym holds.encoding i }
empty_of n (r ∷ records) batch holds none = absurd (omega (arith, none))

-- what a batch of the epoch before has, and what a batch of the epoch log has
abbrev pub HasOlder : KernelValue → TakenValue → KernelValue → Type 0
HasOlder old taken new =
    (taken.epoch + 1 ≡ old.epoch) × (taken.batch ≡ old.older)
    × (new ≡ record old { older = empty_batch; is_out = true })

abbrev pub HasLog : KernelValue → TakenValue → KernelValue → Type 0
HasLog old taken new =
    (old.older.count ≡ 0) × (taken.epoch ≡ old.epoch) × (taken.batch ≡ old.log.waiting)
    × (new ≡ record old { log = record old.log { waiting = empty_batch }; is_out = true })

-- What was taken is a load, and the core stays valid.
pub record IsTaken (base : State) (new : KernelValue) (entries : List Entry) (opened earlier taken older number : ℕ)
    (load : TakenValue) : Type 0 where
  pub is_load : IsLoad base
      (record { epoch = load.epoch; batch = load.batch; entries = entries; first = taken; number = number })
  pub core : IsKernelCore base new entries opened earlier (taken + load.batch.count) older

module _ (base : State) (half new : KernelValue) (entries : List Entry) (opened earlier taken older : ℕ)
    (core : IsKernelCore base half entries opened earlier taken older) (load : TakenValue)
    (some : 0 < load.batch.count) where
  abbrev records : List Record
  records = records_of entries

  before_long : length (drop taken (take earlier records)) ≡ earlier - taken
  before_long =
      drop_long taken (take earlier records) ∙ ap
      (λ (n : ℕ). n - taken) (take_long earlier records core.counts.earlier_within)

  pub older_taken : HasOlder half load new
      → IsTaken base new entries opened earlier taken older (older - (earlier - taken)) load
  older_taken is =
      let count : load.batch.count ≡ earlier - taken =
      ap (λ (b : BatchValue). b.count) is.1 ∙ core.waits.before_is.counted ∙ before_long in
      let all : earlier ≡ taken + load.batch.count = omega (arith, count, some) in
      let number : older + taken - earlier ≡ older - (earlier - taken) =
      omega (arith, all, some, core.counts.older_within (omega (arith, all, some))) in
      let same : drop taken (take earlier records) ≡ take load.batch.count (drop taken records) =
      ap (λ (n : ℕ). drop taken (take n records)) all ∙ drop-take taken load.batch.count records in
      record {
        is_load = record {
          recorded = recorded_of base half entries opened earlier taken older core;
          some = some;
          within = omega (arith, all, core.counts.earlier_within);
          holds =
              subst (λ (b : BatchValue). Holds (older - (earlier - taken))
              (take load.batch.count (drop taken records)) b) (sym is.1)
              (subst (λ (l : List Record). Holds (older - (earlier - taken)) l half.older) same
              (subst (λ (n : ℕ). Holds n (drop taken (take earlier records)) half.older) number
              core.waits.before_is));
        };
        core =
            subst (λ (k : KernelValue). IsKernelCore base k entries opened earlier (taken + load.batch.count) older)
            (sym is.2) (record {
              applied = core.applied;
              counts = record {
                earlier_within = core.counts.earlier_within;
                taken_within = omega (arith, all, core.counts.earlier_within);
                log_is = core.counts.log_is;
                room = core.counts.room;
                older_within = λ less. absurd (omega (arith, less, all));
                older_room = λ less. absurd (omega (arith, less, all));
              };
              waits = record {
                before_is =
                    no_records (older + (taken + load.batch.count) - earlier)
                    (drop (taken + load.batch.count) (take earlier records))
                    (drop_long (taken + load.batch.count) (take earlier records) ∙ ap
                    (λ (n : ℕ). n - (taken + load.batch.count)) (take_long earlier records core.counts.earlier_within)
                    ∙ omega (arith, all));
                log_is =
                    subst (λ (n : ℕ). Holds (opened + (n - earlier)) (drop n records) half.log.waiting)
                    (omega (arith, all, some)) core.waits.log_is;
              };
            });
      }

  pub log_taken : HasLog half load new
      → IsTaken base new entries opened earlier taken older (opened + (taken - earlier)) load
  log_taken is =
      let none : earlier - taken ≡ 0 = sym before_long ∙ sym core.waits.before_is.counted ∙ is.0 in
      let greatest : max taken earlier ≡ taken = omega (arith, none) in
      let log : Holds (opened + (taken - earlier)) (drop taken records) half.log.waiting =
      subst (λ (n : ℕ). Holds (opened + (n - earlier)) (drop n records) half.log.waiting) greatest core.waits.log_is
      in
      let count : load.batch.count ≡ length records - taken =
      ap (λ (b : BatchValue). b.count) is.2 ∙ log.counted ∙ drop_long taken records in
      let all : taken + load.batch.count ≡ length records = omega (arith, count, core.counts.taken_within) in
      let whole : take load.batch.count (drop taken records) ≡ drop taken records =
      ap (λ (n : ℕ). take n (drop taken records)) (count ∙ sym (drop_long taken records))
      ∙ take-length (drop taken records) in
      record {
        is_load = record {
          recorded = recorded_of base half entries opened earlier taken older core;
          some = some;
          within = omega (arith, all);
          holds =
              subst (λ (b : BatchValue). Holds (opened + (taken - earlier))
              (take load.batch.count (drop taken records)) b) (sym is.2)
              (subst (λ (l : List Record). Holds (opened + (taken - earlier)) l half.log.waiting) (sym whole) log);
        };
        core =
            subst (λ (k : KernelValue). IsKernelCore base k entries opened earlier (taken + load.batch.count) older)
            (sym is.3) (record {
              applied = core.applied;
              counts = record {
                earlier_within = core.counts.earlier_within;
                taken_within = omega (arith, all);
                log_is = core.counts.log_is;
                room = core.counts.room;
                older_within = λ less. absurd (omega (arith, less, none));
                older_room = λ less. absurd (omega (arith, less, none));
              };
              waits = record {
                before_is =
                    subst (λ (b : BatchValue). Holds (older + (taken + load.batch.count) - earlier)
                    (drop (taken + load.batch.count) (take earlier records)) b)
                    (empty_of (older + taken - earlier)
                    (drop taken (take earlier records)) half.older core.waits.before_is (before_long ∙ none))
                    (no_records (older + (taken + load.batch.count) - earlier)
                    (drop (taken + load.batch.count) (take earlier records))
                    (drop_long (taken + load.batch.count) (take earlier records) ∙ ap
                    (λ (n : ℕ). n - (taken + load.batch.count)) (take_long earlier records core.counts.earlier_within)
                    ∙ omega (arith, none)));
                log_is =
                    no_records (opened + (max (taken + load.batch.count) earlier - earlier))
                    (drop (max (taken + load.batch.count) earlier) records)
                    (drop_long (max (taken + load.batch.count) earlier) records ∙ omega (arith, all, none));
              };
            });
      }

  -- Either way: what its first number has to be, and what it makes.

  none_before : HasLog half load new → earlier ≤ taken
  none_before is = omega (arith, before_long, core.waits.before_is.counted, is.0)

  some_before : HasOlder half load new → taken < earlier
  some_before is = omega (arith, before_long, core.waits.before_is.counted, ap (λ (b : BatchValue). b.count) is.1, some)

  pub taken_bounds : HasOlder half load new ⊎ HasLog half load new → half.log.length < 2 ^ 64
      → MatchBool (nat_lt load.epoch half.epoch) ((taken ≤ earlier) × (earlier - taken ≤ older))
      ((earlier ≤ taken) × (opened + (taken - earlier) < 2 ^ 64))
  taken_bounds (inl is) fits =
      subst (λ (b : Bool). MatchBool b ((taken ≤ earlier) × (earlier - taken ≤ older))
      ((earlier ≤ taken) × (opened + (taken - earlier) < 2 ^ 64)))
      (sym (lt-ltb load.epoch half.epoch (omega (arith, is.0))))
      (omega (arith, some_before is), omega (arith, core.counts.older_within (some_before is)))
  taken_bounds (inr is) fits =
      subst (λ (b : Bool). MatchBool b ((taken ≤ earlier) × (earlier - taken ≤ older))
      ((earlier ≤ taken) × (opened + (taken - earlier) < 2 ^ 64)))
      (sym (le-ltb load.epoch half.epoch (omega (arith, is.1))))
      (none_before is, omega (arith, core.counts.log_is, core.counts.taken_within, fits))

  pub taken_all : HasOlder half load new ⊎ HasLog half load new
      → IsTaken base new entries opened earlier taken older
      (first_number opened earlier older taken (nat_lt load.epoch half.epoch)) load
  taken_all (inl is) =
      subst (λ (b : Bool). IsTaken base new entries opened earlier taken older
      (first_number opened earlier older taken b) load) (sym (lt-ltb load.epoch half.epoch (omega (arith, is.0))))
      (older_taken is)
  taken_all (inr is) =
      subst (λ (b : Bool). IsTaken base new entries opened earlier taken older
      (first_number opened earlier older taken b) load) (sym (le-ltb load.epoch half.epoch (omega (arith, is.1))))
      (log_taken is)

  pub taken_handed : HasOlder half load new ⊎ HasLog half load new → new.handed ≡ half.handed
  taken_handed (inl is) = ap (λ (k : KernelValue). k.handed) is.2
  taken_handed (inr is) = ap (λ (k : KernelValue). k.handed) is.3
