-- The records of an epoch log, and parts of what was applied.
use Rattle.std.proofs.Common.{◌≡◌, ℕ, zero, suc, ◌+◌, ◌-◌, ◌≤◌, Bool, true, false, List, [], ◌∷◌, ◌++◌, length, take, drop, refl, sym, ap, subst, ◌∙◌, arith, append_assoc, length-append}
use Rattle.std.specs.Prelude.{max, map, if◌then◌else◌}
use Rattle.std.proofs.lemmas.List.{append-nil}
use Rattle.store_half.specs.epoch_log.Logs.{EpochLogValue, entry_of, with_record}
use Rattle.ipc_laws.specs.RunLaws.{run-push, steps-push}
use Rattle.ipc_laws.specs.NumberedSteps.{kept_fits}
use Rattle.ipc_laws.specs.RunsKeep.{FitCalls}
use Rattle.ipc_model.specs.calls.Step.{Run, has_record}
use Rattle.ipc_model.specs.declared.call.Call.{Call}
use Rattle.ipc_model.specs.declared.record.Record.{Record}
use Rattle.ipc_model.specs.state.State.{State}
use Rattle.ipc_model.specs.store.Store.{AreRecords}
use Rattle.ipc_model.specs.encodings.Encodings.{canonical_record, record_encoding, records_encoding, IsRecord}
use Rattle.journal.specs.Batch.{BatchValue, Holds, empty_batch, with_encoding}
use Rattle.store_half.specs.phases.Passed.{unrecorded_step}
use Rattle.system.specs.Core.{Counts, IsApplied, Wait}
use Rattle.system.specs.Halves.{Gives, KernelValue, TicketValue}
use Rattle.system.proofs.Lists.{drop_end, drop_long, drop_more, take_end, take_more}

-- records, and parts of them

records_pushed : (n : ℕ) (records : List Record) (next : Record)
    → records_encoding n (records ++ next ∷ []) ≡ records_encoding n records
    ++ record_encoding (n + length records) next
records_pushed n [] next = append-nil (record_encoding n next) ∙ ap (λ k. record_encoding k next) (omega arith)
records_pushed n (first ∷ records) next =
    ap (λ l. record_encoding n first ++ l)
    (records_pushed (n + 1) records next ∙ ap
    (λ k. records_encoding (n + 1) records ++ record_encoding k next) (omega arith))
    ∙ sym (append_assoc (record_encoding n first) (records_encoding (n + 1) records)
    (record_encoding (n + length (first ∷ records)) next))

holds_more : (n : ℕ) (records : List Record) (batch : BatchValue) (next : Record) (number : ℕ) → Holds n records batch
    → number ≡ n + length records → Holds n (records ++ next ∷ []) (with_encoding batch (record_encoding number next))
holds_more n records batch next number holds is = record {
  counted = ap (λ (k : ℕ). k + 1) holds.counted ∙ sym (length-append records (next ∷ []));
  encoding = (λ i. holds.encoding i ++ record_encoding (is i) next) ∙ sym (records_pushed n records next);
}

pub holds_as : (n m : ℕ) (records other : List Record) (batch : BatchValue) → n ≡ m → records ≡ other
    → Holds n records batch → Holds m other batch
holds_as n m records other batch same_place same holds =
    subst (λ (k : ℕ). Holds k other batch) same_place (subst (λ (l : List Record). Holds n l batch) same holds)

pub holds_none : (n : ℕ) (records : List Record) → records ≡ [] → Holds n records empty_batch
holds_none n records none =
    subst (λ (l : List Record). Holds n l empty_batch) (sym none) (record { counted = refl; encoding = refl })

-- an empty batch may be numbered from anywhere
pub empty_holds : (n m : ℕ) (batch : BatchValue) → Holds n [] batch → Holds m [] batch
empty_holds n m batch holds = record { counted = holds.counted; encoding = holds.encoding }

fit_push : (records : List Record) (next : Record) → FitCalls records → FitCalls (next ∷ [])
    → FitCalls (records ++ next ∷ [])
fit_push [] next fit one = one
fit_push (first ∷ records) next fit one = (fit.0, fit_push records next fit.1 one)

pub fit_take : (n : ℕ) (records : List Record) → FitCalls records → FitCalls (take n records)
fit_take zero records fit = tt
fit_take (suc n) [] fit = tt
fit_take (suc n) (first ∷ records) fit = (fit.0, fit_take n records fit.1)

pub fit_drop : (n : ℕ) (records : List Record) → FitCalls records → FitCalls (drop n records)
fit_drop zero records fit = fit
fit_drop (suc n) [] fit = tt
fit_drop (suc n) (first ∷ records) fit = fit_drop n records fit.1

are_push : (records : List Record) (next : Record) → AreRecords (map canonical_record records)
    → IsRecord (canonical_record next) → AreRecords (map canonical_record (records ++ next ∷ []))
are_push [] next are one = (one, tt)
are_push (first ∷ records) next are one = (are.0, are_push records next are.1 one)

pub are_take : (n : ℕ) (records : List Record) → AreRecords (map canonical_record records)
    → AreRecords (map canonical_record (take n records))
are_take zero records are = tt
are_take (suc n) [] are = tt
are_take (suc n) (first ∷ records) are = (are.0, are_take n records are.1)

pub are_drop : (n : ℕ) (records : List Record) → AreRecords (map canonical_record records)
    → AreRecords (map canonical_record (drop n records))
are_drop zero records are = are
are_drop (suc n) [] are = tt
are_drop (suc n) (first ∷ records) are = are_drop n records are.1

pub drop_at_end : (n : ℕ) (xs : List Record) → n ≡ length xs → drop n xs ≡ []
drop_at_end n xs is = ap (λ (k : ℕ). drop k xs) is ∙ drop_end xs

pub drop_past : (n : ℕ) (xs : List Record) → length xs ≤ n → drop n xs ≡ []
drop_past zero [] le = refl
drop_past (suc n) [] le = refl
drop_past zero (x ∷ xs) le = absurd (omega arith)
drop_past (suc n) (x ∷ xs) le = drop_past n xs (omega arith)

pub take_rest : (m n : ℕ) (xs : List Record) → m + n ≡ length xs → take n (drop m xs) ≡ drop m xs
take_rest m n xs is =
    let long : n ≡ length (drop m xs) = omega (arith, is, drop_long m xs) in
    ap (λ (k : ℕ). take k (drop m xs)) long ∙ take_end (drop m xs)

abbrev none_of_records : List Record
none_of_records = []

none_taken : (k : ℕ) → take k none_of_records ≡ none_of_records
none_taken zero = refl
none_taken (suc k) = refl

-- what stands before one place and after another
pub drop_take : (m n : ℕ) (xs : List Record) → drop m (take (m + n) xs) ≡ take n (drop m xs)
drop_take zero n xs = ap (λ (k : ℕ). take k xs) (omega arith)
drop_take (suc m) n [] = ap (λ (l : List Record). drop (suc m) l) (none_taken (suc m + n)) ∙ sym (none_taken n)
drop_take (suc m) n (x ∷ xs) =
    let k : suc m + n ≡ suc (m + n) = omega arith in
    ap (λ (k : ℕ). drop (suc m) (take k (x ∷ xs))) k ∙ drop_take m n xs

-- A call is made.

-- What was applied has at most one more record, and that one waits.
pub record Grows (base : State) (opened earlier taken stored : ℕ) (applied : List Record) (older : ℕ)
    (before : BatchValue) (old new : KernelValue) (more : List Record) : Type 0 where
  pub within : length applied ≤ length more
  pub front : (k : ℕ) → k ≤ length applied → take k more ≡ take k applied
  pub middle : (m n : ℕ) → m + n ≤ length applied → take n (drop m more) ≡ take n (drop m applied)
  pub on : (k : ℕ) (s : State) → k ≤ length applied → Run s (drop k applied) old.kernel → Run s (drop k more) new.kernel
  pub all : IsApplied base more new.kernel new.log.made
  pub counts : Counts opened earlier taken stored (length more) older new.log.length
  pub waits : Wait opened earlier taken more older before new.log.waiting

module _ (base : State) (opened earlier taken stored : ℕ) (applied : List Record) (older : ℕ) (before : BatchValue)
    (old new : KernelValue) (all : IsApplied base applied old.kernel old.log.made)
    (counts : Counts opened earlier taken stored (length applied) older old.log.length)
    (waits : Wait opened earlier taken applied older before old.log.waiting) where
  grows_none : new.kernel ≡ old.kernel → new.log ≡ old.log
      → Grows base opened earlier taken stored applied older before old new applied
  grows_none kernel log = record {
    within = omega arith;
    front = λ k le. refl;
    middle = λ m n le. refl;
    on = λ k s le run. subst (λ (e : State). Run s (drop k applied) e) (sym kernel) run;
    all =
        subst (λ (r : EpochLogValue). IsApplied base applied new.kernel r.made) (sym log)
        (subst (λ (e : State). IsApplied base applied e old.log.made) (sym kernel) all);
    counts =
        subst (λ (r : EpochLogValue). Counts opened earlier taken stored (length applied) older r.length)
        (sym log) counts;
    waits = subst (λ (r : EpochLogValue). Wait opened earlier taken applied older before r.waiting) (sym log) waits;
  }

  grows_one : (space : ℕ) (c : Call) (ticket : TicketValue) → Gives old space c ticket new
      → has_record c ticket.answer ≡ true
      → Grows base opened earlier taken stored applied older before old new
      (applied ++ entry_of space c ticket.answer ∷ [])
  grows_one space c ticket gives recorded =
      let entry = entry_of space c ticket.answer in
      let more : List Record = applied ++ entry ∷ [] in
      let log : new.log ≡ with_record old.log entry =
      gives.log ∙ ap (λ (b : Bool). if b then with_record old.log entry else old.log) recorded in
      let long : length more ≡ length applied + 1 = length-append applied (entry ∷ []) in
      let longer : new.log.length ≡ old.log.length + 1 = ap (λ (r : EpochLogValue). r.length) log in
      let last : ℕ = max taken earlier in
      let last_within : last ≤ length applied = omega (arith, counts.earlier_within, counts.taken_within) in
      record {
        within = omega (arith, long);
        front = λ k le. take_more k applied (entry ∷ []) le;
        middle =
            λ m n le. ap (λ (l : List Record). take n l) (drop_more m applied (entry ∷ []) (omega arith))
            ∙ take_more n (drop m applied) (entry ∷ []) (omega (arith, drop_long m applied));
        on =
            λ k s le run. subst (λ (l : List Record). Run s l new.kernel) (sym (drop_more k applied (entry ∷ []) le))
            (run-push s old.kernel new.kernel (drop k applied) entry run gives.step);
        all = record {
          run = steps-push base old.kernel new.kernel applied entry all.run gives.step;
          fit = fit_push applied entry all.fit ((gives.fits, kept_fits entry.reply (gives.kept recorded).reply.fits), tt);
          records = are_push applied entry all.records (gives.kept recorded);
          made_is = omega (arith, ap (λ (r : EpochLogValue). r.made) log, all.made_is, long);
          lawful = all.lawful;
          acyclic = all.acyclic;
        };
        counts = record {
          earlier_within = omega (arith, counts.earlier_within, long);
          taken_within = omega (arith, counts.taken_within, long);
          log_is = omega (arith, longer, counts.log_is, counts.earlier_within, long);
          room = λ _. omega (arith, gives.room recorded, longer);
          older_within = counts.older_within;
          older_room = counts.older_room;
        };
        waits = record {
          before_is =
              subst (λ (l : List Record). Holds (older + taken - earlier) (drop taken l) before)
              (sym (take_more earlier applied (entry ∷ []) counts.earlier_within)) waits.before_is;
          log_is = subst (λ (r : EpochLogValue). Holds (opened + (last - earlier)) (drop last more) r.waiting) (sym log)
              (subst (λ (l : List Record). Holds (opened + (last - earlier)) l
              (with_encoding old.log.waiting (record_encoding old.log.length entry)))
              (sym (drop_more last applied (entry ∷ []) last_within))
              (holds_more (opened + (last - earlier))
              (drop last applied) old.log.waiting entry old.log.length waits.log_is
              (omega (arith, counts.log_is, last_within, counts.earlier_within, drop_long last applied))));
        };
      }

  pub grown : (space : ℕ) (c : Call) (ticket : TicketValue) → Gives old space c ticket new → (b : Bool)
      → has_record c ticket.answer ≡ b
      → Grows base opened earlier taken stored applied older before old new
      (applied ++ (if b then entry_of space c ticket.answer ∷ [] else []))
  grown space c ticket gives true recorded = grows_one space c ticket gives recorded
  grown space c ticket gives false none =
      subst (Grows base opened earlier taken stored applied older before old new) (sym (append-nil applied))
      (grows_none (unrecorded_step old.kernel space c ticket.answer new.kernel gives.step none)
      (gives.log ∙ ap (λ (b : Bool). if b then with_record old.log (entry_of space c ticket.answer) else old.log)
      none))
