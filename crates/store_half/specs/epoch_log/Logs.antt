-- The values of an epoch log, and of the records that it releases, in contracts.
use Rattle.std.specs.Prelude.{◌≡◌, ℕ, ◌+◌, if◌then◌else◌, refl}
use Rattle.std.specs.Coded.{Coded, code_by, coded×, coded_ℕ}
use Rattle.ipc_model.specs.calls.Step.{has_record}
use Rattle.ipc_model.specs.declared.call.Call.{Call}
use Rattle.ipc_model.specs.declared.reply.Reply.{Reply}
use Rattle.ipc_model.specs.declared.record.Record.{Record}
use Rattle.ipc_model.specs.encodings.Encodings.{canonical_record, record_encoding, IsRecord}
use Rattle.journal.specs.Batch.{BatchValue, batch_code, empty_batch, with_encoding}

-- The log of an epoch: the number of its records; the number of records that were made since the store was opened, in
-- all epochs; and the last records of the log, which haven't been taken yet.
pub record EpochLogValue : Type 0 where
  pub length : ℕ
  pub made : ℕ
  pub waiting : BatchValue

abbrev pub log_code : Coded EpochLogValue
log_code =
    code_by (ℕ × (ℕ × BatchValue)) (coded× coded_ℕ (coded× coded_ℕ batch_code)) (λ r. (r.length, (r.made, r.waiting)))
    (λ p. record { length = p.0; made = p.1.0; waiting = p.1.1 }) (λ _. refl)

abbrev pub entry_of : ℕ → Call → Reply → Record
entry_of space c answer = record { space = space; call = c; reply = answer }

-- the log with one more record, which has the next number
abbrev pub with_record : EpochLogValue → Record → EpochLogValue
with_record log entry =
    record {
      length = log.length + 1;
      made = log.made + 1;
      waiting = with_encoding log.waiting (record_encoding log.length entry);
    }

-- the log after a call with this reply
abbrev pub log_after : EpochLogValue → ℕ → Call → Reply → EpochLogValue
log_after log space c answer = if has_record c answer then with_record log (entry_of space c answer) else log

-- A record was appended to the log, and its canonical form is valid in a segment.
abbrev pub Wrote : EpochLogValue → ℕ → Call → Reply → EpochLogValue → Type 0
Wrote old space c answer new =
    (new ≡ with_record old (entry_of space c answer)) × IsRecord (canonical_record (entry_of space c answer))

-- the log of the next epoch, without records
abbrev pub next_log : EpochLogValue → EpochLogValue
next_log log = record { length = 0; made = log.made; waiting = empty_batch }

-- records of one epoch that were taken to be stored
pub record TakenValue : Type 0 where
  pub epoch : ℕ
  pub batch : BatchValue

abbrev pub taken_code : Coded TakenValue
taken_code =
    code_by (ℕ × BatchValue) (coded× coded_ℕ batch_code) (λ t. (t.epoch, t.batch))
    (λ p. record { epoch = p.0; batch = p.1 }) (λ _. refl)
