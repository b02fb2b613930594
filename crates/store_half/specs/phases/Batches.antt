-- Batches that are about to be stored.
use Rattle.std.specs.Prelude.{ℕ, ◌+◌, ◌<◌, ◌≤◌, List, length, map}
use Rattle.codes.specs.declared.limits.TheConstants.{MAX_RECORDS}
use Rattle.ipc_laws.specs.RunsKeep.{FitCalls}
use Rattle.ipc_model.specs.calls.Step.{Run}
use Rattle.ipc_model.specs.declared.record.Record.{Record}
use Rattle.ipc_model.specs.state.State.{State}
use Rattle.ipc_model.specs.store.Store.{AreRecords}
use Rattle.ipc_model.specs.encodings.Encodings.{canonical_record}
use Rattle.journal.specs.Batch.{BatchValue, Holds}
use Rattle.journal.specs.declared.segment.Segment.{Segment}

-- Records that lead from one state to another, and are about to be stored as a batch after `count` other records.
pub record IsReadyBatch (before after : State) (count : ℕ) (records : List Record) (batch : BatchValue) : Type 0 where
  pub run : Run before records after
  pub fit : FitCalls records
  pub are : AreRecords (map canonical_record records)
  pub some : 0 < length records
  pub room : count + length records ≤ MAX_RECORDS
  pub holds : Holds count records batch

-- a segment with this many more records
abbrev pub with_more : Segment → ℕ → Segment
with_more segment count = record segment { records = segment.records + count }
