-- The encoding of a batch that is being built.
use Rattle.std.specs.Prelude.{◌≡◌, ℕ, List, ◌++◌, length}
use Rattle.ipc_model.specs.declared.record.Record.{Record}
use Rattle.ipc_model.specs.store.Store.{batch_encoding}
use Rattle.journal.specs.Batch.{BatchValue, Holds, content_of}
use Rattle.words.specs.Words.{word, long_word}

-- the content of a batch with these records is their encoding as a batch
pub batch_of_records : (n : ℕ) (records : List Record) (batch : BatchValue) → Holds n records batch
    → content_of batch ≡ batch_encoding n records
unfolding content_of batch_encoding
batch_of_records n records batch holds =
    λ i. word (holds.counted i) ++ (long_word (length (holds.encoding i)) ++ holds.encoding i)
