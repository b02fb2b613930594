-- How many bytes a reader has read, along with what they encode.
use Rattle.std.specs.Prelude.{◌≡◌, ℕ, ◌+◌, List, length}
use Rattle.ipc_model.specs.declared.record.Record.{Record}
use Rattle.ipc_model.specs.store.Store.{EncodesBatches}

-- Bytes encode these records, in batches of `size` bytes in all.
pub record EncodesCounted (bytes : List ℕ) (records : List Record) (size : ℕ) : Type 0 where
  pub encoded : EncodesBatches bytes records
  pub sized : size + length encoded.rest ≡ length bytes
