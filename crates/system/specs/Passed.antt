-- What the crates above use of the libraries below, so that they name only one of them.
pub use Rattle.store_half.specs.phases.Batches.{IsReadyBatch, with_more}
pub use Rattle.store_half.specs.phases.Phases.{Keeps}
pub use Rattle.store_half.specs.epoch_log.Logs.{TakenValue, entry_of, next_log}
pub use Rattle.store_half.specs.Changes.{IsAppended, PassesAppend}
pub use Rattle.store_half.specs.Values.{CheckpointValue, StoreValue, store_code}
