-- Lemmas on stores that are kept, for the crates above.
pub use Rattle.store_half.proofs.phases.Appends.{append_keeps, append_mid, kept_stands, kept_synced}
