-- Re-exports of lemmas about runs, for crates above.
pub use Rattle.recover.proofs.Crashes.{all_crashes, same_stands}
pub use Rattle.recover.proofs.Stages.{run_join}
