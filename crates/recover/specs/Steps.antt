-- Re-exports of facts about the machine's steps, for crates above.
pub use Rattle.kernel.specs.Unrecorded.{unrecorded_step}
