-- Re-exports from libraries below, so that crates above name only this one.
pub use Rattle.ipc_state.specs.Passed.{PortNumbers, numbers_of}
