-- The state that is represented by copies of a store made while its server runs.
use Rattle.disk.specs.Slots.{Slots}
use Rattle.ipc_model.specs.store.Recovery.{Recovered}
use Rattle.store_layout.specs.Standing.{as_written}
use Rattle.inspect.specs.live_reading.Moments.{Later, Moment}

-- The state recovered from the copies is one that the store had at some moment between the first and the last.
pub record StandFor (begun ended : Moment) (copies : Slots) : Type 0 where
  pub at : Moment
  pub since : Later begun at
  pub until : Later at ended
  pub recovered : Recovered (as_written copies) at.state
