-- An open store between calls.
use Rattle.std.specs.Prelude.{◌≡◌, List, length}
use Rattle.codes.specs.StoreVersion.{current}
use Rattle.codes.specs.declared.store_version.StoreVersion.{StoreVersion}
use Rattle.disk.specs.Moments.{View}
use Rattle.disk.specs.Slots.{slot_of}
use Rattle.ipc_model.specs.calls.Step.{Run}
use Rattle.ipc_model.specs.declared.record.Record.{Record}
use Rattle.ipc_model.specs.state.State.{State}
use Rattle.ipc_model.specs.store.Store.{IsInUseOf}
use Rattle.journal.specs.declared.segment.Segment.{Segment}
use Rattle.slot_steps.specs.Steps.{segment_slot}
use Rattle.store_layout.specs.Standing.{InOne}
use Rattle.recover.specs.AtRest.{IsAtRest}

-- The disk is synced. It holds the image of the epoch in use and its segment of this version, with this many records
-- and a closed gate after them. The state is that after the records. The other slots are ignored.
pub record IsKeptIn (version : StoreVersion) (disk : View) (segment : Segment) (state : State) : Type 0 where
  pub at_rest : IsAtRest disk
  pub base : State
  pub records : List Record
  pub stands : InOne disk.seen segment.epoch base records
  pub in_use : IsInUseOf version segment.epoch (slot_of disk.seen (segment_slot segment.epoch)) records
  pub run : Run base records state
  pub counted : segment.records ≡ length records

-- the same with the current version: a server can continue from it
abbrev pub IsKept : View → Segment → State → Type 0
IsKept = IsKeptIn current
