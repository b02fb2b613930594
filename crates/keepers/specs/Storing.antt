-- What the lock of the store protects, and what is brought there.
use Rattle.std.specs.Prelude.{◌≡◌, ℕ, ◌+◌, ◌<◌, ◌≤◌, ◌^◌, List, None, length, map, take, drop, true, false, refl}
use Rattle.std.specs.Coded.{Coded, code_by, coded×, coded_ℕ, coded_list}
use Rattle.disk.specs.Moments.{View, MayLeave, Passes}
use Rattle.disk.specs.Slots.{Slots}
use Rattle.history.specs.Entries.{records_of}
use Rattle.history.specs.contracts.entry.Entry as entry
use Rattle.history.specs.declared.entry.Entry.{Entry}
use Rattle.ipc_laws.specs.RunsKeep.{FitCalls}
use Rattle.ipc_model.specs.calls.Step.{Run, Steps}
use Rattle.ipc_model.specs.declared.record.Record.{Record}
use Rattle.ipc_model.specs.state.Circular.{Acyclic}
use Rattle.ipc_model.specs.state.LawfulState.{LawfulState}
use Rattle.ipc_model.specs.state.State.{State}
use Rattle.ipc_model.specs.store.Recovery.{IsImageOf}
use Rattle.ipc_model.specs.store.Store.{AreRecords}
use Rattle.ipc_model.specs.encodings.Encodings.{canonical_record}
use Rattle.journal.specs.Batch.{BatchValue, Holds, batch_code}
use Rattle.store_half.specs.phases.Phases.{Keeps}
use Rattle.store_layout.specs.Gates.{StandForState}
use Rattle.store_half.specs.Values.{CutValue, StoreValue, cut_code, store_code}

-- A history whose records a store can hold: steps from the base, of calls and replies that records can hold.
pub record IsRecorded (base : State) (entries : List Entry) : Type 0 where
  pub end : State
  pub run : Steps base (records_of entries) end
  pub fit : FitCalls (records_of entries)
  pub records : AreRecords (map canonical_record (records_of entries))
  pub lawful : LawfulState base
  pub acyclic : Acyclic base.ipc

-- Records of one epoch that were taken to be stored, with the history up to them: at which place of the history the
-- first one stands, and which number it has in its epoch.
pub record LoadValue : Type 0 where
  pub epoch : ℕ
  pub batch : BatchValue
  pub entries : List Entry
  pub first : ℕ
  pub number : ℕ

abbrev pub load_code : Coded LoadValue
load_code =
    code_by (ℕ × (BatchValue × (List Entry × (ℕ × ℕ))))
    (coded× coded_ℕ (coded× batch_code (coded× (coded_list entry.the_row.coded) (coded× coded_ℕ coded_ℕ))))
    (λ l. (l.epoch, (l.batch, (l.entries, (l.first, l.number)))))
    (λ p. record { epoch = p.0; batch = p.1.0; entries = p.1.1.0; first = p.1.1.1.0; number = p.1.1.1.1 })
    (λ _. refl)

pub record IsLoad (base : State) (load : LoadValue) : Type 0 where
  pub recorded : IsRecorded base load.entries
  pub some : 0 < load.batch.count
  pub within : load.first + load.batch.count ≤ length (records_of load.entries)
  pub holds : Holds load.number (take load.batch.count (drop load.first (records_of load.entries))) load.batch

-- The state at the end of an epoch, with the history up to it: this many records lead there.
pub record EndValue : Type 0 where
  pub cut : CutValue
  pub entries : List Entry
  pub earlier : ℕ

abbrev pub end_code : Coded EndValue
end_code =
    code_by (CutValue × (List Entry × ℕ)) (coded× cut_code (coded× (coded_list entry.the_row.coded) coded_ℕ))
    (λ e. (e.cut, (e.entries, e.earlier))) (λ p. record { cut = p.0; entries = p.1.0; earlier = p.1.1 }) (λ _. refl)

pub record IsEnd (base : State) (end : EndValue) : Type 0 where
  pub recorded : IsRecorded base end.entries
  pub within : end.earlier ≤ length (records_of end.entries)
  pub state : State
  pub run : Run base (take end.earlier (records_of end.entries)) state
  pub image : IsImageOf end.cut.encoding state

-- Slots that stand for the state after a prefix of these records, of at least this length.
abbrev pub StandsFor : State → ℕ → List Record → Slots → Type 0
StandsFor base least records c =
    (k : ℕ) × (least ≤ k) × (k ≤ length records)
    × ((state : State) × Run base (take k records) state × StandForState state c)

-- The half that stores, and what it knows of the history: `stored` of its records are stored, and a checkpoint under
-- way is of the state after `earlier` of them.
pub record StoreKeeperValue (D : Type 0) : Type 0 where
  pub store : StoreValue D
  pub entries : List Entry
  pub stored : ℕ
  pub earlier : ℕ

abbrev pub storer_code : {D : Type 0} → Coded D → Coded (StoreKeeperValue D)
storer_code {D = D} code =
    code_by (StoreValue D × (List Entry × (ℕ × ℕ)))
    (coded× (store_code code) (coded× (coded_list entry.the_row.coded) (coded× coded_ℕ coded_ℕ)))
    (λ s. (s.store, (s.entries, (s.stored, s.earlier))))
    (λ p. record { store = p.0; entries = p.1.0; stored = p.1.1.0; earlier = p.1.1.1 }) (λ _. refl)

-- A store that is kept with what is stored, outside a checkpoint or in one of its two phases. A checkpoint under way is
-- of the state after the earlier records.
pub record KeptAt {D : Type 0} (view : D → View) (store : StoreValue D) (base : State) (stored earlier : ℕ)
    (records : List Record) : Type 0 where
  pub state : State
  pub before : Run base (take stored records) state
  pub mid : State
  pub cut : Run base (take earlier records) mid
  pub kept : Keeps (view store.disk) store.segment store.checkpoint mid state

-- A crash leaves the state after a prefix of the history's records, no fewer than are stored.
pub record IsStoreKeeper {D : Type 0} (honest : Type 0) (view : D → View) (base : State)
    (keeper : StoreKeeperValue D) : Type 0 where
  pub recorded : IsRecorded base keeper.entries
  pub within : keeper.stored ≤ length (records_of keeper.entries)
  pub cut_within : keeper.earlier ≤ length (records_of keeper.entries)
  pub kept : honest → keeper.store.failed ≡ false
      → KeptAt view keeper.store base keeper.stored keeper.earlier (records_of keeper.entries)
  pub left : honest → keeper.store.failed ≡ true → (c : Slots) → MayLeave (view keeper.store.disk) c
      → StandsFor base keeper.stored (records_of keeper.entries) c

-- At each moment of a step, a crash leaves the state after a prefix of the records that the history has after the step,
-- no fewer than were stored before it.
abbrev pub LosesNothing : {D : Type 0} → (D → View) → State → StoreKeeperValue D → StoreKeeperValue D → Type 0
LosesNothing view base old new =
    Passes (view old.store.disk) (view new.store.disk) (StandsFor base old.stored (records_of new.entries))

-- A load is the next one: its records follow the stored ones, in the segment in use.
pub record IsNext {D : Type 0} (store : StoreValue D) (stored : ℕ) (load : LoadValue) : Type 0 where
  pub first : load.first ≡ stored
  pub epoch : load.epoch ≡ store.segment.epoch
  pub number : load.number ≡ store.segment.records

-- A checkpoint can begin with a state: the store hasn't failed, none is under way, and the state is of the end of the
-- epoch in use.
pub record CanBegin {D : Type 0} (store : StoreValue D) (end : EndValue) : Type 0 where
  pub unfailed : store.failed ≡ false
  pub none : store.checkpoint ≡ None
  pub next : end.cut.epoch ≡ store.segment.epoch + 1
  pub fits : store.segment.epoch + 1 < 2 ^ 64
