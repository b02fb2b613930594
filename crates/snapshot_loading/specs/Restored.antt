-- The tests of a snapshot's rows, and the state that the rows describe.
use Rattle.std.specs.Prelude.{IfOk, IsErrOf, IsOk, IsTrue, OnOk, Result, Ok, Err}
use Rattle.std.specs.declared.alloc.AllocError.{AllocError}
use Rattle.snapshot_loading.specs.declared.making.SnapshotFault.{SnapshotFault}
use Rattle.snapshot_loading.specs.declared.making.SnapshotFault.TheVariants.{NotLawful}
use Rattle.std.proofs.Common.{◌≡◌, ◌↔◌, Bool, false, ℕ, ◌-◌, ◌<◌, ◌≤◌, ◌^◌, true, None, refl, sym, ◌∙◌, ap, subst, arith}
use Rattle.std.specs.Ordering.{nat_cmp}
use Rattle.std.specs.FinMap.{get, len, len-empty}
use Rattle.std.proofs.lemmas.List.Elements.{All-weaker}
use Rattle.ipc_laws.specs.OpeningLaws.{none_in_empty}
use Rattle.ipc_model.specs.declared.port.PortState.{PortState}
use Rattle.ipc_model.specs.state.Circular.{Acyclic}
use Rattle.ipc_model.specs.state.Lawful.{Lawful, ShortQueues}
use Rattle.ipc_model.specs.state.Ipc.{Names, Ipc}
use Rattle.snapshot.specs.LawfulSnapshot.{IsLawfulIpc}
use Rattle.snapshot.specs.Snapshots.{ipc_snapshot_of}
use Rattle.snapshot.specs.declared.rows.LivePort.{LivePort}
use Rattle.snapshot.specs.declared.rows.IpcSnapshot.{IpcSnapshot}
use Rattle.snapshot_loading.specs.Climbing.{doubled, up_of}
use Rattle.snapshot_loading.specs.ClimbLaws.{hops_end}
use Rattle.snapshot_loading.specs.Filling.{filled_all, opened_all}
use Rattle.snapshot_loading.specs.FillLaws.{MayOpen, MaySpace, looks_same, nothing, opened_next, opened_spaces, skeleton, whole_is}
use Rattle.snapshot_loading.specs.LawfulRows.{lawful_one, lawful_state, linked, received, shaped, short_state}
use Rattle.snapshot_loading.specs.Linked.{Looks, is_linked, looks_of}
use Rattle.snapshot_loading.specs.Received.{AreOthers, AreSorted}
use Rattle.snapshot.specs.Rows.{NamesAscend, Ascends, is_of_rows, state_of_rows}
use Rattle.snapshot_loading.specs.Shaped.{IsShaped, IsShapedPort, IsShapedSpace}

pub shaped_lawful : (snapshot : IpcSnapshot) → IsLawfulIpc snapshot → IsShaped snapshot
shaped_lawful snapshot lawful = shaped lawful.state snapshot lawful.same lawful.lawful lawful.short

module _ (snapshot : IpcSnapshot) (shape : IsShaped snapshot) where
  ascends : Ascends snapshot
  ascends =
      record {
        spaces = shape.spaces_ascend;
        names = All-weaker IsShapedSpace NamesAscend (λ row own. own.ascend) snapshot.spaces shape.spaces;
        ports = shape.ports_ascend;
      }

  pub same_rows : snapshot ≡ ipc_snapshot_of (state_of_rows snapshot)
  same_rows = is_of_rows snapshot ascends

  one : IsLawfulIpc snapshot → Lawful (state_of_rows snapshot) × Acyclic (state_of_rows snapshot)
      × ShortQueues (state_of_rows snapshot)
  one lawful = lawful_one (state_of_rows snapshot) snapshot same_rows lawful

  looks_are : looks_of (skeleton snapshot) ≡ looks_of (state_of_rows snapshot)
  looks_are = looks_same snapshot shape.ports_ascend

  pub whole_rows : filled_all snapshot.ports (skeleton snapshot) ≡ state_of_rows snapshot
  whole_rows = whole_is snapshot shape.ports_ascend

  -- the rows of a lawful snapshot pass each test

  pub linked_lawful : IsLawfulIpc snapshot → is_linked (looks_of (skeleton snapshot)) snapshot ≡ true
  linked_lawful lawful =
      ap (λ (looks : Looks). is_linked looks snapshot) looks_are
      ∙ linked (state_of_rows snapshot) snapshot same_rows (one lawful).0

  pub received_lawful : IsLawfulIpc snapshot → AreOthers snapshot → ⊥
  received_lawful lawful others =
      others.other (received (state_of_rows snapshot) snapshot same_rows
      (one lawful).0 others.sorted others.moved others.ascend)

  pub acyclic_lawful : IsLawfulIpc snapshot → (q : ℕ) → doubled 15 (up_of (state_of_rows snapshot)) q ≡ None
  acyclic_lawful lawful = hops_end (state_of_rows snapshot) (one lawful).1 (one lawful).0.few_ports

  -- rows that pass the tests are those of a lawful state

  pub lawful_rows : snapshot.next_serial < 2 ^ 64 → is_linked (looks_of (skeleton snapshot)) snapshot ≡ true
      → AreSorted snapshot → Lawful (state_of_rows snapshot)
  lawful_rows fits links sorted =
      lawful_state (state_of_rows snapshot) snapshot same_rows shape fits
      (sym (ap (λ (looks : Looks). is_linked looks snapshot) looks_are) ∙ links) sorted.sorted sorted.moved
      sorted.same

  pub short_rows : ShortQueues (state_of_rows snapshot)
  short_rows = short_state (state_of_rows snapshot) snapshot same_rows shape

  -- a state may be filled from such rows

  pub may_open : (state : Ipc) → state ≡ nothing → snapshot.next_serial < 2 ^ 64 → MayOpen snapshot.ports state
  may_open state is fits = subst (MayOpen snapshot.ports) (sym is) (record {
    few = omega (arith, shape.few_ports, len-empty nat_cmp PortState);
    below = λ k port there. absurd (none_in_empty k port there);
    ascend = shape.ports_ascend;
    fits =
        All-weaker (IsShapedPort snapshot.next_serial) (λ (row : LivePort). row.serial < 2 ^ 64 - 1)
        (λ row own. omega (arith, own.below, fits)) snapshot.ports shape.ports;
  })

  pub past_all : (state : Ipc) → state ≡ nothing → (opened_all snapshot.ports state).next ≤ snapshot.next_serial
  past_all state is =
      subst (λ (s : Ipc). (opened_all snapshot.ports s).next ≤ snapshot.next_serial) (sym is)
      (opened_next snapshot.next_serial snapshot.ports nothing (omega (arith, shape.next)) shape.ports)

  pub may_space : MaySpace snapshot.spaces (record (opened_all snapshot.ports nothing) { next = snapshot.next_serial })
  may_space = record {
    from = 1;
    below =
        λ k names there. absurd (none_in_empty k names
        (sym (ap (λ m. get m k) (opened_spaces snapshot.ports nothing)) ∙ there));
    ascend = shape.spaces_ascend;
    few = omega (arith, ap len (opened_spaces snapshot.ports nothing), len-empty nat_cmp Names);
    each = shape.spaces;
  }

-- filling succeeds exactly if the snapshot is lawful, unless out of memory
pub reported : (answer : Result Bool AllocError) (outcome : Result (Unit {0}) SnapshotFault) (L : Type 0)
    → IfOk answer (λ yes. IsTrue yes → IsOk outcome) → IfOk answer (λ yes. yes ≡ false → IsErrOf outcome NotLawful)
    → (IsOk outcome → L) → (IsErrOf outcome NotLawful → L → ⊥) → IfOk answer (λ yes. IsTrue yes ↔ L)
reported (Ok true) outcome L first second is isnt = (λ _. is (first refl), λ _. refl)
reported (Ok false) outcome L first second is isnt = (λ e. absurd (cc e), λ lawful. absurd (isnt (second refl) lawful))
reported (Err e) outcome L first second is isnt = tt

pub all_reported : (outcome : Result (Unit {0}) SnapshotFault) (snapshot : IpcSnapshot) (state : Ipc)
    → OnOk outcome ((snapshot ≡ ipc_snapshot_of state) × Lawful state × Acyclic state × ShortQueues state)
    → IsOk outcome
    → IsLawfulIpc snapshot
all_reported (Ok done) snapshot state filled is =
    record { state = state; same = filled.0; lawful = filled.1; acyclic = filled.2; short = filled.3 }
all_reported (Err e) snapshot state filled is = absurd (cc is)
