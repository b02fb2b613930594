use Rattle.std.proofs.Common.{List, sym, ◌∙◌, ◌≡◌, ◌≤◌, ap, subst}
use Rattle.ipc_model.specs.state.Ipc.{Ipc}
use Rattle.ipc_state.specs.Running.{Running}
use Rattle.snapshot.specs.declared.rows.LivePort.{LivePort}
use Rattle.snapshot.specs.declared.rows.Space.{Space}
use Rattle.snapshot_loading.specs.Filling.{opened_all, spaced_all}
use Rattle.snapshot_loading.specs.FillLaws.{MayOpen, MaySpace, nothing, skeleton_is}
use Rattle.snapshot_loading.specs.Restored.{may_open, may_space, past_all}
use Rattle.snapshot_loading.proofs.making.open_rows.Goals as goal

pub open_ports-requires : goal.open_ports-requires
open_ports-requires c =
    let old = c.args.state.now.current in
    subst (λ (rows : List LivePort). MayOpen rows old) (sym c.as_slice.ensures)
    (may_open c.args.snapshot.now c.requires.shaped old c.requires.nothing c.serial_fits.ensures)

pub set_next_serial-requires : goal.set_next_serial-requires
set_next_serial-requires c =
    let old = c.args.state.now.current in
    subst (λ (state : Ipc). state.next ≤ c.args.snapshot.now.next_serial)
    (sym (c.in_ok-open_ports.ensures ∙ ap (λ (rows : List LivePort). opened_all rows old) c.as_slice.ensures))
    (past_all c.args.snapshot.now c.requires.shaped old c.requires.nothing)

pub fill_spaces-requires : goal.fill_spaces-requires
fill_spaces-requires c =
    let snapshot = c.args.snapshot.now in
    let old = c.args.state.now.current in
    let opens =
    c.in_ok-open_ports.ensures ∙ ap (λ (rows : List LivePort). opened_all rows old) c.as_slice.ensures
    ∙ ap (opened_all snapshot.ports) c.requires.nothing in
    let now : c.set_next_serial.new.self.current
    ≡ record (opened_all snapshot.ports nothing) { next = snapshot.next_serial } = ap
    (λ (r : Running). r.current) c.set_next_serial.ensures ∙ ap
    (λ (s : Ipc). record s { next = snapshot.next_serial }) opens in
    subst (λ (state : Ipc). MaySpace c.as_slice-2.result.now state) (sym now)
    (subst (λ (rows : List Space). MaySpace rows
    (record (opened_all snapshot.ports nothing) { next = snapshot.next_serial })) (sym c.as_slice-2.ensures)
    (may_space snapshot c.requires.shaped))

pub returns : goal.returns
returns c =
    let snapshot = c.args.snapshot.now in
    let old = c.args.state.now.current in
    let opens =
    c.in_ok-open_ports.ensures ∙ ap (λ (rows : List LivePort). opened_all rows old) c.as_slice.ensures
    ∙ ap (opened_all snapshot.ports) c.requires.nothing in
    let now : c.set_next_serial.new.self.current
    ≡ record (opened_all snapshot.ports nothing) { next = snapshot.next_serial } = ap
    (λ (r : Running). r.current) c.set_next_serial.ensures ∙ ap
    (λ (s : Ipc). record s { next = snapshot.next_serial }) opens in
    c.in_ok-fill_spaces.ensures ∙ ap
    (λ (rows : List Space). spaced_all rows c.set_next_serial.new.self.current) c.as_slice-2.ensures
    ∙ ap (spaced_all snapshot.spaces) now ∙ skeleton_is snapshot
