-- A worked example of a body's rights: three send rights, made one after another for one message.
use Rattle.std.specs.Prelude.{◌≡◌, ℕ, true, List, [], ◌∷◌, Option, None, Some, option_map, Ok, replicate, refl}
use Rattle.std.proofs.Common.{ap, ◌∙◌}
use Rattle.std.specs.FinMap as finmap
use Rattle.ipc_model.specs.declared.message.RightKind.TheVariants as kind
use Rattle.ipc_model.specs.declared.port.PortState.{PortState}
use Rattle.ipc_model.specs.rights.CopyIn.{copy_in, taken_keeping}
use Rattle.ipc_model.specs.rights.Dispositions.{MakeSend}
use Rattle.ipc_model.specs.effects.Effects.{queued}
use Rattle.ipc_model.specs.messages.Items.{Item, items_of}
use Rattle.ipc_model.specs.state.Placed.{placed, send_count}
use Rattle.ipc_rows.specs.RowRules.{rows, take_one}
use Rattle.ipc_rows.specs.RowsMessages.{two_ports, three_as_sent, three_rights}
use Rattle.ipc_rows.specs.RowStates.{live}
use Rattle.ipc_model.specs.messages.Sending.{ready_to_send, take_items, TakenRights}
use Rattle.ipc_model.specs.state.Ipc.{Ipc, with_port, next_count}

-- one send right more was made from the receive right of a port
abbrev pub made_from : ℕ → Ipc → Ipc
made_from serial state =
    with_port state serial (λ port. record port { make_send_count = next_count port.make_send_count })

-- the destination's right, and the three
abbrev pub start : Ipc
start = made_from 2 two_ports

abbrev pub one_made : Ipc
one_made = made_from 1 start

abbrev pub two_made : Ipc
two_made = made_from 1 one_made

abbrev pub three_made : Ipc
three_made = made_from 1 two_made

pub destination-taken : copy_in two_ports 1 0x101 MakeSend ≡ Some (taken_keeping start (live kind.Send 2))
unfolding copy_in
destination-taken = simp rows

pub first-taken : copy_in start 1 0x100 MakeSend ≡ Some (taken_keeping one_made (live kind.Send 1))
unfolding copy_in
first-taken = simp rows

pub second-taken : copy_in one_made 1 0x100 MakeSend ≡ Some (taken_keeping two_made (live kind.Send 1))
unfolding copy_in
second-taken = simp rows

pub third-taken : copy_in two_made 1 0x100 MakeSend ≡ Some (taken_keeping three_made (live kind.Send 1))
unfolding copy_in
third-taken = simp rows

abbrev pub with_rights : ℕ → Ipc → TakenRights
with_rights n state = record { rights = replicate n (live kind.Send 1); state = state; notices = [] }

abbrev pub three_items : List Item
three_items =
    (record {
      type_name = 20;
      bits = 32;
      number = 3;
      is_long = true;
      content = 0 ∷ 1 ∷ 0 ∷ 0 ∷ 0 ∷ 1 ∷ 0 ∷ 0 ∷ 0 ∷ 1 ∷ 0 ∷ 0 ∷ [];
    }) ∷ []

pub items-taken : take_items 1 three_items (with_rights 0 start) ≡ Some (with_rights 3 three_made)
items-taken =
    let then_others : Option TakenRights → Option TakenRights =
    λ o. elim o as (λ _. Option TakenRights) [ None ↦ None | Some next ↦ Some next ] in
    ap then_others (
    take_one 1 0x100 MakeSend (0x100 ∷ 0x100 ∷ []) (with_rights 0 start)
    (taken_keeping one_made (live kind.Send 1)) refl first-taken
    ∙ take_one 1 0x100 MakeSend (0x100 ∷ []) (with_rights 1 one_made)
    (taken_keeping two_made (live kind.Send 1)) refl second-taken
    ∙ take_one 1 0x100 MakeSend [] (with_rights 2 two_made)
    (taken_keeping three_made (live kind.Send 1)) refl third-taken
    )

-- the message is ready, with the rights in the order of the names
pub three-ready : ready_to_send two_ports 1 three_as_sent
    ≡ Ok (record { message = three_rights; port = 2; state = three_made; notices = [] })
unfolding ready_to_send items_of
three-ready = simp destination-taken (rw items-taken (simp rows))

-- queued, it holds the port's three send rights
pub three-held : send_count (queued three_made 2 three_rights) 1 ≡ 3
unfolding placed
three-held = simp rows

pub three-make_send_count : option_map (λ (port : PortState). port.make_send_count) (finmap.get three_made.ports 1)
    ≡ Some 3
three-make_send_count = simp rows
