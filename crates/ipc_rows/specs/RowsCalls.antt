-- Worked examples of whole steps of calls on names.
use Rattle.std.specs.Prelude.{◌≡◌, ℕ, ◌-◌, ◌^◌, true, false, List, [], ◌∷◌, None, Some, refl}
use Rattle.std.specs.FinMap as finmap
use Rattle.ipc_model.specs.declared.plain_call.PlainCall.TheVariants as call
use Rattle.ipc_model.specs.declared.plain_reply.PlainReply.TheVariants as reply
use Rattle.ipc_model.specs.declared.entry.Entry.{Entry}
use Rattle.ipc_model.specs.declared.entry.Entry.TheVariants.{Port, SendOnce, Set, Dead}
use Rattle.ipc_model.specs.declared.message.RightKind.TheVariants as kind
use Rattle.ipc_model.specs.calls.Actions.{Done}
use Rattle.ipc_model.specs.rights.CopyIn.{copy_in}
use Rattle.ipc_model.specs.effects.Effects.{settled, effect, release, after_death}
use Rattle.ipc_model.specs.calls.PortCalls.{tests_of}
use Rattle.ipc_laws.specs.MapLaws.{map_rules}
use Rattle.ipc_rows.specs.RowRules.{rows, settles_adding, entry-after_death}
use Rattle.ipc_rows.specs.RowStates.{rights_to, names_of, in_space_1}
use Rattle.ipc_model.specs.state.Ipc.{Ipc, new_port, with_names, with_port, with_entry, entry_at}
use Rattle.std.proofs.Common.{ap, ◌∙◌, arith}
use Rattle.ipc_model.specs.calls.PlainStep.{PlainStep}

abbrev pub a_port : List (ℕ × Entry)
a_port = (0x100, rights_to 1 true 0) ∷ []

abbrev pub alone : Ipc
alone = in_space_1 a_port ((1, new_port) ∷ [])

-- A send-once right is made under a new name.
abbrev pub once_made : Ipc
once_made = with_names alone 1 (finmap.insert (names_of a_port) 0x101 (SendOnce 1 None))

pub extract-once : PlainStep alone 1 (call.ExtractRight 0x100 21) (reply.Extracted 0x101 kind.SendOnce) once_made
unfolding PlainStep Done tests_of copy_in
extract-once = (
  once_made,
  [],
  simp rows (
    0x101,
    refl,
    (record { least = omega arith; below_dead = omega arith; free = simp map_rules }, refl, refl),
  ),
  settled,
)

-- A copied send right comes out under the name of its port, as one more reference.
abbrev pub three_references : List (ℕ × Entry)
three_references = (0x300, rights_to 1 true 3) ∷ []

abbrev pub with_three : Ipc
with_three = in_space_1 three_references ((1, new_port) ∷ [])

abbrev pub with_four : Ipc
with_four = with_names with_three 1 (finmap.insert (names_of three_references) 0x300 (rights_to 1 true 4))

pub extract-send : PlainStep with_three 1 (call.ExtractRight 0x300 19) (reply.Extracted 0x300 kind.Send) with_four
unfolding PlainStep Done tests_of copy_in
extract-send = (with_four, [], simp rows (0x300, refl, (refl, refl, refl)), settled)

-- The receive right goes: the name is left with the references, as a dead name.
abbrev pub four_references : List (ℕ × Entry)
four_references = (0x300, rights_to 1 true 4) ∷ []

abbrev pub receive_gone : Ipc
receive_gone = with_entry (in_space_1 four_references ((1, new_port) ∷ [])) 1 0x300 (rights_to 1 false 4)

pub gone-death : (effect receive_gone (release kind.Receive 1)).1 ≡ []
unfolding effect
gone-death = simp rows

pub gone-step : PlainStep (in_space_1 four_references ((1, new_port) ∷ [])) 1 (call.ModRefs 0x300 1 (2 ^ 32 - 1))
    (reply.Done 9) (effect receive_gone (release kind.Receive 1)).0
unfolding PlainStep Done tests_of
gone-step =
    (receive_gone, release kind.Receive 1 ∷ [], simp rows (refl, refl, refl), settles_adding [] gone-death settled)

pub gone-died : (effect receive_gone (release kind.Receive 1)).0 ≡ after_death receive_gone 1
unfolding effect
gone-died = simp rows

pub gone-dead : entry_at (effect receive_gone (release kind.Receive 1)).0 1 0x300 ≡ Some (Dead 4)
gone-dead = ap (λ (s : Ipc). entry_at s 1 0x300) gone-died ∙ entry-after_death receive_gone 1 1 0x300 ∙ simp rows

-- A port becomes a member of a set.
abbrev pub port_and_set : Ipc
port_and_set = in_space_1 ((0x100, rights_to 1 true 0) ∷ (0x101, Set) ∷ []) ((1, new_port) ∷ [])

abbrev pub port_in_set : Ipc
port_in_set = with_port port_and_set 1 (λ port. record port { set = Some 0x101 })

pub member-step : PlainStep port_and_set 1 (call.MoveMember 0x100 0x101) (reply.Done 15) port_in_set
unfolding PlainStep Done tests_of
member-step = (port_in_set, [], simp rows (refl, refl, refl), settled)

-- A space is made, whose one name holds a send right.
abbrev pub two_spaces : Ipc
two_spaces =
    with_names (with_port alone 1 (λ port. record port { make_send_count = 1 })) 2
    (finmap.insert finmap.empty 0x100 (rights_to 1 false 1))

pub space-step : PlainStep alone 1 (call.SpaceCreate 0x100 20) (reply.SpaceCreated 2 0x100) two_spaces
unfolding PlainStep Done tests_of copy_in
space-step = (
  two_spaces,
  [],
  simp rows (
    2,
    0x100,
    record { least = omega arith; greatest = omega arith; free = simp rows },
    refl,
    record { least = omega arith; below_dead = omega arith; free = simp map_rules },
    refl,
    refl,
  ),
  settled,
)

-- A task can go on in it, and finds the name there.
pub attach-step : PlainStep two_spaces 1 (call.Attach 2) (reply.Done 0) two_spaces
unfolding PlainStep Done tests_of
attach-step = (two_spaces, [], simp rows (refl, refl, refl), settled)

pub attached-type : PlainStep two_spaces 2 (call.Type 0x100) (reply.Type 0x10000) two_spaces
unfolding PlainStep Done tests_of
attached-type = (two_spaces, [], simp rows (refl, refl, refl), settled)

-- A dead-name request is kept; a second one gives the first one's target back under a new name.
abbrev pub requested : Entry
requested = Port (record { port = 1; receive = true; send = 0; dead_name_target = Some 1 })

abbrev pub with_request : Ipc
with_request = with_entry alone 1 0x100 requested

pub request-step : PlainStep alone 1 (call.RequestNotification 0x100 72 0 0x100 21) (reply.PreviousTarget 0) with_request
unfolding PlainStep Done tests_of copy_in
request-step = (with_request, [], simp rows (0, refl, (refl, refl), refl), settled)

abbrev pub requesting : Ipc
requesting = in_space_1 ((0x100, requested) ∷ []) ((1, new_port) ∷ [])

abbrev pub request_again : Ipc
request_again = with_entry (with_entry requesting 1 0x100 requested) 1 0x101 (SendOnce 1 None)

pub request-again_step : PlainStep requesting 1 (call.RequestNotification 0x100 72 0 0x100 21)
    (reply.PreviousTarget 0x101) request_again
unfolding PlainStep Done tests_of copy_in
request-again_step = (
  request_again,
  [],
  simp rows (
    0x101,
    refl,
    (record { least = omega arith; below_dead = omega arith; free = simp rows }, refl),
    refl,
  ),
  settled,
)
