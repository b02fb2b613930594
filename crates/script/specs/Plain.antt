-- Reading the calls whose arguments are numbers.
use Rattle.std.specs.Prelude.{ℕ, List, Option, None, Some, Ok}
use Rattle.ipc_model.specs.declared.plain_call.PlainCall.{PlainCall}
use Rattle.ipc_model.specs.declared.plain_call.PlainCall.TheVariants as call
use Rattle.script.specs.declared.vocabulary.kind.Kind.{Kind}
use Rattle.script.specs.declared.vocabulary.kind.Kind.TheVariants.{Hexadecimal, Decimal, Signed, Right, Disposition, Notification, Absent}
use Rattle.script.specs.declared.vocabulary.verb.Verb.{Verb}
use Rattle.script.specs.declared.vocabulary.verb.Verb.TheVariants as verb
use Rattle.script.specs.declared.plain.Arguments.{Arguments}
use Rattle.script.specs.declared.plain.Kinds.{Kinds}
use Rattle.script.specs.declared.fault.Expected.TheVariants.{CallName}
use Rattle.script.specs.Reading.{Reading, ◌>>=◌, wanted, value_at}

abbrev pub three_kinds : Kind → Kind → Kind → Kinds
three_kinds a b c = record { first = a; second = b; third = c; fourth = Absent; fifth = Absent }

-- the kinds of a call's arguments
abbrev pub kinds_of : Verb → Kinds
kinds_of verb.Attach = three_kinds Decimal Absent Absent
kinds_of verb.Names = three_kinds Absent Absent Absent
kinds_of verb.Type = three_kinds Hexadecimal Absent Absent
kinds_of verb.Rename = three_kinds Hexadecimal Hexadecimal Absent
kinds_of verb.AllocateName = three_kinds Right Hexadecimal Absent
kinds_of verb.Allocate = three_kinds Right Absent Absent
kinds_of verb.Destroy = three_kinds Hexadecimal Absent Absent
kinds_of verb.Deallocate = three_kinds Hexadecimal Absent Absent
kinds_of verb.GetRefs = three_kinds Hexadecimal Right Absent
kinds_of verb.ModRefs = three_kinds Hexadecimal Right Signed
kinds_of verb.SetQlimit = three_kinds Hexadecimal Decimal Absent
kinds_of verb.SetMscount = three_kinds Hexadecimal Decimal Absent
kinds_of verb.SetSeqno = three_kinds Hexadecimal Decimal Absent
kinds_of verb.GetReceiveStatus = three_kinds Hexadecimal Absent Absent
kinds_of verb.GetSetStatus = three_kinds Hexadecimal Absent Absent
kinds_of verb.MoveMember = three_kinds Hexadecimal Hexadecimal Absent
kinds_of verb.RequestNotification =
    record { first = Hexadecimal; second = Notification; third = Decimal; fourth = Hexadecimal; fifth = Disposition }
kinds_of verb.InsertRight = three_kinds Hexadecimal Hexadecimal Disposition
kinds_of verb.ExtractRight = three_kinds Hexadecimal Disposition Absent
kinds_of verb.Send = three_kinds Absent Absent Absent
kinds_of verb.Receive = three_kinds Absent Absent Absent
kinds_of verb.SpaceCreate = three_kinds Hexadecimal Disposition Absent
kinds_of verb.SpaceDestroy = three_kinds Absent Absent Absent

-- calls with at most one argument, with two, and with more
abbrev pub short_call : Verb → ℕ → Option PlainCall
short_call verb.Attach space = Some (call.Attach space)
short_call verb.Names name = Some call.Names
short_call verb.Type name = Some (call.Type name)
short_call verb.Allocate right = Some (call.Allocate right)
short_call verb.Destroy name = Some (call.Destroy name)
short_call verb.Deallocate name = Some (call.Deallocate name)
short_call verb.GetReceiveStatus name = Some (call.GetReceiveStatus name)
short_call verb.GetSetStatus name = Some (call.GetSetStatus name)
short_call verb.SpaceDestroy name = Some call.SpaceDestroy
short_call v name = None

abbrev pub pair_call : Verb → ℕ → ℕ → Option PlainCall
pair_call verb.Rename from to = Some (call.Rename from to)
pair_call verb.AllocateName right name = Some (call.AllocateName right name)
pair_call verb.GetRefs name right = Some (call.GetRefs name right)
pair_call verb.SetQlimit name limit = Some (call.SetQlimit name limit)
pair_call verb.SetMscount name count = Some (call.SetMscount name count)
pair_call verb.SetSeqno name seqno = Some (call.SetSeqno name seqno)
pair_call verb.MoveMember member after = Some (call.MoveMember member after)
pair_call verb.ExtractRight name disposition = Some (call.ExtractRight name disposition)
pair_call verb.SpaceCreate name disposition = Some (call.SpaceCreate name disposition)
pair_call v first second = None

abbrev pub long_call : Verb → Arguments → Option PlainCall
long_call verb.ModRefs a = Some (call.ModRefs a.first a.second a.third)
long_call verb.RequestNotification a = Some (call.RequestNotification a.first a.second a.third a.fourth a.fifth)
long_call verb.InsertRight a = Some (call.InsertRight a.first a.second a.third)
long_call v a = None

-- the call of a verb with its arguments, except those of mach_msg
abbrev pub plain_call : Verb → Arguments → Option PlainCall
plain_call v a =
    elim (short_call v a.first) [
      | Some made ↦ Some made
      | None ↦
          elim (pair_call v a.first a.second) [ Some made ↦ Some made | None ↦ long_call v a ]
    ]

-- the arguments at the front of words
unfoldable pub arguments_at : Kinds → List (List ℕ) → Reading (Arguments × List (List ℕ))
arguments_at kinds words = do
  a ← value_at kinds.first words
  b ← value_at kinds.second a.1
  c ← value_at kinds.third b.1
  d ← value_at kinds.fourth c.1
  e ← value_at kinds.fifth d.1
  Ok (record { first = a.0; second = b.0; third = c.0; fourth = d.0; fifth = e.0 }, e.1)

-- the call of a verb with the arguments at the front
unfoldable pub plain_at : Verb → List (List ℕ) → Reading (PlainCall × List (List ℕ))
plain_at v words = do
  a ← arguments_at (kinds_of v) words
  made ← wanted CallName words (plain_call v a.0)
  Ok (made, a.1)
