-- The reply with a set's status lists the set's members.
use Rattle.std.proofs.Common.{◌≡◌, ℕ, [], Some, false, refl}
use Rattle.std.specs.FinMap as finmap
use Rattle.ipc_model.specs.calls.Actions.{Done}
use Rattle.ipc_model.specs.calls.PortCalls.{is_no_name, tests_of}
use Rattle.ipc_model.specs.calls.PlainStep.{ActsIn}
use Rattle.ipc_model.specs.declared.plain_call.PlainCall.TheVariants as call
use Rattle.ipc_model.specs.declared.plain_reply.PlainReply.{PlainReply}
use Rattle.ipc_model.specs.declared.plain_reply.PlainReply.TheVariants as reply
use Rattle.ipc_model.specs.declared.entry.Entry.TheVariants.{Set}
use Rattle.ipc_model.specs.state.Ipc.{Ipc, Names, members_of}

pub members_reported : (old : Ipc) (space : ℕ) (names : Names) (name : ℕ) (answer : PlainReply) → is_no_name names name
    ≡ false
    → finmap.get names name ≡ Some Set → answer ≡ reply.SetStatus (members_of old names name)
    → ActsIn old space names (call.GetSetStatus name) answer old []
unfolding tests_of Done
members_reported old space names name answer used at reported = rw (used, at) (reported, refl, refl)
