-- How the call of a number is refused.
use Rattle.std.specs.Prelude.{ℕ, ◌==◌, if◌then◌else◌}
use Rattle.codes.specs.declared.call_number.TheConstants.{MACH_MSG}
use Rattle.codes.specs.declared.kern_return.KernReturn.{KernReturn}
use Rattle.codes.specs.declared.name.TheConstants.{MACH_PORT_NULL}
use Rattle.ipc_model.specs.declared.plain_reply.PlainReply.{PlainReply}
use Rattle.ipc_model.specs.declared.plain_reply.PlainReply.TheVariants as reply
use Rattle.ipc_model.specs.messages.Receiving.{without_message}

-- the reply that refuses the call of a number; mach_msg shows its results in any case
abbrev pub refused_of : ℕ → KernReturn → PlainReply
refused_of number code = if number == MACH_MSG then without_message code 0 MACH_PORT_NULL else reply.Refused number code
