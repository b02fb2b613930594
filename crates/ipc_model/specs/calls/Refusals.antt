-- How the call of a number is refused.
use Rattle.std.specs.Prelude.{ℕ}
use Rattle.codes.specs.declared.kern_return.KernReturn.{KernReturn}
use Rattle.ipc_model.specs.calls.PlainRefusals as plain
use Rattle.ipc_model.specs.declared.reply.Reply.{Reply}
use Rattle.ipc_model.specs.declared.reply.Reply.TheVariants as reply

abbrev pub refused_of : ℕ → KernReturn → Reply
refused_of number code = reply.Plain (plain.refused_of number code)
