-- The choices that a receive's reply shows: the port, and the names that the message's rights got.
use Rattle.std.specs.Prelude.{ℕ, List, []}
use Rattle.codes.specs.declared.kern_return.KernReturn.{KernReturn}
use Rattle.codes.specs.declared.kern_return.KernReturn.TheVariants.{RcvHeaderErrorSpace}
use Rattle.ipc_model.specs.declared.plain_reply.PlainReply.{PlainReply}
use Rattle.ipc_model.specs.declared.plain_reply.PlainReply.TheVariants as reply
use Rattle.ipc_model.specs.messages.Receiving.{ReceiveArguments}
use Rattle.receiving.specs.declared.asked.Asked.{Asked}
use Rattle.receiving.specs.declared.asked.Preference.{Preference}
use Rattle.receiving.specs.declared.asked.Preference.TheVariants as preference

-- the arguments as those of the model
abbrev pub arguments_of : Asked → ReceiveArguments
arguments_of asked = record { limit = asked.limit; large = asked.large; name = asked.name; waited = asked.waited }

-- The reply names the port, unless the space lacked names.
abbrev pub preferred_by_code : KernReturn → ℕ → Preference
preferred_by_code RcvHeaderErrorSpace member = preference.Lacking
preferred_by_code _ member = preference.Member member

abbrev pub preferred_by : PlainReply → Preference
preferred_by (reply.Message code size member message) = preferred_by_code code member
preferred_by _ = preference.Least

-- the bytes of the received message
abbrev pub encoding_in : PlainReply → List ℕ
encoding_in (reply.Message code size member message) = message
encoding_in _ = []
