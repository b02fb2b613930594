-- Messages whose rights are to live ports.
use Rattle.std.specs.Prelude.{Bool, true, ◌&&◌, Option, None, Some}
use Rattle.std.specs.List.{list_all}
use Rattle.ipc_model.specs.declared.message.CarriedRight.{CarriedRight}
use Rattle.ipc_model.specs.declared.message.Message.{Message}
use Rattle.ipc_model.specs.declared.message.PortInMessage.{PortInMessage}
use Rattle.ipc_model.specs.declared.message.PortInMessage.TheVariants as in_message
use Rattle.ipc_model.specs.state.Ipc.{Ipc, lives}

abbrev pub is_live_port : Ipc → PortInMessage → Bool
is_live_port state in_message.Null = true
is_live_port state in_message.Dead = true
is_live_port state (in_message.Live serial) = lives state serial

-- true if a carried right is to a live port, or to none
abbrev pub is_live : Ipc → CarriedRight → Bool
is_live state carried = is_live_port state carried.port

abbrev pub is_live_reply : Ipc → Option CarriedRight → Bool
is_live_reply state None = true
is_live_reply state (Some carried) = is_live state carried

-- true if each right of a message is to a live port, or to none
abbrev pub carries_live : Ipc → Message → Bool
carries_live state message = is_live_reply state message.reply && list_all (is_live state) message.rights
