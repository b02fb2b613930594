-- The notices that the kernel sends about ports (Kernel Interfaces, "Notifications").
use Rattle.std.specs.Prelude.{ℕ, List, [], ◌∷◌, ◌++◌, true, false, None}
use Rattle.codes.specs.declared.notification.TheConstants.{MACH_NOTIFY_PORT_DELETED, MACH_NOTIFY_PORT_DESTROYED, MACH_NOTIFY_NO_SENDERS, MACH_NOTIFY_SEND_ONCE, MACH_NOTIFY_DEAD_NAME}
use Rattle.ipc_model.specs.declared.message.Message.{Message}
use Rattle.ipc_model.specs.declared.message.PortInMessage.TheVariants.{Live}
use Rattle.ipc_model.specs.declared.message.RightKind.TheVariants as kind
use Rattle.words.specs.Words.{word}

-- what a notice reports
pub data Notice : Type 0 where
  -- the name was in use with a dead-name request, and ceased to be
  PortDeleted : (name : ℕ) → Notice
  -- the receive right of the port would have been destroyed; the notice carries it
  PortDestroyed : (serial : ℕ) → Notice
  -- the port has no send right any more; this many were made
  NoSenders : (count : ℕ) → Notice
  -- a send-once right was destroyed and not used
  SendOnce : Notice
  -- the name has become a dead name
  DeadName : (name : ℕ) → Notice

-- MACH_NOTIFY_PORT_DELETED, _PORT_DESTROYED, _NO_SENDERS, _SEND_ONCE and _DEAD_NAME
abbrev pub notice_id : Notice → ℕ
notice_id (PortDeleted name) = MACH_NOTIFY_PORT_DELETED
notice_id (PortDestroyed serial) = MACH_NOTIFY_PORT_DESTROYED
notice_id (NoSenders count) = MACH_NOTIFY_NO_SENDERS
notice_id SendOnce = MACH_NOTIFY_SEND_ONCE
notice_id (DeadName name) = MACH_NOTIFY_DEAD_NAME

-- one inline item of one element: a port's name (type 15), a receive right (16), a 32-bit integer (2)
abbrev pub notice_body : Notice → List ℕ
notice_body (PortDeleted name) = word 0x1001200f ++ word name
notice_body (PortDestroyed serial) = word 0x10012010 ++ word 0
notice_body (NoSenders count) = word 0x10012002 ++ word count
notice_body SendOnce = []
notice_body (DeadName name) = word 0x1001200f ++ word name

-- A notice as a message. It is sent by a send-once right and names no reply.
abbrev pub notice_message : Notice → Message
notice_message (PortDestroyed serial) = record {
  destination = kind.SendOnce;
  reply = None;
  id = MACH_NOTIFY_PORT_DESTROYED;
  complex = true;
  rights = (record { kind = kind.Receive; port = Live serial }) ∷ [];
  body = notice_body (PortDestroyed serial);
}
notice_message notice =
    record {
      destination = kind.SendOnce;
      reply = None;
      id = notice_id notice;
      complex = false;
      rights = [];
      body = notice_body notice;
    }
