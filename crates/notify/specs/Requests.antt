-- Dead-name requests of names.
use Rattle.std.specs.Prelude.{ℕ, Option}
use Rattle.ipc_model.specs.declared.entry.Entry.{Entry}
use Rattle.ipc_model.specs.declared.entry.Entry.TheVariants.{Port, SendOnce, Set, Dead}

-- A send or receive right and a send-once right keep a request. A set has none, and the notice about a dead name is
-- sent at once.
abbrev pub with_request : Option ℕ → Entry → Entry
with_request target (Port rights) = Port (record rights { dead_name_target = target })
with_request target (SendOnce port former) = SendOnce port target
with_request target Set = Set
with_request target (Dead references) = Dead references
