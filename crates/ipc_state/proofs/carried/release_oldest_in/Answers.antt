use Rattle.ports.specs.Passed.{messages_at, lives_in, seen_message}
use Rattle.ipc_state.proofs.Taking.{none_released, oldest_released}
use Rattle.ipc_state.proofs.carried.release_oldest_in.Goals as goal

pub returns-in_default : goal.returns-in_default
returns-in_default c =
    none_released (messages_at c.args.ports.now.current.ports c.args.serial) c.args.effects.now c.in_default.ensures

pub returns : goal.returns
returns c =
    oldest_released (messages_at c.args.ports.now.current.ports c.args.serial)
    (seen_message (lives_in c.args.ports.now.current.ports) c.in-Some.message.now) c.args.effects.now
    c.release.new.effects c.in-Some.ensures c.in_ok-release.ensures
