use Rattle.disk.specs.Log.{slots_of}
use Rattle.disk.specs.Lasting.{seen_may_be_left}
use Rattle.disk.proofs.memory.MemDisk.content.Goals as goal

pub returns-clause-may_be_left : goal.returns-clause-may_be_left
returns-clause-may_be_left c =
    seen_may_be_left (slots_of c.args.self.now.first)
    (slots_of c.args.self.now.seen) c.args.self.now.log.items c.args.self.now.is_replay
