use Rattle.std.specs.Prelude.{is_ok}
use Rattle.disk.specs.declared.log.LoggedCall.TheVariants.{Sync}
use Rattle.disk.specs.Log.{slots_of}
use Rattle.disk.proofs.Replay.{leaves_all, replayed_unless_full, sync_passes, sync_narrows, passes_less}
use Rattle.disk.proofs.memory.MemDisk.note_sync.Goals as goal

pub invariant_of-self : goal.invariant_of-self
invariant_of-self c = record {
  is_replay =
      replayed_unless_full (slots_of c.args.self.now.first)
      (slots_of c.args.self.now.seen) c.args.self.now.log.items c.push.new.self.items c.args.slot
      (is_ok c.push.result) c.push.ensures.items c.args.self.now.is_replay;
}

pub returns-clause-synced : goal.returns-clause-synced
returns-clause-synced c =
    sync_narrows (slots_of c.args.self.now.first) c.args.self.now.log.items c.args.slot c.push.new.self.items
    (slots_of c.args.self.now.seen)
    (slots_of c.args.self.now.seen) c.in_ok-push.ensures.items c.args.self.now.is_replay

pub returns-clause-time : goal.returns-clause-time
returns-clause-time c =
    passes_less _ _ _ _ (sync_passes
    (slots_of c.args.self.now.first) c.args.self.now.log.items c.args.slot c.push.new.self.items
    (slots_of c.args.self.now.seen)
    (slots_of c.args.self.now.seen) c.in_ok-push.ensures.items c.args.self.now.is_replay) (λ s left. left.0)

pub returns-clause-whole : goal.returns-clause-whole
returns-clause-whole c =
    λ s left same. leaves_all (slots_of c.args.self.now.first) c.args.self.now.log.items
    (Sync c.args.slot) c.push.new.self.items c.in_ok-push.ensures.items (slots_of c.args.self.now.seen)
    (slots_of c.args.self.now.seen) c.args.self.now.is_replay s (left, same)
