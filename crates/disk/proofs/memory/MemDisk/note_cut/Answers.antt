use Rattle.std.proofs.Common.{rules, ◌≡◌}
use Rattle.disk.specs.declared.log.LoggedCall.TheVariants.{Cut}
use Rattle.disk.specs.Log.{slots_of, seen_after}
use Rattle.disk.proofs.Replay.{replayed_on, passes_on, leaves_all}
use Rattle.disk.proofs.memory.MemDisk.note_cut.Goals as goal

pub invariant_of-self-then-is_done : goal.invariant_of-self-then-is_done
invariant_of-self-then-is_done c =
    let call = Cut c.args.slot c.args.len c.args.is_done in
    let after : slots_of c.set.new.self ≡ seen_after call (slots_of c.args.self.now.seen) = search rules in
    record { is_replay = replayed_on _ _ call _ c.in_ok-push.ensures.items _ _ c.args.self.now.is_replay after }

pub invariant_of-self-else-is_done : goal.invariant_of-self-else-is_done
invariant_of-self-else-is_done c =
    let call = Cut c.args.slot c.args.len c.args.is_done in
    let after : slots_of c.args.self.now.seen ≡ seen_after call (slots_of c.args.self.now.seen) = search rules in
    record { is_replay = replayed_on _ _ call _ c.in_ok-push.ensures.items _ _ c.args.self.now.is_replay after }

pub returns-then-is_done-clause-time : goal.returns-then-is_done-clause-time
returns-then-is_done-clause-time c =
    passes_on (slots_of c.args.self.now.first) c.args.self.now.log.items
    (Cut c.args.slot c.args.len c.args.is_done) c.push.new.self.items c.in_ok-push.ensures.items
    (slots_of c.args.self.now.seen) (slots_of c.set.new.self) c.args.self.now.is_replay

pub returns-else-is_done-clause-time : goal.returns-else-is_done-clause-time
returns-else-is_done-clause-time c =
    passes_on (slots_of c.args.self.now.first) c.args.self.now.log.items
    (Cut c.args.slot c.args.len c.args.is_done) c.push.new.self.items c.in_ok-push.ensures.items
    (slots_of c.args.self.now.seen) (slots_of c.args.self.now.seen) c.args.self.now.is_replay

pub returns-then-is_done-clause-whole : goal.returns-then-is_done-clause-whole
returns-then-is_done-clause-whole c =
    leaves_all (slots_of c.args.self.now.first) c.args.self.now.log.items
    (Cut c.args.slot c.args.len c.args.is_done) c.push.new.self.items c.in_ok-push.ensures.items
    (slots_of c.args.self.now.seen) (slots_of c.set.new.self) c.args.self.now.is_replay

pub returns-else-is_done-clause-whole : goal.returns-else-is_done-clause-whole
returns-else-is_done-clause-whole c =
    leaves_all (slots_of c.args.self.now.first) c.args.self.now.log.items
    (Cut c.args.slot c.args.len c.args.is_done) c.push.new.self.items c.in_ok-push.ensures.items
    (slots_of c.args.self.now.seen) (slots_of c.args.self.now.seen) c.args.self.now.is_replay
