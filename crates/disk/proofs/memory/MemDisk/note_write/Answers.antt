use Rattle.std.proofs.Common.{rules, ◌≡◌, sym, ◌∙◌}
use Rattle.std.specs.Prelude.{if◌then◌else◌}
use Rattle.disk.specs.Slots.{slot_of, with_slot, written_at}
use Rattle.disk.specs.declared.log.LoggedCall.TheVariants.{Write}
use Rattle.disk.specs.Log.{slots_of}
use Rattle.disk.proofs.Replay.{replayed_on, write_after, write_passes, write_leaves_all}
use Rattle.disk.proofs.memory.MemDisk.note_write.Goals as goal

pub invariant_of-self-then-is_done : goal.invariant_of-self-then-is_done
invariant_of-self-then-is_done c =
    let call = Write c.args.slot c.args.at c.in_ok-bytes.bytes c.args.is_done in
    let same : c.in_ok-bytes.bytes.items ≡ c.args.bytes.now = search rules in
    let done : slots_of c.set.new.self
    ≡ (if c.args.is_done then with_slot (slots_of c.args.self.now.seen) c.args.slot
    (written_at (slot_of (slots_of c.args.self.now.seen) c.args.slot) c.args.at c.args.bytes.now)
    else slots_of c.args.self.now.seen) = search rules in
    record {
      is_replay = replayed_on _ _ call _ c.in_ok-push.ensures.items _ _ c.args.self.now.is_replay
          (write_after _ _ c.args.slot c.args.at c.in_ok-bytes.bytes c.args.is_done c.args.bytes.now c.requires same
          done);
    }

pub invariant_of-self-else-is_done : goal.invariant_of-self-else-is_done
invariant_of-self-else-is_done c =
    let call = Write c.args.slot c.args.at c.in_ok-bytes.bytes c.args.is_done in
    let same : c.in_ok-bytes.bytes.items ≡ c.args.bytes.now = search rules in
    let done : slots_of c.args.self.now.seen
    ≡ (if c.args.is_done then with_slot (slots_of c.args.self.now.seen) c.args.slot
    (written_at (slot_of (slots_of c.args.self.now.seen) c.args.slot) c.args.at c.args.bytes.now)
    else slots_of c.args.self.now.seen) = search rules in
    record {
      is_replay = replayed_on _ _ call _ c.in_ok-push.ensures.items _ _ c.args.self.now.is_replay
          (write_after _ _ c.args.slot c.args.at c.in_ok-bytes.bytes c.args.is_done c.args.bytes.now c.requires same
          done);
    }

pub returns-then-is_done-clause-time : goal.returns-then-is_done-clause-time
returns-then-is_done-clause-time c =
    write_passes (slots_of c.args.self.now.first) c.args.self.now.log.items c.args.slot c.push.new.self.items c.args.at
    c.in_ok-bytes.bytes c.args.is_done c.args.bytes.now (slots_of c.args.self.now.seen)
    (slots_of c.set.new.self) c.in_ok-push.ensures.items c.requires
    (sym c.in_ok-bytes.bytes.ok.0 ∙ c.in_ok-bytes.ensures.len) c.args.self.now.is_replay

pub returns-else-is_done-clause-time : goal.returns-else-is_done-clause-time
returns-else-is_done-clause-time c =
    write_passes (slots_of c.args.self.now.first) c.args.self.now.log.items c.args.slot c.push.new.self.items c.args.at
    c.in_ok-bytes.bytes c.args.is_done c.args.bytes.now (slots_of c.args.self.now.seen)
    (slots_of c.args.self.now.seen) c.in_ok-push.ensures.items c.requires
    (sym c.in_ok-bytes.bytes.ok.0 ∙ c.in_ok-bytes.ensures.len) c.args.self.now.is_replay

pub returns-then-is_done-clause-whole : goal.returns-then-is_done-clause-whole
returns-then-is_done-clause-whole c =
    write_leaves_all (slots_of c.args.self.now.first) c.args.self.now.log.items c.args.slot c.push.new.self.items
    c.args.at c.in_ok-bytes.bytes c.args.is_done c.args.bytes.now (slots_of c.args.self.now.seen)
    (slots_of c.set.new.self) c.in_ok-push.ensures.items c.requires
    (sym c.in_ok-bytes.bytes.ok.0 ∙ c.in_ok-bytes.ensures.len) c.args.self.now.is_replay

pub returns-else-is_done-clause-whole : goal.returns-else-is_done-clause-whole
returns-else-is_done-clause-whole c =
    write_leaves_all (slots_of c.args.self.now.first) c.args.self.now.log.items c.args.slot c.push.new.self.items
    c.args.at c.in_ok-bytes.bytes c.args.is_done c.args.bytes.now (slots_of c.args.self.now.seen)
    (slots_of c.args.self.now.seen) c.in_ok-push.ensures.items c.requires
    (sym c.in_ok-bytes.bytes.ok.0 ∙ c.in_ok-bytes.ensures.len) c.args.self.now.is_replay
