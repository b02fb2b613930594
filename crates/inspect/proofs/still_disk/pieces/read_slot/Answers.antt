use Rattle.std.proofs.Common.{rules, subst, sym}
use Rattle.disk.specs.Slots.{slot_of}
use Rattle.inspect.specs.still_disk.Live.{Copied, nothing_yet}
use Rattle.inspect.proofs.still_disk.pieces.read_slot.Goals as goal

pub loop-bytes-init : goal.loop-bytes-init
loop-bytes-init g c = record {
  copied =
      λ honest. subst (λ l. Copied g.S.LiveSlots.later
      (λ m. slot_of (g.S.LiveSlots.slots m) c.args.slot) (g.S.LiveSlots.now c.args.live.now)
      (g.S.LiveSlots.now c.args.live.now) l) (sym c.new-bytes.ensures.items) nothing_yet;
  later = λ honest. g.S.LiveSlots.stays _;
  quiet = search rules;
}

pub returns-then-count-eq0-clause-copied : goal.returns-then-count-eq0-clause-copied
returns-then-count-eq0-clause-copied g c = λ honest. record {
  last = g.S.LiveSlots.now c.read_on.new.live;
  copied = c.in_ok-count.ensures.more honest _ (c.loop-bytes.invariant.copied honest);
  later = g.S.LiveSlots.stays _;
  whole = c.in_ok-count.ensures.end honest c.if-count-eq0.true;
}

pub loop-bytes-preserved : goal.loop-bytes-preserved
loop-bytes-preserved g c = record {
  copied = λ honest. c.in_ok-count.ensures.more honest _ (c.loop-bytes.invariant.copied honest);
  later =
      λ honest. g.S.LiveSlots.joins _ _ _ (c.loop-bytes.invariant.later honest) (c.in_ok-count.ensures.later honest);
  quiet = search rules;
}
