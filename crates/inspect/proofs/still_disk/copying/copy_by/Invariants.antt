use Rattle.std.proofs.Common.{◌≡◌}
use Rattle.std.specs.Prelude.{◌⊎◌}
use Rattle.inspect.specs.still_disk.Live.{HasChanged}
use Rattle.inspect.proofs.still_disk.copying.copy_by.Given as goal

-- time passed, no call failed, and a front had changed at each attempt
abbrev pub invariant-loop : goal.invariant-loop
invariant-loop g l = record {
  later : g.S.LiveSlots.honest → g.S.LiveSlots.later (g.S.LiveSlots.now l.fn.live) (g.S.LiveSlots.now l.live);
  changed : g.S.LiveSlots.honest → (l.counter ≡ 0)
      ⊎ ((begun ended : g.S.LiveSlots.Moment) × g.S.LiveSlots.later (g.S.LiveSlots.now l.fn.live) begun
      × HasChanged g.S.LiveSlots.later g.S.LiveSlots.slots begun ended);
  quiet : g.S.LiveSlots.failed l.live ≡ g.S.LiveSlots.failed l.fn.live;
}
