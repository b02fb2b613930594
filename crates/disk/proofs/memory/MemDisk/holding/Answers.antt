use Rattle.std.proofs.Common.{refl}
use Rattle.disk.specs.Log.{slots_of}
use Rattle.disk.proofs.Replay.{replayed_none, nothing_else}
use Rattle.disk.proofs.memory.MemDisk.holding.Goals as goal

pub invariant_of-result : goal.invariant_of-result
invariant_of-result c = record { is_replay = replayed_none _ _ _ c.new.ensures.items c.in_ok-copy_of.ensures }

pub returns : goal.returns
returns c = record {
  seen = c.in_ok-copy_of.ensures;
  left = nothing_else (slots_of c.args.first) _ _ c.new.ensures.items refl;
  unfailing = refl;
  unplanned = c.none.ensures;
}
