use Rattle.std.proofs.Common.{refl, sym, ◌∙◌}
use Rattle.disk.specs.Log.{slots_of}
use Rattle.disk.proofs.Replay.{replayed_none, nothing_else}
use Rattle.disk.proofs.memory.MemDisk.new.Goals as goal

pub invariant_of-result : goal.invariant_of-result
invariant_of-result c =
    record { is_replay = replayed_none _ _ _ c.new.ensures.items (c.empty-2.ensures ∙ sym c.empty.ensures) }

pub returns : goal.returns
returns c = record {
  at_rest = record {
    seen = c.empty-2.ensures;
    left = nothing_else (slots_of c.empty.result) _ _ c.new.ensures.items c.empty.ensures;
    unfailing = refl;
    unplanned = c.none.ensures;
  };
}
