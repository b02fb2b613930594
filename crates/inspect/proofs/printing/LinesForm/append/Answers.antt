use Rattle.std.proofs.Common.{ap}
use Rattle.snapshot.specs.Snapshots.{snapshot_of}
use Rattle.inspect.proofs.printing.LinesForm.append.Goals as goal

pub returns : goal.returns
unfolding snapshot_of
returns c state same = c.list.ensures state.ipc (ap (λ s. s.ipc) same)
