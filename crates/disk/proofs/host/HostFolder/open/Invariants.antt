use Rattle.disk.proofs.host.HostFolder.open.Given as goal

-- nothing is claimed of the files
abbrev pub invariant-loop-name : goal.invariant-loop-name
invariant-loop-name g l = Unit {0}
