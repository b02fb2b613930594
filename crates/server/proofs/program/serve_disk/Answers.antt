use Rattle.std.proofs.Common.{refl}
use Rattle.disk.proofs.Moments.{reads_only}
use Rattle.server.proofs.Ended.{runs_opened, runs_unopened}
use Rattle.server.proofs.program.serve_disk.Goals as goal

pub returns-in-Ok : goal.returns-in-Ok
returns-in-Ok g c = record {
  run =
      runs_opened g.D.Disk.honest g.D.Disk.view _ _ _ _ _ c.args.disk c.in-Ok.opened c.serve_opened.result.1
      c.in-Ok.ensures.state c.in-Ok.ensures.any_moment c.serve_opened.ensures.run;
}

pub returns-in-Err : goal.returns-in-Err
returns-in-Err g c = record {
  run =
      runs_unopened g.D.Disk.honest g.D.Disk.view (g.I.Read.remaining c.args.input.now)
      (g.O.Write.contents c.args.output.now) _ _ _ c.args.disk c.in-Err.disk c.in-Err.fault refl refl refl
      (record {
        kind = c.in-Err.ensures.faults;
        damaged = c.in-Err.ensures.damaged;
        version = c.in-Err.ensures.version;
      }) c.in-Err.ensures.any_moment_of_fault
      (λ honest other. reads_only _ _ (c.in-Err.ensures.unchanged honest other)
      (c.in-Err.ensures.untouched honest other));
}
