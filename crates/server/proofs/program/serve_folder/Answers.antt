use Rattle.server.proofs.Ended.{runs_in_folder}
use Rattle.server.proofs.program.serve_folder.Goals as goal

pub returns : goal.returns
returns g c = record {
  run =
      runs_in_folder _ _ _ _ _ _ _ _ c.args.folder.now c.in-Ok.disk c.serve_disk-served.result.1 c.in-Ok.ensures.path
      c.serve_disk-served.ensures.run;
}
