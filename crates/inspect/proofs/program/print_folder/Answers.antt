use Rattle.inspect.proofs.Exits.{prints_as}
use Rattle.inspect.proofs.program.print_folder.Goals as goal

pub returns : goal.returns
returns g c = record {
  prints = prints_as _ _ _ _ c.print.result (λ text is. (c.in-Ok.disk, c.in-Ok.ensures.path, is)) c.print.ensures.prints;
}
