use Rattle.std.proofs.Common.{inr}
use Rattle.std.proofs.KnownBytes.{Keeps-refl}
use Rattle.socket_server.proofs.Reporting.{reported_of}
use Rattle.socket_server.proofs.program.serve_disk.Goals as goal

pub returns-in-Ok : goal.returns-in-Ok
returns-in-Ok g c =
    record { reported = reported_of _ _ _ _ c.serve_opened.result c.serve_opened.ensures.reported }

pub returns-in-Err : goal.returns-in-Err
returns-in-Err g c = record {
  reported = inr (
    record {
      kind = c.in-Err.ensures.faults;
      damaged = c.in-Err.ensures.damaged;
      version = c.in-Err.ensures.version;
    },
    Keeps-refl (g.O.Write.contents c.args.output.now),
  );
}
