use Rattle.socket_server.proofs.Reporting.{nothing_reported}
use Rattle.socket_server.proofs.program.serve_opened.Goals as goal

pub returns-in-Err : goal.returns-in-Err
returns-in-Err g c =
    record { reported = nothing_reported (g.O.Write.contents c.args.output.now) c.in-Err.end c.in-Err.ensures.err }
