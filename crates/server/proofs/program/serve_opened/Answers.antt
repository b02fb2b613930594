use Rattle.std.proofs.Common.{ap}
use Rattle.server.proofs.Ended.{serves_from}
use Rattle.server.proofs.program.serve_opened.Goals as goal

pub returns : goal.returns
returns g c = record {
  run =
      serves_from g.D.Disk.honest g.D.Disk.view (g.I.Read.remaining c.args.input.now)
      (g.O.Write.contents c.args.output.now) (g.I.Read.remaining c.serve-served.new.reader)
      (g.O.Write.contents c.serve-served.new.writer) c.serve-served.result c.args.opened c.new-caller.result
      c.serve-served.new.caller c.into_disk.result c.new-caller.ensures.kernel
      (ap (λ s. s.disk) c.new-caller.ensures.store) c.new-caller.ensures.space c.new-caller.ensures.confined c.new-caller.ensures.failed
      c.new-caller.ensures.held c.into_disk.ensures.disk c.into_disk.ensures.held c.serve-served.ensures.ended;
}
