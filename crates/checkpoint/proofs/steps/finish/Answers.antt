use Rattle.ipc_model.specs.store.Store.{image_content}
use Rattle.slot_steps.proofs.Gates.{opening_then}
use Rattle.slot_steps.proofs.Lengths.{on_ok}
use Rattle.checkpoint.proofs.Whole.{header_written, gate_written}
use Rattle.checkpoint.proofs.steps.finish.Goals as goal

pub returns-clause-made : goal.returns-clause-made
returns-clause-made g c = λ honest.
    let slot = c.args.slot in
    let old = (g.D.Disk.view c.args.disk.now).seen in
    let mid = (g.D.Disk.view c.write_header.new.disk).seen in
    let before = c.in_ok-write_header.ensures.written honest in
    on_ok c.write_gate.result
    (gate_written slot old mid (g.D.Disk.view c.write_gate.new.disk).seen c.args.epoch c.args.encoding.now _ before
    (header_written slot old mid c.args.epoch c.args.encoding.now (c.requires honest) before))
    (c.write_gate.ensures.written honest)

pub returns-clause-any_moment : goal.returns-clause-any_moment
returns-clause-any_moment g c = λ honest shut.
    let slot = c.args.slot in
    let old = g.D.Disk.view c.args.disk.now in
    let mid = g.D.Disk.view c.write_header.new.disk in
    let before = c.in_ok-write_header.ensures.written honest in
    opening_then slot old mid (g.D.Disk.view c.write_gate.new.disk) (image_content c.args.epoch c.args.encoding.now)
    (c.in_ok-write_header.ensures.synced honest)
    (header_written slot old.seen mid.seen c.args.epoch c.args.encoding.now (c.requires honest) before)
    (c.write_header.ensures.any_moment honest shut) (c.write_gate.ensures.any_moment honest)
