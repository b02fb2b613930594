use Rattle.std.proofs.KnownBytes.{Appends-trans}
use Rattle.std.proofs.lemmas.Result.{on_err_weaker}
use Rattle.command_line.proofs.Parts.{at_any, on_ok, part_before, part_after}
use Rattle.command_line.specs.About.{version_lines}
use Rattle.command_line.proofs.about.send_version.Goals as goal

pub returns-in_err-write_bytes-clause-part : goal.returns-in_err-write_bytes-clause-part
returns-in_err-write_bytes-clause-part g c =
    at_any _ (part_before _ _ c.args.name.now version_lines
    (rw c.as_bytes.ensures.value at c.in_err-write_bytes.ensures.part))

pub returns-clause-ok : goal.returns-clause-ok
returns-clause-ok g c =
    let first = rw c.as_bytes.ensures.value at c.in_ok-write_bytes.ensures.ok in
    on_ok c.send.result (Appends-trans _ _ _ c.args.name.now version_lines first) c.send.ensures.ok

pub returns-clause-part : goal.returns-clause-part
returns-clause-part g c =
    let first = rw c.as_bytes.ensures.value at c.in_ok-write_bytes.ensures.ok in
    on_err_weaker _ (part_after _ _ _ c.args.name.now version_lines first) c.send.ensures.part
