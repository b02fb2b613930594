use Rattle.std.specs.Prelude.{codes}
use Rattle.std.proofs.lemmas.Result.{on_err_weaker}
use Rattle.server.proofs.Ended.{at_any, part_before, part_after}
use Rattle.server.proofs.program.write_line.Goals as goal

pub returns-in_err-write_bytes-clause-part : goal.returns-in_err-write_bytes-clause-part
returns-in_err-write_bytes-clause-part g c =
    at_any _ (part_before _ _ (codes "machipcd: ") c.args.words.now c.in_err-write_bytes.ensures.part)

pub returns-clause-part : goal.returns-clause-part
returns-clause-part g c =
    let second = rw c.as_bytes.ensures.value at c.write_bytes-2.ensures.part in
    on_err_weaker _ (part_after _ _ _ (codes "machipcd: ") c.args.words.now c.in_ok-write_bytes.ensures.ok) second
