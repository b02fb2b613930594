-- A length word and the content after it are a frame, and a fault in the content is the frame's.
use Rattle.std.proofs.lemmas.Result.{err_from_is_err_and}
use Rattle.wire.proofs.Fronts.{frame_read, content_failed}
use Rattle.wire.proofs.read.read_parts.Goals as goal

pub returns-in_err-read_content-in-Some-clause-exact : goal.returns-in_err-read_content-in-Some-clause-exact
returns-in_err-read_content-in-Some-clause-exact g c =
    let fits = rw c.in-Some.is at c.in_ok-read_length.ensures.limits in
    let first = rw c.in-Some.is at c.in_ok-read_length.ensures.exact in
    let returned =
    err_from_is_err_and c.from_residual-in_err-read_content-in-Some.result
    c.from_residual-in_err-read_content-in-Some.ensures.1 in
    rw (returned.1, returned.2) (content_failed _ _ _ c.in-Some.length c.in_err-read_content-in-Some.field-0.0 fits
    first c.in_err-read_content-in-Some.ensures)

pub returns-in_ok-read_content-in-Some-clause-exact : goal.returns-in_ok-read_content-in-Some-clause-exact
returns-in_ok-read_content-in-Some-clause-exact g c =
    let fits = rw c.in-Some.is at c.in_ok-read_length.ensures.limits in
    let first = rw c.in-Some.is at c.in_ok-read_length.ensures.exact in
    frame_read _ _ _ c.in-Some.length c.in_ok-read_content-in-Some.field-0 fits first
    c.in_ok-read_content-in-Some.ensures
