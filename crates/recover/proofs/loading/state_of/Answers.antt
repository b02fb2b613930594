use Rattle.std.proofs.Common.{Err, ap, refl, sym, subst, true≢false}
use Rattle.std.specs.Prelude.{All}
use Rattle.recover.specs.Loaded.{HasLimit}
use Rattle.snapshot.specs.Snapshots.{snapshot_of}
use Rattle.recover.proofs.Texts.{image_as_rows, image_fits, lawful_rows, rows_are_image, rows_within}
use Rattle.recover.proofs.loading.state_of.Goals as goal

pub returns-in-Err-NotCanonical-clause-damaged : goal.returns-in-Err-NotCanonical-clause-damaged
returns-in-Err-NotCanonical-clause-damaged c = λ _ state is.
    c.in-Err-NotCanonical.ensures.none (ap Err c.in-Err-NotCanonical.field-0-is) (snapshot_of state)
    (image_fits c.args.version c.args.encoding.now state is) (image_as_rows c.args.version c.args.encoding.now state is)

pub returns-in-Ok-from_snapshot-clause-image : goal.returns-in-Ok-from_snapshot-clause-image
returns-in-Ok-from_snapshot-clause-image c =
    rows_are_image c.args.version c.args.encoding.now c.in-Ok.snapshot c.in-Ok-from_snapshot.kernel
    c.in-Ok.ensures.found.0 c.in-Ok.ensures.found.1 c.in-Ok-from_snapshot.ensures.same c.show_image.ensures.lawful
    c.show_image.ensures.acyclic c.show_image.ensures.short
    (subst (All (HasLimit c.args.version)) c.as_slice.ensures (c.if-not-have_limits.ensures.0 refl))

pub returns-then-not-have_limits-clause-damaged : goal.returns-then-not-have_limits-clause-damaged
returns-then-not-have_limits-clause-damaged c = λ _ state is.
    true≢false (sym (c.if-not-have_limits.ensures.1
    (subst (All (HasLimit c.args.version)) (sym c.as_slice.ensures)
    (rows_within c.args.version c.args.encoding.now c.in-Ok.snapshot state
    (c.in-Ok.ensures.only (snapshot_of state) (image_fits c.args.version c.args.encoding.now state is)
    (image_as_rows c.args.version c.args.encoding.now state is)) is))))

pub returns-in-Err-NotLawful-clause-damaged : goal.returns-in-Err-NotLawful-clause-damaged
returns-in-Err-NotLawful-clause-damaged c = λ _ state is.
    c.in-Err-NotLawful.ensures.unlawful (ap Err c.in-Err-NotLawful.field-0-is)
    (lawful_rows c.args.version c.args.encoding.now c.in-Ok.snapshot state
    (c.in-Ok.ensures.only (snapshot_of state) (image_fits c.args.version c.args.encoding.now state is)
    (image_as_rows c.args.version c.args.encoding.now state is)) is)
