use Rattle.std.proofs.Common.{◌++◌, ◌∙◌, sym}
use Rattle.ipc_laws.specs.EncodingLaws.{long_word_once}
use Rattle.words.specs.Words.{long_word}
use Rattle.image.proofs.OneEntry.{no_long_word}
use Rattle.image.proofs.entries.take_serials.Goals as goal

pub returns-clause-only : goal.returns-clause-only
returns-clause-only c = λ first second rest fits fits_too is.
    let one =
    long_word_once c.in_ok-first.first first c.in_ok-first.rest.now
    (long_word second ++ rest) c.in_ok-first.ensures.fits fits (sym c.in_ok-first.ensures.found ∙ is) in
    let two =
    long_word_once c.in_ok-second.second second c.in_ok-second.rest.now rest c.in_ok-second.ensures.fits fits_too
    (sym c.in_ok-second.ensures.found ∙ one.1) in
    (one.0, two.0, two.1)

pub returns-in_err-first-clause-only : goal.returns-in_err-first-clause-only
returns-in_err-first-clause-only c = λ first second rest fits fits_too is.
    no_long_word c.args.bytes.now first (long_word second ++ rest) c.in_err-first.ensures.none is

pub returns-in_err-second-clause-only : goal.returns-in_err-second-clause-only
returns-in_err-second-clause-only c = λ first second rest fits fits_too is.
    let one =
    long_word_once c.in_ok-first.first first c.in_ok-first.rest.now
    (long_word second ++ rest) c.in_ok-first.ensures.fits fits (sym c.in_ok-first.ensures.found ∙ is) in
    no_long_word c.in_ok-first.rest.now second rest c.in_err-second.ensures.none one.1
