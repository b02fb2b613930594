use Rattle.std.proofs.Common.{◌++◌, ◌∙◌, sym}
use Rattle.ipc_laws.specs.EncodingLaws.{word_once}
use Rattle.words.specs.Words.{word}
use Rattle.image.proofs.OneEntry.{no_word}
use Rattle.image.proofs.ports.take_numbers.Goals as goal

pub returns-clause-only : goal.returns-clause-only
returns-clause-only c = λ limit number count set rest limit_fits number_fits count_fits set_fits is.
    let one =
    word_once c.in_ok-limit.limit limit c.in_ok-limit.rest.now
    (word number ++ (word count ++ (word set ++ rest))) c.in_ok-limit.ensures.fits limit_fits
    (sym c.in_ok-limit.ensures.found ∙ is) in
    let two =
    word_once c.in_ok-sequence_number.sequence_number number c.in_ok-sequence_number.rest.now
    (word count ++ (word set ++ rest)) c.in_ok-sequence_number.ensures.fits number_fits
    (sym c.in_ok-sequence_number.ensures.found ∙ one.1) in
    let three =
    word_once c.in_ok-make_send_count.make_send_count count c.in_ok-make_send_count.rest.now
    (word set ++ rest) c.in_ok-make_send_count.ensures.fits count_fits
    (sym c.in_ok-make_send_count.ensures.found ∙ two.1) in
    let four =
    word_once c.in_ok-set.set set c.in_ok-set.rest.now rest c.in_ok-set.ensures.fits set_fits
    (sym c.in_ok-set.ensures.found ∙ three.1) in
    (one.0, two.0, three.0, four.0, four.1)

pub returns-in_err-limit-clause-only : goal.returns-in_err-limit-clause-only
returns-in_err-limit-clause-only c = λ limit number count set rest limit_fits number_fits count_fits set_fits is.
    no_word c.args.bytes.now limit (word number ++ (word count ++ (word set ++ rest))) c.in_err-limit.ensures.none is

pub returns-in_err-sequence_number-clause-only : goal.returns-in_err-sequence_number-clause-only
returns-in_err-sequence_number-clause-only c =
    λ limit number count set rest limit_fits number_fits count_fits set_fits is.
    let one =
    word_once c.in_ok-limit.limit limit c.in_ok-limit.rest.now
    (word number ++ (word count ++ (word set ++ rest))) c.in_ok-limit.ensures.fits limit_fits
    (sym c.in_ok-limit.ensures.found ∙ is) in
    no_word c.in_ok-limit.rest.now number (word count ++ (word set ++ rest)) c.in_err-sequence_number.ensures.none one.1

pub returns-in_err-make_send_count-clause-only : goal.returns-in_err-make_send_count-clause-only
returns-in_err-make_send_count-clause-only c =
    λ limit number count set rest limit_fits number_fits count_fits set_fits is.
    let one =
    word_once c.in_ok-limit.limit limit c.in_ok-limit.rest.now
    (word number ++ (word count ++ (word set ++ rest))) c.in_ok-limit.ensures.fits limit_fits
    (sym c.in_ok-limit.ensures.found ∙ is) in
    let two =
    word_once c.in_ok-sequence_number.sequence_number number c.in_ok-sequence_number.rest.now
    (word count ++ (word set ++ rest)) c.in_ok-sequence_number.ensures.fits number_fits
    (sym c.in_ok-sequence_number.ensures.found ∙ one.1) in
    no_word c.in_ok-sequence_number.rest.now count (word set ++ rest) c.in_err-make_send_count.ensures.none two.1

pub returns-in_err-set-clause-only : goal.returns-in_err-set-clause-only
returns-in_err-set-clause-only c = λ limit number count set rest limit_fits number_fits count_fits set_fits is.
    let one =
    word_once c.in_ok-limit.limit limit c.in_ok-limit.rest.now
    (word number ++ (word count ++ (word set ++ rest))) c.in_ok-limit.ensures.fits limit_fits
    (sym c.in_ok-limit.ensures.found ∙ is) in
    let two =
    word_once c.in_ok-sequence_number.sequence_number number c.in_ok-sequence_number.rest.now
    (word count ++ (word set ++ rest)) c.in_ok-sequence_number.ensures.fits number_fits
    (sym c.in_ok-sequence_number.ensures.found ∙ one.1) in
    let three =
    word_once c.in_ok-make_send_count.make_send_count count c.in_ok-make_send_count.rest.now
    (word set ++ rest) c.in_ok-make_send_count.ensures.fits count_fits
    (sym c.in_ok-make_send_count.ensures.found ∙ two.1) in
    no_word c.in_ok-make_send_count.rest.now set rest c.in_err-set.ensures.none three.1
