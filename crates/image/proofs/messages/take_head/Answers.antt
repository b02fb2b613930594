use Rattle.std.proofs.Common.{◌++◌, ◌∷◌, ◌∙◌, sym}
use Rattle.ipc_laws.specs.EncodingLaws.{word_once}
use Rattle.ipc_model.specs.encodings.Images.{reply_right_encoding}
use Rattle.ipc_model.specs.encodings.PlainCalls.{number_of_bool}
use Rattle.words.specs.Words.{word}
use Rattle.image.proofs.OneEntry.{no_word}
use Rattle.image.proofs.messages.take_head.Goals as goal

pub returns-clause-only : goal.returns-clause-only
returns-clause-only c = λ destination reply id size complex rest sent reply_fits id_fits size_fits is.
    let one =
    c.in_ok-destination.ensures.only destination
    (reply_right_encoding reply ++ (word id ++ (word size ++ (number_of_bool complex ∷ rest)))) is in
    let two =
    c.in_ok-reply.ensures.only reply (word id ++ (word size ++ (number_of_bool complex ∷ rest))) reply_fits one.1 in
    let three =
    word_once c.in_ok-id.id id c.in_ok-id.rest.now
    (word size ++ (number_of_bool complex ∷ rest)) c.in_ok-id.ensures.fits id_fits
    (sym c.in_ok-id.ensures.found ∙ two.1) in
    let four = c.in_ok-size.ensures.only size (number_of_bool complex ∷ rest) size_fits three.1 in
    let five = c.in_ok-complex.ensures.only complex rest four.1 in
    (one.0, two.0, three.0, four.0, five.0, five.1)

pub returns-in_err-destination-clause-only : goal.returns-in_err-destination-clause-only
returns-in_err-destination-clause-only c =
    λ destination reply id size complex rest sent reply_fits id_fits size_fits is.
    absurd (c.in_err-destination.ensures.only destination
    (reply_right_encoding reply ++ (word id ++ (word size ++ (number_of_bool complex ∷ rest)))) is)

pub returns-in_err-reply-clause-only : goal.returns-in_err-reply-clause-only
returns-in_err-reply-clause-only c = λ destination reply id size complex rest sent reply_fits id_fits size_fits is.
    let one =
    c.in_ok-destination.ensures.only destination
    (reply_right_encoding reply ++ (word id ++ (word size ++ (number_of_bool complex ∷ rest)))) is in
    absurd (c.in_err-reply.ensures.only reply
    (word id ++ (word size ++ (number_of_bool complex ∷ rest))) reply_fits one.1)

pub returns-in_err-id-clause-only : goal.returns-in_err-id-clause-only
returns-in_err-id-clause-only c = λ destination reply id size complex rest sent reply_fits id_fits size_fits is.
    let one =
    c.in_ok-destination.ensures.only destination
    (reply_right_encoding reply ++ (word id ++ (word size ++ (number_of_bool complex ∷ rest)))) is in
    let two =
    c.in_ok-reply.ensures.only reply (word id ++ (word size ++ (number_of_bool complex ∷ rest))) reply_fits one.1 in
    no_word c.in_ok-reply.rest.now id (word size ++ (number_of_bool complex ∷ rest)) c.in_err-id.ensures.none two.1

pub returns-in_err-size-clause-only : goal.returns-in_err-size-clause-only
returns-in_err-size-clause-only c = λ destination reply id size complex rest sent reply_fits id_fits size_fits is.
    let one =
    c.in_ok-destination.ensures.only destination
    (reply_right_encoding reply ++ (word id ++ (word size ++ (number_of_bool complex ∷ rest)))) is in
    let two =
    c.in_ok-reply.ensures.only reply (word id ++ (word size ++ (number_of_bool complex ∷ rest))) reply_fits one.1 in
    let three =
    word_once c.in_ok-id.id id c.in_ok-id.rest.now
    (word size ++ (number_of_bool complex ∷ rest)) c.in_ok-id.ensures.fits id_fits
    (sym c.in_ok-id.ensures.found ∙ two.1) in
    absurd (c.in_err-size.ensures.only size (number_of_bool complex ∷ rest) size_fits three.1)

pub returns-in_err-complex-clause-only : goal.returns-in_err-complex-clause-only
returns-in_err-complex-clause-only c = λ destination reply id size complex rest sent reply_fits id_fits size_fits is.
    let one =
    c.in_ok-destination.ensures.only destination
    (reply_right_encoding reply ++ (word id ++ (word size ++ (number_of_bool complex ∷ rest)))) is in
    let two =
    c.in_ok-reply.ensures.only reply (word id ++ (word size ++ (number_of_bool complex ∷ rest))) reply_fits one.1 in
    let three =
    word_once c.in_ok-id.id id c.in_ok-id.rest.now
    (word size ++ (number_of_bool complex ∷ rest)) c.in_ok-id.ensures.fits id_fits
    (sym c.in_ok-id.ensures.found ∙ two.1) in
    let four = c.in_ok-size.ensures.only size (number_of_bool complex ∷ rest) size_fits three.1 in
    absurd (c.in_err-complex.ensures.only complex rest four.1)
