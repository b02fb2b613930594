use Rattle.std.proofs.Common.{◌++◌, ◌∷◌, ◌∙◌, sym}
use Rattle.ipc_laws.specs.EncodingLaws.{long_word_once, word_once}
use Rattle.ipc_model.specs.encodings.PlainCalls.{number_of_bool}
use Rattle.words.specs.Words.{long_word, word}
use Rattle.image.proofs.OneEntry.{no_word, no_long_word}
use Rattle.image.proofs.entries.take_held.Goals as goal

pub returns-clause-only : goal.returns-clause-only
returns-clause-only c = λ port receive send target rest port_fits send_fits target_fits is.
    let one =
    long_word_once c.in_ok-port.port port c.in_ok-port.rest.now
    (number_of_bool receive ∷ (word send ++ (long_word target ++ rest))) c.in_ok-port.ensures.fits port_fits
    (sym c.in_ok-port.ensures.found ∙ is) in
    let two = c.in_ok-receive.ensures.only receive (word send ++ (long_word target ++ rest)) one.1 in
    let three =
    word_once c.in_ok-send.send send c.in_ok-send.rest.now
    (long_word target ++ rest) c.in_ok-send.ensures.fits send_fits (sym c.in_ok-send.ensures.found ∙ two.1) in
    let four =
    long_word_once c.in_ok-target.target target c.in_ok-target.rest.now rest c.in_ok-target.ensures.fits target_fits
    (sym c.in_ok-target.ensures.found ∙ three.1) in
    (one.0, two.0, three.0, four.0, four.1)

pub returns-in_err-port-clause-only : goal.returns-in_err-port-clause-only
returns-in_err-port-clause-only c = λ port receive send target rest port_fits send_fits target_fits is.
    no_long_word c.args.bytes.now port
    (number_of_bool receive ∷ (word send ++ (long_word target ++ rest))) c.in_err-port.ensures.none is

pub returns-in_err-receive-clause-only : goal.returns-in_err-receive-clause-only
returns-in_err-receive-clause-only c = λ port receive send target rest port_fits send_fits target_fits is.
    let one =
    long_word_once c.in_ok-port.port port c.in_ok-port.rest.now
    (number_of_bool receive ∷ (word send ++ (long_word target ++ rest))) c.in_ok-port.ensures.fits port_fits
    (sym c.in_ok-port.ensures.found ∙ is) in
    absurd (c.in_err-receive.ensures.only receive (word send ++ (long_word target ++ rest)) one.1)

pub returns-in_err-send-clause-only : goal.returns-in_err-send-clause-only
returns-in_err-send-clause-only c = λ port receive send target rest port_fits send_fits target_fits is.
    let one =
    long_word_once c.in_ok-port.port port c.in_ok-port.rest.now
    (number_of_bool receive ∷ (word send ++ (long_word target ++ rest))) c.in_ok-port.ensures.fits port_fits
    (sym c.in_ok-port.ensures.found ∙ is) in
    let two = c.in_ok-receive.ensures.only receive (word send ++ (long_word target ++ rest)) one.1 in
    no_word c.in_ok-receive.rest.now send (long_word target ++ rest) c.in_err-send.ensures.none two.1

pub returns-in_err-target-clause-only : goal.returns-in_err-target-clause-only
returns-in_err-target-clause-only c = λ port receive send target rest port_fits send_fits target_fits is.
    let one =
    long_word_once c.in_ok-port.port port c.in_ok-port.rest.now
    (number_of_bool receive ∷ (word send ++ (long_word target ++ rest))) c.in_ok-port.ensures.fits port_fits
    (sym c.in_ok-port.ensures.found ∙ is) in
    let two = c.in_ok-receive.ensures.only receive (word send ++ (long_word target ++ rest)) one.1 in
    let three =
    word_once c.in_ok-send.send send c.in_ok-send.rest.now
    (long_word target ++ rest) c.in_ok-send.ensures.fits send_fits (sym c.in_ok-send.ensures.found ∙ two.1) in
    no_long_word c.in_ok-send.rest.now target rest c.in_err-target.ensures.none three.1
