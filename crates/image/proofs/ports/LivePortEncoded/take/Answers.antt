use Rattle.std.proofs.Common.{◌∙◌, ◌++◌, sym}
use Rattle.image.specs.Parts.{none_and, some_and}
use Rattle.ipc_laws.specs.EncodingLaws.{long_word_once}
use Rattle.ipc_model.specs.encodings.Images.{port_encoding}
use Rattle.image.proofs.ports.LivePortEncoded.take.Goals as goal

pub returns-in_default-2-clause-only : goal.returns-in_default-2-clause-only
returns-in_default-2-clause-only c = λ value rest fits is.
    let serial =
    long_word_once c.in-Some.serial value.serial c.in-Some.rest.now
    (port_encoding value.state ++ rest) c.in-Some.ensures.fits fits.0 (sym c.in-Some.ensures.found ∙ is) in
    none_and c.in_ok-state.field-0 _ c.in_default-2.is (c.in_ok-state.ensures.only value.state rest fits.1 serial.1)

pub returns-clause-only : goal.returns-clause-only
returns-clause-only c = λ value rest fits is.
    let serial =
    long_word_once c.in-Some.serial value.serial c.in-Some.rest.now
    (port_encoding value.state ++ rest) c.in-Some.ensures.fits fits.0 (sym c.in-Some.ensures.found ∙ is) in
    let state =
    some_and c.in_ok-state.field-0 _ (c.in-Some-2.state, c.in-Some-2.rest) c.in-Some-2.is
    (c.in_ok-state.ensures.only value.state rest fits.1 serial.1) in
    ((λ i. record { serial = serial.0 i; state = state.0 i }), state.1)
