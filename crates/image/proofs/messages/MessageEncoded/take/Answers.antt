use Rattle.std.proofs.Common.{◌∙◌, ◌++◌, sym, subst, flat_map, length, arith}
use Rattle.image.specs.Parts.{after_head, message_apart, message_found, none_and, some_and, some_if}
use Rattle.ipc_laws.specs.EncodingLaws.{word_once}
use Rattle.ipc_model.specs.messages.Receiving.{message_size}
use Rattle.ipc_model.specs.encodings.Images.{carried_encoding}
use Rattle.ipc_model.specs.encodings.PlainCalls.{IsMessageSize}
use Rattle.image.proofs.messages.MessageEncoded.take.Goals as goal

pub returns-in_default-clause-only : goal.returns-in_default-clause-only
returns-in_default-clause-only c = λ value rest fits is.
    c.in_default.ensures.only value.destination value.reply value.id (message_size value) value.complex
    (after_head value rest) fits.destination fits.reply fits.id fits.size (is ∙ message_apart value rest)

pub returns-in_default-2-clause-only : goal.returns-in_default-2-clause-only
returns-in_default-2-clause-only c = λ value rest fits is.
    let head =
    c.in-Some.ensures.only value.destination value.reply value.id (message_size value) value.complex
    (after_head value rest) fits.destination fits.reply fits.id fits.size (is ∙ message_apart value rest) in
    let count =
    word_once c.in-Some-take_word.count (length value.rights) c.in-Some-take_word.rest.now
    (flat_map carried_encoding value.rights ++ (value.body ++ rest)) c.in-Some-take_word.ensures.fits
    fits.few_rights (sym c.in-Some-take_word.ensures.found ∙ head.5) in
    none_and c.in_ok-rights.field-0 _ c.in_default-2.is
    (c.in_ok-rights.ensures.only value.rights (value.body ++ rest) fits.rights (sym count.0) count.1)

pub returns-in_default-3-clause-only : goal.returns-in_default-3-clause-only
returns-in_default-3-clause-only c = λ value rest fits is.
    let head =
    c.in-Some.ensures.only value.destination value.reply value.id (message_size value) value.complex
    (after_head value rest) fits.destination fits.reply fits.id fits.size (is ∙ message_apart value rest) in
    let count =
    word_once c.in-Some-take_word.count (length value.rights) c.in-Some-take_word.rest.now
    (flat_map carried_encoding value.rights ++ (value.body ++ rest)) c.in-Some-take_word.ensures.fits
    fits.few_rights (sym c.in-Some-take_word.ensures.found ∙ head.5) in
    let rights =
    some_and c.in_ok-rights.field-0 _ (c.in-Some-2.rights, c.in-Some-2.rest) c.in-Some-2.is
    (c.in_ok-rights.ensures.only value.rights (value.body ++ rest) fits.rights (sym count.0) count.1) in
    none_and c.in_ok-body.field-0 _ c.in_default-3.is (c.in_ok-body.ensures.only value.body rest head.3 rights.1)

pub returns-clause-found : goal.returns-clause-found
returns-clause-found c =
    let rights =
    some_if c.in_ok-rights.field-0 _
    (c.in-Some-2.rights, c.in-Some-2.rest) c.in-Some-2.is c.in_ok-rights.ensures.found in
    let body =
    some_if c.in_ok-body.field-0 _ (c.in-Some-3.body, c.in-Some-3.rest) c.in-Some-3.is c.in_ok-body.ensures.found in (
      message_found c.args.bytes.now
          (record {
            destination = c.in-Some.head.destination;
            reply = c.in-Some.head.reply;
            id = c.in-Some.head.id;
            complex = c.in-Some.head.complex;
            rights = c.in-Some-2.rights;
            body = c.in-Some-3.body;
          })
          c.in-Some.head.size c.in-Some-take_word.count c.in-Some.rest.now c.in-Some-take_word.rest.now
          c.in-Some-2.rest.now c.in-Some-3.rest.now
          c.in-Some.ensures.found c.in-Some-take_word.ensures.found rights.0 rights.1 body.0 body.1,
      record {
        destination = c.in-Some.ensures.fits.0;
        reply = c.in-Some.ensures.fits.1;
        id = c.in-Some.ensures.fits.2;
        size = subst IsMessageSize body.1 c.in-Some.ensures.fits.3;
        few_rights = omega (arith, c.in-Some-take_word.ensures.fits, rights.1);
        rights = rights.2;
        bytes = body.2;
      },
    )

pub returns-clause-only : goal.returns-clause-only
returns-clause-only c = λ value rest fits is.
    let head =
    c.in-Some.ensures.only value.destination value.reply value.id (message_size value) value.complex
    (after_head value rest) fits.destination fits.reply fits.id fits.size (is ∙ message_apart value rest) in
    let count =
    word_once c.in-Some-take_word.count (length value.rights) c.in-Some-take_word.rest.now
    (flat_map carried_encoding value.rights ++ (value.body ++ rest)) c.in-Some-take_word.ensures.fits
    fits.few_rights (sym c.in-Some-take_word.ensures.found ∙ head.5) in
    let rights =
    some_and c.in_ok-rights.field-0 _ (c.in-Some-2.rights, c.in-Some-2.rest) c.in-Some-2.is
    (c.in_ok-rights.ensures.only value.rights (value.body ++ rest) fits.rights (sym count.0) count.1) in
    let body =
    some_and c.in_ok-body.field-0 _ (c.in-Some-3.body, c.in-Some-3.rest) c.in-Some-3.is
    (c.in_ok-body.ensures.only value.body rest head.3 rights.1) in (
      (λ i. record {
        destination = head.0 i;
        reply = head.1 i;
        id = head.2 i;
        complex = head.4 i;
        rights = rights.0 i;
        body = body.0 i;
      }),
      body.1,
    )
