use Rattle.std.proofs.Common.{◌++◌, sym, ◌∙◌}
use Rattle.ipc_laws.specs.EncodingLaws.{long_word_once, word_once, frame_once}
use Rattle.words.specs.Words.{word, frame_encoding}
use Rattle.record.proofs.read.take_parts.Goals as goal

pub returns-clause-only : goal.returns-clause-only
returns-clause-only c = λ number space call reply rest fits space_fits short short_too is.
    let replies = frame_encoding reply ++ rest in
    let calls = frame_encoding call ++ replies in
    let first =
    long_word_once c.in_ok-number.number number c.in_ok-number.rest.now
    (word space ++ calls) c.in_ok-number.ensures.fits fits (sym c.in_ok-number.ensures.found ∙ is) in
    let second =
    word_once c.in_ok-space.space space c.in_ok-space.rest.now calls c.in_ok-space.ensures.fits space_fits
    (sym c.in_ok-space.ensures.found ∙ first.1) in
    let third =
    frame_once c.in_ok-call.call.now call c.in_ok-call.rest.now replies c.in_ok-call.ensures.found.1 short
    (sym c.in_ok-call.ensures.found.0 ∙ second.1) in
    let fourth =
    frame_once c.in_ok-reply.reply.now reply c.in_ok-reply.rest.now rest c.in_ok-reply.ensures.found.1 short_too
    (sym c.in_ok-reply.ensures.found.0 ∙ third.1) in
    (first.0, second.0, third.0, fourth.0, fourth.1)
