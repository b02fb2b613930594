use Rattle.std.proofs.Common.{◌∙◌, arith}
use Rattle.image.specs.Taking.{all_taken, leads_none, leads_some, none_so_far, one_more_so_far, seen_taken, too_few}
use Rattle.image.proofs.encoded.take_rows.Goals as goal

pub loop-init : goal.loop-init
loop-init g c =
    none_so_far (g.T.Encoded.encoding c.args.version) g.T.Encoded.fits c.args.bytes.now c.args.count c.new-rows.result.items
    c.new-rows.ensures.items

pub returns-in_default-clause-only : goal.returns-in_default-clause-only
returns-in_default-clause-only g c = λ rows rest fit long is.
    too_few (g.T.Encoded.encoding c.args.version) g.T.Encoded.fits c.args.bytes.now c.args.count c.loop.rows.items c.loop.rest.now
    (omega (arith, c.loop-test.true, c.loop.invariant.1)) c.loop.invariant.0
    (leads_none (g.T.Encoded.encoding c.args.version) g.T.Encoded.fits c.loop.rest.now c.in_ok-row.field-0 c.in_default.is
    (c.in_ok-row.ensures.found, c.in_ok-row.ensures.only)) rows rest (fit, long, is)

pub loop-preserved : goal.loop-preserved
loop-preserved g c =
    one_more_so_far (g.T.Encoded.encoding c.args.version) g.T.Encoded.fits c.args.bytes.now c.args.count c.loop.rows.items
    c.push.new.self.items c.loop.rest.now c.in-Some.row c.in-Some.beyond.now c.loop.counter
    c.loop-test.true c.in_ok-push.ensures.items c.loop.invariant
    (leads_some (g.T.Encoded.encoding c.args.version) g.T.Encoded.fits c.loop.rest.now c.in_ok-row.field-0 c.in-Some.row c.in-Some.beyond
    c.in-Some.is (c.in_ok-row.ensures.found, c.in_ok-row.ensures.only))

pub returns-clause-found : goal.returns-clause-found
returns-clause-found g c =
    seen_taken (g.T.Encoded.encoding c.args.version) g.T.Encoded.fits c.args.bytes.now c.args.count c.loop.rows.items c.new.result
    c.loop.rest.now c.new.ensures (omega (arith, c.loop-test.false, c.loop.auto.counter-end, c.loop.invariant.1))
    c.loop.invariant.0

pub returns-clause-only : goal.returns-clause-only
returns-clause-only g c = λ rows rest fit long is.
    let all =
    all_taken (g.T.Encoded.encoding c.args.version) g.T.Encoded.fits c.args.bytes.now c.args.count c.loop.rows.items c.loop.rest.now
    (omega (arith, c.loop-test.false, c.loop.auto.counter-end, c.loop.invariant.1)) c.loop.invariant.0 rows rest
    (fit, long, is) in
    (c.new.ensures ∙ all.0, all.1)
