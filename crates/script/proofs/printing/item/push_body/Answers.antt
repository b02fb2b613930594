use Rattle.std.proofs.Common.{◌∙◌, arith}
use Rattle.script.specs.printing.Items.{body_within, body_words}
use Rattle.script.proofs.printing.ItemLoops.{added_some, added_none, all_pushed, item_pushed, no_item_left, none_left, rest_pushed}
use Rattle.script.proofs.printing.item.push_body.Goals as goal

pub loop-left-init : goal.loop-left-init
loop-left-init c = all_pushed c.args.line.now.items c.args.body.now

pub loop-left-preserved : goal.loop-left-preserved
loop-left-preserved c =
    let added = added_some _ _ _ _ (rw c.in-Some.is at c.in_ok-beyond.ensures) in
    item_pushed _ _ c.loop-left.rest.now c.in-Some.beyond.now c.loop-left.left added.0 added.1
    (omega (arith, c.loop-left-test.true)) added.2 ∙ c.loop-left.invariant

pub returns-in_default : goal.returns-in_default
returns-in_default c =
    let none = added_none _ _ _ (rw c.in_default.is at c.in_ok-beyond.ensures) in
    rest_pushed c.push_optional_bytes.result c.args.line.now.items c.loop-left.line.items _
    (body_within c.loop-left.left c.loop-left.rest.now) _ (body_words c.args.body.now)
    (no_item_left c.loop-left.rest.now c.loop-left.left none.0) c.loop-left.invariant
    (rw none.1 at c.push_optional_bytes.ensures)

pub returns : goal.returns
returns c =
    rest_pushed c.push_optional_bytes-2.result c.args.line.now.items c.loop-left.line.items _
    (body_within c.loop-left.left c.loop-left.rest.now) _ (body_words c.args.body.now)
    (none_left c.loop-left.rest.now c.loop-left.left (omega (arith, c.loop-left-test.false))) c.loop-left.invariant
    c.push_optional_bytes-2.ensures
