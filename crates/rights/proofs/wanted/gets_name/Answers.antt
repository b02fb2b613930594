use Rattle.std.proofs.Common.{[], take, get_or, sym, ◌∙◌, ap}
use Rattle.rights.specs.Wanting.{named_after}
use Rattle.rights.proofs.Naming.{blank, brought_by_one, not_brought, named_one_more, holds}
use Rattle.rights.proofs.wanted.gets_name.Goals as goal

pub returns-then-is_named_by : goal.returns-then-is_named_by
returns-then-is_named_by c =
    sym (brought_by_one c.args.port c.args.rights.now c.loop-right.right-index blank c.loop-right-test.true
    (sym c.is_named_by.ensures ∙ c.if-is_named_by.true))

pub loop-right-preserved : goal.loop-right-preserved
loop-right-preserved c =
    let rights = c.args.rights.now in
    let i = c.loop-right.right-index in
    ap (holds c.args.port) (named_one_more rights i blank c.loop-right-test.true)
    ∙ not_brought c.args.port (named_after [] (take i rights)) (get_or rights i blank).kind (get_or rights i blank).port
    (sym c.is_named_by.ensures ∙ c.if-is_named_by.false) c.loop-right.invariant
