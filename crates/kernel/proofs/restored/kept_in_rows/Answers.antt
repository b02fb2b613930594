use Rattle.std.proofs.Common.{rules, ◌≡◌, List, [], Option, ap, sym, ◌∙◌}
use Rattle.std.proofs.lemmas.List.{nil_from_length}
use Rattle.std.specs.Vec.Iter.{into_iter_items}
use Rattle.ipc_model.specs.declared.reply.NumberedReply.{NumberedReply}
use Rattle.ipc_model.specs.state.State.{KeptReplies}
use Rattle.kernel.specs.Restoring.{put_nothing, put_rows}
use Rattle.kernel.proofs.restored.kept_in_rows.Goals as goal

pub returns : goal.returns
returns c =
    let left : List (Option NumberedReply) = into_iter_items c.loop-row.row-iterator in
    let none : left ≡ [] = nil_from_length left (c.loop-row.invariant.long ∙ c.in-None.ensures.steps.0) in
    let start : into_iter_items c.into_iter-row-iterator.result ≡ c.args.rows.items = search rules in
    sym (put_nothing c.loop-row.kept c.loop-row.rest.now)
    ∙ ap (put_rows c.loop-row.kept c.loop-row.rest.now) (sym none) ∙ c.loop-row.invariant.put
    ∙ ap (put_rows c.new-kept.result c.args.spaces.now) start
    ∙ ap (λ (m : KeptReplies). put_rows m c.args.spaces.now c.args.rows.items) c.new-kept.ensures
