use Rattle.std.proofs.Common.{◌∙◌, ap, sym, is_some}
use Rattle.std.specs.FinMap as finmap
use Rattle.ipc_laws.specs.MapLaws.{get-here}
use Rattle.ipc_model.specs.state.State.{KeptReplies}
use Rattle.kernel.specs.Keeping.{back_again, put_back}
use Rattle.kernel.proofs.keeping.keep_recorded.Goals as goal

pub put_back-requires : goal.put_back-requires
put_back-requires g c =
    ap (λ (m : KeptReplies). is_some (finmap.get m c.args.space)) c.in_ok-before-in-Answer.ensures.ok
    ∙ ap is_some (get-here c.args.kept.now c.args.space c.in-Answer.given)

pub returns-in-Err-clause-err : goal.returns-in-Err-clause-err
returns-in-Err-clause-err g c =
    let before = c.in_ok-before-in-Answer.before in (
      c.put_back.ensures
          ∙ ap (λ (m : KeptReplies). put_back m c.args.space before) c.in_ok-before-in-Answer.ensures.ok
          ∙ back_again c.args.kept.now c.args.space c.in-Answer.given before
          (sym c.in_ok-before-in-Answer.ensures.before),
      c.in-Err.ensures.err,
    )
