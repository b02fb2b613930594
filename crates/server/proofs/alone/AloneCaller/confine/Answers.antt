use Rattle.std.proofs.Common.{Bool, ◌||◌, ap, ◌∙◌}
use Rattle.ipc_model.specs.calls.Step.{succeeded}
use Rattle.server.proofs.alone.AloneCaller.confine.Goals as goal

pub returns-in-Ok-clause-answers : goal.returns-in-Ok-clause-answers
returns-in-Ok-clause-answers g c =
    let mid = c.attach_again.new.self in
    let confined =
    c.confined_after-self-inside.ensures ∙ ap (λ (b : Bool). succeeded c.in-Ok.said || b)
    (ap (λ v. v.confined) c.self.view_is ∙ c.in-Ok.ensures.answers.stored.2) in (
      c.in-Ok.said,
      mid,
      c.in-Ok.ensures.answers,
      c.reply.ensures.shown,
      λ i. record {
        kernel = (c.self.view_is i).kernel;
        store = (c.self.view_is i).store;
        space = (c.self.view_is i).space;
        confined = confined i;
        failed = (c.self.view_is i).failed;
      },
    )
