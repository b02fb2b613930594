use Rattle.std.proofs.Common.{◌≡◌, ◌<◌, true, false, ap, subst, sym, ◌∙◌}
use Rattle.std.specs.Prelude.{is_some}
use Rattle.std.proofs.lemmas.Result.{on_ok_weaker}
use Rattle.system.proofs.Calls.{match_true}
use Rattle.system.proofs.Going.{begins_kept, first_step, from_begun, image_goes, none_due, rolled_standing}
use Rattle.system.proofs.system.System.go_on.Goals as goal

pub roll-requires : goal.roll-requires
roll-requires g c =
    let begins = match_true _ _ c.in-Ok-true.field-0 c.in-Ok-true.field-0-test c.in-Ok-true.ensures.done in
    first_step g.D.Disk.honest g.D.Disk.view c.args.self.now c.cut.new.self c.requires begins

pub returns-in-Ok-true-clause-kept : goal.returns-in-Ok-true-clause-kept
returns-in-Ok-true-clause-kept g c = λ is_honest standing.
    let begins = match_true _ _ c.in-Ok-true.field-0 c.in-Ok-true.field-0-test c.in-Ok-true.ensures.done in
    let kept =
    begins_kept g.D.Disk.honest g.D.Disk.view c.args.self.now c.cut.new.self c.requires
    (subst (λ s. is_some s.store.checkpoint ≡ false) c.self.view_is
    (sym c.is_checkpointing.ensures ∙ c.if-is_checkpointing.false)) begins is_honest standing in
    on_ok_weaker _ (rolled_standing g.D.Disk.honest g.D.Disk.view c.args.self.now c.cut.new.self c.roll.new.self begins
    c.roll.ensures.rest) (c.roll.ensures.kept is_honest c.args.self.now.core.kernel kept)

pub returns-in-Ok-true-clause-passes : goal.returns-in-Ok-true-clause-passes
returns-in-Ok-true-clause-passes g c = λ is_honest standing.
    let begins = match_true _ _ c.in-Ok-true.field-0 c.in-Ok-true.field-0-test c.in-Ok-true.ensures.done in
    let kept =
    begins_kept g.D.Disk.honest g.D.Disk.view c.args.self.now c.cut.new.self c.requires
    (subst (λ s. is_some s.store.checkpoint ≡ false) c.self.view_is
    (sym c.is_checkpointing.ensures ∙ c.if-is_checkpointing.false)) begins is_honest standing in
    from_begun g.D.Disk.honest g.D.Disk.view c.args.self.now c.cut.new.self c.roll.new.self c.args.self.now.core.kernel
    begins (c.roll.ensures.passes is_honest c.args.self.now.core.kernel kept)

pub returns-then-is_checkpointing-clause-goes : goal.returns-then-is_checkpointing-clause-goes
returns-then-is_checkpointing-clause-goes g c =
    on_ok_weaker _ (image_goes g.D.Disk.honest g.D.Disk.view c.args.records c.args.self.now.core.kernel
    c.args.self.now.store.checkpoint c.args.self.now.store _
    (subst (λ s. is_some s.store.checkpoint ≡ true) c.self.view_is
    (sym c.is_checkpointing.ensures ∙ c.if-is_checkpointing.true)))
    (assumption c)

pub returns-then-log_length-records-clause-goes : goal.returns-then-log_length-records-clause-goes
returns-then-log_length-records-clause-goes g c =
    none_due g.D.Disk.honest g.D.Disk.view c.args.records c.args.self.now.core.kernel c.args.self.now.store.checkpoint
    c.args.self.now.store (subst (λ s. is_some s.store.checkpoint ≡ false) c.self.view_is
    (sym c.is_checkpointing.ensures ∙ c.if-is_checkpointing.false))
    (subst (λ n. n < c.args.records)
    (c.log_length.ensures ∙ ap (λ s. s.core.log.length) c.self.view_is ∙ c.requires.length)
    c.if-log_length-records.true)

pub returns-in-Err-clause-failures : goal.returns-in-Err-clause-failures
returns-in-Err-clause-failures g c = ap (λ s. g.D.Disk.failed_calls s.store.disk) c.in-Err.ensures.err.1
