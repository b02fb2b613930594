-- The program's notices and effects as those of the abstract specification.
use Rattle.effects.specs.declared.effect.Effect.{Effect}
use Rattle.effects.specs.declared.effect.Effect.TheVariants as this
use Rattle.effects.specs.declared.notice.Notice.{Notice}
use Rattle.effects.specs.declared.notice.Notice.TheVariants as notified
use Rattle.ipc_model.specs.effects.Effects as machine
use Rattle.ipc_model.specs.messages.Notices as notice

abbrev pub notice_meant : Notice → notice.Notice
notice_meant (notified.PortDeleted name) = notice.PortDeleted name
notice_meant (notified.NoSenders count) = notice.NoSenders count
notice_meant notified.SendOnce = notice.SendOnce
notice_meant (notified.DeadName name) = notice.DeadName name

abbrev pub effect_meant : Effect → machine.Effect
effect_meant (this.Release kind port) = machine.release kind port
effect_meant (this.Notify target what) = machine.notify target (notice_meant what)
