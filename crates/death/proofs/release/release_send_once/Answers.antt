use Rattle.death.proofs.Dying.{notified_once}
use Rattle.death.proofs.release.release_send_once.Goals as goal

pub returns-clause-ok : goal.returns-clause-ok
returns-clause-ok c =
    notified_once c.notify.result c.args.state.now.current c.notify.new.state.current c.args.serial c.notify.ensures.ok
