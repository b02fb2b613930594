use Rattle.death.proofs.Dying.{all_released}
use Rattle.death.proofs.receive.die.Goals as goal

pub returns-clause-effects : goal.returns-clause-effects
returns-clause-effects c =
    all_released c.release_target.result c.args.state.now.current c.args.serial c.args.numbers.no_senders_target
    c.args.effects.now c.releases.new.effects c.bury.new.effects c.release_target.new.self c.in_ok-releases.ensures
    c.in_ok-bury.ensures.notified c.release_target.ensures.ok
