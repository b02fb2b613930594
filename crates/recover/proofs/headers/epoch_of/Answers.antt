use Rattle.std.proofs.Common.{◌++◌}
use Rattle.words.specs.Words.{long_word}
use Rattle.recover.proofs.Fronts.{epoch_after, if_none}
use Rattle.recover.proofs.headers.epoch_of.Goals as goal

pub returns-clause-found : goal.returns-clause-found
returns-clause-found c =
    epoch_after c.args.slot.now c.in_ok-rest.rest.now c.in_ok-epoch.field-0-1.now c.in_ok-epoch.epoch
    c.in_ok-rest.ensures.found c.in_ok-epoch.ensures.found c.in_ok-epoch.ensures.fits

pub returns-in_err-rest-clause-none : goal.returns-in_err-rest-clause-none
returns-in_err-rest-clause-none c =
    if_none _ c.from_residual.result
    (λ _ number epoch is. c.in_err-rest.ensures.none is.version (long_word epoch ++ is.rest) is.encoding)
