use Rattle.std.proofs.Common.{ap, drop, List, ℕ}
use Rattle.image.specs.Parts.{target_fits}
use Rattle.ipc_model.specs.encodings.Images.{number_or_0}
use Rattle.image.proofs.entries.take_send_once.Goals as goal

pub returns-in_err-port-clause-only : goal.returns-in_err-port-clause-only
returns-in_err-port-clause-only c = λ port target rest fits is.
    absurd (c.in_err-port.ensures.only port (number_or_0 target) rest fits.0 (target_fits target fits.1)
    (ap (λ (l : List ℕ). drop 1 l) is))
