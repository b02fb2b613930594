use Rattle.std.proofs.Common.{ap, drop, List, ℕ}
use Rattle.image.specs.Parts.{target_fits}
use Rattle.ipc_model.specs.declared.entry.Entry.TheVariants.{Port}
use Rattle.ipc_model.specs.encodings.Images.{number_or_0}
use Rattle.image.proofs.entries.take_rights.Goals as goal

pub returns-in_err-port-clause-only : goal.returns-in_err-port-clause-only
returns-in_err-port-clause-only c = λ rights rest fits is.
    absurd (c.in_err-port.ensures.only rights.port rights.receive rights.send
    (number_or_0 rights.dead_name_target) rest fits.0 fits.1 (target_fits rights.dead_name_target fits.2)
    (ap (λ (l : List ℕ). drop 1 l) is))

pub returns-clause-only : goal.returns-clause-only
returns-clause-only c = λ rights rest fits is.
    let held =
    c.in_ok-port.ensures.only rights.port rights.receive rights.send
    (number_or_0 rights.dead_name_target) rest fits.0 fits.1 (target_fits rights.dead_name_target fits.2)
    (ap (λ (l : List ℕ). drop 1 l) is) in
    let target = c.target_of.ensures.only rights.dead_name_target fits.2 held.3 in
    ((λ i. Port (record { port = held.0 i; receive = held.1 i; send = held.2 i; dead_name_target = target i })), held.4)
