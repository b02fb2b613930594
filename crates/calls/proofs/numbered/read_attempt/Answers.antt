use Rattle.std.proofs.Common.{ℕ, List, drop, ap, arith}
use Rattle.calls.specs.Requests.{FitsMachMsg, MachMsg}
use Rattle.calls.proofs.Messages.{bytes_after}
use Rattle.calls.proofs.RequestLaws.{attempt_found, attempt_lacks}
use Rattle.calls.proofs.numbered.read_attempt.Goals as goal

pub returns-clause-found : goal.returns-clause-found
returns-clause-found c =
    let m : MachMsg =
    record {
      option = c.in-Some.option;
      limit = c.in-Some.limit;
      name = c.in-Some.name;
      timeout = c.in-Some.timeout;
      message = c.in-Some.message.now;
    } in
    let fits = c.in-Some.ensures.fits in
    let bytes =
    bytes_after c.args.arguments.now c.in-Some.message.now 16
    (λ i. omega (arith, c.type_inv.arguments i)) (ap (λ (l : List ℕ). drop 16 l) c.in-Some.ensures.found) in
    let all : FitsMachMsg m =
    record { option = fits.0; limit = fits.1; name = fits.2; timeout = fits.3; message = bytes } in
    attempt_found m c.args.arguments.now c.attempt_of.result all c.in-Some.ensures.found (cc c.if-timeout-ne0.false)
    c.attempt_of.ensures.asked

pub returns-clause-memory : goal.returns-clause-memory
returns-clause-memory c =
    let m : MachMsg =
    record {
      option = c.in-Some.option;
      limit = c.in-Some.limit;
      name = c.in-Some.name;
      timeout = c.in-Some.timeout;
      message = c.in-Some.message.now;
    } in
    let fits = c.in-Some.ensures.fits in
    let bytes =
    bytes_after c.args.arguments.now c.in-Some.message.now 16
    (λ i. omega (arith, c.type_inv.arguments i)) (ap (λ (l : List ℕ). drop 16 l) c.in-Some.ensures.found) in
    let all : FitsMachMsg m =
    record { option = fits.0; limit = fits.1; name = fits.2; timeout = fits.3; message = bytes } in
    attempt_lacks m c.args.arguments.now c.attempt_of.result all c.in-Some.ensures.found (cc c.if-timeout-ne0.false)
    c.attempt_of.ensures.memory
