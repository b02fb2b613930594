use Rattle.std.proofs.Common.{ℕ, List, drop, ap, arith}
use Rattle.calls.specs.Requests.{MachMsg}
use Rattle.calls.proofs.Messages.{bytes_after}
use Rattle.calls.proofs.request.read_mach_msg.Goals as goal

pub returns-in_default-request_of-clause-memory : goal.returns-in_default-request_of-clause-memory
returns-in_default-request_of-clause-memory c = λ none.
    let m : MachMsg =
    record {
      option = c.in-Some.option;
      limit = c.in-Some.limit;
      name = c.in-Some.name;
      timeout = c.in-Some.timeout;
      message = c.in-Some.message.now;
    } in
    (m, c.in-Some.ensures.found, c.in_default-request_of.ensures.memory)

pub returns-clause-found : goal.returns-clause-found
returns-clause-found c =
    let m : MachMsg =
    record {
      option = c.in-Some.option;
      limit = c.in-Some.limit;
      name = c.in-Some.name;
      timeout = c.in-Some.timeout;
      message = c.in-Some.message.now;
    } in
    let fits = c.in-Some.ensures.fits in
    let bytes =
    bytes_after c.args.arguments.now c.in-Some.message.now 16
    (λ i. omega (arith, c.type_inv.arguments i)) (ap (λ (l : List ℕ). drop 16 l) c.in-Some.ensures.found) in (
      m,
      record { option = fits.0; limit = fits.1; name = fits.2; timeout = fits.3; message = bytes },
      c.in-Some.ensures.found,
      c.in-Ok.ensures.asked,
    )
