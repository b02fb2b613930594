use Rattle.std.proofs.Common.{◌∙◌, [], sym, ap, length, arith}
use Rattle.image.specs.Parts.{after_next, after_spaces, none_and, snapshot_apart, snapshot_found, some_and, some_if}
use Rattle.ipc_laws.specs.EncodingLaws.{long_word_once}
use Rattle.image.proofs.image.read_snapshot.Goals as goal

pub returns-in_default-clause-only : goal.returns-in_default-clause-only
returns-in_default-clause-only c =
    λ snapshot fits is. omega (arith, c.in_default.ensures.none, ap length (is ∙ snapshot_apart c.args.version snapshot))

pub returns-in_default-2-clause-only : goal.returns-in_default-2-clause-only
returns-in_default-2-clause-only c = λ snapshot fits is.
    let next =
    long_word_once c.in-Some.next_serial snapshot.ipc.next_serial c.in-Some.rest.now
    (after_next c.args.version snapshot) c.in-Some.ensures.fits fits.next_serial
    (sym c.in-Some.ensures.found ∙ is ∙ snapshot_apart c.args.version snapshot) in
    none_and c.in_ok-spaces.field-0 _ c.in_default-2.is
    (c.in_ok-spaces.ensures.only snapshot.ipc.spaces snapshot.kept
    (after_spaces snapshot) fits.few_spaces fits.each_kept fits.spaces fits.spaces_ascend next.1)

pub returns-in_default-3-clause-only : goal.returns-in_default-3-clause-only
returns-in_default-3-clause-only c = λ snapshot fits is.
    let next =
    long_word_once c.in-Some.next_serial snapshot.ipc.next_serial c.in-Some.rest.now
    (after_next c.args.version snapshot) c.in-Some.ensures.fits fits.next_serial
    (sym c.in-Some.ensures.found ∙ is ∙ snapshot_apart c.args.version snapshot) in
    let spaces =
    some_and c.in_ok-spaces.field-0 _ (c.in-Some-2.spaces, c.in-Some-2.kept, c.in-Some-2.rest) c.in-Some-2.is
    (c.in_ok-spaces.ensures.only snapshot.ipc.spaces snapshot.kept
    (after_spaces snapshot) fits.few_spaces fits.each_kept fits.spaces fits.spaces_ascend next.1) in
    none_and c.in_ok-ports.field-0 _ c.in_default-3.is
    (c.in_ok-ports.ensures.only snapshot.ipc.ports [] fits.few_ports fits.ports fits.ports_ascend spaces.2)

pub returns-then-not-is_end-clause-only : goal.returns-then-not-is_end-clause-only
returns-then-not-is_end-clause-only c = λ snapshot fits is.
    let next =
    long_word_once c.in-Some.next_serial snapshot.ipc.next_serial c.in-Some.rest.now
    (after_next c.args.version snapshot) c.in-Some.ensures.fits fits.next_serial
    (sym c.in-Some.ensures.found ∙ is ∙ snapshot_apart c.args.version snapshot) in
    let spaces =
    some_and c.in_ok-spaces.field-0 _ (c.in-Some-2.spaces, c.in-Some-2.kept, c.in-Some-2.rest) c.in-Some-2.is
    (c.in_ok-spaces.ensures.only snapshot.ipc.spaces snapshot.kept
    (after_spaces snapshot) fits.few_spaces fits.each_kept fits.spaces fits.spaces_ascend next.1) in
    let ports =
    some_and c.in_ok-ports.field-0 _ (c.in-Some-3.ports, c.in-Some-3.rest) c.in-Some-3.is
    (c.in_ok-ports.ensures.only snapshot.ipc.ports [] fits.few_ports fits.ports fits.ports_ascend spaces.2) in
    c.if-not-is_end.ensures ports.1

pub returns-clause-found : goal.returns-clause-found
returns-clause-found c =
    let spaces =
    some_if c.in_ok-spaces.field-0 _
    (c.in-Some-2.spaces, c.in-Some-2.kept, c.in-Some-2.rest) c.in-Some-2.is c.in_ok-spaces.ensures.found in
    let ports =
    some_if c.in_ok-ports.field-0 _ (c.in-Some-3.ports, c.in-Some-3.rest) c.in-Some-3.is c.in_ok-ports.ensures.found
    in (
      snapshot_found c.args.version c.args.bytes.now
          (record {
            ipc = record {
              next_serial = c.in-Some.next_serial;
              spaces = c.in-Some-2.spaces;
              ports = c.in-Some-3.ports;
            };
            kept = c.in-Some-2.kept;
          })
          c.in-Some.rest.now c.in-Some-2.rest.now c.in-Some-3.rest.now c.in-Some.ensures.found spaces.0 ports.0
          c.if-not-is_end.ensures,
      record {
        next_serial = c.in-Some.ensures.fits;
        few_spaces = spaces.1;
        each_kept = spaces.2;
        spaces = spaces.3;
        spaces_ascend = spaces.4;
        few_ports = ports.1;
        ports = ports.2;
        ports_ascend = ports.3;
      },
    )

pub returns-clause-only : goal.returns-clause-only
returns-clause-only c = λ snapshot fits is.
    let next =
    long_word_once c.in-Some.next_serial snapshot.ipc.next_serial c.in-Some.rest.now
    (after_next c.args.version snapshot) c.in-Some.ensures.fits fits.next_serial
    (sym c.in-Some.ensures.found ∙ is ∙ snapshot_apart c.args.version snapshot) in
    let spaces =
    some_and c.in_ok-spaces.field-0 _ (c.in-Some-2.spaces, c.in-Some-2.kept, c.in-Some-2.rest) c.in-Some-2.is
    (c.in_ok-spaces.ensures.only snapshot.ipc.spaces snapshot.kept
    (after_spaces snapshot) fits.few_spaces fits.each_kept fits.spaces fits.spaces_ascend next.1) in
    let ports =
    some_and c.in_ok-ports.field-0 _ (c.in-Some-3.ports, c.in-Some-3.rest) c.in-Some-3.is
    (c.in_ok-ports.ensures.only snapshot.ipc.ports [] fits.few_ports fits.ports fits.ports_ascend spaces.2) in
    (λ i. record {
      ipc = record { next_serial = next.0 i; spaces = spaces.0 i; ports = ports.0 i };
      kept = spaces.1 i;
    })
