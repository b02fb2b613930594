use Rattle.std.proofs.Common.{◌∙◌}
use Rattle.image.specs.Parts.{after_numbers, after_targets, port_apart, set_fits, some_and, target_fits}
use Rattle.ipc_model.specs.encodings.Images.{number_or_0}
use Rattle.image.proofs.ports.take_port.Goals as goal

pub returns-in_default-clause-only : goal.returns-in_default-clause-only
returns-in_default-clause-only c = λ port rest fits is.
    c.in_default.ensures.only port.limit port.sequence_number port.make_send_count (number_or_0 port.set)
    (after_numbers port rest)
    fits.limit fits.sequence_number fits.make_send_count (set_fits port.set fits.set) (is ∙ port_apart port rest)

pub returns-in_default-take_serials-clause-only : goal.returns-in_default-take_serials-clause-only
returns-in_default-take_serials-clause-only c = λ port rest fits is.
    let numbers =
    c.in-Some.ensures.only port.limit port.sequence_number port.make_send_count (number_or_0 port.set)
    (after_numbers port rest)
    fits.limit fits.sequence_number fits.make_send_count (set_fits port.set fits.set) (is ∙ port_apart port rest) in
    c.in_default-take_serials.ensures.only (number_or_0 port.no_senders_target) (number_or_0 port.port_destroyed_target)
    (after_targets port rest)
    (target_fits port.no_senders_target fits.no_senders_target)
    (target_fits port.port_destroyed_target fits.port_destroyed_target) numbers.4

pub returns-clause-only : goal.returns-clause-only
returns-clause-only c = λ port rest fits is.
    let numbers =
    c.in-Some.ensures.only port.limit port.sequence_number port.make_send_count (number_or_0 port.set)
    (after_numbers port rest)
    fits.limit fits.sequence_number fits.make_send_count (set_fits port.set fits.set) (is ∙ port_apart port rest) in
    let targets =
    c.in-Some-take_serials.ensures.only (number_or_0 port.no_senders_target)
    (number_or_0 port.port_destroyed_target) (after_targets port rest)
    (target_fits port.no_senders_target fits.no_senders_target)
    (target_fits port.port_destroyed_target fits.port_destroyed_target) numbers.4 in
    let messages =
    some_and c.in_ok-messages.field-0 _ (c.in-Some-2.messages, c.in-Some-2.rest) c.in-Some-2.is
    (c.in_ok-messages.ensures.only port.messages rest fits.few_messages fits.messages targets.2) in
    let set = c.set_of.ensures.only port.set fits.set numbers.3 in
    let no_senders = c.target_of.ensures.only port.no_senders_target fits.no_senders_target targets.0 in
    let port_destroyed = c.target_of-2.ensures.only port.port_destroyed_target fits.port_destroyed_target targets.1 in (
      (λ i. record {
        limit = numbers.0 i;
        sequence_number = numbers.1 i;
        make_send_count = numbers.2 i;
        set = set i;
        messages = messages.0 i;
        no_senders_target = no_senders i;
        port_destroyed_target = port_destroyed i;
      }),
      messages.1,
    )
