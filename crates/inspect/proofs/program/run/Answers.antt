use Rattle.std.proofs.Common.{rules, ◌≡◌, ◌≤◌, ◌<◌, length, get_or}
use Rattle.std.specs.String.{string_bytes}
use Rattle.inspect.proofs.Exits.{prints_fault}
use Rattle.inspect.proofs.Words.{one_word}
use Rattle.inspect.proofs.program.run.Goals as goal

pub returns-in-Ok : goal.returns-in-Ok
returns-in-Ok g c =
    let given = c.in-Some-len1 in
    let least : 1 ≤ length given.field-0.now = search rules in
    let below : length given.field-0.now < 2 = search rules in
    let first : c.store-item.result ≡ get_or given.field-0.now 0 c.store-item.result = search rules in
    let named =
    one_word string_bytes c.args.words given.field-0 c.store-item.result c.as_str.result.now given.is least below
    first c.as_str.ensures.value in
    record { ended = (c.as_str.result.now, named, c.in-Ok.ensures.prints.ok) }

pub returns-in-Err : goal.returns-in-Err
returns-in-Err g c =
    let given = c.in-Some-len1 in
    let least : 1 ≤ length given.field-0.now = search rules in
    let below : length given.field-0.now < 2 = search rules in
    let first : c.store-item.result ≡ get_or given.field-0.now 0 c.store-item.result = search rules in
    let named =
    one_word string_bytes c.args.words given.field-0 c.store-item.result c.as_str.result.now given.is least below
    first c.as_str.ensures.value in
    record { ended = prints_fault _ _ _ _ c.as_str.result.now c.in-Err.fault named c.in-Err.ensures.prints }
