use Rattle.std.proofs.Common.{rules, ◌≡◌, ◌≤◌, ◌<◌, length, get_or}
use Rattle.std.specs.String.{string_bytes}
use Rattle.inspect.proofs.Words.{two_words}
use Rattle.inspect.proofs.copy_program.run_copy.Goals as goal

pub returns-in-Ok : goal.returns-in-Ok
returns-in-Ok g c =
    let given = c.in-Some-len2 in
    let least : 2 ≤ length given.field-0.now = search rules in
    let below : length given.field-0.now < 3 = search rules in
    let first : c.store-item.result ≡ get_or given.field-0.now 0 c.store-item.result = search rules in
    let second : c.copy-item.result ≡ get_or given.field-0.now 1 c.copy-item.result = search rules in
    let named =
    two_words string_bytes c.args.words given.field-0 c.store-item.result c.copy-item.result c.as_str.result.now
    c.as_str-2.result.now given.is least below first second c.as_str.ensures.value
    c.as_str-2.ensures.value in
    let made = c.in-Ok.ensures in
    (c.as_str.result.now, c.as_str-2.result.now, made.0, named, made.1, made.2)

pub returns-in-Err : goal.returns-in-Err
returns-in-Err g c =
    let given = c.in-Some-len2 in
    let least : 2 ≤ length given.field-0.now = search rules in
    let below : length given.field-0.now < 3 = search rules in
    let first : c.store-item.result ≡ get_or given.field-0.now 0 c.store-item.result = search rules in
    let second : c.copy-item.result ≡ get_or given.field-0.now 1 c.copy-item.result = search rules in
    let named =
    two_words string_bytes c.args.words given.field-0 c.store-item.result c.copy-item.result c.as_str.result.now
    c.as_str-2.result.now given.is least below first second c.as_str.ensures.value
    c.as_str-2.ensures.value in
    (c.as_str.result.now, c.as_str-2.result.now, named)
