use Rattle.std.proofs.Common.{rules, ◌≡◌, ◌≤◌, ◌<◌, length, get_or}
use Rattle.std.specs.String.{string_bytes}
use Rattle.server.proofs.Ended.{ends_named}
use Rattle.server.proofs.Words.{one_word}
use Rattle.server.proofs.program.run_alone.Goals as goal

pub returns-in-Ok : goal.returns-in-Ok
returns-in-Ok g c =
    let given = c.in-Some-len1 in
    let least : 1 ≤ length given.field-0.now = search rules in
    let below : length given.field-0.now < 2 = search rules in
    let first : c.store-item.result ≡ get_or given.field-0.now 0 c.store-item.result = search rules in
    let named =
    one_word string_bytes c.args.words given.field-0 c.store-item.result c.as_str-in-Ok.result.now given.is least below first
    c.as_str-in-Ok.ensures.value in
    record { ended = ends_named _ _ _ _ _ _ _ _ _ c.serve_locked-end.result named c.serve_locked-end.ensures.ended }
