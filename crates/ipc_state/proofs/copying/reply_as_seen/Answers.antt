use Rattle.std.proofs.Common.{Some, option_map, ap, sym, ◌∙◌}
use Rattle.ports.specs.Passed.{lives_in, seen_right}
use Rattle.ipc_state.proofs.copying.reply_as_seen.Goals as goal

pub returns-in-Some : goal.returns-in-Some
returns-in-Some c =
    ap Some c.seen.ensures ∙ ap (option_map (seen_right (lives_in c.args.ports.now.current.ports))) (sym c.in-Some.is)
