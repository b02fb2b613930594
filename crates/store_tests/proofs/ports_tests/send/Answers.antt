use Rattle.std.proofs.Common.{sym, ◌∙◌}
use Rattle.store_tests.proofs.Alone.{alone_lives}
use Rattle.store_tests.proofs.ports_tests.send.Goals as goal

pub push-requires : goal.push-requires
push-requires c =
    alone_lives _ _ _ c.args.port c.args.kind c.in_ok-message.ensures.reply c.in_ok-message.ensures.rights
    (sym c.contains.ensures ∙ c.if-not-contains.false)
