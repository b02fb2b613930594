use Rattle.receiving.specs.TakingLaws.{known, oldest_long, oldest_small}
use Rattle.receiving.proofs.receiving.oldest_encoding.Goals as goal

pub received_encoding-requires-clause-small : goal.received_encoding-requires-clause-small
received_encoding-requires-clause-small c =
    oldest_small c.args.state.now.current c.args.source.port c.in-Some-Some.message.now
    (known c.args.state.now.current c.args.source.port c.in-Some-Some.message.now c.in-Some-Some.numbers
    c.in-Some-Some.ensures c.in-Some-Some.ensures') c.requires.lawful

pub received_encoding-requires-clause-long : goal.received_encoding-requires-clause-long
received_encoding-requires-clause-long c =
    oldest_long c.args.state.now.current c.args.source.port c.in-Some-Some.message.now c.args.given.now
    (known c.args.state.now.current c.args.source.port c.in-Some-Some.message.now c.in-Some-Some.numbers
    c.in-Some-Some.ensures c.in-Some-Some.ensures') c.requires.lawful c.requires.given
