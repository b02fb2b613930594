use Rattle.spaces.proofs.Holding.{first_mention}
use Rattle.spaces.proofs.spaces.Spaces.next_mention.Goals as goal

pub returns-in-Some-Some : goal.returns-in-Some-Some
returns-in-Some-Some c =
    let both = c.in-Some-Some in
    first_mention c.args.self.now.current c.args.port c.args.from both.holder both.requester c.min.result both.ensures
    both.ensures' c.min.ensures
