use Rattle.std.proofs.Common.{◌≡◌, ◌-◌, take, drop, length, arith}
use Rattle.std.proofs.lemmas.Grind.{common_steps}
use Rattle.script.proofs.vocabulary.WordsOf.{pushed_two}
use Rattle.script.proofs.printing.message.push_whole.Goals as goal

pub returns : goal.returns
returns c =
    let all : take (length c.args.message.now - 24) (drop 24 c.args.message.now) ≡ drop 24 c.args.message.now =
    grind (arith, common_steps) in
    pushed_two c.push_body.result _ _ _ _ _ (rw c.header_of-header.ensures at c.in_ok-push_header.ensures)
    (rw all at c.push_body.ensures)
