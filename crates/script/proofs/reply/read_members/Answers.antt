use Rattle.std.proofs.Common.{◌≡◌, ◌++◌, ◌∷◌, [], Some, None, Ok, sym, ap, ◌∙◌, rules}
use Rattle.std.proofs.lemmas.Result.{err_from_is_err_and}
use Rattle.script.specs.vocabulary.Spaced.{words_of}
use Rattle.script.specs.Replies.{member_at}
use Rattle.script.proofs.Rows.{members_more, members_end, members_fault, member_less}
use Rattle.script.proofs.reply.read_members.Goals as goal

pub returns-in_err-found : goal.returns-in_err-found
returns-in_err-found c =
    let p = err_from_is_err_and c.from_residual.result c.from_residual.ensures.1 in
    rw (p.1, p.2) (members_fault _ _ _ _ c.in_err-found.ensures c.loop-members.invariant)

pub returns-in_default : goal.returns-in_default
returns-in_default c =
    let here : member_at (words_of c.loop-members.rest.now) ≡ Ok None = rw c.in_default.is at c.in_ok-found.ensures in
    sym c.loop-members.invariant ∙ members_end c.loop-members.members.items (words_of c.loop-members.rest.now) here
    ∙ ap Ok (sym c.new.ensures)

pub loop-members-smaller : goal.loop-members-smaller
loop-members-smaller c =
    let here : member_at (words_of c.loop-members.rest.now)
    ≡ Ok (Some (c.in-Some.member, words_of c.in-Some.beyond.now)) = rw c.in-Some.is at c.in_ok-found.ensures in
    member_less _ _ _ here

pub loop-members-preserved : goal.loop-members-preserved
loop-members-preserved c =
    let here : member_at (words_of c.loop-members.rest.now)
    ≡ Ok (Some (c.in-Some.member, words_of c.in-Some.beyond.now)) = rw c.in-Some.is at c.in_ok-found.ensures in
    let items : c.push.new.self.items ≡ c.loop-members.members.items ++ c.in-Some.member ∷ [] = search rules in
    rw items (members_more c.loop-members.members.items c.in-Some.member (words_of c.loop-members.rest.now)
    (words_of c.in-Some.beyond.now) here ∙ c.loop-members.invariant)
