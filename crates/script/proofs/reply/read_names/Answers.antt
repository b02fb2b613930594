use Rattle.std.proofs.Common.{◌≡◌, ◌++◌, ◌∷◌, [], Some, None, Ok, sym, ap, ◌∙◌, rules}
use Rattle.std.proofs.lemmas.Result.{err_from_is_err_and}
use Rattle.script.specs.vocabulary.Spaced.{words_of}
use Rattle.script.specs.Replies.{named_at}
use Rattle.script.proofs.Rows.{names_more, names_end, names_fault, named_less}
use Rattle.script.proofs.reply.read_names.Goals as goal

pub returns-in_err-found : goal.returns-in_err-found
returns-in_err-found c =
    let p = err_from_is_err_and c.from_residual.result c.from_residual.ensures.1 in
    rw (p.1, p.2) (names_fault _ _ _ _ c.in_err-found.ensures c.loop-names.invariant)

pub returns-in_default : goal.returns-in_default
returns-in_default c =
    let here : named_at (words_of c.loop-names.rest.now) ≡ Ok None = rw c.in_default.is at c.in_ok-found.ensures in
    sym c.loop-names.invariant ∙ names_end c.loop-names.names.items (words_of c.loop-names.rest.now) here
    ∙ ap Ok (sym c.new.ensures)

pub loop-names-smaller : goal.loop-names-smaller
loop-names-smaller c =
    let here : named_at (words_of c.loop-names.rest.now) ≡ Ok (Some (c.in-Some.named, words_of c.in-Some.beyond.now)) =
    rw c.in-Some.is at c.in_ok-found.ensures in named_less _ _ _ here

pub loop-names-preserved : goal.loop-names-preserved
loop-names-preserved c =
    let here : named_at (words_of c.loop-names.rest.now) ≡ Ok (Some (c.in-Some.named, words_of c.in-Some.beyond.now)) =
    rw c.in-Some.is at c.in_ok-found.ensures in
    let items : c.push.new.self.items ≡ c.loop-names.names.items ++ c.in-Some.named ∷ [] = search rules in
    rw items (names_more c.loop-names.names.items c.in-Some.named (words_of c.loop-names.rest.now)
    (words_of c.in-Some.beyond.now) here ∙ c.loop-names.invariant)
