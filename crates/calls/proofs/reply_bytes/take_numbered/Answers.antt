use Rattle.std.proofs.Common.{◌≡◌, ◌++◌, ℕ, List, drop, ap, sym, ◌∙◌}
use Rattle.ipc_laws.specs.EncodingLaws.{word_once}
use Rattle.words.specs.Words.{word}
use Rattle.calls.proofs.reply_bytes.take_numbered.Goals as goal

pub returns-then-code-eq0-clause-only : goal.returns-then-code-eq0-clause-only
returns-then-code-eq0-clause-only c = λ request inner fits is.
    let whole : c.args.content.now ≡ word c.in_ok-number.number ++ (word c.in_ok-code.code ++ c.in_ok-code.rest.now) =
    c.in_ok-number.ensures.found ∙ ap (λ (l : List ℕ). word c.in_ok-number.number ++ l) c.in_ok-code.ensures.found in
    let behind : c.in_ok-code.rest.now ≡ word request ++ inner =
    ap (λ (l : List ℕ). drop 8 l) (sym whole ∙ is) in
    word_once c.in_ok-request.request request c.in_ok-request.inner.now inner c.in_ok-request.ensures.fits fits
    (sym c.in_ok-request.ensures.found ∙ behind)
