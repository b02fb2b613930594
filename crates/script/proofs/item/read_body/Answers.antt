use Rattle.std.proofs.Common.{◌≡◌, ◌++◌, sym, ap, ◌∙◌, arith, rules}
use Rattle.std.specs.Prelude.{codes}
use Rattle.std.proofs.lemmas.Result.{err_from_is_err_and}
use Rattle.script.specs.vocabulary.Spaced.{words_of}
use Rattle.script.specs.Bytes.{optional_bytes_at}
use Rattle.script.specs.Items.{after_bytes, body_at}
use Rattle.script.proofs.ItemLoops.{all_read, item_read, item_fault, no_item_read, none_to_read}
use Rattle.script.proofs.item.read_body.Goals as goal

pub loop-left-init : goal.loop-left-init
loop-left-init c =
    all_read c.new-body.result.items c.count_words-left.result
    (words_of c.args.text.now) c.new-body.ensures.items c.count_words-left.ensures

pub loop-left-preserved : goal.loop-left-preserved
loop-left-preserved c =
    let items : c.extend_from_slice.new.self.items ≡ c.loop-left.body.items ++ c.in_ok-item.item.items = search rules in
    rw items (item_read c.loop-left.body.items c.in_ok-item.item.items c.loop-left.left (words_of c.loop-left.rest.now)
    (words_of c.in-Some.beyond.now) (words_of c.in_ok-item.beyond.now) c.in-Some.ensures c.in_ok-item.ensures
    (omega (arith, c.loop-left-test.true)) ∙ c.loop-left.invariant)

pub returns-in_err-item : goal.returns-in_err-item
returns-in_err-item c =
    let p = err_from_is_err_and c.from_residual.result c.from_residual.ensures.1 in
    rw (p.1, p.2) (item_fault _ c.loop-left.body.items c.loop-left.left (words_of c.loop-left.rest.now)
    (words_of c.in-Some.beyond.now) _ c.in-Some.ensures c.in_err-item.ensures
    (omega (arith, c.loop-left-test.true)) c.loop-left.invariant)

pub returns-in_default : goal.returns-in_default
returns-in_default c =
    let is : after_bytes c.loop-left.body.items (optional_bytes_at (codes "data") (words_of c.loop-left.rest.now))
    ≡ body_at (words_of c.args.text.now) =
    sym (ap (after_bytes c.loop-left.body.items)
    (no_item_read c.loop-left.left (words_of c.loop-left.rest.now) c.in_default.ensures)) ∙ c.loop-left.invariant in
    rw is at c.read_rest.ensures

pub returns : goal.returns
returns c =
    let is : after_bytes c.loop-left.body.items (optional_bytes_at (codes "data") (words_of c.loop-left.rest.now))
    ≡ body_at (words_of c.args.text.now) =
    sym (ap (after_bytes c.loop-left.body.items)
    (none_to_read c.loop-left.left (words_of c.loop-left.rest.now) (omega (arith, c.loop-left-test.false))))
    ∙ c.loop-left.invariant in
    rw is at c.read_rest-2.ensures
